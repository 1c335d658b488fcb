-- Inodes read from the table.
use Rattle.std.specs.Prelude.{◌≡◌, ℕ, zero, suc, ◌+◌, ◌-◌, ◌*◌, ◌/◌, ◌%◌, ◌^◌, ◌<◌, ◌≤◌, List, length, get_or, ◌++◌, []}
use Rattle.std.specs.Prelude.{◌∷◌, Option, Some, None, Ok, IfSome, IfNone, MatchOption}
use Rattle.std.proofs.Common.{refl, sym, ap, arith, ◌∙◌, subst, inl, inr}
use Rattle.std.proofs.lemmas.Bool.{cases_lt}
use Rattle.std.proofs.lemmas.List.{get_or_past, get_or_append_left, get_or-append_right}
use Rattle.fs_layout.specs.declared.inode.TheConstants.{INODE_SIZE}
use Rattle.fs_layout.specs.declared.inode.Inode.{Inode}
use Rattle.fs_layout.specs.declared.inode.Kind.TheVariants.{Free, Directory}
use Rattle.fs_layout.specs.declared.geometry.Geometry.{Geometry}
use Rattle.fs_layout.specs.declared.version.Version.TheVariants.{Three}
use Rattle.fs_layout.specs.Bytes.{SectorMap, window}
use Rattle.fs_layout.specs.Inode.{inode_of}
use Rattle.fs_layout.specs.Images.{stored, inode_at, inode_or_free}
use Rattle.fs_layout.specs.Version.{max_inodes}
use Rattle.fs_layout.proofs.Places.{numbers_most, is_a_geometry}
use Rattle.fs_model.specs.Rules.{IsGeometryOf, IsAllowed, IsGoodInode}
use Rattle.fs_check.proofs.Openings.{geometry_size}

-- where inode n stands
pub record HasSector (size : ℕ) (p : Geometry) (n : ℕ) : Type 0 where
  pub on_disk : p.table + n / 4 < size
  pub room : 128 ≤ size
  pub small : size < 2 ^ 32
  pub few : n < max_inodes Three

pub table_geometry : (size : ℕ) (image : SectorMap) (p : Geometry) (n : ℕ) → IsGeometryOf size image p → n < p.inodes → HasSector size p n
table_geometry size image p n x lt =
    let geometry = is_a_geometry _ _ size x.super.inodes x.has_geometry in
    let same = geometry_size size image p x in
    let slots = geometry.slots in
    let room = geometry.data_sectors in
    let least = geometry.least_sectors in
    let most = numbers_most geometry in
    record { on_disk = omega (arith, same, slots, room, lt); room = omega (arith, same, least); small = omega (arith, same, most.0); few = omega (arith, lt, most.1) }

at_is : (p : Geometry) (m : SectorMap) (n : ℕ) (v : Inode) → inode_of (stored p m n) ≡ Ok v → inode_at p m n ≡ v
unfolding inode_at
at_is p m n v e = ap inode_or_free e

there : (p : Geometry) (m : SectorMap) (n : ℕ) (content : List ℕ) → content ≡ m (p.table + n / 4) → window content (INODE_SIZE * (n % 4)) INODE_SIZE ≡ stored p m n
unfolding stored
there p m n content e = ap (λ (s : List ℕ). window s (INODE_SIZE * (n % 4)) INODE_SIZE) e

pub good_is : (p : Geometry) (m : SectorMap) (n : ℕ) (content : List ℕ) (o : Option Inode) → content ≡ m (p.table + n / 4)
    → IfSome o (λ v. inode_of (window content (INODE_SIZE * (n % 4)) INODE_SIZE) ≡ Ok v) → IfSome o (λ v. IsAllowed p.version v) → IfSome o (λ v. n ≡ 0 → v.kind ≡ Free) → IfSome o (λ v. n ≡ 1 → v.kind ≡ Directory)
    → IfNone o ((v : Inode) → inode_of (window content (INODE_SIZE * (n % 4)) INODE_SIZE) ≡ Ok v → IsAllowed p.version v → (n ≡ 0 → v.kind ≡ Free) → (n ≡ 1 → v.kind ≡ Directory) → ⊥)
    → MatchOption o (IsGoodInode p m n → ⊥) (λ v. IsGoodInode p m n × (v ≡ inode_at p m n))
good_is p m n content (Some v) e is allowed free top none =
    let read : inode_of (stored p m n) ≡ Ok v = ap inode_of (sym (there p m n content e)) ∙ is in
    let same : inode_at p m n ≡ v = at_is p m n v read in (
      record {
        is = read ∙ ap (λ u. Ok u) (sym same);
        allowed = subst (IsAllowed p.version) (sym same) allowed;
        none = λ z. ap (λ (u : Inode). u.kind) same ∙ free z;
        top = λ z. ap (λ (u : Inode). u.kind) same ∙ top z;
      },
      sym same,
    )
good_is p m n content None e is allowed free top none = λ good. none (inode_at p m n) (ap inode_of (there p m n content e) ∙ good.is) good.allowed good.none good.top

-- the value that is read past the end, put at the end
pub default_more : {A : Type 0} (xs ys : List A) (d : A) → ys ≡ xs ++ d ∷ [] → (i : ℕ) → get_or ys i d ≡ get_or xs i d
default_more xs ys d is i = ap (λ l. get_or l i d) is ∙ elim (cases_lt i (length xs)) [
  | inl low ↦ get_or_append_left xs (d ∷ []) d i low
  | inr ge ↦
      get_or-append_right xs (d ∷ []) (length xs) i d refl ge ∙ of_one (i - length xs) ∙ sym (get_or_past xs i d ge)
]
  where
    of_one : (k : ℕ) → get_or (d ∷ []) k d ≡ d
    of_one zero = refl
    of_one (suc k) = refl

-- one more in a vector
pub more_there : {A : Type 0} (xs ys : List A) (x d : A) (what : ℕ → A) (n : ℕ) → ys ≡ xs ++ x ∷ [] → length xs ≡ n
    → ((k : ℕ) → k < n → get_or xs k d ≡ what k) → x ≡ what n → (k : ℕ) → k < n + 1 → get_or ys k d ≡ what k
more_there xs ys x d what n is len each here k lt = elim (cases_lt k n) [
  | inl low ↦ ap (λ l. get_or l k d) is ∙ get_or_append_left xs (x ∷ []) d k (omega (arith, low, len)) ∙ each k low
  | inr ge ↦
      let same : k ≡ n = omega (arith, ge, lt) in
      let zero_behind : k - n ≡ 0 = omega (arith, same) in
      ap (λ l. get_or l k d) is ∙ get_or-append_right xs (x ∷ []) n k d len (omega (arith, ge))
      ∙ ap (λ i. get_or (x ∷ []) i d) zero_behind ∙ here ∙ ap what (sym same)
]

pub more_good : (P : ℕ → Type 0) (n : ℕ) → ((k : ℕ) → k < n → P k) → P n → (k : ℕ) → k < n + 1 → P k
more_good P n each here k lt = elim (cases_lt k n) [
  | inl low ↦ each k low
  | inr ge ↦ subst P (let same : n ≡ k = omega (arith, ge, lt) in same) here
]
