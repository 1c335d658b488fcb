-- A rule, tried at one number after the other.
use Rattle.std.specs.Prelude.{◌≡◌, ℕ, ◌+◌, ◌^◌, ◌<◌, ◌≤◌, Bool, true, false, List, [], length, get_or, IsTrue, ◌↔◌, Option, Some, None, MatchOption, Err}
use Rattle.std.proofs.Common.{refl, sym, arith, ◌∙◌, subst, inl, inr}
use Rattle.std.proofs.lemmas.Bool.{cases_lt}
use Rattle.std.proofs.lemmas.List.{get_or_default, get_or_past}
use Rattle.fs_layout.specs.declared.inode.Kind.TheVariants as kinds
use Rattle.fs_layout.specs.declared.inode.Inode.{Inode}
use Rattle.fs_layout.specs.declared.geometry.Geometry.{Geometry}
use Rattle.fs_layout.specs.Bytes.{SectorMap}
use Rattle.fs_layout.specs.Inode.{free_inode}
use Rattle.fs_layout.specs.Images.{inode_at}
use Rattle.fs_layout.proofs.Places.{numbers_most, is_a_geometry}
use Rattle.fs_model.specs.Rules.{IsGeometryOf, ImageRule, Obeys, rule_number}
use Rattle.sector_disk.specs.Disk.{DiskState, OnlyReads}
use Rattle.sector_disk.proofs.Moments.{reads_joined}
use Rattle.fs_check.specs.declared.faults.CheckFault.TheVariants.{Found}
use Rattle.fs_check.specs.Checks.{meaning, AreInodes, Passed, IsLeast}
use Rattle.fs_check.proofs.Carrying.{meaning_same}
use Rattle.fs_check.proofs.Tables.{more_good}

-- an inode of the list is one of the table
pub within : (p : Geometry) (m : SectorMap) (inodes : List Inode) (n : ℕ) → AreInodes p m inodes → n < length inodes → n < p.inodes
within p m inodes n table lt = let len = table.len in omega (arith, lt, len)

pub inode_here : (p : Geometry) (m : SectorMap) (inodes : List Inode) (n : ℕ) (d : Inode) → AreInodes p m inodes → n < length inodes
    → get_or inodes n d ≡ inode_at p m n
inode_here p m inodes n d table lt = get_or_default inodes n d free_inode lt ∙ table.each n (within p m inodes n table lt)

-- all inodes have numbers
pub few_inodes : (size : ℕ) (image : SectorMap) (p : Geometry) (m : SectorMap) (inodes : List Inode) → IsGeometryOf size image p → AreInodes p m inodes
    → length inodes < 2 ^ 32
few_inodes size image p m inodes at table =
    let most = (numbers_most (is_a_geometry _ _ size at.super.inodes at.has_geometry)).1 in
    let len = table.len in
    omega (arith, most, len)

-- one behind the list is free
pub free_behind : (p : Geometry) (m : SectorMap) (inodes : List Inode) (n : ℕ) → AreInodes p m inodes → length inodes ≤ n → n < p.inodes → inode_at p m n ≡ free_inode
free_behind p m inodes n table past lt = sym (table.each n lt) ∙ get_or_past inodes n free_inode past

-- what is known of it later, of the image as it was
pub known_of : (P : SectorMap → Inode → Type 0) (old mid : DiskState) (p : Geometry) (inodes : List Inode) (n : ℕ) (d : Inode) → OnlyReads old mid
    → AreInodes p (meaning old) inodes → n < length inodes → P (meaning mid) (get_or inodes n d) → P (meaning old) (inode_at p (meaning old) n)
known_of P old mid p inodes n d reads table lt known =
    subst (λ v. P (meaning old) v) (inode_here p (meaning old) inodes n d table lt) (subst (λ m. P m (get_or inodes n d)) (meaning_same reads) known)

pub refuses : (P : Type 0) (b : Bool) → b ≡ false → (IsTrue b ↔ P) → P → ⊥
refuses P b e test x = let c : false ≡ true = sym e ∙ test.1 x in absurd cc

-- Each inode below n is as a rule asks, and the disk was only read meanwhile.
pub record AreTried (P : SectorMap → Inode → Type 0) (p : Geometry) (old now : DiskState) (n : ℕ) : Type 0 where
  pub reads : OnlyReads old now
  pub good : (k : ℕ) → k < n → P (meaning old) (inode_at p (meaning old) k)

-- a test of inode n, where those before it have passed
module _ (P : SectorMap → Inode → Type 0) (p : Geometry) (old mid new : DiskState) (inodes : List Inode) (n : ℕ) (d : Inode) (b : Bool)
    (tried : AreTried P p old mid n) (reads : OnlyReads mid new) (table : AreInodes p (meaning old) inodes) (lt : n < length inodes)
    (test : IsTrue b ↔ P (meaning mid) (get_or inodes n d)) where
  here : IsTrue b ↔ P (meaning old) (inode_at p (meaning old) n)
  here = known_of (λ m v. IsTrue b ↔ P m v) old mid p inodes n d tried.reads table lt test

  pub next_tried : b ≡ true → AreTried P p old new (n + 1)
  next_tried e = record {
    reads = reads_joined tried.reads reads;
    good = more_good (λ k. P (meaning old) (inode_at p (meaning old) k)) n tried.good (here.0 e);
  }

  -- the inode is the first that fails the rule
  pub fails_here : (r : ImageRule) → ((k : ℕ) → Obeys p (meaning old) r k ↔ (k < p.inodes → P (meaning old) (inode_at p (meaning old) k))) → b ≡ false
      → Passed {T = Unit {0}} (IsLeast p r) old new (Err (Found (record { rule = rule_number r; at = n })))
  fails_here r is e = record {
    reads = reads_joined tried.reads reads;
    reason = (
      refl,
      record {
        fails = λ h. refuses (P (meaning old) (inode_at p (meaning old) n)) b e here ((is n).0 h (within p (meaning old) inodes n table lt));
        least = λ k low. (is k).1 (λ below. tried.good k low);
      },
    );
  }

-- each is as the rule asks, where those of the list are, and a free one is
pub all_tried : (P : SectorMap → Inode → Type 0) (p : Geometry) (old now : DiskState) (inodes : List Inode) (n : ℕ) → AreTried P p old now n
    → AreInodes p (meaning old) inodes → length inodes ≤ n → P (meaning old) free_inode → (k : ℕ) → k < p.inodes → P (meaning old) (inode_at p (meaning old) k)
all_tried P p old now inodes n tried table past free k lt = elim (cases_lt k n) [
  | inl low ↦ tried.good k low
  | inr ge ↦ subst (P (meaning old)) (sym (free_behind p (meaning old) inodes k table (omega (arith, ge, past)) lt)) free
]

-- where nothing is found
pub not_found : {A : Type 0} (o : Option A) (P : Type 0) (Q : A → Type 0) → ((x : A) → o ≡ Some x → ⊥) → MatchOption o P Q → P
not_found (Some x) P Q none found = absurd (none x refl)
not_found None P Q none found = found

-- what a read past the end of a list of inodes would give
abbrev pub blank : Inode
blank = record { kind = kinds.Free; mode = 0; uid = 0; gid = 0; names = 0; size = 0; parent = 0; acl = 0; default_acl = 0; direct = []; indirect = []; mtime = 0; ctime = 0; atime = 0 }
