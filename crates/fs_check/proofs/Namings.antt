-- A directory has one naming, so its parent field is right where it is the directory that was found to name it.
use Rattle.std.specs.Prelude.{◌≡◌, ◌≢◌, ℕ, zero, suc, ◌+◌, ◌<◌, ◌≤◌, List, get_or, sum_by, if◌then◌else◌, ◌⊎◌}
use Rattle.std.specs.List.{range_with_len}
use Rattle.std.proofs.Common.{refl, sym, ap, arith, ◌∙◌, subst, inl, inr}
use Rattle.std.proofs.lemmas.Bool.{cases_eq, cases_lt, ne_eqb}
use Rattle.std.proofs.lemmas.List.Sums.{sum_by-cons}
use Rattle.fs_layout.specs.declared.inode.Kind.{Kind}
use Rattle.fs_layout.specs.declared.inode.Kind.TheVariants as kinds
use Rattle.fs_layout.specs.declared.inode.Inode.{Inode}
use Rattle.fs_layout.specs.declared.geometry.Geometry.{Geometry}
use Rattle.fs_layout.specs.Bytes.{SectorMap}
use Rattle.fs_layout.specs.Inode.{free_inode}
use Rattle.fs_layout.specs.Images.{inode_at}
use Rattle.fs_model.specs.Limits.{root}
use Rattle.fs_model.specs.Rules.{is_directory_kind, namings_in, namings, HasNameCount, HasParent, Inodes, Names, ObeysBefore}
use Rattle.fs_check.specs.Checks.{IsNameTable}
use Rattle.fs_check.specs.Ways.{the_parent}

-- ---- parts of a sum

one_of_sum : (f : ℕ → ℕ) (a n j : ℕ) → a ≤ j → j < a + n → f j ≤ sum_by f (range_with_len a n)
one_of_sum f a zero j from to = absurd (omega (arith, from, to))
one_of_sum f a (suc n) j from to =
    let whole = sum_by-cons f a (range_with_len (a + 1) n) in
    elim (cases_eq j a) [
      | inl e ↦ let here = ap f e in omega (arith, whole, here)
      | inr ne ↦ let rest = one_of_sum f (a + 1) n j (omega (arith, from, ne)) (omega (arith, to)) in omega (arith, whole, rest)
    ]

two_of_sum : (f : ℕ → ℕ) (a n i j : ℕ) → a ≤ i → i < j → j < a + n → f i + f j ≤ sum_by f (range_with_len a n)
two_of_sum f a zero i j from lt to = absurd (omega (arith, from, lt, to))
two_of_sum f a (suc n) i j from lt to =
    let whole = sum_by-cons f a (range_with_len (a + 1) n) in
    elim (cases_eq i a) [
      | inl e ↦
          let here = ap f e in
          let rest = one_of_sum f (a + 1) n j (omega (arith, lt, e)) (omega (arith, to)) in
          omega (arith, whole, here, rest)
      | inr ne ↦ let rest = two_of_sum f (a + 1) n i j (omega (arith, from, ne)) lt (omega (arith, to)) in omega (arith, whole, rest)
    ]

-- two directories that name an inode make two namings
two_namings : (p : Geometry) (m : SectorMap) (n d e : ℕ) → d < p.inodes → e < p.inodes → d ≢ e → 1 ≤ namings_in p.version m (inode_at p m d) n
    → 1 ≤ namings_in p.version m (inode_at p m e) n → 2 ≤ namings p m n
two_namings p m n d e dl el apart x y = elim (cases_lt d e) [
  | inl lt ↦
      let both = two_of_sum (λ k. namings_in p.version m (inode_at p m k) n) 0 p.inodes d e (omega arith) lt (omega (arith, el)) in
      omega (arith, both, x, y)
  | inr ge ↦
      let both = two_of_sum (λ k. namings_in p.version m (inode_at p m k) n) 0 p.inodes e d (omega arith) (omega (arith, ge, apart)) (omega (arith, dl)) in
      omega (arith, both, x, y)
]

-- ---- the parent field

parent_of_root : (n d : ℕ) (kind : Kind) → n ≡ root → the_parent n kind d ≡ root
parent_of_root n d kind e = ap (λ k. the_parent k kind d) e

other_parent : (n d : ℕ) (kind : Kind) → n ≢ root → the_parent n kind d ≡ (if is_directory_kind kind then d else 0)
other_parent n d kind ne = ap (λ b. if b then root else (if is_directory_kind kind then d else 0)) (ne_eqb n root ne)

parent_of_directory : (n d : ℕ) (kind : Kind) → n ≢ root → kind ≡ kinds.Directory → the_parent n kind d ≡ d
parent_of_directory n d kind ne e = other_parent n d kind ne ∙ ap (λ k. if is_directory_kind k then d else 0) e

no_parent : (n d : ℕ) (kind : Kind) → n ≢ root → kind ≢ kinds.Directory → the_parent n kind d ≡ 0
no_parent n d kinds.Free ne other = other_parent n d kinds.Free ne
no_parent n d kinds.File ne other = other_parent n d kinds.File ne
no_parent n d kinds.Directory ne other = absurd (other refl)
no_parent n d kinds.Link ne other = other_parent n d kinds.Link ne

pub directory_or : (k : Kind) → (k ≡ kinds.Directory) ⊎ (k ≢ kinds.Directory)
directory_or kinds.Free = inr (λ e. cc)
directory_or kinds.File = inr (λ e. cc)
directory_or kinds.Directory = inl refl
directory_or kinds.Link = inr (λ e. cc)

-- a free inode has the parent field that it has to have
pub free_parent : (p : Geometry) (m : SectorMap) (n : ℕ) → (n ≡ root → (inode_at p m n).kind ≡ kinds.Directory) → inode_at p m n ≡ free_inode → HasParent p m n
free_parent p m n top free =
    let kind = ap (λ (v : Inode). v.kind) free in
    record {
      named = λ is other. absurd (let c : kinds.Free ≡ kinds.Directory = sym kind ∙ is in cc);
      top = λ e. absurd (let c : kinds.Free ≡ kinds.Directory = sym kind ∙ top e in cc);
      none = λ other. ap (λ (v : Inode). v.parent) free;
    }

-- the parent field of inode n is the one that it has to have
abbrev pub IsPlaced : List ℕ → ℕ → Inode → Type 0
IsPlaced directories n v = v.parent ≡ the_parent n v.kind (get_or directories n 0)

module _ (p : Geometry) (m : SectorMap) (counts directories : List ℕ) (table : IsNameTable p m counts directories) (before : ObeysBefore p m 13)
    (n : ℕ) (lt : n < p.inodes) where
  one_naming : (inode_at p m n).kind ≡ kinds.Directory → n ≢ root → namings p m n ≡ 1
  one_naming is other =
      (subst (λ k. HasNameCount p.version k n (inode_at p m n).names (namings p m n)) is (before Names (omega arith) n lt)).1
      ∙ ap (λ b. if b then 0 else 1) (ne_eqb n root other)

  root_is_directory : n ≡ root → (inode_at p m n).kind ≡ kinds.Directory
  root_is_directory = (before Inodes (omega arith) n lt).top

  pub parent_good : IsPlaced directories n (inode_at p m n) → HasParent p m n
  parent_good is = record {
    named = λ kind other.
        let one = one_naming kind other in
        let at = table.named_by n lt (omega (arith, one)) in
        let same = is ∙ parent_of_directory n (get_or directories n 0) (inode_at p m n).kind other kind in
        subst (λ d. (d < p.inodes) × (1 ≤ namings_in p.version m (inode_at p m d) n)) (sym same) at;
    top = λ e. is ∙ parent_of_root n (get_or directories n 0) (inode_at p m n).kind e;
    none = λ other. is ∙ no_parent n (get_or directories n 0) (inode_at p m n).kind (λ e. other (root_is_directory e)) other;
  }

  directory_parent : HasParent p m n → (inode_at p m n).kind ≡ kinds.Directory → n ≢ root → (inode_at p m n).parent ≡ get_or directories n 0
  directory_parent has kind other =
      let one = one_naming kind other in
      let at = table.named_by n lt (omega (arith, one)) in
      let parent = has.named kind other in
      elim (cases_eq (inode_at p m n).parent (get_or directories n 0)) [
        | inl e ↦ e
        | inr ne ↦ absurd (let two = two_namings p m n _ _ parent.0 at.0 ne parent.1 at.1 in omega (arith, one, two))
      ]

  pub parent_must : HasParent p m n → IsPlaced directories n (inode_at p m n)
  parent_must has = elim (cases_eq n root) [
    | inl e ↦ has.top e ∙ sym (parent_of_root n (get_or directories n 0) (inode_at p m n).kind e)
    | inr other ↦ elim (directory_or (inode_at p m n).kind) [
      | inl kind ↦ directory_parent has kind other ∙ sym (parent_of_directory n (get_or directories n 0) (inode_at p m n).kind other kind)
      | inr none ↦ has.none none ∙ sym (no_parent n (get_or directories n 0) (inode_at p m n).kind other none)
    ]
  ]
