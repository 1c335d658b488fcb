-- The way up from a directory to the root.
--     root_alone, past, way_ends        where it ends, and where it goes on
--     enough        farther than to the root it needn't be looked
--     below_root        each directory lies below the root
--     one_up        past what isn't n, it is that of the parent
--     height, lower        how far up the root is, by the parent fields of a disk, and that a step up makes it less
--     field_up, field_one_up        the parent field leads where the tree does
use Rattle.std.specs.Prelude.{◌≡◌, ◌≢◌, ℕ, zero, suc, ◌+◌, ◌<◌, ◌≤◌, ◌==◌, ◌⊎◌, Bool, true, false, not, ◌&&◌, ◌||◌, if◌then◌else◌, cond, length}
use Rattle.std.proofs.Common.{refl, sym, ap, subst, arith, ◌∙◌, inl, inr}
use Rattle.std.specs.List.{range_with_len}
use Rattle.std.proofs.lemmas.Bool.{cases_eq}
use Rattle.std.proofs.lemmas.Bool.Decides.{nat_tests}
use Rattle.std.proofs.lemmas.List.FromFn.{length-range_with_len}
use Rattle.std.proofs.lemmas.List.Sums.{count_by-le-length}
use Rattle.fs_layout.specs.declared.geometry.Geometry.{Geometry}
use Rattle.fs_layout.specs.Bytes.{SectorMap}
use Rattle.fs_layout.specs.Images.{inode_at}
use Rattle.fs_model.specs.Limits.{root}
use Rattle.fs_model.specs.Stands.{room_of}
use Rattle.fs_model.specs.Summaries.{is_used}
use Rattle.fs_model.specs.Trees.{Tree, Room, parent, is_within, IsUnderRoot, is_root, is_in, IsDirectoryAt, IsTree}
use Rattle.fs_model.proofs.StepsParents.{parent_at, under_root}
use Rattle.fs_model.proofs.StepsUp.{IsOutside, outside_differs, outside_above, is_outside}
use Rattle.fs_model.proofs.Summaries.{nodes_counted}
use Rattle.path_walk.specs.HeldTrees.{HoldsTree}
use Rattle.path_walk.proofs.HeldNodes.{held_parent}

or_none : (b : Bool) → (b || false) ≡ b
or_none true = refl
or_none false = refl

-- ---- in a tree

module _ (t : Tree) (n : ℕ) where
  -- at the root it ends
  root_alone : (far x : ℕ) → x ≡ root → is_within far t n x ≡ (x == n)
  root_alone zero x e = refl
  root_alone (suc far) x e =
      let here : (x == root) ≡ true = grind (arith, nat_tests) in
      ap (λ b. x == n || (not b && is_within far t n (parent t x))) here ∙ or_none (x == n)

  -- and else it goes on, unless it is at n
  past : (far x : ℕ) → x ≢ n → x ≢ root → is_within (suc far) t n x ≡ is_within far t n (parent t x)
  past far x other ne =
      let no : (x == n) ≡ false = grind (arith, nat_tests) in
      let on : (x == root) ≡ false = grind (arith, nat_tests) in
      ap (λ b. b || (not (x == root) && is_within far t n (parent t x))) no ∙ ap (λ b. not b && is_within far t n (parent t x)) on

  n_within : (far x : ℕ) → x ≡ n → is_within far t n x ≡ (x == n)
  n_within zero x e = refl
  n_within (suc far) x e =
      let here : (x == n) ≡ true = grind (arith, nat_tests) in
      ap (λ b. b || (not (x == root) && is_within far t n (parent t x))) here ∙ sym here

  pub way_ends : (far x : ℕ) → (x ≡ n) ⊎ (x ≡ root) → is_within far t n x ≡ (x == n)
  way_ends far x end = elim end [ inl e ↦ n_within far x e | inr e ↦ root_alone far x e ]

same_number : (x y : ℕ) → (x == y) ≡ true → x ≡ y
same_number x y e = grind (arith, nat_tests)

-- what lies below the root does so from the parent on
from_parent : (t : Tree) (far x : ℕ) → x ≢ root → is_within (suc far) t root x ≡ true → is_within far t root (parent t x) ≡ true
from_parent t far x ne e = sym (past t root far x ne ne) ∙ e

-- farther than to the root it needn't be looked
enough : (t : Tree) (n far a b x : ℕ) → is_within far t root x ≡ true → far ≤ a → far ≤ b → is_within a t n x ≡ is_within b t n x
enough t n zero a b x e some more = let r = same_number x root e in root_alone t n a x r ∙ sym (root_alone t n b x r)
enough t n (suc far) zero b x e some more = absurd (omega (arith, some))
enough t n (suc far) (suc a) zero x e some more = absurd (omega (arith, more))
enough t n (suc far) (suc a) (suc b) x e some more = elim (cases_eq x root) [
  | inl r ↦ root_alone t n (suc a) x r ∙ sym (root_alone t n (suc b) x r)
  | inr ne ↦
      ap (λ on. x == n || (not (x == root) && on))
      (enough t n far a b (parent t x) (from_parent t far x ne e) (omega (arith, some)) (omega (arith, more)))
]

-- the way leads to the root, so nothing is outside of that
none_outside : (t : Tree) {x : ℕ} → IsUnderRoot t x → IsOutside t root x → ⊥
none_outside t is_root o = outside_differs t root root o refl
none_outside t (is_in d below) o = none_outside t below (outside_above t root d (outside_differs t root d o) o)

module _ (room : Room) (t : Tree) (is : IsTree room t) (x : ℕ) (d : IsDirectoryAt t x) where
  pub below_root : is_within (length t) t root x ≡ true
  below_root = go (is_within (length t) t root x) refl
    where
      go : (b : Bool) → is_within (length t) t root x ≡ b → b ≡ true
      go true e = refl
      go false e = absurd (none_outside t (under_root room t is x d) (is_outside room t root x is d e))

  pub one_up : (n : ℕ) → x ≢ n → x ≢ root → is_within (length t) t n x ≡ is_within (length t) t n (parent t x)
  one_up n other ne = go (length t) below_root
    where
      go : (far : ℕ) → is_within far t root x ≡ true → is_within far t n x ≡ is_within far t n (parent t x)
      go zero e = absurd (ne (same_number x root e))
      go (suc far) e =
          past t n far x other ne ∙ enough t n far far (suc far) (parent t x) (from_parent t far x ne e) (omega arith) (omega arith)

-- ---- on a disk

module _ (p : Geometry) (map : SectorMap) where
  -- how far up the root is, where no more than `far` steps are taken
  abbrev pub height : ℕ → ℕ → ℕ
  height zero x = 0
  height (suc far) x = if x == root then 0 else 1 + height far (inode_at p map x).parent

  height_root : (far x : ℕ) → x ≡ root → height far x ≡ 0
  height_root zero x e = refl
  height_root (suc far) x e =
      let here : (x == root) ≡ true = grind (arith, nat_tests) in
      ap (λ b. cond b 0 (1 + height far (inode_at p map x).parent)) here

  height_above : (far x : ℕ) → x ≢ root → height (suc far) x ≡ 1 + height far (inode_at p map x).parent
  height_above far x ne =
      let on : (x == root) ≡ false = grind (arith, nat_tests) in
      ap (λ b. cond b 0 (1 + height far (inode_at p map x).parent)) on

module _ {p : Geometry} {map : SectorMap} {t : Tree} (h : HoldsTree p map t) where
  few_nodes : length t ≤ p.inodes
  few_nodes =
      let count = nodes_counted p map t h.holds h.tree in
      let most = count_by-le-length (λ n. is_used (inode_at p map n).kind) (range_with_len 0 p.inodes) in
      let all = length-range_with_len 0 p.inodes in
      omega (arith, count, most, all)

  -- the parent field leads to a directory
  pub field_up : (x : ℕ) → IsDirectoryAt t x → x ≢ root → IsDirectoryAt t (inode_at p map x).parent
  field_up x d ne = subst (IsDirectoryAt t) (sym (held_parent h x d)) (parent_at (room_of p) t h.tree x d ne)

  field_within : (far x : ℕ) → IsDirectoryAt t x → x ≢ root → is_within (suc far) t root x ≡ true → is_within far t root (inode_at p map x).parent ≡ true
  field_within far x d ne e = ap (is_within far t root) (held_parent h x d) ∙ from_parent t far x ne e

  -- more steps than to the root make no difference
  settled : (far a b x : ℕ) → IsDirectoryAt t x → is_within far t root x ≡ true → far ≤ a → far ≤ b → height p map a x ≡ height p map b x
  settled zero a b x d e some more = let r = same_number x root e in height_root p map a x r ∙ sym (height_root p map b x r)
  settled (suc far) zero b x d e some more = absurd (omega (arith, some))
  settled (suc far) (suc a) zero x d e some more = absurd (omega (arith, more))
  settled (suc far) (suc a) (suc b) x d e some more = elim (cases_eq x root) [
    | inl r ↦ height_root p map (suc a) x r ∙ sym (height_root p map (suc b) x r)
    | inr ne ↦
        let same = settled far a b (inode_at p map x).parent (field_up x d ne) (field_within far x d ne e) (omega (arith, some)) (omega (arith, more)) in
        let one = height_above p map a x ne in
        let other = height_above p map b x ne in
        omega (arith, same, one, other)
  ]

  -- a step up is nearer to the root
  pub lower : (x : ℕ) → IsDirectoryAt t x → x ≢ root → height p map p.inodes (inode_at p map x).parent < height p map p.inodes x
  lower x d ne = go p.inodes (length t) few_nodes (below_root (room_of p) t h.tree x d)
    where
      go : (most far : ℕ) → far ≤ most → is_within far t root x ≡ true → height p map most (inode_at p map x).parent < height p map most x
      go most zero few e = absurd (ne (same_number x root e))
      go zero (suc far) few e = absurd (omega (arith, few))
      go (suc most) (suc far) few e =
          let same = settled far most (suc most) (inode_at p map x).parent (field_up x d ne) (field_within far x d ne e) (omega (arith, few)) (omega (arith, few)) in
          let one = height_above p map most x ne in
          omega (arith, same, one)

  -- and a step up by the parent field is one in the tree
  pub field_one_up : (n x : ℕ) → IsDirectoryAt t x → x ≢ n → x ≢ root
      → is_within (length t) t n x ≡ is_within (length t) t n (inode_at p map x).parent
  field_one_up n x d other ne = one_up (room_of p) t h.tree x d n other ne ∙ ap (is_within (length t) t n) (sym (held_parent h x d))
