-- The free inodes of a tree are the clear bits of the inode bitmap of an image that holds it.
use Rattle.std.specs.Prelude.{◌≡◌, ℕ, zero, suc, ◌+◌, ◌-◌, ◌<◌, ◌≤◌, Bool, true, false, not, ◌||◌, cond, nat_eq, nat_le, length, Option, Some, None, is_some, count_by}
use Rattle.std.proofs.Common.{refl, ap, arith, ◌∙◌}
use Rattle.std.specs.List.{range_with_len}
use Rattle.std.specs.Option.{option_map}
use Rattle.std.proofs.lemmas.Bool.{ne_eqb}
use Rattle.std.proofs.lemmas.Bool.Decides.{nat_tests}
use Rattle.fs_layout.specs.declared.geometry.Geometry.{Geometry}
use Rattle.fs_layout.specs.Bytes.{SectorMap}
use Rattle.fs_layout.specs.Images.{inode_map_bits, bit}
use Rattle.fs_model.specs.Nodes.{Node}
use Rattle.fs_model.specs.Trees.{Tree, node_at, names_of, parent, free_inodes, IsTree}
use Rattle.fs_model.specs.Stands.{HoldsAll, placed, room_of}
use Rattle.fs_layout.proofs.Counting.{one_if, count_cons}
use Rattle.fs_layout.proofs.MapLaws.{summand}
use Rattle.fs_model.proofs.RulesFromTree.{stores}
use Rattle.fs_model.proofs.Summaries.{count_is, length_is}

one_of_two : (b : Bool) → one_if (not b) + one_if b ≡ 1
unfolding one_if
one_of_two true = refl
one_of_two false = refl

-- what fails a test and what passes it, together, are all
complement : (f g : ℕ → Bool) (a n : ℕ) → ((x : ℕ) → a ≤ x → x < a + n → f x ≡ not (g x))
    → count_by f (range_with_len a n) + count_by g (range_with_len a n) ≡ n
complement f g a zero same = refl
complement f g a (suc n) same =
    let here : one_if (f a) + one_if (g a) ≡ 1 = ap (λ b. one_if b + one_if (g a)) (same a (omega arith) (omega arith)) ∙ one_of_two (g a) in
    let rest = complement f g (a + 1) n (λ x le lt. same x (omega (arith, le)) (omega (arith, lt))) in
    omega (arith, count_cons f a n, count_cons g a n, here, rest)

is_some_map : {X Y : Type 0} (f : X → Y) (o : Option X) → is_some (option_map f o) ≡ is_some o
is_some_map f None = refl
is_some_map f (Some x) = refl

module _ (p : Geometry) (image : SectorMap) (t : Tree) (held : HoldsAll p image (placed t)) (is : IsTree (room_of p) t) where
  used : ℕ → Bool
  used n = is_some (node_at t n)

  clear : ℕ → Bool
  clear n = not (bit image p.inode_bitmap n)

  few : (n : ℕ) → n < p.inodes → n < inode_map_bits p
  few n lt = let bits = held.consistent.geometry.inode_bits in omega (arith, lt, bits)

  bit_is : (n : ℕ) → n < p.inodes → bit image p.inode_bitmap n ≡ (nat_eq n 0 || nat_le p.inodes n || used n)
  unfolding used
  bit_is n lt =
      held.inode_bits n (few n lt)
      ∙ ap (λ b. nat_eq n 0 || nat_le p.inodes n || b) (is_some_map (λ node. record { node = node; names = names_of t n; parent = parent t n }) (node_at t n))

  clear_is : (n : ℕ) → 1 ≤ n → n < p.inodes → clear n ≡ not (used n)
  unfolding clear
  clear_is n some lt =
      let first : nat_eq n 0 ≡ false = ne_eqb n 0 (λ e. omega (arith, e, some)) in
      let second : nat_le p.inodes n ≡ false = grind (arith, nat_tests) in
      ap not (bit_is n lt ∙ ap (λ b. b || nat_le p.inodes n || used n) first ∙ ap (λ b. b || used n) second)

  zero_set : 1 ≤ p.inodes → clear 0 ≡ false
  unfolding clear
  zero_set some = ap not (bit_is 0 (omega (arith, some)))

  zero_unused : used 0 ≡ false
  unfolding used
  zero_unused = go (node_at t 0) refl
    where
      go : (o : Option Node) → node_at t 0 ≡ o → is_some o ≡ false
      go None e = refl
      go (Some node) e = let some = (is.each 0 node e).positive in absurd (omega (arith, some))

  nodes_used : length t ≡ count_by used (range_with_len 0 p.inodes)
  unfolding used
  nodes_used =
      let all = stores p image t held is in
      length_is t ∙ count_is (λ e. true) used t p.inodes all.past all.numbers (λ n lt. go n (node_at t n))
    where
      go : (n : ℕ) (o : Option Node) → summand (λ e. cond true 1 0) n o ≡ cond (is_some o) 1 0
      go n None = refl
      go n (Some node) = refl

  all_but_zero : (k : ℕ) → p.inodes ≡ suc k → free_inodes (room_of p) t ≡ count_by clear (range_with_len 0 p.inodes)
  unfolding one_if
  all_but_zero k inodes =
      let tail = complement clear used 1 k (λ x le lt. clear_is x le (omega (arith, lt, inodes))) in
      let clears = ap (λ n. count_by clear (range_with_len 0 n)) inodes ∙ count_cons clear 0 k in
      let uses = nodes_used ∙ ap (λ n. count_by used (range_with_len 0 n)) inodes ∙ count_cons used 0 k in
      let no_clear : one_if (clear 0) ≡ 0 = ap one_if (zero_set (omega (arith, inodes))) in
      let no_use : one_if (used 0) ≡ 0 = ap one_if zero_unused in
      omega (arith, tail, clears, uses, no_clear, no_use, inodes)

  pub free_are_clear : free_inodes (room_of p) t ≡ count_by (λ n. not (bit image p.inode_bitmap n)) (range_with_len 0 p.inodes)
  unfolding clear
  free_are_clear = let least = held.consistent.geometry.least_inodes in all_but_zero (p.inodes - 1) (omega (arith, least))
