-- What the changed tree places where names change.
--     added_dir, added_node, added_others        a name more
--     taken_dir, taken_stays, taken_goes, taken_others        a name less
use Rattle.std.specs.Prelude.{◌≡◌, ◌≢◌, ℕ, ◌+◌, ◌-◌, ◌==◌, true, false, not, ◌||◌, List, None, Some, is_some, IsTrue, IsFalse}
use Rattle.std.proofs.Common.{refl, sym, ap, arith, ◌∙◌, inl, inr}
use Rattle.std.proofs.lemmas.Bool.{cases_eq}
use Rattle.fs_layout.specs.Maps.{name_cmp, with_entry, without}
use Rattle.fs_layout.proofs.NameMaps.{Names, leading, once_if, once_same, once_other}
use Rattle.fs_model.specs.Nodes.{Node, names_of_body}
use Rattle.fs_model.specs.Trees.{Tree, Room, node_at, names_of, parent, IsTree}
use Rattle.fs_model.specs.Processes.{ProcessTable, users, is_open}
use Rattle.fs_model.specs.TreeChanges.{swept, lives_nameless}
use Rattle.fs_model.specs.States.{State, IsState}
use Rattle.fs_model.specs.Stands.{placed}
use Rattle.fs_model.proofs.Finds.{IsThere}
use Rattle.fs_model.proofs.PlacedNodes.{placed_from, placed_stays, placed_goes, stays_if, placed_again}
use Rattle.fs_model.proofs.Rewrites.{parent-with_node}
use Rattle.fs_model.proofs.StepsAdding.{AddsName, dir_apart, stands_then, more, count, count_other}
use Rattle.fs_model.proofs.StepsLosing.{LosesNames, gone_empty}
use Rattle.fs_model.proofs.StepsNaming.{renamed_node, renamed, at_it, at_others, names_with_names, type_with_names}
use Rattle.fs_model.proofs.StepsParents.{names_or}
use Rattle.fs_model.proofs.StepsTaking.{TakesName, takes_loses, fewer, not_dir}
use Rattle.fs_model.proofs.Swept.{DropsNoNames, stays}

-- ---- a name more: the tree w is t, or has the new node besides

module _ (room : Room) (t w : Tree) (dir_ino : ℕ) (directory : Node) (name : List ℕ) (n : ℕ) (target : Node) (is : IsTree room t)
    (adds : AddsName room t w dir_ino directory name n target) (parents : (x : ℕ) → parent w x ≡ parent t x) where
  abbrev new : Names
  new = with_entry name_cmp (names_of_body directory.body) name n

  abbrev u : Tree
  u = renamed w dir_ino directory (with_entry name_cmp (names_of_body directory.body) name n)

  parent_other : (x : ℕ) → x ≢ n → parent u x ≡ parent t x
  parent_other x ne =
      let all = more room t w dir_ino directory name n target is adds x in
      let none = once_other n x (λ e. ne (sym e)) in
      let now : leading x (names_of_body (renamed_node directory new).body) ≡ leading x new = ap (leading x) (names_with_names new directory.body adds.takes.is_dir) in
      let was : leading x (names_or (node_at w dir_ino)) ≡ leading x (names_of_body directory.body) = ap (λ o. leading x (names_or o)) (stands_then room t w dir_ino directory name n target is adds) in
      parent-with_node w dir_ino (renamed_node directory new) adds.numbers x (omega (arith, all, none, now, was)) ∙ parents x

  -- the directory with the name
  pub added_dir : placed u dir_ino ≡ Some (record { node = renamed_node directory new; names = names_of t dir_ino; parent = parent t dir_ino })
  added_dir =
      let apart = dir_apart room t w dir_ino directory name n target is adds in
      placed_from u dir_ino (Some (renamed_node directory new)) _ _ (at_it w dir_ino (renamed_node directory new))
      (count_other room t w dir_ino directory name n target is adds dir_ino apart) (parent_other dir_ino apart)

  -- what it leads to
  pub added_node : placed u n ≡ Some (record { node = target; names = names_of t n + 1; parent = parent u n })
  added_node =
      let one = once_same n n refl in
      let all = count room t w dir_ino directory name n target is adds n in
      placed_from u n (Some target) _ _ (at_others w dir_ino (renamed_node directory new) n (λ e. dir_apart room t w dir_ino directory name n target is adds (sym e)) ∙ adds.here)
      (omega (arith, one, all)) refl

  -- and all else
  pub added_others : (x : ℕ) → x ≢ n → x ≢ dir_ino → placed u x ≡ placed t x
  added_others x ne other =
      placed_from u x (node_at t x) _ _ (at_others w dir_ino (renamed_node directory new) x other ∙ adds.others x ne)
      (count_other room t w dir_ino directory name n target is adds x ne) (parent_other x ne)

  -- what has no name then had none
  pub added_nameless : (x : ℕ) → IsThere u x → names_of u x ≡ 0 → IsThere t x × (names_of t x ≡ 0)
  added_nameless x there none =
      let all = count room t w dir_ino directory name n target is adds x in
      elim (cases_eq x n) [
        | inl e ↦ absurd (let one = once_same n x (sym e) in omega (arith, all, none, one))
        | inr ne ↦ (
          elim (cases_eq x dir_ino) [
            | inl e ↦ ap (λ k. is_some (node_at t k)) e ∙ ap is_some adds.takes.stands
            | inr other ↦ ap is_some (sym (at_others w dir_ino (renamed_node directory new) x other ∙ adds.others x ne)) ∙ there
          ],
          omega (arith, all, none),
        )
      ]

-- ---- a name less

module _ (s : State) (is : IsState s) (up : IsFalse s.halted) (processes : ProcessTable) (still : (n : ℕ) → IsTrue (is_open (users s.processes s.openings) n) → IsTrue (is_open processes n))
    (dir_ino : ℕ) (directory : Node) (name : List ℕ) (m : ℕ) (takes : TakesName s.tree (users s.processes s.openings) dir_ino directory name m) where
  abbrev less : Names
  less = without name_cmp (names_of_body directory.body) name

  abbrev left : Tree
  left = renamed s.tree dir_ino directory (without name_cmp (names_of_body directory.body) name)

  loses : LosesNames s.room s.tree left (users s.processes s.openings) (once_if m)
  loses = takes_loses s.room s.tree (users s.processes s.openings) dir_ino directory name m is.tree takes

  gone : DropsNoNames (stays left processes) left left
  gone = gone_empty s.room s.tree left (users s.processes s.openings) (once_if m) is.tree loses processes

  names_same : (x : ℕ) → x ≢ m → names_of left x ≡ names_of s.tree x
  names_same x other = let all = loses.counts x in let none = once_other m x (λ e. other (sym e)) in omega (arith, all, none)

  names_less : names_of left m ≡ names_of s.tree m - 1
  names_less = let all = loses.counts m in let one = once_same m m refl in omega (arith, all, one)

  parent_same : (x : ℕ) → x ≢ m → parent left x ≡ parent s.tree x
  parent_same x other =
      let all = fewer s.room s.tree (users s.processes s.openings) dir_ino directory name m is.tree takes x in
      let none = once_other m x (λ e. other (sym e)) in
      let now : leading x (names_of_body (renamed_node directory less).body) ≡ leading x less = ap (leading x) (names_with_names less directory.body takes.is_dir) in
      let was : leading x (names_or (node_at s.tree dir_ino)) ≡ leading x (names_of_body directory.body) = ap (λ o. leading x (names_or o)) takes.stands in
      parent-with_node s.tree dir_ino (renamed_node directory less) is.tree.numbers x (omega (arith, all, none, now, was))

  -- the name doesn't lead to its directory
  pub taken_apart : m ≢ dir_ino
  taken_apart e =
      not_dir s.room s.tree (users s.processes s.openings) dir_ino directory name m is.tree takes
      (record { node = directory; is_there = ap (node_at s.tree) e ∙ takes.stands; directory = takes.is_dir }) e

  -- the directory without the name
  pub taken_dir : placed (swept left processes) dir_ino ≡ Some (record { node = renamed_node directory less; names = names_of s.tree dir_ino; parent = parent s.tree dir_ino })
  taken_dir =
      let other : dir_ino ≢ m = λ e. taken_apart (sym e) in
      placed_stays left processes loses.numbers gone dir_ino (renamed_node directory less) (at_it s.tree dir_ino (renamed_node directory less))
      (stays_if s is up processes still left dir_ino (renamed_node directory less) directory takes.stands (type_with_names less directory.body) (names_same dir_ino other))
      ∙ ap (λ k. Some (record { node = renamed_node directory less; names = k; parent = parent left dir_ino })) (names_same dir_ino other)
      ∙ ap (λ k. Some (record { node = renamed_node directory less; names = names_of s.tree dir_ino; parent = k })) (parent_same dir_ino other)

  -- all else
  pub taken_others : (x : ℕ) → x ≢ dir_ino → x ≢ m → placed (swept left processes) x ≡ placed s.tree x
  taken_others x other_dir other =
      placed_again s is up processes still left loses.numbers gone x (at_others s.tree dir_ino (renamed_node directory less) x other_dir) (names_same x other) (parent_same x other)

  module _ (target : Node) (at : node_at s.tree m ≡ Some target) where
    at_then : node_at left m ≡ Some target
    at_then = at_others s.tree dir_ino (renamed_node directory less) m taken_apart ∙ at

    -- what it led to has a name less, or is gone
    pub taken_stays : (not (names_of s.tree m - 1 == 0) || lives_nameless processes m target.body) ≡ true
        → placed (swept left processes) m ≡ Some (record { node = target; names = names_of s.tree m - 1; parent = parent left m })
    taken_stays stay =
        placed_stays left processes loses.numbers gone m target at_then (ap (λ k. not (k == 0) || lives_nameless processes m target.body) names_less ∙ stay)
        ∙ ap (λ k. Some (record { node = target; names = k; parent = parent left m })) names_less

    pub taken_goes : (not (names_of s.tree m - 1 == 0) || lives_nameless processes m target.body) ≡ false → placed (swept left processes) m ≡ None
    taken_goes goes =
        placed_goes left processes loses.numbers gone m target at_then (ap (λ k. not (k == 0) || lives_nameless processes m target.body) names_less ∙ goes)
