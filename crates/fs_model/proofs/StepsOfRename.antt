-- What a rename leaves.
--     AreNames, names_say        what it asks of both names
--     IsRenamed, rename_asks        what it asks where the names are not of one node
--     others, space_met, has_room, replaced_empty, replaced_unused, outside        what that says
--     rename_leaves        what it leaves
use Rattle.std.specs.Prelude.{◌≡◌, ◌≢◌, ℕ, ◌<◌, ◌==◌, nat_le, true, false, not, ◌&&◌, ◌||◌, [], ◌∷◌, ◌++◌, length, Option, None, Some, is_some, unwrap_or}
use Rattle.std.proofs.Common.{refl, sym, ap, arith, ◌∙◌, subst}
use Rattle.std.proofs.lemmas.Bool.{or_from, or_parts}
use Rattle.std.proofs.lemmas.Bool.Decides.{nat_tests}
use Rattle.fs_cred.specs.declared.errno.Errno.TheVariants.{EBUSY, EINVAL, ENOTEMPTY, ENOSPC}
use Rattle.fs_model.specs.Nodes.{is_directory, names_of_body}
use Rattle.fs_model.specs.Trees.{node_at, is_within, IsDirectoryAt}
use Rattle.fs_model.specs.Processes.{users, is_in_use}
use Rattle.fs_model.specs.TreeChanges.{MoveName, changed}
use Rattle.fs_model.specs.declared.walk.Form.TheVariants.{Parent}
use Rattle.fs_model.specs.Demands.{only_if}
use Rattle.fs_model.specs.Scenes.{Scene, is_found, is_special, found_ino, node_found, body_found, dir_node, is_directory_found, has_names, ends_top, ends_dot, ends_dot_dot, no_blocks, no_names}
use Rattle.fs_model.specs.RenameCall.{is_same, moves, rename_name_demands, rename_permissions, rename_kinds, rename_directories, rename_moved, rename_space, rename_demands}
use Rattle.fs_model.proofs.StepsDemands.{AreMet, unrefused, and_false, met_left, met_right}
use Rattle.fs_layout.proofs.NameMaps.{lost_of}
use Rattle.fs_model.proofs.StepsFit.{IsScene, IsCaller, with_caller, node_is_there}
use Rattle.fs_model.proofs.StepsFound.{IsNameAt, IsWalked}
use Rattle.fs_model.proofs.StepsLosing.{LosesNames}
use Rattle.fs_model.proofs.StepsMoving.{MovesName, moves_loses, moved_is}
use Rattle.fs_model.proofs.StepsOfMaking.{dir_is_there}
use Rattle.fs_model.proofs.StepsOfPaths.{found_number, is_found_if}
use Rattle.fs_model.proofs.StepsOfRemoving.{empty_if, loses_leaves, found_directory}
use Rattle.fs_model.proofs.StepsParents.{names_or, names_at}
use Rattle.fs_model.proofs.StepsSwept.{MayBeLeft}
use Rattle.fs_model.proofs.StepsUp.{differs, is_outside}

-- what a rename asks of both names
pub record AreNames (c : Scene) : Type 0 where
  pub first : is_special c.first ≡ false
  pub second : is_special c.second ≡ false
  pub found : is_found c.first ≡ true

pub names_say : (c : Scene) → AreMet (rename_name_demands c) → AreNames c
names_say c met =
    let dots = unrefused EINVAL (ends_dot c.first || ends_dot_dot c.first || ends_dot c.second || ends_dot_dot c.second) met.0 in
    let tops = unrefused EBUSY (ends_top c.first || ends_top c.second) met.1.0 in
    let last = or_parts (ends_dot c.first || ends_dot_dot c.first || ends_dot c.second) (ends_dot_dot c.second) dots in
    let third = or_parts (ends_dot c.first || ends_dot_dot c.first) (ends_dot c.second) last.0 in
    let first = or_parts (ends_dot c.first) (ends_dot_dot c.first) third.0 in
    let top = or_parts (ends_top c.first) (ends_top c.second) tops in
    record {
      first = or_from (ends_top c.first || ends_dot c.first) (ends_dot_dot c.first) (or_from (ends_top c.first) (ends_dot c.first) top.0 first.0) first.1;
      second = or_from (ends_top c.second || ends_dot c.second) (ends_dot_dot c.second) (or_from (ends_top c.second) (ends_dot c.second) top.1 third.1) last.1;
      found = is_found_if c.first met.1.1.0;
    }

-- what a rename asks where the names are not of one node
pub record IsRenamed (c : Scene) : Type 0 where
  pub first : is_special c.first ≡ false
  pub second : is_special c.second ≡ false
  pub found : is_found c.first ≡ true
  pub directories : AreMet (rename_directories c)
  pub space : AreMet (rename_space c)

pub rename_asks : (c : Scene) → AreMet (rename_demands c) → is_same c ≡ false → IsRenamed c
rename_asks c met same =
    let named = names_say c (met.0, (met.1.0, (met.1.1.0, (met.1.1.1.0, tt)))) in
    let rest : AreMet (rename_permissions c ++ rename_kinds c ++ rename_directories c ++ rename_moved c ++ rename_space c) =
    subst (λ b. AreMet (only_if (not b) (rename_permissions c ++ rename_kinds c ++ rename_directories c ++ rename_moved c ++ rename_space c))) same met.1.1.1.1 in
    record {
      first = named.first;
      second = named.second;
      found = named.found;
      directories =
          met_right (rename_permissions c ++ rename_kinds c) (rename_directories c)
          (met_left (rename_permissions c ++ rename_kinds c ++ rename_directories c) (rename_moved c)
          (met_left (rename_permissions c ++ rename_kinds c ++ rename_directories c ++ rename_moved c) (rename_space c) rest));
      space = met_right (rename_permissions c ++ rename_kinds c ++ rename_directories c ++ rename_moved c) (rename_space c) rest;
    }

differ : (x y : ℕ) → x ≢ y → (x == y) ≡ false
differ x y ne = grind (arith, nat_tests)

module _ (c : Scene) (is : IsScene c) (asks : IsRenamed c) (same : is_same c ≡ false) where
  second_number : (m : ℕ) → c.second.ino ≡ Some m → found_ino c.second ≡ m
  second_number m e = ap (λ o. unwrap_or o 0) e

  second_found : (m : ℕ) → c.second.ino ≡ Some m → is_found c.second ≡ true
  second_found m e = ap is_some e

  second_at : (m : ℕ) → c.second.ino ≡ Some m → node_at c.state.tree (found_ino c.second) ≡ Some (node_found c c.second)
  second_at m e =
      let it : c.second.ino ≡ Some (found_ino c.second) = found_number c.second.ino (second_found m e) in
      node_is_there c.state.tree (found_ino c.second) (is.second (found_ino c.second) it)

  pub others : (m : ℕ) → c.second.ino ≡ Some m → m ≢ found_ino c.first
  others m e same_one =
      let both : (is_found c.first && is_found c.second) ≡ true = (let f = asks.found in let s = second_found m e in ap (λ b. b && is_found c.second) f ∙ s) in
      let apart : (found_ino c.first == found_ino c.second) ≡ false = and_false (is_found c.first && is_found c.second) (found_ino c.first == found_ino c.second) same both in
      differs (found_ino c.first) (found_ino c.second) apart (sym same_one ∙ sym (second_number m e))

  pub space_met : c.second.ino ≡ None → c.first.dir_ino ≢ c.second.dir_ino → AreMet (no_blocks c ∷ no_names c c.second ∷ [])
  space_met none ne =
      let new : not (is_found c.second) ≡ true = ap (λ o. not (is_some o)) none in
      let goes : moves c ≡ true = ap not (differ c.first.dir_ino c.second.dir_ino ne) in
      let both : (not (is_found c.second) && moves c) ≡ true = ap (λ b. b && moves c) new ∙ goes in
      subst (λ b. AreMet (only_if b (no_blocks c ∷ no_names c c.second ∷ []))) both asks.space

  pub has_room : c.second.ino ≡ None → c.first.dir_ino ≢ c.second.dir_ino → length (names_of_body (dir_node c c.second).body) < c.state.room.entries_limit
  has_room none ne =
      let full : nat_le c.state.room.entries_limit (length (names_of_body (dir_node c c.second).body)) ≡ false = unrefused ENOSPC _ (space_met none ne).1.0 in
      grind (arith, nat_tests)

  pub replaced_empty : (m : ℕ) → c.second.ino ≡ Some m → names_at c.state.tree m ≡ []
  replaced_empty m e =
      let has : has_names c c.second ≡ false =
      and_false (is_found c.second) (has_names c c.second) (unrefused ENOTEMPTY (is_found c.second && has_names c c.second) asks.directories.1.1.0) (second_found m e) in
      ap (names_at c.state.tree) (sym (second_number m e)) ∙ ap names_or (second_at m e) ∙ empty_if (names_of_body (body_found c c.second)) has

  pub replaced_unused : (m : ℕ) → c.second.ino ≡ Some m → IsDirectoryAt c.state.tree m → is_in_use (users c.state.processes c.state.openings) m ≡ false
  replaced_unused m e d =
      let at : node_at c.state.tree m ≡ Some (node_found c c.second) = ap (node_at c.state.tree) (sym (second_number m e)) ∙ second_at m e in
      let stands = d.is_there in
      let node : d.node ≡ node_found c c.second = cc in
      let directory : is_directory (body_found c c.second) ≡ true = ap (λ v. is_directory v.body) (sym node) ∙ d.directory in
      let both : is_directory_found c c.second ≡ true = ap (λ b. b && is_directory (body_found c c.second)) (second_found m e) ∙ directory in
      ap (is_in_use (users c.state.processes c.state.openings)) (sym (second_number m e))
      ∙ and_false (is_directory_found c c.second) (is_in_use (users c.state.processes c.state.openings) (found_ino c.second))
      (unrefused EBUSY (is_directory_found c c.second && is_in_use (users c.state.processes c.state.openings) (found_ino c.second)) asks.directories.1.0) both

  pub outside : IsDirectoryAt c.state.tree (found_ino c.first) → is_within (length c.state.tree) c.state.tree (found_ino c.first) c.second.dir_ino ≡ false
  outside d =
      let directory = found_directory c is asks.found d in
      let both : is_directory_found c c.first ≡ true = ap (λ b. b && is_directory (body_found c c.first)) asks.found ∙ directory in
      and_false (is_directory_found c c.first) (is_within (length c.state.tree) c.state.tree (found_ino c.first) c.second.dir_ino)
      (unrefused EINVAL (is_directory_found c c.first && is_within (length c.state.tree) c.state.tree (found_ino c.first) c.second.dir_ino) asks.directories.0) both

  moves_name : IsNameAt c.state.room c.state.tree c.first.dir_ino c.first.name c.first.ino → IsNameAt c.state.room c.state.tree c.second.dir_ino c.second.name c.second.ino
      → MovesName c.state.room c.state.tree (users c.state.processes c.state.openings) c.first.dir_ino (dir_node c c.first) c.first.name (found_ino c.first) c.second.dir_ino (dir_node c c.second) c.second.name c.second.ino
  moves_name from to =
      let x = dir_is_there c.state.tree c.first.dir_ino c.first.name c.first.ino from in
      let y = dir_is_there c.state.tree c.second.dir_ino c.second.name c.second.ino to in
      record {
        stands = x.0;
        is_dir = x.1;
        leads = x.2 ∙ found_number c.first.ino asks.found;
        to_stands = y.0;
        is_to_dir = y.1;
        to_leads = y.2;
        is_name = to.is_name;
        short = to.short;
        bytes = to.bytes;
        other = others;
        has_room = has_room;
        empty = λ m e d. replaced_empty m e;
        unused = replaced_unused;
        outside = λ d.
            is_outside c.state.room c.state.tree (found_ino c.first) c.second.dir_ino is.state.tree
            (record { node = dir_node c c.second; is_there = y.0; directory = y.1 }) (outside d);
      }

  rename_loses : IsWalked c.state.room c.state.tree Parent c.first → IsWalked c.state.room c.state.tree Parent c.second
      → LosesNames c.state.room c.state.tree (changed c.state.tree (MoveName c.first.dir_ino c.first.name c.second.dir_ino c.second.name)) (users c.state.processes c.state.openings) (lost_of c.second.ino)
  rename_loses from to =
      let a = from.old refl asks.first in
      let b = to.old refl asks.second in
      subst (λ u. LosesNames c.state.room c.state.tree u (users c.state.processes c.state.openings) (lost_of c.second.ino))
      (sym (moved_is c.state.room c.state.tree (users c.state.processes c.state.openings) c.first.dir_ino (dir_node c c.first) c.first.name (found_ino c.first) c.second.dir_ino (dir_node c c.second)
      c.second.name c.second.ino is.state.tree (moves_name a b)))
      (moves_loses c.state.room c.state.tree (users c.state.processes c.state.openings) c.first.dir_ino (dir_node c c.first) c.first.name (found_ino c.first) c.second.dir_ino (dir_node c c.second)
      c.second.name c.second.ino is.state.tree (moves_name a b))

pub rename_leaves : (c : Scene) (is : IsScene c) (caller : Option ℕ) → IsCaller c.state.processes caller c.process
    → IsWalked c.state.room c.state.tree Parent c.first → IsWalked c.state.room c.state.tree Parent c.second → AreMet (rename_demands c) → is_same c ≡ false
    → MayBeLeft c.state.room (changed c.state.tree (MoveName c.first.dir_ino c.first.name c.second.dir_ino c.second.name)) (with_caller c.state.processes caller c.process) c.state.openings
rename_leaves c is caller here from to met same =
    loses_leaves c is caller here (MoveName c.first.dir_ino c.first.name c.second.dir_ino c.second.name) (lost_of c.second.ino)
    (rename_loses c is (rename_asks c met same) same from to)
