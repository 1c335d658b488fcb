-- What calls that take or move a name leave: unlink, rmdir and rename.
use Rattle.std.specs.Prelude.{◌≡◌, ℕ, true, false, not, ◌||◌, List, [], ◌∷◌, Option, None, Some}
use Rattle.std.proofs.Common.{refl, sym, ap, ◌∙◌, subst}
use Rattle.std.proofs.lemmas.Bool.{or_from}
use Rattle.std.specs.Ordering.{nat_cmp}
use Rattle.fs_cred.specs.declared.errno.Errno.TheVariants.{EBUSY, EISDIR, EINVAL, ENOTEMPTY}
use Rattle.fs_layout.specs.Maps.{name_cmp, without, IsMap}
use Rattle.fs_model.specs.Nodes.{is_directory, names_of_body}
use Rattle.fs_model.specs.Trees.{IsDirectoryAt}
use Rattle.fs_model.specs.Processes.{Process, ProcessTable, users, is_in_use}
use Rattle.fs_model.specs.TreeChanges.{Change, TakeName, with_names_at, changed}
use Rattle.fs_model.specs.Parts.{is_empty}
use Rattle.fs_model.specs.declared.walk.Form.TheVariants.{Parent}
use Rattle.fs_model.specs.Scenes.{Scene, is_found, is_special, found_ino, node_found, body_found, dir_node, is_directory_found, has_names, ends_top, ends_dot, ends_dot_dot}
use Rattle.fs_model.specs.NameCalls.{unlink_demands, rmdir_demands}
use Rattle.fs_model.proofs.StepsDemands.{AreMet, unrefused, and_false}
use Rattle.fs_layout.proofs.NameMaps.{once_if}
use Rattle.fs_model.proofs.StepsFit.{IsScene, IsCaller, with_caller}
use Rattle.fs_model.proofs.StepsFound.{IsNameAt, IsWalked}
use Rattle.fs_model.proofs.StepsLosing.{LosesNames, loses_may_be_left}
use Rattle.fs_model.proofs.StepsNaming.{renamed}
use Rattle.fs_model.proofs.StepsOfMaking.{dir_is_there}
use Rattle.fs_model.proofs.StepsOfPaths.{found_number, first_at, is_found_if}
use Rattle.fs_model.proofs.StepsParents.{names_or, names_at}
use Rattle.fs_model.proofs.StepsSwept.{MayBeLeft}
use Rattle.fs_model.proofs.StepsTaking.{takes_loses}
use Rattle.fs_model.proofs.Unchanged.{same_process_stays}

-- ---- tests and demands

pub empty_if : {X : Type 0} (xs : List X) → not (is_empty xs) ≡ false → xs ≡ []
empty_if [] h = refl
empty_if (x ∷ xs) h = absurd cc

-- the node that was found is a directory, where one stands there
pub found_directory : (c : Scene) → IsScene c → is_found c.first ≡ true → IsDirectoryAt c.state.tree (found_ino c.first)
    → is_directory (body_found c c.first) ≡ true
found_directory c is found d =
    let at = first_at c is found in
    let stands = d.is_there in
    let same : d.node ≡ node_found c c.first = cc in
    ap (λ v. is_directory v.body) (sym same) ∙ d.directory

-- ---- the process stays

caller_stays : (processes : ProcessTable) (caller : Option ℕ) (p : Process) → IsMap nat_cmp processes → IsCaller processes caller p
    → with_caller processes caller p ≡ processes
caller_stays processes None p is here = refl
caller_stays processes (Some pid) p is here = same_process_stays processes pid p is here

module _ (c : Scene) (is : IsScene c) (caller : Option ℕ) (here : IsCaller c.state.processes caller c.process) where
  processes_stay : with_caller c.state.processes caller c.process ≡ c.state.processes
  processes_stay = caller_stays c.state.processes caller c.process is.state.pids here

  pub loses_leaves : (change : Change) (lost : ℕ → ℕ) → LosesNames c.state.room c.state.tree (changed c.state.tree change) (users c.state.processes c.state.openings) lost
      → MayBeLeft c.state.room (changed c.state.tree change) (with_caller c.state.processes caller c.process) c.state.openings
  loses_leaves change lost h =
      subst (λ processes. MayBeLeft c.state.room (changed c.state.tree change) processes c.state.openings) (sym processes_stay)
      (loses_may_be_left c.state.room c.state.tree (changed c.state.tree change) c.state.processes c.state.openings lost is.state.tree h is.state.pids
      is.state.few is.state.handles (is.state.processes is.running))

  -- ---- unlink and rmdir

  taken_leaves : IsNameAt c.state.room c.state.tree c.first.dir_ino c.first.name c.first.ino → is_found c.first ≡ true
      → (IsDirectoryAt c.state.tree (found_ino c.first) → names_at c.state.tree (found_ino c.first) ≡ [])
      → (IsDirectoryAt c.state.tree (found_ino c.first) → is_in_use (users c.state.processes c.state.openings) (found_ino c.first) ≡ false)
      → MayBeLeft c.state.room (changed c.state.tree (TakeName c.first.dir_ino c.first.name)) (with_caller c.state.processes caller c.process) c.state.openings
  taken_leaves name found empty unused =
      let t = c.state.tree in
      let x = dir_is_there t c.first.dir_ino c.first.name c.first.ino name in
      let directory = dir_node c c.first in
      let u : changed t (TakeName c.first.dir_ino c.first.name) ≡ renamed t c.first.dir_ino directory (without name_cmp (names_of_body directory.body) c.first.name) =
      ap (with_names_at t c.first.dir_ino (λ names. without name_cmp names c.first.name)) x.0 in
      loses_leaves (TakeName c.first.dir_ino c.first.name) (once_if (found_ino c.first))
      (subst (λ w. LosesNames c.state.room t w (users c.state.processes c.state.openings) (once_if (found_ino c.first))) (sym u)
      (takes_loses c.state.room t (users c.state.processes c.state.openings) c.first.dir_ino directory c.first.name (found_ino c.first) is.state.tree (record {
        stands = x.0;
        is_dir = x.1;
        leads = x.2 ∙ found_number c.first.ino found;
        empty = empty;
        unused = unused;
      })))

  pub unlink_leaves : IsWalked c.state.room c.state.tree Parent c.first → AreMet (unlink_demands c)
      → MayBeLeft c.state.room (changed c.state.tree (TakeName c.first.dir_ino c.first.name)) (with_caller c.state.processes caller c.process) c.state.openings
  unlink_leaves walked met =
      let special : is_special c.first ≡ false = unrefused EISDIR (is_special c.first) met.0 in
      let found = is_found_if c.first met.1.0 in
      let no_directory : is_directory (body_found c c.first) ≡ false = and_false (is_found c.first) (is_directory (body_found c c.first)) (unrefused EISDIR (is_directory_found c c.first) met.1.1.1.1.1.0) found in
      taken_leaves (walked.old refl special) found
      (λ d. absurd (let yes = found_directory c is found d in cc))
      (λ d. absurd (let yes = found_directory c is found d in cc))

  pub rmdir_leaves : IsWalked c.state.room c.state.tree Parent c.first → AreMet (rmdir_demands c)
      → MayBeLeft c.state.room (changed c.state.tree (TakeName c.first.dir_ino c.first.name)) (with_caller c.state.processes caller c.process) c.state.openings
  rmdir_leaves walked met =
      let top : ends_top c.first ≡ false = unrefused EBUSY (ends_top c.first) met.0 in
      let dot : ends_dot c.first ≡ false = unrefused EINVAL (ends_dot c.first) met.1.0 in
      let dots : ends_dot_dot c.first ≡ false = unrefused ENOTEMPTY (ends_dot_dot c.first) met.1.1.0 in
      let found = is_found_if c.first met.1.1.1.0 in
      let used : is_in_use (users c.state.processes c.state.openings) (found_ino c.first) ≡ false = unrefused EBUSY (is_in_use (users c.state.processes c.state.openings) (found_ino c.first)) met.1.1.1.1.1.1.1.1.0 in
      let has : has_names c c.first ≡ false = unrefused ENOTEMPTY (has_names c c.first) met.1.1.1.1.1.1.1.1.1.0 in
      taken_leaves (walked.old refl (or_from (ends_top c.first || ends_dot c.first) (ends_dot_dot c.first) (or_from (ends_top c.first) (ends_dot c.first) top dot) dots)) found
      (λ d. ap names_or (first_at c is found) ∙ empty_if (names_of_body (body_found c c.first)) has)
      (λ d. used)
