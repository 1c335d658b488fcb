-- What an open of something that is there leaves fits.
use Rattle.std.specs.Prelude.{◌≡◌, ℕ, ◌<◌, nat_le, Bool, true, false, not, ◌&&◌, ◌||◌, cond, List, [], length, Option, None, Some, is_some, unwrap_or}
use Rattle.std.proofs.Common.{refl, ap, arith, subst}
use Rattle.std.proofs.lemmas.Bool.{or_parts}
use Rattle.std.proofs.lemmas.Bool.Decides.{nat_tests}
use Rattle.fs_cred.specs.declared.errno.Errno.TheVariants.{ELOOP, EISDIR, EMFILE}
use Rattle.fs_model.specs.declared.call.Flags.{Flags}
use Rattle.fs_model.specs.declared.reply.Reply.TheVariants.{Fd}
use Rattle.fs_model.specs.Limits.{descriptors_limit}
use Rattle.fs_model.specs.Nodes.{Node, is_directory, is_link, with_bytes}
use Rattle.fs_model.specs.Processes.{least_unused}
use Rattle.fs_model.specs.declared.touch.Touch.TheVariants.{Modified}
use Rattle.fs_model.specs.TreeChanges.{Same, Rewrite, Make}
use Rattle.fs_model.specs.States.{State, IsProcess}
use Rattle.fs_model.specs.Births.{born_file}
use Rattle.fs_model.specs.Scenes.{Scene, Effect, is_found, found_ino, node_found, body_found, dir_node}
use Rattle.fs_model.specs.OpenCall.{open_early, open_found_demands, open_new_demands, open_demands, open_change, open_process, open_effect}
use Rattle.fs_model.proofs.StepsBodies.{bytes_may_replace}
use Rattle.fs_model.proofs.StepsDemands.{AreMet, unrefused, and_false}
use Rattle.fs_model.proofs.StepsFit.{IsScene, EffectFits, no_change_fits, rewrite_fits}
use Rattle.fs_model.proofs.StepsProcesses.{with_descriptor_fits, least_is_low}
use Rattle.fs_model.proofs.StepsOfPaths.{first_at, first_is}

-- what only its change and its process make fit
pub fits_as : (s : State) (e f : Effect) → f.change ≡ e.change → f.process ≡ e.process → EffectFits s e → EffectFits s f
fits_as s e f change process fits =
    let same : e ≡ record f { change = f.change; reply = e.reply } = rw (change, process) refl in
    let g : EffectFits s (record f { change = f.change; reply = e.reply }) = subst (EffectFits s) same fits in
    record { tree = g.tree; types = g.types; process = g.process }

unwrapped : (o : Option ℕ) (d e : ℕ) → is_some o ≡ true → unwrap_or o d ≡ unwrap_or o e
unwrapped None d e h = absurd cc
unwrapped (Some n) d e h = refl

module _ (c : Scene) (is : IsScene c) (flags : Flags) (found : is_found c.first ≡ true) where
  -- the descriptor
  opened_fits : (path : List ℕ) → AreMet (open_early flags path c.process) → AreMet (open_found_demands flags c)
      → IsProcess c.state.tree (open_process c.process flags (found_ino c.first))
  opened_fits path asked met =
      let full : nat_le descriptors_limit (length c.process.descriptors) ≡ false = unrefused EMFILE _ asked.1.0 in
      let few : length c.process.descriptors < descriptors_limit = grind (arith, nat_tests) in
      let least = least_is_low 0 c.process.descriptors in
      let no_link : is_link (body_found c c.first) ≡ false = unrefused ELOOP _ met.1.0 in
      let no_writes : (is_directory (body_found c c.first) && (flags.write || flags.create)) ≡ false = unrefused EISDIR _ met.1.1.1.0 in
      with_descriptor_fits c.state.tree c.process is.process (least_unused 0 c.process.descriptors)
      (record { ino = found_ino c.first; offset = 0; read = flags.read; write = flags.write; append = flags.append })
      (record {
        below = omega (arith, least, few);
        offset = omega arith;
        node = node_found c c.first;
        is_there = first_at c is found;
        no_link = no_link;
        no_writes = λ directory. (or_parts flags.write flags.create (and_false (is_directory (body_found c c.first)) (flags.write || flags.create) no_writes directory)).0;
      })

  pub open_fits : (path : List ℕ) (mode new : ℕ) → AreMet (open_early flags path c.process) → AreMet (open_demands flags c)
      → EffectFits c.state (open_effect flags mode c new)
  open_fits path mode new asked met =
      let n = found_ino c.first in
      let node = node_found c c.first in
      let fits = opened_fits path asked (subst (λ b. AreMet (cond b (open_found_demands flags c) (open_new_demands flags c))) found met) in
      let process : open_process c.process flags (unwrap_or c.first.ino new) ≡ open_process c.process flags n =
      ap (open_process c.process flags) (unwrapped c.first.ino new 0 found) in
      let emptied : Node = record node { body = with_bytes [] node.body } in
      let change : open_change flags mode c new ≡ cond (flags.trunc && flags.write) (Rewrite Modified n emptied) Same =
      ap (λ b. cond (not b) (Make c.first.dir_ino c.first.name new (born_file c.process.cred c.process.umask mode (dir_node c c.first))) (cond (flags.trunc && flags.write) (Rewrite Modified n emptied) Same)) found in
      go (flags.trunc && flags.write) fits process change
    where
      go : (b : Bool) → IsProcess c.state.tree (open_process c.process flags (found_ino c.first))
          → open_process c.process flags (unwrap_or c.first.ino new) ≡ open_process c.process flags (found_ino c.first)
          → open_change flags mode c new ≡ cond b (Rewrite Modified (found_ino c.first) (record (node_found c c.first) { body = with_bytes [] (body_found c c.first) })) Same
          → EffectFits c.state (open_effect flags mode c new)
      go true fits process change =
          fits_as c.state (record {
            change = Rewrite Modified (found_ino c.first) (record (node_found c c.first) { body = with_bytes [] (body_found c c.first) });
            process = open_process c.process flags (found_ino c.first);
            reply = Fd 0;
          }) (open_effect flags mode c new) change process
          (rewrite_fits c.state Modified (found_ino c.first) (node_found c c.first) (record (node_found c c.first) { body = with_bytes [] (body_found c c.first) })
          (open_process c.process flags (found_ino c.first)) (Fd 0) is.state (first_at c is found)
          (bytes_may_replace c.state.room c.state.tree (found_ino c.first) (node_found c c.first) (first_is c is found) [] (omega arith) (λ i. omega arith))
          fits)
      go false fits process change =
          fits_as c.state (record { change = Same; process = open_process c.process flags (found_ino c.first); reply = Fd 0 })
          (open_effect flags mode c new) change process
          (no_change_fits c.state (open_process c.process flags (found_ino c.first)) (Fd 0) is.state fits)
