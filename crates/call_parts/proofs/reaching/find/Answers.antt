use Rattle.std.proofs.Common.{sym, subst, ◌<◌, ℕ, ◌≡◌, None}
use Rattle.bit_alloc.proofs.Transactions.{unchanged_nothing}
use Rattle.block_map.proofs.Runs.{unchanged_joined}
use Rattle.fs_model.specs.declared.walk.Found.{Found}
use Rattle.fs_model.specs.Demands.{first_of}
use Rattle.path_walk.specs.SoundInodes.{HasSoundInodes}
use Rattle.path_walk.proofs.HeldInodes.{held_inodes}
use Rattle.path_walk.proofs.HeldNodes.{number_below}
use Rattle.path_walk.proofs.Kept.{kept, sound_kept, answered_err, if_err}
use Rattle.call_parts.specs.Callers.{who_of, path_asked}
use Rattle.call_parts.specs.Paths.{walk_by}
use Rattle.call_parts.proofs.Calling.{state_tree, same_caller, state_kept}
use Rattle.call_parts.proofs.Finding.{unfit_path, refused_not_met, met_not_refused, from_starts, walk_found_by, walk_not_by}
use Rattle.call_parts.proofs.Refuses.{demand_met}
use Rattle.call_parts.proofs.Starts.{path_fits, first_start_there}
use Rattle.call_parts.proofs.reaching.find.Goals as goal

pub returns-in_err-check_from : goal.returns-in_err-check_from
returns-in_err-check_from g c =
    let r = c.from_residual.ensures in
    let asked = first_of (path_asked (who_of c.args.caller.now.by) c.args.path.now) in
    let e = c.in_err-check_from.field-0.0 in
    record {
      checked = unfit_path asked c.from_residual.result e r.0 r.1 (sym c.in_err-check_from.ensures);
      each = λ fit. absurd (refused_not_met asked e (sym c.in_err-check_from.ensures) fit);
      valid = if_err (λ (found : Found). asked ≡ None) c.from_residual.result r.0;
      same = unchanged_nothing;
    }

pub check_starts-requires : goal.check_starts-requires
check_starts-requires g c = c.requires.ready.sound

pub returns-in_err-check_starts : goal.returns-in_err-check_starts
returns-in_err-check_starts g c =
    let r = c.from_residual-in_err-check_starts.ensures in
    let asked = first_of (path_asked (who_of c.args.caller.now.by) c.args.path.now) in
    let e = c.in_err-check_starts.field-0.0 in
    record {
      checked = λ x some. absurd (met_not_refused asked x (sym c.in_ok-check_from.ensures) some);
      each = λ fit s at.
          answered_err (g.S.Sectors.state c.args.s.now).disk (g.S.Sectors.state c.check_starts.new.s).disk (walk_by s (who_of c.args.caller.now.by) c.args.process.now c.args.links c.args.form c.args.path.now) c.from_residual-in_err-check_starts.result e r.0 r.1
          (from_starts s (who_of c.args.caller.now.by) c.args.process.now c.args.links c.args.form c.args.path.now (g.S.Sectors.state c.args.s.now).disk (g.S.Sectors.state c.check_starts.new.s).disk e (c.in_err-check_starts.ensures.each s.tree (state_tree at)));
      valid = if_err (λ (found : Found). asked ≡ None) c.from_residual-in_err-check_starts.result r.0;
      same = c.in_err-check_starts.ensures.same;
    }

pub walk-requires : goal.walk-requires
walk-requires g c =
    let same = c.in_ok-check_starts.ensures.same in
    let ready = c.requires.ready in
    let at = ready.is_state in
    let who = who_of c.args.caller.now.by in
    let there = first_start_there ready.state c.args.process.now c.args.links c.args.path.now at.is_state at.up who (same_caller at who c.args.process.now c.requires.stands)
    (demand_met _ (c.in_ok-check_starts.ensures.each ready.state.tree (state_tree at))) in
    record {
      sound = sound_kept same ready.sound;
      inodes = kept (HasSoundInodes c.args.caller.now.geometry) same (held_inodes (state_tree at));
      start = subst (λ (n : ℕ). n < c.args.caller.now.geometry.inodes) (sym c.first_start-start.ensures) (number_below (state_tree at) _ there);
      short = (path_fits who c.args.path.now (demand_met _ (sym c.in_ok-check_from.ensures))).short;
    }

pub returns-in_err-found : goal.returns-in_err-found
returns-in_err-found g c =
    let r = c.from_residual-in_err-found.ensures in
    let asked = first_of (path_asked (who_of c.args.caller.now.by) c.args.path.now) in
    let e = c.in_err-found.field-0.0 in
    let same = c.in_ok-check_starts.ensures.same in
    record {
      checked = λ x some. absurd (met_not_refused asked x (sym c.in_ok-check_from.ensures) some);
      each = λ fit s at.
          answered_err (g.S.Sectors.state c.args.s.now).disk (g.S.Sectors.state c.walk.new.s).disk (walk_by s (who_of c.args.caller.now.by) c.args.process.now c.args.links c.args.form c.args.path.now) c.from_residual-in_err-found.result e r.0 r.1
          (walk_not_by {mid = g.S.Sectors.state c.check_starts.new.s} at (who_of c.args.caller.now.by) c.args.process.now c.args.links c.args.form c.args.path.now c.requires.stands
          (c.in_ok-check_starts.ensures.each s.tree (state_tree at)) same c.cred-cred.ensures c.first_start-start.ensures (g.S.Sectors.state c.walk.new.s).disk e
          (c.in_err-found.ensures.each s.tree (state_tree (state_kept same at))));
      valid = if_err (λ (found : Found). asked ≡ None) c.from_residual-in_err-found.result r.0;
      same = unchanged_joined same c.in_err-found.ensures.same;
    }

pub returns : goal.returns
returns g c =
    let asked = first_of (path_asked (who_of c.args.caller.now.by) c.args.path.now) in
    let same = c.in_ok-check_starts.ensures.same in
    record {
      checked = λ x some. absurd (met_not_refused asked x (sym c.in_ok-check_from.ensures) some);
      each = λ fit s at.
          walk_found_by {mid = g.S.Sectors.state c.check_starts.new.s} at (who_of c.args.caller.now.by) c.args.process.now c.args.links c.args.form c.args.path.now c.requires.stands
          (c.in_ok-check_starts.ensures.each s.tree (state_tree at)) same c.cred-cred.ensures c.first_start-start.ensures c.in_ok-found.found
          (c.in_ok-found.ensures.each s.tree (state_tree (state_kept same at)));
      valid = demand_met asked (sym c.in_ok-check_from.ensures);
      same = unchanged_joined same c.in_ok-found.ensures.same;
    }
