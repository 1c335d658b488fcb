use Rattle.std.proofs.Common.{sym, subst, ◌<◌, ◌≡◌, ℕ, Ok, Err, None}
use Rattle.bit_alloc.proofs.Transactions.{unchanged_nothing}
use Rattle.block_map.proofs.Runs.{unchanged_joined}
use Rattle.fs_model.specs.declared.walk.Form.TheVariants.{Parent}
use Rattle.fs_model.specs.declared.walk.Found.{Found}
use Rattle.fs_model.specs.Demands.{first_of}
use Rattle.path_walk.specs.SoundInodes.{HasSoundInodes}
use Rattle.path_walk.proofs.HeldInodes.{held_inodes}
use Rattle.path_walk.proofs.HeldNodes.{number_below}
use Rattle.path_walk.proofs.Kept.{kept, sound_kept, answered_err, if_err}
use Rattle.call_parts.specs.Callers.{who_of}
use Rattle.call_parts.specs.TwoPaths.{both_asked, walks_by}
use Rattle.call_parts.proofs.ByTwoPaths.{both_fit, first_unfit, second_unfit, first_not_met, second_not_met, both_met_not, starts_refused, first_walk_refused, second_walk_refused, both_walked}
use Rattle.call_parts.proofs.Calling.{state_tree, same_caller, state_kept, answered_later}
use Rattle.call_parts.proofs.Finding.{walked_from}
use Rattle.call_parts.proofs.Refuses.{demand_met}
use Rattle.call_parts.proofs.Starts.{path_fits, first_start_there, second_start_there}
use Rattle.call_parts.proofs.reaching.find_names.Goals as goal

pub returns-in_err-check_from : goal.returns-in_err-check_from
returns-in_err-check_from g c =
    let r = c.from_residual.ensures in
    let who = who_of c.args.caller.now.by in
    let e = c.in_err-check_from.field-0.0 in
    record {
      checked = first_unfit who c.args.old.now c.args.new.now c.from_residual.result e r.0 r.1 (sym c.in_err-check_from.ensures);
      each = λ fit. absurd (first_not_met who c.args.old.now c.args.new.now e (sym c.in_err-check_from.ensures) fit);
      valid = if_err (λ (found : Found × Found). first_of (both_asked who c.args.old.now c.args.new.now) ≡ None) c.from_residual.result r.0;
      old_bytes = c.bytes-old_bytes.ensures.valid;
      new_bytes = c.bytes-new_bytes.ensures.valid;
      same = unchanged_nothing;
    }

pub returns-in_err-check_from-2 : goal.returns-in_err-check_from-2
returns-in_err-check_from-2 g c =
    let r = c.from_residual-in_err-check_from-2.ensures in
    let who = who_of c.args.caller.now.by in
    let e = c.in_err-check_from-2.field-0.0 in
    let met = sym c.in_ok-check_from.ensures in
    record {
      checked = second_unfit who c.args.old.now c.args.new.now c.from_residual-in_err-check_from-2.result e r.0 r.1 met (sym c.in_err-check_from-2.ensures);
      each = λ fit. absurd (second_not_met who c.args.old.now c.args.new.now e met (sym c.in_err-check_from-2.ensures) fit);
      valid = if_err (λ (found : Found × Found). first_of (both_asked who c.args.old.now c.args.new.now) ≡ None) c.from_residual-in_err-check_from-2.result r.0;
      old_bytes = c.bytes-old_bytes.ensures.valid;
      new_bytes = c.bytes-new_bytes.ensures.valid;
      same = unchanged_nothing;
    }

pub check_starts-requires : goal.check_starts-requires
check_starts-requires g c = c.requires.ready.sound

pub returns-in_err-check_starts : goal.returns-in_err-check_starts
returns-in_err-check_starts g c =
    let r = c.from_residual-in_err-check_starts.ensures in
    let who = who_of c.args.caller.now.by in
    let q = c.args.process.now in
    let old = g.S.Sectors.state c.args.s.now in
    let new = g.S.Sectors.state c.check_starts.new.s in
    let e = c.in_err-check_starts.field-0.0 in
    let fits = both_fit who c.args.old.now c.args.new.now (sym c.in_ok-check_from.ensures) (sym c.in_ok-check_from-2.ensures) in
    record {
      checked = λ x some. absurd (both_met_not who c.args.old.now c.args.new.now x some fits);
      each = λ fit s at.
          answered_err {A = Found × Found} old.disk new.disk (walks_by s who q c.args.links c.args.old.now c.args.new.now) c.from_residual-in_err-check_starts.result e r.0 r.1
          (starts_refused s who q c.args.links c.args.old.now c.args.new.now old.disk new.disk e (c.in_err-check_starts.ensures.each s.tree (state_tree at)));
      valid = if_err (λ (found : Found × Found). first_of (both_asked who c.args.old.now c.args.new.now) ≡ None) c.from_residual-in_err-check_starts.result r.0;
      old_bytes = c.bytes-old_bytes.ensures.valid;
      new_bytes = c.bytes-new_bytes.ensures.valid;
      same = c.in_err-check_starts.ensures.same;
    }

pub walk-requires : goal.walk-requires
walk-requires g c =
    let same = c.in_ok-check_starts.ensures.same in
    let ready = c.requires.ready in
    let at = ready.is_state in
    let who = who_of c.args.caller.now.by in
    let there = first_start_there ready.state c.args.process.now c.args.links c.args.old.now at.is_state at.up who (same_caller at who c.args.process.now c.requires.stands)
    (demand_met _ (c.in_ok-check_starts.ensures.each ready.state.tree (state_tree at))) in
    record {
      sound = sound_kept same ready.sound;
      inodes = kept (HasSoundInodes c.args.caller.now.geometry) same (held_inodes (state_tree at));
      start = subst (λ (n : ℕ). n < c.args.caller.now.geometry.inodes) (sym c.first_start-start.ensures) (number_below (state_tree at) _ there);
      short = (path_fits who c.args.old.now (demand_met _ (sym c.in_ok-check_from.ensures))).short;
    }

pub returns-in_err-first : goal.returns-in_err-first
returns-in_err-first g c =
    let r = c.from_residual-in_err-first.ensures in
    let who = who_of c.args.caller.now.by in
    let q = c.args.process.now in
    let old = g.S.Sectors.state c.args.s.now in
    let mid = g.S.Sectors.state c.check_starts.new.s in
    let new = g.S.Sectors.state c.walk.new.s in
    let e = c.in_err-first.field-0.0 in
    let same = c.in_ok-check_starts.ensures.same in
    let fits = both_fit who c.args.old.now c.args.new.now (sym c.in_ok-check_from.ensures) (sym c.in_ok-check_from-2.ensures) in
    record {
      checked = λ x some. absurd (both_met_not who c.args.old.now c.args.new.now x some fits);
      each = λ fit s at.
          let started = c.in_ok-check_starts.ensures.each s.tree (state_tree at) in
          let there = first_start_there s q c.args.links c.args.old.now at.is_state at.up who (same_caller at who q c.requires.stands) (demand_met _ started) in
          answered_err {A = Found × Found} old.disk new.disk (walks_by s who q c.args.links c.args.old.now c.args.new.now) c.from_residual-in_err-first.result e r.0 r.1
          (answered_later {A = Found × Found} {mid = mid} {right = walks_by s who q c.args.links c.args.old.now c.args.new.now} new.disk same
          (first_walk_refused s who q c.args.links c.args.old.now c.args.new.now mid.disk new.disk started e
          (walked_from at mid.disk new.disk 1 Parent c.args.old.now (Err e) c.cred-cred.ensures c.first_start-start.ensures there (c.in_err-first.ensures.each s.tree (state_tree (state_kept same at))))));
      valid = if_err (λ (found : Found × Found). first_of (both_asked who c.args.old.now c.args.new.now) ≡ None) c.from_residual-in_err-first.result r.0;
      old_bytes = c.bytes-old_bytes.ensures.valid;
      new_bytes = c.bytes-new_bytes.ensures.valid;
      same = unchanged_joined same c.in_err-first.ensures.same;
    }

pub walk-requires-2 : goal.walk-requires-2
walk-requires-2 g c =
    let same = unchanged_joined c.in_ok-check_starts.ensures.same c.in_ok-first.ensures.same in
    let ready = c.requires.ready in
    let at = ready.is_state in
    let who = who_of c.args.caller.now.by in
    let there = second_start_there ready.state c.args.process.now c.args.links c.args.old.now at.is_state at.up who (same_caller at who c.args.process.now c.requires.stands)
    (demand_met _ (c.in_ok-check_starts.ensures.each ready.state.tree (state_tree at))) in
    record {
      sound = sound_kept same ready.sound;
      inodes = kept (HasSoundInodes c.args.caller.now.geometry) same (held_inodes (state_tree at));
      start = subst (λ (n : ℕ). n < c.args.caller.now.geometry.inodes) (sym c.second_start-second_start.ensures) (number_below (state_tree at) _ there);
      short = (path_fits who c.args.new.now (demand_met _ (sym c.in_ok-check_from-2.ensures))).short;
    }

pub returns-in_err-second : goal.returns-in_err-second
returns-in_err-second g c =
    let r = c.from_residual-in_err-second.ensures in
    let who = who_of c.args.caller.now.by in
    let q = c.args.process.now in
    let old = g.S.Sectors.state c.args.s.now in
    let mid = g.S.Sectors.state c.check_starts.new.s in
    let third = g.S.Sectors.state c.walk.new.s in
    let new = g.S.Sectors.state c.walk-2.new.s in
    let e = c.in_err-second.field-0.0 in
    let same = c.in_ok-check_starts.ensures.same in
    let later = unchanged_joined same c.in_ok-first.ensures.same in
    let fits = both_fit who c.args.old.now c.args.new.now (sym c.in_ok-check_from.ensures) (sym c.in_ok-check_from-2.ensures) in
    record {
      checked = λ x some. absurd (both_met_not who c.args.old.now c.args.new.now x some fits);
      each = λ fit s at.
          let started = c.in_ok-check_starts.ensures.each s.tree (state_tree at) in
          let here = same_caller at who q c.requires.stands in
          let there = first_start_there s q c.args.links c.args.old.now at.is_state at.up who here (demand_met _ started) in
          let second_there = second_start_there s q c.args.links c.args.old.now at.is_state at.up who here (demand_met _ started) in
          answered_err {A = Found × Found} old.disk new.disk (walks_by s who q c.args.links c.args.old.now c.args.new.now) c.from_residual-in_err-second.result e r.0 r.1
          (answered_later {A = Found × Found} {mid = third} {right = walks_by s who q c.args.links c.args.old.now c.args.new.now} new.disk later
          (second_walk_refused s who q c.args.links c.args.old.now c.args.new.now third.disk new.disk started c.in_ok-first.first
          (walked_from at mid.disk third.disk 1 Parent c.args.old.now (Ok c.in_ok-first.first) c.cred-cred.ensures c.first_start-start.ensures there (c.in_ok-first.ensures.each s.tree (state_tree (state_kept same at)))) e
          (walked_from at third.disk new.disk 2 Parent c.args.new.now (Err e) c.cred-cred.ensures c.second_start-second_start.ensures second_there (c.in_err-second.ensures.each s.tree (state_tree (state_kept later at))))));
      valid = if_err (λ (found : Found × Found). first_of (both_asked who c.args.old.now c.args.new.now) ≡ None) c.from_residual-in_err-second.result r.0;
      old_bytes = c.bytes-old_bytes.ensures.valid;
      new_bytes = c.bytes-new_bytes.ensures.valid;
      same = unchanged_joined later c.in_err-second.ensures.same;
    }

pub returns : goal.returns
returns g c =
    let who = who_of c.args.caller.now.by in
    let q = c.args.process.now in
    let old = g.S.Sectors.state c.args.s.now in
    let mid = g.S.Sectors.state c.check_starts.new.s in
    let third = g.S.Sectors.state c.walk.new.s in
    let new = g.S.Sectors.state c.walk-2.new.s in
    let same = c.in_ok-check_starts.ensures.same in
    let later = unchanged_joined same c.in_ok-first.ensures.same in
    let fits = both_fit who c.args.old.now c.args.new.now (sym c.in_ok-check_from.ensures) (sym c.in_ok-check_from-2.ensures) in
    record {
      checked = λ x some. absurd (both_met_not who c.args.old.now c.args.new.now x some fits);
      each = λ fit s at.
          let started = c.in_ok-check_starts.ensures.each s.tree (state_tree at) in
          let here = same_caller at who q c.requires.stands in
          let there = first_start_there s q c.args.links c.args.old.now at.is_state at.up who here (demand_met _ started) in
          let second_there = second_start_there s q c.args.links c.args.old.now at.is_state at.up who here (demand_met _ started) in
          both_walked s who q c.args.links c.args.old.now c.args.new.now third.disk new.disk started c.in_ok-first.first
          (walked_from at mid.disk third.disk 1 Parent c.args.old.now (Ok c.in_ok-first.first) c.cred-cred.ensures c.first_start-start.ensures there (c.in_ok-first.ensures.each s.tree (state_tree (state_kept same at))))
          c.in_ok-second.second
          (walked_from at third.disk new.disk 2 Parent c.args.new.now (Ok c.in_ok-second.second) c.cred-cred.ensures c.second_start-second_start.ensures second_there (c.in_ok-second.ensures.each s.tree (state_tree (state_kept later at))));
      valid = fits;
      old_bytes = c.bytes-old_bytes.ensures.valid;
      new_bytes = c.bytes-new_bytes.ensures.valid;
      same = unchanged_joined later c.in_ok-second.ensures.same;
    }
