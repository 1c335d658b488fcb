use Rattle.std.proofs.Common.{sym, ◌∙◌}
use Rattle.fs_model.specs.Demands.{first_of}
use Rattle.block_map.proofs.Runs.{unchanged_joined}
use Rattle.call_parts.proofs.Calling.{state_tree, met_ok}
use Rattle.path_walk.proofs.Kept.{sound_kept}
use Rattle.call_parts.proofs.Refuses.{passed, passed_later, answered_ok, demand_met}
use Rattle.name_calls.specs.Replacing.{move_asked}
use Rattle.call_parts.specs.TwoPaths.{scene_with}
use Rattle.name_calls.proofs.RenameRows.{both_there, names_refuse, move_refuses, same_met, move_met, to_rename, same_is}
use Rattle.name_calls.proofs.ReplaceAsked.{to_rename_kept}
use Rattle.name_calls.proofs.renaming.check_rename.Goals as goal

pub check_renamed-requires : goal.check_renamed-requires
check_renamed-requires g c = let x = c.requires.found in record { sound = c.requires.sound; there = (x.0.tree, state_tree x.1.is_state, both_there x.1) }

pub returns-in_err-ino : goal.returns-in_err-ino
returns-in_err-ino g c = record {
  each = λ st i.
      passed (g.S.Sectors.state c.args.s.now).disk (g.S.Sectors.state c.check_renamed.new.s).disk _ _ _ c.from_residual.ensures
      (names_refuse st c.args.walked.now.process c.args.walked.now.first c.args.walked.now.second) _
      (c.in_err-ino.ensures.each st.tree (state_tree i.is_state) (both_there i));
  same = c.in_err-ino.ensures.same;
}

pub returns-then-is_same : goal.returns-then-is_same
returns-then-is_same g c = record {
  each = λ st i.
      let q = c.args.walked.now.process in
      let told = c.in_ok-ino.ensures.each st.tree (state_tree i.is_state) (both_there i) in
      let r = to_rename i told in
      answered_ok (same_met st q c.args.walked.now.first c.args.walked.now.second r.0 (same_is q r.1 ∙ sym c.is_same.ensures ∙ c.if-is_same.true)) (met_ok _ _ _ told).1;
  same = c.in_ok-ino.ensures.same;
}

pub check_move-requires : goal.check_move-requires
check_move-requires g c =
    let x = c.requires.found in
    let i = x.1 in
    let same = c.in_ok-ino.ensures.same in
    record {
      sound = sound_kept same c.requires.sound;
      found = (x.0, to_rename_kept same (to_rename i (c.in_ok-ino.ensures.each x.0.tree (state_tree i.is_state) (both_there i))).1);
    }

pub returns-in_err-check_move : goal.returns-in_err-check_move
returns-in_err-check_move g c = record {
  each = λ st i.
      let q = c.args.walked.now.process in
      let same = c.in_ok-ino.ensures.same in
      let r = to_rename i (c.in_ok-ino.ensures.each st.tree (state_tree i.is_state) (both_there i)) in
      passed_later (g.S.Sectors.state c.check_move.new.s).disk _ _ _ c.from_residual-in_err-check_move.ensures same
      (move_refuses st q c.args.walked.now.first c.args.walked.now.second r.0 (same_is q r.1 ∙ sym c.is_same.ensures ∙ c.if-is_same.false)) tt
      (c.in_err-check_move.ensures.each st (to_rename_kept same r.1));
  same = unchanged_joined c.in_ok-ino.ensures.same c.in_err-check_move.ensures.same;
}

pub returns : goal.returns
returns g c = record {
  each = λ st i.
      let a = c.args.walked.now.first in
      let b = c.args.walked.now.second in
      let q = c.args.walked.now.process in
      let told = c.in_ok-ino.ensures.each st.tree (state_tree i.is_state) (both_there i) in
      let r = to_rename i told in
      answered_ok
      (move_met st q a b r.0 (same_is q r.1 ∙ sym c.is_same.ensures ∙ c.if-is_same.false)
      (demand_met (first_of (move_asked (scene_with st q a b))) (c.in_ok-check_move.ensures.each st (to_rename_kept c.in_ok-ino.ensures.same r.1))))
      (met_ok _ _ _ told).1;
  same = unchanged_joined c.in_ok-ino.ensures.same c.in_ok-check_move.ensures.same;
}
