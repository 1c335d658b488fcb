use Rattle.std.proofs.Common.{sym}
use Rattle.block_map.proofs.Runs.{unchanged_joined}
use Rattle.call_parts.proofs.Calling.{state_tree, met_ok}
use Rattle.path_walk.proofs.Kept.{sound_kept}
use Rattle.call_parts.proofs.Refuses.{passed, passed_later, refused_by, answered_ok, tree_kept}
use Rattle.name_calls.proofs.ReplaceAsked.{granted, first_denied, second_denied, first_keeps, second_keeps, permissions_met}
use Rattle.name_calls.proofs.renaming.check_permissions.Goals as goal

pub ask_directory-requires : goal.ask_directory-requires
ask_directory-requires g c =
    let x = c.requires.found in
    let r = x.1.1 in
    record { sound = c.requires.sound; there = (x.0.tree, state_tree r.is_state, r.first.directory) }

pub returns-in_err-directory : goal.returns-in_err-directory
returns-in_err-directory g c = record {
  each = λ st x.
      let r = x.1 in
      passed (g.S.Sectors.state c.args.s.now).disk (g.S.Sectors.state c.ask_directory.new.s).disk _ _ _ c.from_residual.ensures
      (first_denied r c.args.walked.now.process) _ (c.in_err-directory.ensures.each st.tree (state_tree r.is_state) r.first.directory);
  same = c.in_err-directory.ensures.same;
}

pub ask_directory-requires-2 : goal.ask_directory-requires-2
ask_directory-requires-2 g c =
    let x = c.requires.found in
    let r = x.1.1 in
    let same = c.in_ok-directory.ensures.same in
    record { sound = sound_kept same c.requires.sound; there = (x.0.tree, tree_kept same (state_tree r.is_state), r.second.directory) }

pub returns-in_err-to_directory : goal.returns-in_err-to_directory
returns-in_err-to_directory g c = record {
  each = λ st x.
      let r = x.1 in
      let same = c.in_ok-directory.ensures.same in
      passed_later (g.S.Sectors.state c.ask_directory-2.new.s).disk _ _ _ c.from_residual-in_err-to_directory.ensures same
      (second_denied r c.args.walked.now.process (met_ok _ _ _ (c.in_ok-directory.ensures.each st.tree (state_tree r.is_state) r.first.directory)).0) _
      (c.in_err-to_directory.ensures.each st.tree (tree_kept same (state_tree r.is_state)) r.second.directory);
  same = unchanged_joined c.in_ok-directory.ensures.same c.in_err-to_directory.ensures.same;
}

pub returns-in_err-check_sticky : goal.returns-in_err-check_sticky
returns-in_err-check_sticky g c = record {
  each = λ st x. refused_by (g.S.Sectors.state c.args.s.now).disk (g.S.Sectors.state c.ask_directory-2.new.s).disk _ _ _ c.from_residual-in_err-check_sticky.ensures
      (first_keeps x.1 c.args.walked.now.process
      (granted x.1 c.args.walked.now.process c.in_ok-directory.ensures.same c.in_ok-directory.ensures.each c.in_ok-to_directory.ensures.each)) (sym c.in_err-check_sticky.ensures);
  same = unchanged_joined c.in_ok-directory.ensures.same c.in_ok-to_directory.ensures.same;
}

pub returns-in_err-check_sticky_there : goal.returns-in_err-check_sticky_there
returns-in_err-check_sticky_there g c = record {
  each = λ st x. refused_by (g.S.Sectors.state c.args.s.now).disk (g.S.Sectors.state c.ask_directory-2.new.s).disk _ _ _ c.from_residual-in_err-check_sticky_there.ensures
      (second_keeps x.1 c.args.walked.now.process
      (granted x.1 c.args.walked.now.process c.in_ok-directory.ensures.same c.in_ok-directory.ensures.each c.in_ok-to_directory.ensures.each) (sym c.in_ok-check_sticky.ensures))
      (sym c.in_err-check_sticky_there.ensures);
  same = unchanged_joined c.in_ok-directory.ensures.same c.in_ok-to_directory.ensures.same;
}

pub returns : goal.returns
returns g c = record {
  each = λ st x.
      let q = c.args.walked.now.process in
      let both = granted x.1 q c.in_ok-directory.ensures.same c.in_ok-directory.ensures.each c.in_ok-to_directory.ensures.each in
      answered_ok (permissions_met x.1 q both (sym c.in_ok-check_sticky.ensures) (sym c.in_ok-check_sticky_there.ensures)) (sym both.to_is);
  same = unchanged_joined c.in_ok-directory.ensures.same c.in_ok-to_directory.ensures.same;
}
