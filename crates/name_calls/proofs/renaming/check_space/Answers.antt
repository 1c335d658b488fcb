use Rattle.std.proofs.Common.{◌≡◌, false, List, Err, sym, ap, subst, ◌∙◌}
use Rattle.std.specs.Prelude.{is_some}
use Rattle.fs_model.specs.Demands.{Demand, first_of}
use Rattle.fs_model.specs.RenameCall.{rename_space}
use Rattle.path_walk.specs.Answers.{IsAnswered}
use Rattle.call_parts.proofs.Calling.{state_tree}
use Rattle.path_walk.proofs.Kept.{answered_err}
use Rattle.call_parts.specs.Telling.{checked, scene_walked}
use Rattle.name_calls.proofs.ReplaceAsked.{room_is}
use Rattle.name_calls.proofs.renaming.check_space.Goals as goal

pub returns-in_err-ask_for_name : goal.returns-in_err-ask_for_name
returns-in_err-ask_for_name g c = record {
  each = λ st x.
      let k = c.from_residual.ensures in
      let r = x.3 in
      let w = c.args.walked.now in
      let old = g.S.Sectors.state c.args.s.now in
      let new = g.S.Sectors.state c.ask_for_name.new.s in
      let e = c.in_err-ask_for_name.field-0.0 in
      let none : is_some w.second.ino ≡ false = sym c.is_some.ensures ∙ c.if-is_some.false in
      answered_err {A = Unit {0}} old.disk new.disk (checked (first_of (rename_space (scene_walked w st)))) c.from_residual.result e k.0 k.1
      (subst (λ (ds : List Demand). IsAnswered {A = Unit {0}} old.disk new.disk (checked (first_of ds)) (Err e)) (sym (room_is r w.process none c.if-walked.false))
      (c.in_err-ask_for_name.ensures.each st.tree w.second.dir_ino (state_tree r.is_state) r.second.directory c.requires.directory));
  same = c.in_err-ask_for_name.ensures.same;
}

pub returns : goal.returns
returns g c = record {
  each = λ st x.
      let r = x.3 in
      let w = c.args.walked.now in
      let none : is_some w.second.ino ≡ false = sym c.is_some.ensures ∙ c.if-is_some.false in
      ap (λ (ds : List Demand). checked (first_of ds)) (room_is r w.process none c.if-walked.false)
      ∙ c.in_ok-ask_for_name.ensures.each st.tree w.second.dir_ino (state_tree r.is_state) r.second.directory c.requires.directory;
  same = c.in_ok-ask_for_name.ensures.same;
}
