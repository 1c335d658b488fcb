use Rattle.std.proofs.Common.{sym, ap, ◌∙◌}
use Rattle.fs_cred.specs.declared.refusal.Need.TheVariants.{Own}
use Rattle.fs_cred.specs.Credentials.{Credential}
use Rattle.fs_cred.specs.Ownership.{Answer, may_own}
use Rattle.fs_model.specs.Demands.{allowed_by}
use Rattle.path_walk.proofs.Kept.{failed_with}
use Rattle.call_parts.specs.Telling.{checked}
use Rattle.call_parts.proofs.Calling.{met_ok}
use Rattle.call_parts.proofs.Reachings.{reach_owns, unowned}
use Rattle.call_parts.proofs.reaching.reach_owned.Goals as goal

pub returns-in_err-reached-clause-refused : goal.returns-in_err-reached-clause-refused
returns-in_err-reached-clause-refused g c =
    let r = c.from_residual.ensures in
    failed_with c.from_residual.result c.in_err-reached.field-0.0 _ r.0 r.1
    (λ s at. reach_owns (c.in_err-reached.ensures.refused s at))

pub returns-in_err-allowed_by-clause-refused : goal.returns-in_err-allowed_by-clause-refused
returns-in_err-allowed_by-clause-refused g c =
    let r = c.from_residual-in_err-allowed_by.ensures in
    let x = c.in_ok-reached.reached in
    let e = c.in_err-allowed_by.field-0.0 in
    let answer = c.may_own-answer.ensures.computed ∙ ap (λ (k : Credential). may_own k x.inode.uid) c.cred.ensures in
    failed_with c.from_residual-in_err-allowed_by.result e _ r.0 r.1
    (unowned e c.in_ok-reached.ensures.same c.in_ok-reached.ensures.reached
    (sym (ap (λ (a : Answer). checked (allowed_by 1 x.found.step Own a)) answer) ∙ sym c.in_err-allowed_by.ensures))

pub returns-clause-owned : goal.returns-clause-owned
returns-clause-owned g c =
    let x = c.in_ok-reached.reached in
    let answer = c.may_own-answer.ensures.computed ∙ ap (λ (k : Credential). may_own k x.inode.uid) c.cred.ensures in
    record {
      reached = c.in_ok-reached.ensures.reached;
      met = sym (ap (λ (a : Answer). allowed_by 1 x.found.step Own a) answer)
          ∙ (met_ok {A = Unit {0}} (allowed_by 1 x.found.step Own c.may_own-answer.result) tt tt (sym c.in_ok-allowed_by.ensures)).0;
    }
