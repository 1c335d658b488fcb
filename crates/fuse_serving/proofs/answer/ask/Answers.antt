use Rattle.std.proofs.Common.{Option, Some, true, subst}
use Rattle.fs_cred.specs.Credentials.{Credential}
use Rattle.fuse_plans.specs.Plans.{CarriesOut}
use Rattle.fuse_plans.specs.Serving.{answered, asked_for}
use Rattle.fuse_serving.proofs.answer.ask.Goals as goal

pub returns-clause-answered : goal.returns-clause-answered
returns-clause-answered g c =
    let p = g.P.Performer in
    let spoken = c.args.spoken.now in
    let old = c.args.performer.now in
    let new = c.perform.new.self in
    record {
      acl = c.in_ok-value.value;
      has_value = c.in_ok-value.ensures;
      performs = subst
          (λ (cred : Option Credential). CarriesOut p.Serves (answered true (asked_for (record { node = spoken.node; needs_nobody = c.args.asker.now.needs_nobody; cred = cred; now = c.args.asker.now.time }) c.in_ok-value.value (Some spoken.operation)) (p.server old)) (p.machine old) (p.machine new) (c.in_ok-response.response, p.server new))
          c.in_ok-cred.ensures c.in_ok-response.ensures.performed;
    }
