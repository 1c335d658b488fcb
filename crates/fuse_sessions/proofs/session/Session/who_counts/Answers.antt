use Rattle.std.specs.Prelude.{Bool, Ok}
use Rattle.std.proofs.Common.{refl, sym, ap, ◌∙◌}
use Rattle.fuse_plans.specs.Nobody.{or_process}
use Rattle.fuse_sessions.proofs.Judging.{counts-nobody, counts-process, counts-user}
use Rattle.fuse_sessions.proofs.session.Session.who_counts.Goals as goal

pub returns-then-needs_nobody-clause-decided : goal.returns-then-needs_nobody-clause-decided
returns-then-needs_nobody-clause-decided g c =
    counts-nobody c.args.node c.args.uid c.args.operation.now c.args.self.now.server.server c.if-needs_nobody.true c.needs_nobody.ensures.decided

pub returns-in_default-clause-decided : goal.returns-in_default-clause-decided
returns-in_default-clause-decided g c =
    counts-process c.args.node c.args.uid c.args.operation.now c.args.self.now.server.server c.if-needs_nobody.false
    (sym c.asks_alone.ensures ∙ c.in_default.is) c.needs_nobody.ensures.decided

pub returns-then-granted-clause-decided : goal.returns-then-granted-clause-decided
returns-then-granted-clause-decided g c =
    counts-user c.args.node c.args.uid c.args.operation.now c.in-Some.want c.args.self.now c.if-needs_nobody.false c.needs_nobody.ensures.kept
    (sym c.asks_alone.ensures ∙ c.in-Some.is) c.needs_nobody.ensures.decided c.in-Ok.ensures.did
    (ap (λ (granted : Bool). or_process (Ok granted)) c.if-granted.true)

pub returns-else-granted-clause-decided : goal.returns-else-granted-clause-decided
returns-else-granted-clause-decided g c =
    counts-user c.args.node c.args.uid c.args.operation.now c.in-Some.want c.args.self.now c.if-needs_nobody.false c.needs_nobody.ensures.kept
    (sym c.asks_alone.ensures ∙ c.in-Some.is) c.needs_nobody.ensures.decided c.in-Ok.ensures.did
    (ap (λ (granted : Bool). or_process (Ok granted)) c.if-granted.false)

pub returns-in-Err-clause-decided : goal.returns-in-Err-clause-decided
returns-in-Err-clause-decided g c =
    counts-user c.args.node c.args.uid c.args.operation.now c.in-Some.want c.args.self.now c.if-needs_nobody.false c.needs_nobody.ensures.kept
    (sym c.asks_alone.ensures ∙ c.in-Some.is) c.needs_nobody.ensures.decided c.in-Err.ensures.did refl
