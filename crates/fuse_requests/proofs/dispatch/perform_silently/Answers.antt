use Rattle.std.specs.Prelude.{ℕ, Some, ◌∷◌, []}
use Rattle.std.proofs.Common.{refl, ap, ◌∙◌}
use Rattle.fuse_protocol.specs.declared.operation.Operation.{Operation}
use Rattle.fuse_plans.specs.Serving.{Silent, asked_for}
use Rattle.fuse_requests.proofs.Answerings.{is-silent}
use Rattle.fuse_requests.proofs.dispatch.perform_silently.Goals as goal

pub returns-in-Forget : goal.returns-in-Forget
returns-in-Forget g c asked value same =
    is-silent (ap (λ (o : Operation). asked_for asked value (Some o)) c.in-Forget.is ∙ ap (λ (node : ℕ). Silent (node ∷ [])) same) refl c.forget.ensures.kept

pub returns-in-BatchForget : goal.returns-in-BatchForget
returns-in-BatchForget g c asked value same =
    is-silent (ap (λ (o : Operation). asked_for asked value (Some o)) c.in-BatchForget.is) refl c.forget_all.ensures.kept

pub returns-in-Interrupt : goal.returns-in-Interrupt
returns-in-Interrupt g c asked value same =
    is-silent (ap (λ (o : Operation). asked_for asked value (Some o)) c.in-Interrupt.is) refl refl
