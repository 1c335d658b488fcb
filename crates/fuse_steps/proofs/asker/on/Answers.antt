use Rattle.std.specs.Prelude.{Ok, Option}
use Rattle.std.proofs.Common.{sym, ap, subst, ◌∙◌}
use Rattle.fs_cred.specs.declared.refusal.Refusal.{Refusal}
use Rattle.fs_model.specs.declared.event.Actor.{Actor}
use Rattle.fs_model.specs.declared.event.Event.TheVariants.{CallAt}
use Rattle.fuse_plans.specs.Callers.{of_object, on}
use Rattle.fuse_plans.specs.Works.{ask, fail}
use Rattle.fuse_steps.specs.Performing.{DidByMachine}
use Rattle.fuse_steps.proofs.Steps.{machine-ok, machine-result}
use Rattle.fuse_steps.proofs.asker.on.Goals as goal

pub returns-in-Some : goal.returns-in-Some
unfolding on
returns-in-Some g c =
    machine-ok _
    (subst (λ (a : Actor). DidByMachine g.M.Machine.Serves (ask (CallAt a c.args.call.now)) c.args.machine.now c.ask_at-reply.new.machine (Ok c.ask_at-reply.result))
    c.requires c.ask_at-reply.ensures)
    (machine-result (ap (λ (o : Option Refusal). of_object c.ask_at-reply.result o) (sym c.refusal_in.ensures ∙ c.in-Some.is) ∙ ap fail (sym c.object_error.ensures)))

pub returns-in-None : goal.returns-in-None
unfolding on
returns-in-None g c =
    machine-ok _
    (subst (λ (a : Actor). DidByMachine g.M.Machine.Serves (ask (CallAt a c.args.call.now)) c.args.machine.now c.ask_at-reply.new.machine (Ok c.ask_at-reply.result))
    c.requires c.ask_at-reply.ensures)
    (machine-result (ap (λ (o : Option Refusal). of_object c.ask_at-reply.result o) (sym c.refusal_in.ensures ∙ c.in-None.is)))
