use Rattle.std.proofs.Common.{◌≡◌, ◌∙◌, refl, inl, rules}
use Rattle.fs_model.specs.declared.event.Event.TheVariants.{Spawn}
use Rattle.fs_access.specs.Asking.{why_unanswered}
use Rattle.fs_access.proofs.Replies.{begins, cut}
use Rattle.fs_access.proofs.Steps.{asked_nothing, asked_one}
use Rattle.fs_access.proofs.asking.begin.Goals as goal

pub returns-in_default : goal.returns-in_default
returns-in_default g c = asked_nothing _ (inl refl)

pub returns-in-Pid : goal.returns-in-Pid
returns-in-Pid g c =
    asked_one (Spawn c.in-Ok.cred) c.serve-reply.result c.serve-reply.ensures
    (begins c.args.question.now c.in-Ok.cred c.serve-reply.result c.in-Pid.pid (c.in-Ok.ensures.same ∙ c.cred.ensures) c.in-Pid.is)

pub returns-in_default-reply : goal.returns-in_default-reply
returns-in_default-reply g c =
    let why : c.fault_in.result ≡ why_unanswered c.serve-reply.result = search rules in
    asked_one (Spawn c.in-Ok.cred) c.serve-reply.result c.serve-reply.ensures (cut (Spawn c.in-Ok.cred) c.serve-reply.result c.fault_in.result why)
