use Rattle.std.proofs.Common.{◌∙◌, refl, inl}
use Rattle.fs_model.specs.declared.call.Call.TheVariants.{Access}
use Rattle.fs_model.specs.declared.event.Event.TheVariants.{Call as Calls}
use Rattle.fs_access.proofs.Replies.{heard_ends}
use Rattle.fs_access.proofs.Steps.{asked_nothing, asked_one}
use Rattle.fs_access.proofs.asking.hear.Goals as goal

pub returns-in_default : goal.returns-in_default
returns-in_default g c = asked_nothing _ (inl refl)

pub returns : goal.returns
returns g c =
    let event = Calls c.args.pid (Access c.in-Ok.path c.args.question.now.perms) in
    asked_one event c.serve-reply.result (rw (← c.perms.ensures) c.serve-reply.ensures)
    (heard_ends c.args.question.now c.args.pid c.in-Ok.path c.serve-reply.result c.heard_in.result (c.in-Ok.ensures ∙ c.path.ensures) c.heard_in.ensures)
