use Rattle.std.proofs.Common.{◌≡◌, ◌∙◌, refl, ap, inl, drop, rules}
use Rattle.fs_model.specs.declared.call.Call.TheVariants.{Lstat}
use Rattle.fs_model.specs.declared.event.Event.TheVariants.{Call as Calls}
use Rattle.fs_access.specs.Asking.{why_unanswered}
use Rattle.fs_access.specs.Components.{prefix_of}
use Rattle.fs_access.proofs.Replies.{cut, looks}
use Rattle.fs_access.proofs.Steps.{asked_nothing, asked_one}
use Rattle.fs_access.proofs.asking.is_link.Goals as goal

pub returns-in_default : goal.returns-in_default
returns-in_default g c = asked_nothing _ (inl refl)

pub returns-in-Shown : goal.returns-in-Shown
returns-in-Shown g c =
    asked_one (Calls c.args.pid (Lstat c.in-Ok.path)) c.serve-reply.result c.serve-reply.ensures (
      c.in-Shown.status,
      looks c.args.question.now.path c.args.pid c.args.count c.in-Ok.path c.serve-reply.result c.in-Shown.status
          (c.in-Ok.ensures ∙ ap (λ path. drop 1 (prefix_of path c.args.count)) c.path.ensures) c.in-Shown.is,
      c.shows_link.ensures,
    )

pub returns-in_default-reply : goal.returns-in_default-reply
returns-in_default-reply g c =
    let why : c.fault_in.result ≡ why_unanswered c.serve-reply.result = search rules in
    asked_one (Calls c.args.pid (Lstat c.in-Ok.path)) c.serve-reply.result c.serve-reply.ensures
    (cut (Calls c.args.pid (Lstat c.in-Ok.path)) c.serve-reply.result c.fault_in.result why)
