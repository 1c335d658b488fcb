use Rattle.fuse_plans.specs.declared.reply.ReplyBody.TheVariants.{Shown}
use Rattle.fuse_sessions.proofs.Doings.{reads-last, then-fails, then-ok}
use Rattle.std.proofs.Common.{ap}
use Rattle.fuse_requests.proofs.attributes.tell_attributes.Goals as goal

pub returns-in_err-stamps : goal.returns-in_err-stamps
returns-in_err-stamps g c = then-fails _ c.from_residual.ensures c.in_err-stamps.ensures.did

pub returns : goal.returns
returns g c = then-ok _ c.in_ok-stamps.ensures.did (reads-last _ _ (ap Shown c.attributes.ensures))
