use Rattle.fuse_plans.specs.declared.reply.ReplyBody.TheVariants.{Bytes}
use Rattle.fuse_sessions.proofs.Doings.{gives-as, needs-none, needs-some, then-fails, then-ok}
use Rattle.std.proofs.Common.{ap, sym, ◌∙◌}
use Rattle.fuse_requests.proofs.attributes.tell_target.Goals as goal

pub returns-in_err-reply : goal.returns-in_err-reply
returns-in_err-reply g c = then-fails _ c.from_residual.ensures (rw c.empty_path.ensures at c.in_err-reply.ensures.did)

pub returns-in_default : goal.returns-in_default
returns-in_default g c =
    then-ok _ (rw c.empty_path.ensures at c.in_ok-reply.ensures.did) (needs-none _ _ _ (sym c.in_default.ensures))

pub returns : goal.returns
returns g c =
    then-ok _ (rw c.empty_path.ensures at c.in_ok-reply.ensures.did) (needs-some _ _ (sym c.in-Some.ensures)
    (gives-as (ap Bytes (c.new.ensures ∙ c.into_bytes.ensures))))
