use Rattle.fuse_plans.specs.ListingPlans.{read_directory_plus}
use Rattle.fuse_plans.specs.declared.reply.ReplyBody.TheVariants.{Bytes}
use Rattle.fuse_sessions.proofs.Doings.{attempts, gives-as, then-fails, then-ok}
use Rattle.std.proofs.Common.{ap}
use Rattle.fuse_requests.proofs.lookups.read_directory_plus.Goals as goal

pub returns-in_err-list_kept : goal.returns-in_err-list_kept
unfolding read_directory_plus
returns-in_err-list_kept g c =
    then-ok _ (attempts _ c.the_number-place.ensures) (then-fails _ c.from_residual.ensures c.in_err-list_kept.ensures.failed)

pub returns : goal.returns
unfolding read_directory_plus
returns g c =
    let kept = c.in_ok-list_kept.ensures.listed in
    let told = (rw c.bounded-told.ensures at c.look_up_names-bytes.ensures) kept.names kept.kept in
    then-ok _ (attempts _ c.the_number-place.ensures) (then-ok _ kept.did (then-ok _ told.2 (gives-as (ap Bytes told.1))))
