use Rattle.std.proofs.Common.{ap, ◌∙◌}
use Rattle.fuse_plans.specs.DirectoryPlans.{read_directory, listing_bytes}
use Rattle.fuse_plans.specs.ListingOrder.{behind}
use Rattle.fuse_plans.specs.declared.reply.ReplyBody.TheVariants.{Bytes}
use Rattle.fuse_steps.proofs.Steps.{some-same}
use Rattle.fuse_sessions.proofs.Doings.{gives-as, then-fails, then-ok}
use Rattle.fuse_requests.proofs.directories.read_directory.Goals as goal

pub returns-in_err-list_kept : goal.returns-in_err-list_kept
unfolding read_directory
returns-in_err-list_kept g c = then-fails _ c.from_residual.ensures c.in_err-list_kept.ensures.failed

pub returns : goal.returns
unfolding read_directory
returns g c =
    then-ok _ c.in_ok-list_kept.ensures.listed.did
    (gives-as (ap Bytes c.listing_bytes.ensures
    ∙ ap (λ n. Bytes (listing_bytes c.args.extent.size (behind c.args.extent.offset n)))
    (some-same (c.in-Some.ensures ∙ c.in_ok-list_kept.ensures.listed.kept))))
