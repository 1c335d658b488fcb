-- What is kept for some is never taken by others, and they find it.
--     requests_keep_shares
--     directories_are_found
use Rattle.std.specs.Prelude.{◌≡◌, ℕ, true, List, [], ◌∷◌}
use Rattle.std.proofs.Common.{sym, ap, subst}
use Rattle.fs_model.specs.declared.event.Event.{Event}
use Rattle.fs_model.specs.declared.reply.Reply.{Reply}
use Rattle.fuse_state.specs.declared.shares.Shares.{Shares}
use Rattle.fuse_state.specs.Shares.{directory_shares, may_hold, KeepsShares}
use Rattle.fuse_state.specs.Servers.{Server, directory_holders, WithinShares}
use Rattle.fuse_state.proofs.KeptShares.{further_may, root_may}
use Rattle.fuse_plans.specs.declared.reply.Response.{Response}
use Rattle.fuse_plans.specs.Plans.{IsRunOf}
use Rattle.fuse_plans.specs.Requests.{Request}
use Rattle.fuse_plans.specs.Works.{kept, keep, give, ◌>>=◌}
use Rattle.fuse_plans.specs.DirectoryPlans.{take_directory, take_directory_if}
use Rattle.fuse_plans.specs.ShareLaws.{RequestsKeepShares, HasShare, as_further, as_root, DirectoriesAreFound}
use Rattle.fuse_plans.specs.Serving.{keep_due_in, request_plan, served_plan, requests_plan}
use Rattle.fuse_plans.proofs.PlanLaws.{run-parts, run-finished}
use Rattle.fuse_plans.proofs.RequestConducts.{runs_behave}
use Rattle.fuse_plans.proofs.DueFirst.{kept_within}

-- ---- requests

-- behind what is due
served_keeps : (r : Request) (s : Server) (es : List Event) (replies : List Reply) (q : Response × Server)
    → IsRunOf (served_plan r s) es replies q → WithinShares s → WithinShares q.1
unfolding served_plan
served_keeps r s es replies q runs within =
    let parts = run-parts (keep_due_in r.operation r.now s) (λ u. request_plan r u.1) es replies q runs in
    (runs_behave r parts.middle.1 parts.later_events parts.later_replies q parts.later).1
    (kept_within r.operation r.now s parts.first_events parts.first_replies parts.middle parts.first within)

pub requests_keep_shares : RequestsKeepShares
unfolding requests_plan
requests_keep_shares [] s t es replies responses runs within =
    subst WithinShares (sym (ap (λ q. q.1) (run-finished ([], s) (responses, t) es replies runs))) within
requests_keep_shares (r ∷ rs) s t es replies responses runs within =
    let parts = run-parts (served_plan r s) _ es replies (responses, t) runs in
    let rest = run-parts (requests_plan rs parts.middle.1) _ parts.later_events parts.later_replies (responses, t) parts.later in
    let ends = run-finished (parts.middle.0 ∷ rest.middle.0, rest.middle.1) (responses, t) rest.later_events rest.later_replies rest.later in
    subst WithinShares (sym (ap (λ q. q.1) ends))
    (requests_keep_shares rs parts.middle.1 rest.middle.1 rest.first_events rest.first_replies rest.middle.0 rest.first
    (served_keeps r s parts.first_events parts.first_replies parts.middle parts.first within))

-- ---- who has a share

has_room_for : (shares : Shares) (holders : List ℕ) (uid : ℕ) → KeepsShares shares holders → HasShare shares holders uid → may_hold shares holders uid ≡ true
has_room_for shares holders uid keeps (as_further positive none users each few) = further_may shares holders uid keeps positive none users each few
has_room_for shares holders uid keeps (as_root is lt) = subst (λ u. may_hold shares holders u ≡ true) (sym is) (root_may shares holders lt)

pub directories_are_found : DirectoriesAreFound
unfolding take_directory kept keep give ◌>>=◌
directories_are_found s uid node within share =
    ap (λ b. take_directory_if uid node b s) (has_room_for directory_shares (directory_holders s) uid within.keeps share)
