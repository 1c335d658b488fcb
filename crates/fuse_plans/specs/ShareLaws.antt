-- The laws of shares: what is kept for some is never taken by others, and they find it.
--     RequestsKeepShares        whatever is replied, no user opens more directories than it may
--     HasShare        one is kept for the user
--     DirectoriesAreFound        then there is one
use Rattle.std.specs.Prelude.{◌≡◌, ℕ, ◌<◌, List, length, Ok}
use Rattle.fs_model.specs.declared.event.Event.{Event}
use Rattle.fs_model.specs.declared.reply.Reply.{Reply}
use Rattle.fuse_state.specs.declared.shares.Shares.{Shares}
use Rattle.fuse_state.specs.Shares.{directory_shares, count_of, HasEach}
use Rattle.fuse_state.specs.Servers.{Server, directory_holders, with_opened, WithinShares}
use Rattle.fuse_plans.specs.declared.reply.Response.{Response}
use Rattle.fuse_plans.specs.Plans.{Finish, IsRunOf}
use Rattle.fuse_plans.specs.Requests.{Request}
use Rattle.fuse_plans.specs.DirectoryPlans.{opened_directory_body, take_directory}
use Rattle.fuse_plans.specs.Serving.{requests_plan}

-- Whatever was replied to requests, one after another.
abbrev pub RequestsKeepShares : Type 0
RequestsKeepShares =
    (rs : List Request) (s t : Server) (es : List Event) (replies : List Reply) (responses : List Response)
    → IsRunOf (requests_plan rs s) es replies (responses, t) → WithinShares s → WithinShares t

-- The first of a user, as long as not too many users hold some; and of user 0, as long as it holds less than its own part.
pub data HasShare (shares : Shares) (holders : List ℕ) (uid : ℕ) : Type 0 where
  as_further : 0 < uid → count_of holders uid ≡ 0 → (users : List ℕ) → HasEach users holders → length users < shares.firsts → HasShare shares holders uid
  as_root : uid ≡ 0 → count_of holders 0 < shares.of_root → HasShare shares holders uid

-- A user who has a share opens one more directory.
abbrev pub DirectoriesAreFound : Type 0
DirectoriesAreFound =
    (s : Server) (uid node : ℕ) → WithinShares s → HasShare directory_shares (directory_holders s) uid
    → take_directory uid node s ≡ Finish (Ok (opened_directory_body s.next_directory s), with_opened uid node s)
