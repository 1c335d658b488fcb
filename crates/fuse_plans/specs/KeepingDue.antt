-- The laws of what is due: what was done is made to last in time, whatever is asked meanwhile.
--     DueIsKeptFirst        where it is due, that is asked for first
--     NothingIsKeptBefore        where it isn't due, or the request isn't of its form, nothing is asked for it
--     UndueIsRecent        where it isn't due, all was made to last only so long ago
--     clock_of, RequestsLeaveTheClock        whatever is replied, a request itself moves nothing of that
--     IsInTime, AreKept        requests one after another, and where among what is asked for them a sync comes
--     RequestsAreKeptInTime        so it is, whatever is asked and replied
use Rattle.std.specs.Prelude.{◌≡◌, ℕ, ◌+◌, ◌*◌, ◌<◌, ◌≤◌, ◌⊎◌, List, [], ◌∷◌, ◌++◌, None, Some, IsTrue, IsFalse}
use Rattle.fs_model.specs.declared.event.Event.{Event}
use Rattle.fs_model.specs.declared.event.Event.TheVariants.{Sync}
use Rattle.fs_model.specs.declared.reply.Reply.{Reply}
use Rattle.fuse_protocol.specs.declared.operation.Operation.{Operation}
use Rattle.fuse_protocol.specs.declared.reply.Time.{Time}
use Rattle.fuse_state.specs.Servers.{Server, with_kept_at}
use Rattle.fuse_state.specs.Stamps.{second}
use Rattle.fuse_plans.specs.declared.reply.Response.{Response}
use Rattle.fuse_plans.specs.Plans.{Ask, IsRunOf}
use Rattle.fuse_plans.specs.Requests.{Request}
use Rattle.fuse_plans.specs.Serving.{is_due, request_plan, served_plan, requests_plan}

-- Whatever is replied: first a sync of all is asked, and from then on the server counts from the time of the request.
abbrev pub DueIsKeptFirst : Type 0
DueIsKeptFirst =
    (r : Request) (operation : Operation) (s : Server) → r.operation ≡ Some operation → IsTrue (is_due s r.now)
    → served_plan r s ≡ Ask Sync (λ reply. request_plan r (with_kept_at r.now s))

-- Nothing is asked for it, and the server is as it was.
abbrev pub NothingIsKeptBefore : Type 0
NothingIsKeptBefore =
    (r : Request) (s : Server) → IsFalse (is_due s r.now) ⊎ (r.operation ≡ None) → served_plan r s ≡ request_plan r s

-- in nanoseconds
abbrev pub moment : Time → ℕ
moment time = time.seconds * second + time.nanoseconds

-- All was made to last before, and less than so many seconds ago.
abbrev pub UndueIsRecent : Type 0
UndueIsRecent =
    (s : Server) (now : Time) → 0 < s.settings.commit → now.nanoseconds < second → IsFalse (is_due s now)
    → (s.kept_at.seconds ≤ now.seconds) × (moment now < moment s.kept_at + s.settings.commit * second)

-- ---- requests one after another

-- from when on is counted, and so many seconds
abbrev pub clock_of : Server → Time × ℕ
clock_of s = (s.kept_at, s.settings.commit)

-- Whatever is replied, the request itself moves neither.
abbrev pub RequestsLeaveTheClock : Type 0
RequestsLeaveTheClock =
    (r : Request) (s t : Server) (response : Response) (es : List Event) (replies : List Reply)
    → IsRunOf (request_plan r s) es replies (response, t) → clock_of t ≡ clock_of s

-- No sync is due for the request.
pub data IsInTime (commit : ℕ) (kept_at : Time) (r : Request) : Type 0 where
  never_due : commit ≡ 0 → IsInTime commit kept_at r
  not_of_form : r.operation ≡ None → IsInTime commit kept_at r
  -- all was made to last before it, and less than so many seconds ago
  recent : kept_at.seconds ≤ r.now.seconds → r.now.seconds < kept_at.seconds + commit → IsInTime commit kept_at r

-- The server made all last at this time, or began; and for the requests that follow these events are asked, with their replies. For each they are
-- those of its plan. Before these of one that isn't in time comes a sync of all, and then its time counts.
pub data AreKept (commit : ℕ) : Time → List Request → List Event → List Reply → Type 0 where
  no_request : (kept_at : Time) → AreKept commit kept_at [] [] []
  in_time : (kept_at : Time) (r : Request) (rs : List Request) (s : Server) (result : Response × Server) (first es : List Event) (replied replies : List Reply)
      → IsInTime commit kept_at r → IsRunOf (request_plan r s) first replied result → AreKept commit kept_at rs es replies
      → AreKept commit kept_at (r ∷ rs) (first ++ es) (replied ++ replies)
  synced : (kept_at : Time) (r : Request) (rs : List Request) (s : Server) (result : Response × Server) (reply : Reply)
      (first es : List Event) (replied replies : List Reply)
      → IsRunOf (request_plan r s) first replied result → AreKept commit r.now rs es replies
      → AreKept commit kept_at (r ∷ rs) (Sync ∷ first ++ es) (reply ∷ replied ++ replies)

-- So it is, whatever is asked and replied.
abbrev pub RequestsAreKeptInTime : Type 0
RequestsAreKeptInTime =
    (rs : List Request) (s t : Server) (es : List Event) (replies : List Reply) (responses : List Response)
    → IsRunOf (requests_plan rs s) es replies (responses, t) → AreKept s.settings.commit s.kept_at rs es replies
