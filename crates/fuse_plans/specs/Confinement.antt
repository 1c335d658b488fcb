-- Confinement of those who use a mount: what they can't read has no part in what their requests are answered. Our own words.
--     IsRequestOf        a request of someone outside
--     HasThen        what they have then
--     IsPerformed        a machine performs it
--     PerformedAlike        two machines perform it in the same way, and are alike then
--     RequestsConfined        the law for one request
--     Turn, given_to, AreTurnsFrom        several, one after another
--     MayHave, ArePerformedFor        what they may be given in between; each is for them
--     RequestRunsConfined        the law for these
use Rattle.std.specs.Prelude.{◌≡◌, ℕ, ◌==◌, List, [], ◌∷◌, map, Some, IsTrue, IsFalse, All, ◌⊎◌}
use Rattle.std.specs.List.{list_any, zip}
use Rattle.std.specs.Ordering.{nat_cmp}
use Rattle.fs_cred.specs.Credentials.{Credential}
use Rattle.fs_layout.specs.Maps.{get}
use Rattle.fs_model.specs.declared.event.Event.{Event}
use Rattle.fs_model.specs.declared.reply.Reply.{Reply}
use Rattle.fs_model.specs.Nodes.{Node}
use Rattle.fs_model.specs.Trees.{node_at}
use Rattle.fs_model.specs.Processes.{Descriptor}
use Rattle.fs_model.specs.States.{State, IsState}
use Rattle.fs_model.specs.Alike.{sees_into}
use Rattle.fs_model.specs.Steps.{Choice}
use Rattle.fs_model.specs.Ranges.{IsEvent}
use Rattle.fs_model.specs.Confinement.{IsConfined, RunBy}
use Rattle.fs_model.specs.Outsiders.{Outsider, sight, AreAlikeTo, AreOpen, IsItsEvent, after_answer, LeadsTo}
use Rattle.fuse_state.specs.Servers.{Server}
use Rattle.fuse_plans.specs.declared.reply.Response.{Response}
use Rattle.fuse_plans.specs.Plans.{Plan, IsRunOf}
use Rattle.fuse_plans.specs.Requests.{Request}
use Rattle.fuse_plans.specs.Alterations.{says_change_in}
use Rattle.fuse_plans.specs.Conduct.{releases}
use Rattle.fuse_plans.specs.Laws.{handle_in}
use Rattle.fuse_plans.specs.Serving.{request_plan}

-- It is for someone outside. What is to change it changes with their credential, where one is known; a request that says no change may be
-- anyone's. What is done by a handle is done by one of theirs, but any may be released.
pub record IsRequestOf (w : Outsider) (r : Request) : Type 0 where
  pub cred : (cred : Credential) → r.cred ≡ Some cred → IsTrue (says_change_in r.operation) → cred ≡ w.cred
  pub handle : (handle : ℕ) → handle_in r.operation ≡ Some handle → IsFalse (releases r.operation) → IsTrue (list_any (λ h. h == handle) w.handles)

-- What they have then, by what was asked for the request: what is done with their credential, or by a handle of theirs, is done by them.
abbrev pub HasThen : Outsider → List Event → List Reply → Outsider → Type 0
HasThen w [] [] then = then ≡ w
HasThen w (e ∷ es) (reply ∷ replies) then =
    (IsItsEvent w e × HasThen (after_answer w e reply) es replies then) ⊎ ((IsItsEvent w e → ⊥) × HasThen w es replies then)
HasThen w [] (_ ∷ _) then = ⊥
HasThen w (_ ∷ _) [] then = ⊥

-- A machine is asked what the plan asks, one event after another, each with its free choices; neither memory nor the disk fails.
pub record IsPerformed {X : Type 0} (p : Plan X) (choices : List Choice) (old : State) (events : List Event) (replies : List Reply) (result : X)
    (new : State) : Type 0 where
  pub runs : IsRunOf p events replies result
  pub steps : RunBy old (zip events choices) replies new

-- The same was asked of both machines, and replied by both, and it ends in the same way. And both are alike to who asked, with what it has then.
pub record PerformedAlike {X : Type 0} (w : Outsider) (choices : List Choice) (events events' : List Event) (replies replies' : List Reply)
    (result result' : X) (new new' : State) : Type 0 where
  pub asked : events ≡ events'
  pub replied : replies ≡ replies'
  pub answered : result ≡ result'
  pub becomes : Outsider
  pub has : HasThen w events replies becomes
  pub leads : LeadsTo w (zip events choices) replies becomes
  pub first : IsState new
  pub second : IsState new'
  pub alike : AreAlikeTo becomes new new'
  pub holds : AreOpen becomes new

-- A request of someone who uses the mount, performed from two states that are alike to them, with the same free choices: the response is the
-- same, and so is what the server keeps.
abbrev pub RequestsConfined : Type 0
RequestsConfined =
    (w : Outsider) (r : Request) (s : Server) (choices : List Choice) (old old' new new' : State)
    (events events' : List Event) (replies replies' : List Reply) (result result' : Response × Server)
    → IsState old → IsState old' → IsConfined w.cred → IsRequestOf w r → AreOpen w old → AreAlikeTo w old old' → All IsEvent events
    → IsPerformed (request_plan r s) choices old events replies result new → IsPerformed (request_plan r s) choices old' events' replies' result' new'
    → PerformedAlike w choices events events' replies replies' result result' new new'

-- ---- one after another

-- a request, and how a machine performs it
pub record Turn : Type 0 where
  pub request : Request
  pub choices : List Choice
  pub events : List Event
  pub replies : List Reply
  pub response : Response

-- what is asked, and what the machine is free to choose
abbrev pub given_to : Turn → Request × List Choice
given_to x = (x.request, x.choices)

-- each by what the server keeps after those before it
abbrev pub AreTurnsFrom : Server → State → List Turn → Server → State → Type 0
AreTurnsFrom s old [] t new = (t ≡ s) × (new ≡ old)
AreTurnsFrom s old (x ∷ xs) t new =
    (u : Server) × (mid : State) × IsPerformed (request_plan x.request s) x.choices old x.events x.replies (x.response, u) mid
    × AreTurnsFrom u mid xs t new

-- They may be given what is open by one more handle: what was opened with another credential, of an object that they see into then.
pub data MayHave (w : Outsider) (s : State) (v : Outsider) : Type 0 where
  no_more : v ≡ w → MayHave w s v
  one_more : (handle : ℕ) (d : Descriptor) (node : Node) → get nat_cmp s.openings handle ≡ Some d → node_at s.tree d.ino ≡ Some node
      → IsTrue (sees_into (sight s w) d.ino node) → v ≡ record w { handles = handle ∷ w.handles } → MayHave w s v

-- each is for someone outside, with what they have then
abbrev pub ArePerformedFor : Outsider → Server → State → List Turn → Outsider → Server → State → Type 0
ArePerformedFor w s old [] then t new = (then ≡ w) × (t ≡ s) × (new ≡ old)
ArePerformedFor w s old (x ∷ xs) then t new =
    (u : Server) × (mid : State) × IsPerformed (request_plan x.request s) x.choices old x.events x.replies (x.response, u) mid
    × IsRequestOf w x.request × All IsEvent x.events
    × ((has : Outsider) × HasThen w x.events x.replies has × ((v : Outsider) × MayHave has mid v × ArePerformedFor v u mid xs then t new))

-- From states that are alike to them, the same requests with the same free choices: the same is asked and replied for each, and each is
-- answered the same.
abbrev pub RequestRunsConfined : Type 0
RequestRunsConfined =
    (w then : Outsider) (s t t' : Server) (old old' new new' : State) (turns turns' : List Turn)
    → IsState old → IsState old' → IsConfined w.cred → AreOpen w old → AreAlikeTo w old old' → map given_to turns ≡ map given_to turns'
    → ArePerformedFor w s old turns then t new → AreTurnsFrom s old' turns' t' new'
    → (turns ≡ turns') × (t ≡ t') × AreAlikeTo then new new' × AreOpen then new
