-- Plans: which events are asked of a file system, one after another, each by the replies to those before it.
--     Plan        ask an event and go on by its reply, or be done with a result
--     followed_by        one plan after another
--     CarriesOut        a machine goes on by what the plan asks, to its result
--     IsRunOf        with these replies these events are asked, and that is the result
--     IsAsked        one of these events, with its reply
--     Restraint, KeepsTo        what a plan keeps to, whatever is replied
--     after_all, MayAskAll        the same of events with their replies
use Rattle.std.specs.Prelude.{◌≡◌, List, [], ◌∷◌}
use Rattle.fs_model.specs.declared.event.Event.{Event}
use Rattle.fs_model.specs.declared.reply.Reply.{Reply}

pub data Plan (X : Type 0) : Type 0 where
  Finish : X → Plan X
  Ask : Event → (Reply → Plan X) → Plan X

-- the first, and then what its result leads to
abbrev pub followed_by : {X Y : Type 0} → Plan X → (X → Plan Y) → Plan Y
followed_by (Finish x) f = f x
followed_by (Ask e next) f = Ask e (λ reply. followed_by (next reply) f)

-- A machine goes from one state to another by what the plan asks of it, and the plan is done with the result.
pub data CarriesOut {M X : Type 0} (Serves : M → Event → Reply → M → Type 0) : Plan X → M → M → X → Type 0 where
  finishes : (x : X) (m : M) → CarriesOut Serves (Finish x) m m x
  asks : (e : Event) (next : Reply → Plan X) (reply : Reply) (old mid new : M) (x : X)
      → Serves old e reply mid → CarriesOut Serves (next reply) mid new x → CarriesOut Serves (Ask e next) old new x

-- The plan asks these events one after another; with these replies it is done with the result.
abbrev pub IsRunOf : {X : Type 0} → Plan X → List Event → List Reply → X → Type 0
IsRunOf (Finish y) [] [] x = x ≡ y
IsRunOf (Ask e next) (f ∷ es) (reply ∷ replies) x = (f ≡ e) × IsRunOf (next reply) es replies x
IsRunOf (Finish y) [] (reply ∷ replies) x = ⊥
IsRunOf (Finish y) (f ∷ es) replies x = ⊥
IsRunOf (Ask e next) [] replies x = ⊥
IsRunOf (Ask e next) (f ∷ es) [] x = ⊥

-- The event is one of those that were asked, with this reply, and these were asked after it.
pub data IsAsked (e : Event) (reply : Reply) (after : List Event) : List Event → List Reply → Type 0 where
  at_once : (replies : List Reply) → IsAsked e reply after (e ∷ after) (reply ∷ replies)
  later : (f : Event) (other : Reply) (es : List Event) (replies : List Reply)
      → IsAsked e reply after es replies → IsAsked e reply after (f ∷ es) (other ∷ replies)

-- ---- what a plan keeps to

-- What is remembered of the events so far and their replies, and which events may be asked then.
pub record Restraint (M : Type 0) : Type 1 where
  pub after : M → Event → Reply → M
  pub may_ask : M → Event → Type 0

-- Whatever is replied, the plan asks only what it may, and ends as it is to.
abbrev pub KeepsTo : {M X : Type 0} → Restraint M → (M → X → Type 0) → M → Plan X → Type 0
KeepsTo rule Ends m (Finish x) = Ends m x
KeepsTo rule Ends m (Ask e next) = rule.may_ask m e × ((reply : Reply) → KeepsTo rule Ends (rule.after m e reply) (next reply))

-- what is remembered after events with these replies
abbrev pub after_all : {M : Type 0} → Restraint M → M → List Event → List Reply → M
after_all rule m (e ∷ es) (reply ∷ replies) = after_all rule (rule.after m e reply) es replies
after_all rule m _ _ = m

-- each of the events may be asked, after those before it
abbrev pub MayAskAll : {M : Type 0} → Restraint M → M → List Event → List Reply → Type 0
MayAskAll rule m (e ∷ es) (reply ∷ replies) = rule.may_ask m e × MayAskAll rule (rule.after m e reply) es replies
MayAskAll rule m _ _ = Unit {0}
