-- Laws of plans: to follow one after another is to follow the one and then the other; and what is asked keeps to what the plan
-- keeps to.
--     followed_by-finish, followed_by-followed_by        plans one after another
--     keeps-followed_by, keeps-weaker, keeps->>=        what each keeps to, they do
--     IfReplies, replies-told        the work of a request
--     run-followed_by, Parted, run-parts        what is asked, and what is asked of each
--     run-finished        nothing is asked
--     run-one        the replies decide the rest
--     keeps-follows, may_at        what is asked is what may be asked
use Rattle.std.specs.Prelude.{◌≡◌, Bool, true, false, List, [], ◌∷◌, ◌++◌, length, Result, Ok, Err}
use Rattle.std.proofs.Common.{refl, sym, ap, subst, ◌∙◌, arith}
use Rattle.fs_model.specs.declared.event.Event.{Event}
use Rattle.fs_model.specs.declared.reply.Reply.{Reply}
use Rattle.fuse_protocol.specs.declared.reply.Time.{Time}
use Rattle.fuse_state.specs.Servers.{Server}
use Rattle.fuse_plans.specs.declared.reply.ReplyBody.{ReplyBody}
use Rattle.fuse_plans.specs.declared.request_error.RequestError.{RequestError}
use Rattle.fuse_plans.specs.Plans.{Plan, Finish, Ask, followed_by, IsRunOf, Restraint, KeepsTo, after_all, MayAskAll}
use Rattle.fuse_plans.specs.Works.{Work, goes_on, ◌>>=◌, ◌>>◌}
use Rattle.fuse_plans.specs.Times.{tell_time}
use Rattle.fuse_plans.specs.Serving.{Task, Replying, Silent, told_first}

-- a plan that goes on by being done with what it has is itself
pub followed_by-finish : {X : Type 0} (p : Plan X) → followed_by p Finish ≡ p
followed_by-finish (Finish x) = refl
followed_by-finish (Ask e next) = ap (Ask e) (λ i reply. followed_by-finish (next reply) i)

pub followed_by-followed_by : {X Y Z : Type 0} (p : Plan X) (f : X → Plan Y) (g : Y → Plan Z)
    → followed_by (followed_by p f) g ≡ followed_by p (λ x. followed_by (f x) g)
followed_by-followed_by (Finish x) f g = refl
followed_by-followed_by (Ask e next) f g = ap (Ask e) (λ i reply. followed_by-followed_by (next reply) f g i)

-- whatever comes of it
abbrev pub Whatever : {M X : Type 0} → M → X → Type 0
Whatever m x = Unit {0}

pub keeps-followed_by : {M X Y : Type 0} (rule : Restraint M) (E : M → X → Type 0) (F : M → Y → Type 0) (p : Plan X) (f : X → Plan Y) (m : M)
    → KeepsTo rule E m p → ((n : M) (x : X) → E n x → KeepsTo rule F n (f x)) → KeepsTo rule F m (followed_by p f)
keeps-followed_by rule E F (Finish x) f m first rest = rest m x first
keeps-followed_by rule E F (Ask e next) f m first rest = (
  first.0,
  λ reply. keeps-followed_by rule E F (next reply) f (rule.after m e reply) (first.1 reply) rest,
)

pub keeps-weaker : {M X : Type 0} (rule : Restraint M) (E F : M → X → Type 0) (p : Plan X) (m : M)
    → KeepsTo rule E m p → ((n : M) (x : X) → E n x → F n x) → KeepsTo rule F m p
keeps-weaker rule E F (Finish x) m first weaker = weaker m x first
keeps-weaker rule E F (Ask e next) m first weaker = (
  first.0,
  λ reply. keeps-weaker rule E F (next reply) (rule.after m e reply) (first.1 reply) weaker,
)

-- one piece after another, where what the first leaves is enough for the second
pub keeps->>= : {M X Y : Type 0} (rule : Restraint M) (E : M → Result X RequestError × Server → Type 0) (F : M → Result Y RequestError × Server → Type 0)
    (w : Work X) (f : X → Work Y) (m : M) (s : Server)
    → KeepsTo rule E m (w s)
    → ((n : M) (x : X) (t : Server) → E n (Ok x, t) → KeepsTo rule F n (f x t))
    → ((n : M) (e : RequestError) (t : Server) → E n (Err e, t) → F n (Err e, t)) → KeepsTo rule F m ((w >>= f) s)
unfolding ◌>>=◌
keeps->>= {M} {X} {Y} rule E F w f m s first ok err = keeps-followed_by rule E F (w s) (goes_on f) m first after
  where
    after : (n : M) (r : Result X RequestError × Server) → E n r → KeepsTo rule F n (goes_on f r)
    after n (Ok x, t) left = ok n x t left
    after n (Err e, t) left = err n e t left

-- ---- requests

-- of the work of a request, if it has a reply
abbrev pub IfReplies : (Work ReplyBody → Type 0) → Task → Type 0
IfReplies P (Silent nodes) = Unit {0}
IfReplies P (Replying w) = P w

-- also where the machine is told the time first
pub replies-told : (P : Work ReplyBody → Type 0) (now : Time) → ((w : Work ReplyBody) → P w → P (tell_time now >> w)) → (tells : Bool) (task : Task)
    → IfReplies P task → IfReplies P (told_first tells now task)
replies-told P now told false task is = is
replies-told P now told true (Silent nodes) is = tt
replies-told P now told true (Replying w) is = told w is

-- ---- what is asked

pub run-followed_by : {X Y : Type 0} (p : Plan X) (f : X → Plan Y) (es fs : List Event) (replies more : List Reply) (x : X) (y : Y)
    → IsRunOf p es replies x → IsRunOf (f x) fs more y → IsRunOf (followed_by p f) (es ++ fs) (replies ++ more) y
run-followed_by (Finish z) f [] fs [] more x y first rest = subst (λ w. IsRunOf (f w) fs more y) first rest
run-followed_by (Ask e next) f (g ∷ es) fs (reply ∷ replies) more x y first rest =
    (first.0, run-followed_by (next reply) f es fs replies more x y first.1 rest)
run-followed_by p f es fs replies more x y first rest = elim first [ ]

-- what the one asks, and then the other
pub record Parted {X Y : Type 0} (p : Plan X) (f : X → Plan Y) (es : List Event) (replies : List Reply) (y : Y) : Type 0 where
  pub middle : X
  pub first_events : List Event
  pub later_events : List Event
  pub all_events : es ≡ first_events ++ later_events
  pub first_replies : List Reply
  pub later_replies : List Reply
  pub all_replies : replies ≡ first_replies ++ later_replies
  pub first : IsRunOf p first_events first_replies middle
  pub later : IsRunOf (f middle) later_events later_replies y

pub run-parts : {X Y : Type 0} (p : Plan X) (f : X → Plan Y) (es : List Event) (replies : List Reply) (y : Y)
    → IsRunOf (followed_by p f) es replies y → Parted p f es replies y
run-parts (Finish x) f es replies y follows = record {
  middle = x;
  first_events = [];
  later_events = es;
  all_events = refl;
  first_replies = [];
  later_replies = replies;
  all_replies = refl;
  first = refl;
  later = follows;
}
run-parts (Ask e next) f (g ∷ es) (reply ∷ replies) y follows =
    let rest = run-parts (next reply) f es replies y follows.1 in
    record {
      middle = rest.middle;
      first_events = g ∷ rest.first_events;
      later_events = rest.later_events;
      all_events = ap (λ l. g ∷ l) rest.all_events;
      first_replies = reply ∷ rest.first_replies;
      later_replies = rest.later_replies;
      all_replies = ap (λ l. reply ∷ l) rest.all_replies;
      first = (follows.0, rest.first);
      later = rest.later;
    }
run-parts p f es replies y follows = elim follows [ ]

-- nothing is asked, and that is the end
pub run-finished : {X : Type 0} (x y : X) (es : List Event) (replies : List Reply) → IsRunOf (Finish x) es replies y → y ≡ x
run-finished x y [] [] runs = runs
run-finished x y es replies runs = elim runs [ ]

-- equal replies lead to equal results
pub run-one : {X : Type 0} (p : Plan X) (es fs : List Event) (replies : List Reply) (x y : X) → IsRunOf p es replies x → IsRunOf p fs replies y
    → (es ≡ fs) × (x ≡ y)
run-one (Finish z) [] [] [] x y first other = (refl, first ∙ sym other)
run-one (Finish z) [] (e ∷ fs) replies x y first other = elim other [ ]
run-one (Ask e next) (g ∷ es) [] replies x y first other = elim other [ ]
run-one (Ask e next) (g ∷ es) (h ∷ fs) (reply ∷ replies) x y first other =
    let rest = run-one (next reply) es fs replies x y first.1 other.1 in
    let same : g ≡ h = first.0 ∙ sym other.0 in
    (ap (λ k. k ∷ es) same ∙ ap (λ l. h ∷ l) rest.0, rest.1)
run-one p es fs replies x y first other = elim first [ ]

-- ---- what a plan keeps to, of the events that were asked

-- Whatever was replied, each event was one that may be asked, and the end is as it is to be.
pub keeps-follows : {M X : Type 0} (rule : Restraint M) (E : M → X → Type 0) (p : Plan X) (es : List Event) (replies : List Reply) (x : X) (m : M)
    → KeepsTo rule E m p → IsRunOf p es replies x → MayAskAll rule m es replies × E (after_all rule m es replies) x
keeps-follows rule E (Finish y) [] [] x m keeps follows = (tt, subst (λ z. E m z) (sym follows) keeps)
keeps-follows rule E (Ask e next) (g ∷ es) (reply ∷ replies) x m keeps follows =
    let rest = keeps-follows rule E (next reply) es replies x (rule.after m e reply) (keeps.1 reply) follows.1 in
    let as_asked = sym follows.0 in (
      (subst (λ h. rule.may_ask m h) as_asked keeps.0, subst (λ h. MayAskAll rule (rule.after m h reply) es replies) as_asked rest.0),
      subst (λ h. E (after_all rule (rule.after m h reply) es replies) x) as_asked rest.1,
    )
keeps-follows rule E p es replies x m keeps follows = elim follows [ ]

-- so it was then
pub may_at : {M : Type 0} (rule : Restraint M) (m : M) (es after : List Event) (replies rest : List Reply) (e : Event) (reply : Reply) → length replies ≡ length es
    → MayAskAll rule m (es ++ e ∷ after) (replies ++ reply ∷ rest) → rule.may_ask (after_all rule m es replies) e
may_at rule m [] after [] rest e reply same may = may.0
may_at rule m [] after (other ∷ replies) rest e reply same may = absurd (omega (arith, same))
may_at rule m (f ∷ es) after [] rest e reply same may = absurd (omega (arith, same))
may_at rule m (f ∷ es) after (other ∷ replies) rest e reply same may = may_at rule (rule.after m f other) es after replies rest e reply (omega (arith, same)) may.1
