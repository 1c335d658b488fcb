-- Something holds of each run of a plan: of its events, its replies and its end.
--     EachRun, each-run        whatever is replied
--     each-weaker, each-any, each-all, each-itself        what holds of it
--     each-followed_by, each->>=, each-later, each-ends, ended        plans one after another
--     asked-before, asked-after        what was asked as well where more was asked
--     looked, listed        what the server is shown of an object
use Rattle.std.specs.Prelude.{◌≡◌, ℕ, List, [], ◌∷◌, ◌++◌, Option, None, Some, unwrap_or, Result, Err}
use Rattle.std.proofs.Common.{refl, sym, ap, subst}
use Rattle.std.proofs.lemmas.List.{append-nil}
use Rattle.posix_acl.specs.AccessList.{AccessList}
use Rattle.fs_cred.specs.declared.refusal.Refusal.{Refusal}
use Rattle.fs_model.specs.declared.call.AclType.{AclType}
use Rattle.fs_model.specs.declared.call.Call.TheVariants.{Lstat, GetAcl}
use Rattle.fs_model.specs.declared.event.Event.{Event}
use Rattle.fs_model.specs.declared.event.Event.TheVariants.{CallAt}
use Rattle.fs_model.specs.declared.reply.Reply.{Reply}
use Rattle.fs_model.specs.declared.reply.Reply.TheVariants.{Shown, Acl, Refused}
use Rattle.fs_model.specs.declared.reply.Status.{Status}
use Rattle.fuse_state.specs.Servers.{Server}
use Rattle.fuse_plans.specs.declared.request_error.RequestError.{RequestError}
use Rattle.fuse_plans.specs.Plans.{Plan, Finish, Ask, followed_by, IsRunOf, IsAsked, at_once, later}
use Rattle.fuse_plans.specs.Works.{Work, give, fail, goes_on, ◌>>=◌, ask, needed, unexpected, refusal_in, status_of_reply, replied_status, acl_of_reply, replied_acl}
use Rattle.fuse_plans.specs.Callers.{server_credential, actor_in, object_error, of_object, on, look}
use Rattle.fuse_plans.specs.Masks.{list_of}
use Rattle.fuse_plans.proofs.AllEnds.{AllEnd}

-- of work
abbrev pub Ends : Type 0 → Type 0
Ends Y = Result Y RequestError × Server

abbrev pub EachRun : {X : Type 0} → (List Event → List Reply → X → Type 0) → Plan X → Type 0
EachRun P (Finish x) = P [] [] x
EachRun P (Ask e next) = (reply : Reply) → EachRun (λ es replies x. P (e ∷ es) (reply ∷ replies) x) (next reply)

pub each-run : {X : Type 0} (P : List Event → List Reply → X → Type 0) (p : Plan X) (es : List Event) (replies : List Reply) (x : X) → EachRun P p
    → IsRunOf p es replies x → P es replies x
each-run P (Finish y) [] [] x each runs = subst (λ z. P [] [] z) (sym runs) each
each-run P (Ask e next) (f ∷ es) (reply ∷ replies) x each runs =
    subst (λ g. P (g ∷ es) (reply ∷ replies) x) (sym runs.0)
    (each-run (λ fs rest y. P (e ∷ fs) (reply ∷ rest) y) (next reply) es replies x (each reply) runs.1)
each-run P p es replies x each runs = elim runs [ ]

pub each-weaker : {X : Type 0} (P Q : List Event → List Reply → X → Type 0) (p : Plan X) → EachRun P p
    → ((es : List Event) (replies : List Reply) (x : X) → P es replies x → Q es replies x) → EachRun Q p
each-weaker P Q (Finish x) each weaker = weaker [] [] x each
each-weaker P Q (Ask e next) each weaker =
    λ reply. each-weaker (λ es replies x. P (e ∷ es) (reply ∷ replies) x) (λ es replies x. Q (e ∷ es) (reply ∷ replies) x) (next reply) (each reply)
    (λ es replies x is. weaker (e ∷ es) (reply ∷ replies) x is)

pub each-any : {X : Type 0} (P : List Event → List Reply → X → Type 0) (p : Plan X) → ((es : List Event) (replies : List Reply) (x : X) → P es replies x) → EachRun P p
each-any P (Finish x) any = any [] [] x
each-any P (Ask e next) any = λ reply. each-any (λ es replies x. P (e ∷ es) (reply ∷ replies) x) (next reply) (λ es replies x. any (e ∷ es) (reply ∷ replies) x)

-- of each end alone
pub each-all : {X : Type 0} (P : X → Type 0) (Q : List Event → List Reply → X → Type 0) (p : Plan X) → AllEnd P p
    → ((es : List Event) (replies : List Reply) (x : X) → P x → Q es replies x) → EachRun Q p
each-all P Q (Finish x) all holds = holds [] [] x all
each-all P Q (Ask e next) all holds =
    λ reply. each-all P (λ es replies x. Q (e ∷ es) (reply ∷ replies) x) (next reply) (all reply) (λ es replies x is. holds (e ∷ es) (reply ∷ replies) x is)

-- each is one
pub each-itself : {X : Type 0} (p : Plan X) → EachRun (IsRunOf p) p
each-itself (Finish x) = refl
each-itself (Ask e next) =
    λ reply. each-weaker (IsRunOf (next reply)) (λ es replies x. IsRunOf (Ask e next) (e ∷ es) (reply ∷ replies) x) (next reply) (each-itself (next reply))
    (λ es replies x runs. (refl, runs))

pub each-both : {X : Type 0} (P Q : List Event → List Reply → X → Type 0) (p : Plan X) → EachRun P p → EachRun Q p → EachRun (λ es replies x. P es replies x × Q es replies x) p
each-both P Q (Finish x) first second = (first, second)
each-both P Q (Ask e next) first second =
    λ reply. each-both (λ es replies x. P (e ∷ es) (reply ∷ replies) x) (λ es replies x. Q (e ∷ es) (reply ∷ replies) x) (next reply) (first reply) (second reply)

-- ---- one after another

pub each-followed_by : {X Y : Type 0} (Q : List Event → List Reply → Y → Type 0) (p : Plan X) (f : X → Plan Y)
    → EachRun (λ es replies x. EachRun (λ fs rest y. Q (es ++ fs) (replies ++ rest) y) (f x)) p → EachRun Q (followed_by p f)
each-followed_by Q (Finish x) f each = each
each-followed_by Q (Ask e next) f each = λ reply. each-followed_by (λ es replies y. Q (e ∷ es) (reply ∷ replies) y) (next reply) f (each reply)

pub each->>= : {X Y : Type 0} (Q : List Event → List Reply → Ends Y → Type 0) (w : Work X) (f : X → Work Y) (s : Server)
    → EachRun (λ es replies r. EachRun (λ fs rest q. Q (es ++ fs) (replies ++ rest) q) (goes_on f r)) (w s) → EachRun Q ((w >>= f) s)
unfolding ◌>>=◌
each->>= Q w f s each = each-followed_by Q (w s) (goes_on f) each

-- it holds as well where more was asked before
pub each-later : {X Y : Type 0} (Q : List Event → List Reply → Y → Type 0) (p : Plan X) (f : X → Plan Y)
    → ((e : Event) (reply : Reply) (es : List Event) (replies : List Reply) (y : Y) → Q es replies y → Q (e ∷ es) (reply ∷ replies) y)
    → ((x : X) → EachRun Q (f x)) → EachRun Q (followed_by p f)
each-later Q (Finish x) f grows rest = rest x
each-later Q (Ask e next) f grows rest =
    λ reply. each-weaker Q (λ es replies y. Q (e ∷ es) (reply ∷ replies) y) (followed_by (next reply) f) (each-later Q (next reply) f grows rest)
    (λ es replies y is. grows e reply es replies y is)

-- where nothing more is asked
pub each-ends : {X Y : Type 0} (Q : List Event → List Reply → Y → Type 0) (p : Plan X) (g : X → Y) → EachRun (λ es replies x. Q es replies (g x)) p
    → EachRun Q (followed_by p (λ x. Finish (g x)))
each-ends Q (Finish x) g each = each
each-ends Q (Ask e next) g each = λ reply. each-ends (λ es replies y. Q (e ∷ es) (reply ∷ replies) y) (next reply) g (each reply)

pub ended : {Y : Type 0} (Q : List Event → List Reply → Y → Type 0) (es : List Event) (replies : List Reply) (y : Y) → Q es replies y → Q (es ++ []) (replies ++ []) y
ended Q es replies y is = subst (λ l. Q l (replies ++ []) y) (sym (append-nil es)) (subst (λ l. Q es l y) (sym (append-nil replies)) is)

pub asked-before : {X : Type 0} (p : Plan X) (es : List Event) (replies : List Reply) (x : X) {e : Event} {reply : Reply} {after fs : List Event} {rest : List Reply}
    → IsRunOf p es replies x → IsAsked e reply after fs rest → IsAsked e reply after (es ++ fs) (replies ++ rest)
asked-before (Finish y) [] [] x runs asked = asked
asked-before (Ask f next) (g ∷ es) (again ∷ replies) x {e} {reply} {after} {fs} {rest} runs asked =
    later g again (es ++ fs) (replies ++ rest) (asked-before (next again) es replies x runs.1 asked)
asked-before p es replies x runs asked = elim runs [ ]

pub asked-after : {e : Event} {reply : Reply} {after es : List Event} {replies : List Reply} (fs : List Event) (rest : List Reply) → IsAsked e reply after es replies
    → IsAsked e reply (after ++ fs) (es ++ fs) (replies ++ rest)
asked-after fs rest (at_once replies) = at_once (replies ++ rest)
asked-after fs rest (later f other es replies asked) = later f other (es ++ fs) (replies ++ rest) (asked-after fs rest asked)

-- ---- what the server is shown

pub shown-reply : (reply : Reply) (status : Status) → status_of_reply reply ≡ Some status → reply ≡ Shown status
shown-reply (Shown old) status is = ap (λ (o : Option Status). Shown (unwrap_or o old)) is
shown-reply _ status is = absurd (cc)

pub refused-reply : (reply : Reply) (r : Refusal) → refusal_in reply ≡ Some r → reply ≡ Refused r
refused-reply (Refused old) r is = ap (λ (o : Option Refusal). Refused (unwrap_or o old)) is
refused-reply _ r is = absurd (cc)

acl-reply : (reply : Reply) (acl : Option AccessList) → acl_of_reply reply ≡ Some acl → reply ≡ Acl acl
acl-reply (Acl old) acl is = ap (λ (o : Option (Option AccessList)). Acl (unwrap_or o old)) is
acl-reply _ acl is = absurd (cc)

abbrev pub stat : ℕ → Event
stat n = CallAt (actor_in server_credential n) (Lstat [])

abbrev pub get_list : ℕ → AclType → Event
get_list n which = CallAt (actor_in server_credential n) (GetAcl [] which)

-- what stat(2) shows of an object, or it fails at once
pub looked : {Y : Type 0} (Q : List Event → List Reply → Ends Y → Type 0) (n : ℕ) (f : Status → Work Y) (s : Server)
    → ((status : Status) → EachRun (λ es replies q. Q (stat n ∷ es) (Shown status ∷ replies) q) (f status s))
    → ((reply : Reply) (e : RequestError) → Q (stat n ∷ []) (reply ∷ []) (Err e, s)) → EachRun Q ((look n >>= f) s)
unfolding look on ask give fail ◌>>=◌
looked {Y} Q n f s rest fails = λ reply. refused reply (refusal_in reply)
  where
    shown : (reply : Reply) (o : Option Status) → status_of_reply reply ≡ o
        → EachRun (λ es replies q. Q (stat n ∷ es) (reply ∷ replies) q) (followed_by (needed unexpected o s) (goes_on f))
    shown reply None is = fails reply unexpected
    shown reply (Some status) is = subst (λ r. EachRun (λ es replies q. Q (stat n ∷ es) (r ∷ replies) q) (f status s)) (sym (shown-reply reply status is)) (rest status)

    refused : (reply : Reply) (o : Option Refusal)
        → EachRun (λ es replies q. Q (stat n ∷ es) (reply ∷ replies) q) (followed_by (followed_by (of_object reply o s) (goes_on replied_status)) (goes_on f))
    refused reply None = shown reply (status_of_reply reply) refl
    refused reply (Some r) = fails reply (object_error r)

-- a list of it, or it fails at once
pub listed : {Y : Type 0} (Q : List Event → List Reply → Ends Y → Type 0) (n : ℕ) (which : AclType) (f : Option AccessList → Work Y) (s : Server)
    → ((acl : Option AccessList) → EachRun (λ es replies q. Q (get_list n which ∷ es) (Acl acl ∷ replies) q) (f acl s))
    → ((reply : Reply) (e : RequestError) → Q (get_list n which ∷ []) (reply ∷ []) (Err e, s)) → EachRun Q ((list_of n which >>= f) s)
unfolding on ask give fail ◌>>=◌
listed {Y} Q n which f s rest fails = λ reply. refused reply (refusal_in reply)
  where
    shown : (reply : Reply) (o : Option (Option AccessList)) → acl_of_reply reply ≡ o
        → EachRun (λ es replies q. Q (get_list n which ∷ es) (reply ∷ replies) q) (followed_by (needed unexpected o s) (goes_on f))
    shown reply None is = fails reply unexpected
    shown reply (Some acl) is = subst (λ r. EachRun (λ es replies q. Q (get_list n which ∷ es) (r ∷ replies) q) (f acl s)) (sym (acl-reply reply acl is)) (rest acl)

    refused : (reply : Reply) (o : Option Refusal)
        → EachRun (λ es replies q. Q (get_list n which ∷ es) (reply ∷ replies) q) (followed_by (followed_by (of_object reply o s) (goes_on replied_acl)) (goes_on f))
    refused reply None = shown reply (acl_of_reply reply) refl
    refused reply (Some r) = fails reply (object_error r)
