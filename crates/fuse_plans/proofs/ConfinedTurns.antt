-- Requests of a user of a mount, one after another: what they can't read has no part in what these are answered.
--     has_one, has_cred        what they have then is one, with their credential
--     request_runs_confined
use Rattle.std.specs.Prelude.{◌≡◌, List, [], ◌∷◌, map}
use Rattle.std.proofs.Common.{refl, sym, ap, ◌∙◌, subst, inl, inr}
use Rattle.fs_model.specs.declared.event.Event.{Event}
use Rattle.fs_model.specs.declared.reply.Reply.{Reply}
use Rattle.fs_model.specs.States.{State, IsState}
use Rattle.fs_model.specs.Steps.{Choice}
use Rattle.fs_model.specs.Confinement.{IsConfined}
use Rattle.fs_model.specs.Outsiders.{Outsider, AreAlikeTo, AreOpen, after_answer}
use Rattle.fs_model.proofs.ConfinedOutsiders.{answered_cred}
use Rattle.fuse_plans.specs.declared.reply.Response.{Response}
use Rattle.fuse_plans.specs.Requests.{Request}
use Rattle.fuse_plans.specs.Serving.{request_plan}
use Rattle.fuse_plans.specs.Confinement.{HasThen, IsPerformed, Turn, given_to, AreTurnsFrom, MayHave, no_more, one_more, RequestRunsConfined}
use Rattle.fuse_plans.proofs.ConfinedRequests.{requests_confined}
use Rattle.fuse_plans.proofs.GivenHandles.{given_alike, given_open}

-- ---- what they have then

has_one : (w v v' : Outsider) (es : List Event) (rs : List Reply) → HasThen w es rs v → HasThen w es rs v' → v ≡ v'
has_one w v v' [] [] a b = a ∙ sym b
has_one w v v' [] (r ∷ rs) a b = elim a [ ]
has_one w v v' (e ∷ es) [] a b = elim a [ ]
has_one w v v' (e ∷ es) (r ∷ rs) a b = elim a [
  | inl own ↦ elim b [ inl again ↦ has_one (after_answer w e r) v v' es rs own.1 again.1 | inr others ↦ absurd (others.0 own.0) ]
  | inr others ↦ elim b [ inl own ↦ absurd (others.0 own.0) | inr again ↦ has_one w v v' es rs others.1 again.1 ]
]

has_cred : (w v : Outsider) (es : List Event) (rs : List Reply) → HasThen w es rs v → v.cred ≡ w.cred
has_cred w v [] [] a = ap (λ u. u.cred) a
has_cred w v [] (r ∷ rs) a = elim a [ ]
has_cred w v (e ∷ es) [] a = elim a [ ]
has_cred w v (e ∷ es) (r ∷ rs) a = elim a [
  | inl own ↦ has_cred (after_answer w e r) v es rs own.1 ∙ answered_cred w e r
  | inr others ↦ has_cred w v es rs others.1
]

-- ---- turns

abbrev turn_of : Request × List Choice → List Event → List Reply → Response → Turn
turn_of a es rs response = record { request = a.0; choices = a.1; events = es; replies = rs; response = response }

same_turn : (x y : Turn) → given_to x ≡ given_to y → x.events ≡ y.events → x.replies ≡ y.replies → x.response ≡ y.response → x ≡ y
same_turn x y asked events replies response =
    ap (λ a. turn_of a x.events x.replies x.response) asked
    ∙ ap (λ es. turn_of (given_to y) es x.replies x.response) events
    ∙ ap (λ rs. turn_of (given_to y) y.events rs x.response) replies
    ∙ ap (λ b. turn_of (given_to y) y.events y.replies b) response

-- one turn after the other
first_asked : (x y : Turn) (xs ys : List Turn) → map given_to (x ∷ xs) ≡ map given_to (y ∷ ys) → given_to x ≡ given_to y
first_asked x y xs ys same = cc

rest_asked : (x y : Turn) (xs ys : List Turn) → map given_to (x ∷ xs) ≡ map given_to (y ∷ ys) → map given_to xs ≡ map given_to ys
rest_asked x y xs ys same = cc

no_turn : (x : Turn) (xs : List Turn) → map given_to [] ≡ map given_to (x ∷ xs) → ⊥
no_turn x xs same = cc

-- what they are given keeps the states alike to them
record Given (w v : Outsider) (s t : State) : Type 0 where
  cred : v.cred ≡ w.cred
  alike : AreAlikeTo v s t
  holds : AreOpen v s

given_more : (w v : Outsider) (s t : State) → IsState s → IsState t → AreAlikeTo w s t → AreOpen w s → MayHave w s v → Given w v s t
given_more w v s t is js alike opened (no_more same) = record {
  cred = ap (λ u. u.cred) same;
  alike = subst (λ u. AreAlikeTo u s t) (sym same) alike;
  holds = subst (λ u. AreOpen u s) (sym same) opened;
}
given_more w v s t is js alike opened (one_more handle d node at there sees same) = record {
  cred = ap (λ u. u.cred) same;
  alike = subst (λ u. AreAlikeTo u s t) (sym same) (given_alike w s t handle d node is js alike at there sees);
  holds = subst (λ u. AreOpen u s) (sym same) (given_open w s handle d opened at);
}

pub request_runs_confined : RequestRunsConfined
request_runs_confined w then s t t' old old' new new' [] [] is js confined opened alike same first second = (
  refl,
  first.1 ∙ sym second.0,
  subst (λ v. AreAlikeTo v new new') (sym first.0) (subst (λ u. AreAlikeTo w u new') (sym first.2) (subst (λ u. AreAlikeTo w old u) (sym second.1) alike)),
  subst (λ v. AreOpen v new) (sym first.0) (subst (λ u. AreOpen w u) (sym first.2) opened),
)
request_runs_confined w then s t t' old old' new new' [] (y ∷ ys) is js confined opened alike same first second = absurd (no_turn y ys same)
request_runs_confined w then s t t' old old' new new' (x ∷ xs) [] is js confined opened alike same first second = absurd (no_turn x xs (sym same))
request_runs_confined w then s t t' old old' new new' (x ∷ xs) (y ∷ ys) is js confined opened alike same first second =
    let asked = first_asked x y xs ys same in
    let again = subst (λ a. IsPerformed (request_plan a.0 s) a.1 old' y.events y.replies (y.response, second.0) second.1) (sym asked) second.2 in
    let one =
    requests_confined w x.request s x.choices old old' first.1 second.1 x.events y.events x.replies y.replies (x.response, first.0) (y.response, second.0)
    is js confined first.3 opened alike first.4 first.2 again in
    let has = first.5.0 in
    let v = first.5.2.0 in
    let becomes : one.becomes ≡ has = has_one w one.becomes has x.events x.replies one.has first.5.1 in
    let server : first.0 ≡ second.0 = ap (λ a. a.1) one.answered in
    let more =
    given_more has v first.1 second.1 one.first one.second (subst (λ u. AreAlikeTo u first.1 second.1) becomes one.alike)
    (subst (λ u. AreOpen u first.1) becomes one.holds) first.5.2.1 in
    let rest =
    request_runs_confined v then first.0 t t' first.1 second.1 new new' xs ys one.first one.second
    (subst IsConfined (sym (more.cred ∙ has_cred w has x.events x.replies first.5.1)) confined) more.holds more.alike
    (rest_asked x y xs ys same) first.5.2.2 (subst (λ u. AreTurnsFrom u second.1 ys t' new') (sym server) second.3) in
    (ap (λ a. a ∷ xs) (same_turn x y asked one.asked one.replied (ap (λ a. a.0) one.answered)) ∙ ap (λ zs. y ∷ zs) rest.0, rest.1, rest.2, rest.3)
