-- What was asked for a request, and remembered, as the laws of runs have it.
--     makings_are_counted        what is made
--     asked-in, remembered        what is remembered was asked, and the other way round
--     failures_change_nothing
--     times_are_set_by_right
--     opened_is_the_object
use Rattle.std.specs.Prelude.{◌≡◌, ℕ, true, zero, suc, List, [], ◌∷◌, length, Option, None, Some, is_some, IsTrue, ◌⊎◌}
use Rattle.std.specs.List.{Contains}
use Rattle.std.proofs.Common.{refl, ap, subst, ◌∙◌, inl, inr, arith}
use Rattle.posix_acl.specs.Entries.{perms_of}
use Rattle.fs_cred.specs.Credentials.{Credential}
use Rattle.fs_cred.specs.Ownership.{counts_as_owner}
use Rattle.fs_cred.specs.declared.refusal.Refusal.{Refusal}
use Rattle.fs_model.specs.declared.call.Call.TheVariants.{Lstat, Access}
use Rattle.fs_model.specs.declared.event.Event.{Event}
use Rattle.fs_model.specs.declared.event.Event.TheVariants.{CallAt, Stamp}
use Rattle.fs_model.specs.declared.reply.Reply.{Reply}
use Rattle.fs_model.specs.declared.reply.Reply.TheVariants.{Shown}
use Rattle.fs_model.specs.declared.reply.Status.{Status}
use Rattle.fuse_state.specs.Servers.{Server}
use Rattle.fuse_plans.specs.declared.reply.ReplyBody.TheVariants.{Opened}
use Rattle.fuse_plans.specs.declared.reply.Response.TheVariants.{Says, Fails}
use Rattle.fuse_plans.specs.Plans.{Plan, Finish, Ask, IsRunOf, IsAsked, at_once, later, after_all}
use Rattle.fuse_plans.specs.Works.{refusal_in}
use Rattle.fuse_plans.specs.Requests.{Request}
use Rattle.fuse_plans.specs.Callers.{server_credential, actor_in}
use Rattle.fuse_plans.specs.Acts.{AskedBefore}
use Rattle.fuse_plans.specs.Laws.{FailuresChangeNothing, makings_counted, MakingsAreCounted, OpenedObject, OpenedIsTheObject}
use Rattle.fuse_plans.specs.TimeLaws.{MaySet, owns, may_write, TimesAreSetByRight}
use Rattle.fuse_plans.specs.Serving.{request_plan}
use Rattle.fuse_plans.proofs.PlanLaws.{may_at}
use Rattle.fuse_plans.proofs.Said.{at_once_in}
use Rattle.fuse_plans.proofs.Roles.{has-last, has-later, Role, role_of, MaySetBy, owns_it, writes_it, doing}
use Rattle.fuse_plans.proofs.Conducts.{counted_in}
use Rattle.fuse_plans.proofs.FileConducts.{OpenedHere}
use Rattle.fuse_plans.proofs.RequestConducts.{Told, past_of, run-does, run-leaves}

-- ---- what is made

counted-all : (rights : Role) (past : AskedBefore) (es : List Event) (replies : List Reply) (generations : List (ℕ × ℕ))
    → counted_in (after_all (doing rights) past es replies) generations ≡ makings_counted es replies (counted_in past generations)
counted-all rights past [] replies generations = refl
counted-all rights past (e ∷ es) [] generations = refl
counted-all rights past (e ∷ es) (reply ∷ replies) generations = counted-all rights ((e, reply) ∷ past) es replies generations

pub makings_are_counted : MakingsAreCounted
makings_are_counted r s t response es replies runs =
    (run-leaves r s es replies (response, t) runs).nodes ∙ counted-all (role_of r s) [] es replies s.generations

-- ---- what was asked

-- with this reply
record WasAsked (e : Event) (reply : Reply) (es : List Event) (replies : List Reply) : Type 0 where
  after : List Event
  asked : IsAsked e reply after es replies

asked-in : (rights : Role) (past : AskedBefore) (es : List Event) (replies : List Reply) (e : Event) (reply : Reply)
    → Contains (after_all (doing rights) past es replies) (e, reply) → Contains past (e, reply) ⊎ WasAsked e reply es replies
asked-in rights past [] replies e reply was = inl was
asked-in rights past (f ∷ es) [] e reply was = inl was
asked-in rights past (f ∷ es) (other ∷ replies) e reply was = choose (asked-in rights ((f, other) ∷ past) es replies e reply was)
  where
    choose : Contains ((f, other) ∷ past) (e, reply) ⊎ WasAsked e reply es replies → Contains past (e, reply) ⊎ WasAsked e reply (f ∷ es) (other ∷ replies)
    choose (inl (zero, lt, is)) =
        inr (subst (λ (x : Event × Reply). WasAsked x.0 x.1 (f ∷ es) (other ∷ replies)) is (record { after = es; asked = at_once replies }))
    choose (inl (suc k, lt, is)) = inl (k, omega (arith, lt), is)
    choose (inr found) = inr (record { after = found.after; asked = later f other es replies found.asked })

none-before : {A : Type 0} {x : Event × Reply} → Contains [] x → A
none-before was = absurd (omega (arith, was.1))

asked-of : (rights : Role) (es : List Event) (replies : List Reply) (e : Event) (reply : Reply) → Contains (after_all (doing rights) [] es replies) (e, reply)
    → WasAsked e reply es replies
asked-of rights es replies e reply was = elim (asked-in rights [] es replies e reply was) [ inl none ↦ none-before none | inr asked ↦ asked ]

-- what was asked is remembered
stays-in : (rights : Role) (past : AskedBefore) (es : List Event) (replies : List Reply) (x : Event × Reply) → Contains past x → Contains (after_all (doing rights) past es replies) x
stays-in rights past [] replies x was = was
stays-in rights past (e ∷ es) [] x was = was
stays-in rights past (e ∷ es) (reply ∷ replies) x was = stays-in rights ((e, reply) ∷ past) es replies x (has-later past x (e, reply) was)

remembered : {e : Event} {reply : Reply} {after es : List Event} {replies : List Reply} (rights : Role) (past : AskedBefore) → IsAsked e reply after es replies
    → Contains (after_all (doing rights) past es replies) (e, reply)
remembered {e} {reply} {after} rights past (at_once rest) = stays-in rights ((e, reply) ∷ past) after rest (e, reply) (has-last past (e, reply))
remembered rights past (later f other es replies asked) = remembered rights ((f, other) ∷ past) asked

-- ---- what changes

pub failures_change_nothing : FailuresChangeNothing
failures_change_nothing r s t operation e es replies asked reply after is once runs was fits says = choose (refusal_in reply) refl
  where
    choose : (o : Option Refusal) → refusal_in reply ≡ o → is_some o ≡ true
    choose (Some refusal) refused = refl
    choose None granted =
        let clean = (run-does r s es replies (Fails e, t) runs).1.1 (ap at_once_in is ∙ once) in
        absurd (clean.none asked reply (remembered (role_of r s) [] was) (record { says = says; granted = granted; fits = fits }))

-- ---- times

set-as : (r : Request) (s : Server) (n : ℕ) (cred : Credential) (status : Status) (atime mtime : Option ℕ) (es : List Event) (replies : List Reply)
    → MaySetBy r.now (past_of r s es replies) n cred (IsTrue (counts_as_owner cred status.owner)) atime mtime → MaySet r n cred status atime mtime es replies
set-as r s n cred status atime mtime es replies (owns_it is) = owns is
set-as r s n cred status atime mtime es replies (writes_it answer a m was granted) =
    let asked = asked-of (role_of r s) es replies (CallAt (actor_in cred n) (Access [] (perms_of 2))) answer was in may_write answer asked.after a m asked.asked granted

pub times_are_set_by_right : TimesAreSetByRight
times_are_set_by_right r s t response n atime mtime ctime reply before after replied rest same sets runs =
    let right = (may_at (doing (role_of r s)) [] before after replied rest (Stamp n atime mtime ctime) reply same (run-does r s _ _ (response, t) runs).0).1 sets in
    let shown = asked-of (role_of r s) before replied (CallAt (actor_in server_credential n) (Lstat [])) (Shown right.status) right.shown.was in
    record {
      cred = right.cred;
      is_who_asks = right.is_who_asks;
      status = right.status;
      after = shown.after;
      shown = shown.asked;
      may = set-as r s n right.cred right.status atime mtime before replied right.may;
      is_changed = right.is_changed;
    }

-- ---- what is opened

-- as many replies as events
run-length : {X : Type 0} (p : Plan X) (es : List Event) (replies : List Reply) (x : X) → IsRunOf p es replies x → length replies ≡ length es
run-length (Finish y) [] [] x runs = refl
run-length (Ask e next) (g ∷ es) (reply ∷ replies) x runs = let rest = run-length (next reply) es replies x runs.1 in omega (arith, rest)
run-length p es replies x runs = elim runs [ ]

asked-last : (rights : Role) (past before : AskedBefore) (f : Event) (es : List Event) (other : Reply) (replies : List Reply) (e : Event) (reply : Reply) → length replies ≡ length es
    → after_all (doing rights) past (f ∷ es) (other ∷ replies) ≡ (e, reply) ∷ before → IsAsked e reply [] (f ∷ es) (other ∷ replies)
asked-last rights past before f [] other [] e reply same last =
    subst (λ (x : Event × Reply). IsAsked x.0 x.1 [] (f ∷ []) (other ∷ [])) (let first : (f, other) ≡ (e, reply) = cc in first) (at_once [])
asked-last rights past before f [] other (again ∷ replies) e reply same last = absurd (omega (arith, same))
asked-last rights past before f (g ∷ es) other [] e reply same last = absurd (omega (arith, same))
asked-last rights past before f (g ∷ es) other (again ∷ replies) e reply same last =
    later f other (g ∷ es) (again ∷ replies) (asked-last rights ((f, other) ∷ past) before g es again replies e reply (omega (arith, same)) last)

module _ (r : Request) (s : Server) (handle : ℕ) where
  opened-so : (es : List Event) (replies : List Reply) → length replies ≡ length es → OpenedHere (role_of r s) (past_of r s es replies) handle → OpenedObject r s es replies handle
  opened-so [] replies same was = absurd (let no : [] ≡ _ ∷ was.before = was.last in cc)
  opened-so (e ∷ es) [] same was = absurd (omega (arith, same))
  opened-so (e ∷ es) (reply ∷ replies) same was = record {
    number = was.number;
    of_node = was.of_node;
    opener = was.opener;
    starts = was.starts;
    flags = was.flags;
    told = was.told;
    opened = asked-last (role_of r s) [] was.before e es reply replies _ _ (omega (arith, same)) was.last;
  }

pub opened_is_the_object : OpenedIsTheObject
opened_is_the_object r s t flags es replies handle told is runs =
    let ends = (run-does r s es replies (Says (Opened handle told), t) runs).1.1 in
    let opens = subst (λ o. Told (role_of r s) o (past_of r s es replies) (Opened handle told)) is ends in
    opened-so r s handle es replies (run-length (request_plan r s) es replies (Says (Opened handle told), t) runs) (opens handle told refl)
