-- Requests one after another: where among what is asked for them a sync comes.
--     kept_in_time
use Rattle.std.specs.Prelude.{◌≡◌, ℕ, ◌+◌, ◌<◌, ◌≤◌, ◌⊎◌, nat_lt, nat_le, Bool, true, false, ◌&&◌, ◌||◌, List, [], ◌∷◌, ◌++◌, Option, None, Some}
use Rattle.std.proofs.Common.{refl, sym, ap, subst, ◌∙◌, inl, inr, arith}
use Rattle.std.proofs.lemmas.Bool.Decides.{nat_tests}
use Rattle.std.proofs.lemmas.List.{append-nil}
use Rattle.fs_model.specs.declared.event.Event.{Event}
use Rattle.fs_model.specs.declared.event.Event.TheVariants.{Sync}
use Rattle.fs_model.specs.declared.reply.Reply.{Reply}
use Rattle.fuse_protocol.specs.declared.operation.Operation.{Operation}
use Rattle.fuse_protocol.specs.declared.reply.Time.{Time}
use Rattle.fuse_state.specs.Servers.{Server, with_kept_at}
use Rattle.fuse_plans.specs.declared.reply.Response.{Response}
use Rattle.fuse_plans.specs.Plans.{Plan, Finish, Ask, IsRunOf}
use Rattle.fuse_plans.specs.Requests.{Request}
use Rattle.fuse_plans.specs.KeepingDue.{IsInTime, never_due, not_of_form, recent, AreKept, no_request, in_time, synced, RequestsAreKeptInTime}
use Rattle.fuse_plans.specs.Serving.{is_due, request_plan, served_plan, requests_plan}
use Rattle.fuse_plans.proofs.PlanLaws.{run-parts}
use Rattle.fuse_plans.proofs.RequestConducts.{clock_stays}
use Rattle.fuse_plans.proofs.DueFirst.{due_first, none_before}

-- ---- one request

recent_or_never : (commit kept_at now : ℕ) → (nat_lt 0 commit && (nat_lt now kept_at || nat_le (kept_at + commit) now)) ≡ false
    → (commit ≡ 0) ⊎ ((kept_at ≤ now) × (now < kept_at + commit))
recent_or_never commit kept_at now undue = choose (nat_lt 0 commit) refl
  where
    choose : (b : Bool) → nat_lt 0 commit ≡ b → (commit ≡ 0) ⊎ ((kept_at ≤ now) × (now < kept_at + commit))
    choose false none = inl (grind (arith, nat_tests))
    choose true some = inr (grind (arith, nat_tests))

undue_in_time : (r : Request) (s : Server) → is_due s r.now ≡ false → IsInTime s.settings.commit s.kept_at r
undue_in_time r s undue = choose (recent_or_never s.settings.commit s.kept_at.seconds r.now.seconds undue)
  where
    choose : (s.settings.commit ≡ 0) ⊎ ((s.kept_at.seconds ≤ r.now.seconds) × (r.now.seconds < s.kept_at.seconds + s.settings.commit))
        → IsInTime s.settings.commit s.kept_at r
    choose (inl never) = never_due never
    choose (inr parts) = recent parts.0 parts.1

module _ (r : Request) (s : Server) (q : Response × Server) (rs : List Request) (more : List Event) (others : List Reply)
    (rest : AreKept q.1.settings.commit q.1.kept_at rs more others) where
  -- nothing comes first
  with_none : (es : List Event) (replies : List Reply) → IsInTime s.settings.commit s.kept_at r → served_plan r s ≡ request_plan r s
      → IsRunOf (served_plan r s) es replies q → AreKept s.settings.commit s.kept_at (r ∷ rs) (es ++ more) (replies ++ others)
  with_none es replies timely same runs =
      let alone : IsRunOf (request_plan r s) es replies q = subst (λ (p : Plan (Response × Server)). IsRunOf p es replies q) same runs in
      in_time s.kept_at r rs s q es more replies others timely alone
      (subst (λ (k : Time × ℕ). AreKept k.1 k.0 rs more others) (clock_stays r s q.1 q.0 es replies alone) rest)

  -- a sync comes first
  with_sync : (es : List Event) (replies : List Reply) → IsRunOf (Ask Sync (λ reply. request_plan r (with_kept_at r.now s))) es replies q
      → AreKept s.settings.commit s.kept_at (r ∷ rs) (es ++ more) (replies ++ others)
  with_sync (e ∷ es) (reply ∷ replies) runs =
      subst (λ (f : Event). AreKept s.settings.commit s.kept_at (r ∷ rs) ((f ∷ es) ++ more) ((reply ∷ replies) ++ others)) (sym runs.0)
      (synced s.kept_at r rs (with_kept_at r.now s) q reply es more replies others runs.1
      (subst (λ (k : Time × ℕ). AreKept k.1 k.0 rs more others) (clock_stays r (with_kept_at r.now s) q.1 q.0 es replies runs.1) rest))
  with_sync es replies runs = elim runs [ ]

  one_kept : (es : List Event) (replies : List Reply) → IsRunOf (served_plan r s) es replies q
      → AreKept s.settings.commit s.kept_at (r ∷ rs) (es ++ more) (replies ++ others)
  one_kept es replies runs = by_form r.operation refl (is_due s r.now) refl
    where
      by_form : (o : Option Operation) → r.operation ≡ o → (due : Bool) → is_due s r.now ≡ due
          → AreKept s.settings.commit s.kept_at (r ∷ rs) (es ++ more) (replies ++ others)
      by_form None is due was = with_none es replies (not_of_form is) (none_before r s (inr is)) runs
      by_form (Some operation) is false was = with_none es replies (undue_in_time r s was) (none_before r s (inl was)) runs
      by_form (Some operation) is true was =
          with_sync es replies (subst (λ (p : Plan (Response × Server)). IsRunOf p es replies q) (due_first r operation s is was) runs)

-- ---- several

none_asked : {X : Type 0} (x y : X) (es : List Event) (replies : List Reply) → IsRunOf (Finish x) es replies y → (es ≡ []) × (replies ≡ [])
none_asked x y [] [] ends = (refl, refl)
none_asked x y es replies ends = elim ends [ ]

pub kept_in_time : RequestsAreKeptInTime
unfolding requests_plan
kept_in_time [] s t [] [] responses runs = no_request s.kept_at
kept_in_time [] s t [] (reply ∷ replies) responses runs = elim runs [ ]
kept_in_time [] s t (e ∷ es) replies responses runs = elim runs [ ]
kept_in_time (r ∷ rs) s t es replies responses runs =
    let parts = run-parts (served_plan r s) _ es replies (responses, t) runs in
    let rest = run-parts (requests_plan rs parts.middle.1) _ parts.later_events parts.later_replies (responses, t) parts.later in
    let none = none_asked (parts.middle.0 ∷ rest.middle.0, rest.middle.1) (responses, t) rest.later_events rest.later_replies rest.later in
    let events : es ≡ parts.first_events ++ rest.first_events =
    parts.all_events ∙ ap (λ (l : List Event). parts.first_events ++ l) (rest.all_events ∙ ap (λ (l : List Event). rest.first_events ++ l) none.0 ∙ append-nil rest.first_events) in
    let answers : replies ≡ parts.first_replies ++ rest.first_replies =
    parts.all_replies ∙ ap (λ (l : List Reply). parts.first_replies ++ l) (rest.all_replies ∙ ap (λ (l : List Reply). rest.first_replies ++ l) none.1 ∙ append-nil rest.first_replies) in
    let all : AreKept s.settings.commit s.kept_at (r ∷ rs) (parts.first_events ++ rest.first_events) (parts.first_replies ++ rest.first_replies) =
    one_kept r s parts.middle rs rest.first_events rest.first_replies
    (kept_in_time rs parts.middle.1 rest.middle.1 rest.first_events rest.first_replies rest.middle.0 rest.first) parts.first_events parts.first_replies parts.first in
    subst (λ (l : List Event). AreKept s.settings.commit s.kept_at (r ∷ rs) l replies) (sym events)
    (subst (λ (l : List Reply). AreKept s.settings.commit s.kept_at (r ∷ rs) (parts.first_events ++ rest.first_events) l) (sym answers) all)
