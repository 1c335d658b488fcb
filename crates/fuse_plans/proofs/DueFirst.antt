-- What is due is kept first.
--     due_first, none_before, recent_unless_due        the laws
--     kept_within        shares are kept by it
use Rattle.std.specs.Prelude.{◌≡◌, ℕ, ◌+◌, ◌*◌, ◌<◌, ◌≤◌, nat_lt, nat_le, Bool, true, false, ◌&&◌, ◌||◌, List, ◌∷◌, Option, None, Some, Result, Ok}
use Rattle.std.proofs.Common.{refl, sym, ap, subst, ◌∙◌, inl, inr, arith}
use Rattle.std.proofs.lemmas.Bool.Decides.{nat_tests}
use Rattle.fs_model.specs.declared.event.Event.{Event}
use Rattle.fs_model.specs.declared.event.Event.TheVariants.{Sync}
use Rattle.fs_model.specs.declared.reply.Reply.{Reply}
use Rattle.fuse_protocol.specs.declared.operation.Operation.{Operation}
use Rattle.fuse_protocol.specs.declared.reply.Time.{Time}
use Rattle.fuse_state.specs.Servers.{Server, with_kept_at, WithinShares}
use Rattle.fuse_state.specs.Stamps.{second}
use Rattle.fuse_state.proofs.Holders.{same_within}
use Rattle.fuse_plans.specs.declared.request_error.RequestError.{RequestError}
use Rattle.fuse_plans.specs.declared.reply.Response.{Response}
use Rattle.fuse_plans.specs.Plans.{Plan, Ask, followed_by, IsRunOf}
use Rattle.fuse_plans.specs.Requests.{Request}
use Rattle.fuse_plans.specs.Works.{give, kept, keep, ask, ◌>>=◌}
use Rattle.fuse_plans.specs.KeepingDue.{DueIsKeptFirst, NothingIsKeptBefore, UndueIsRecent}
use Rattle.fuse_plans.specs.Serving.{is_due, keep_due_if, keep_due, keep_due_in, request_plan, served_plan}
use Rattle.fuse_plans.proofs.PlanLaws.{run-finished}

-- ---- the laws

-- by whether it is due
abbrev served_if : Bool → Request → Server → Plan (Response × Server)
served_if due r s = followed_by (keep_due_if due r.now s) (λ u. request_plan r u.1)

served_is : (r : Request) (operation : Operation) (s : Server) → r.operation ≡ Some operation → served_plan r s ≡ served_if (is_due s r.now) r s
unfolding served_plan keep_due kept ◌>>=◌
served_is r operation s is = ap (λ (o : Option Operation). followed_by (keep_due_in o r.now s) (λ u. request_plan r u.1)) is

kept_first : (r : Request) (s : Server) → served_if true r s ≡ Ask Sync (λ reply. request_plan r (with_kept_at r.now s))
unfolding ask keep ◌>>=◌
kept_first r s = refl

none_kept : (r : Request) (s : Server) → served_if false r s ≡ request_plan r s
unfolding give
none_kept r s = refl

badly_spoken : (r : Request) (s : Server) → r.operation ≡ None → served_plan r s ≡ request_plan r s
unfolding served_plan give
badly_spoken r s is = ap (λ (o : Option Operation). followed_by (keep_due_in o r.now s) (λ u. request_plan r u.1)) is

pub due_first : DueIsKeptFirst
due_first r operation s is due = served_is r operation s is ∙ ap (λ (b : Bool). served_if b r s) due ∙ kept_first r s

pub none_before : NothingIsKeptBefore
none_before r s (inl undue) = by_form r.operation refl
  where
    by_form : (o : Option Operation) → r.operation ≡ o → served_plan r s ≡ request_plan r s
    by_form None is = badly_spoken r s is
    by_form (Some operation) is = served_is r operation s is ∙ ap (λ (b : Bool). served_if b r s) undue ∙ none_kept r s
none_before r s (inr is) = badly_spoken r s is

recent : (commit kept_seconds kept_nanoseconds seconds nanoseconds : ℕ) → 0 < commit → nanoseconds < second
    → (nat_lt 0 commit && (nat_lt seconds kept_seconds || nat_le (kept_seconds + commit) seconds)) ≡ false
    → (kept_seconds ≤ seconds) × (seconds * second + nanoseconds < kept_seconds * second + kept_nanoseconds + commit * second)
recent commit kept_seconds kept_nanoseconds seconds nanoseconds some small undue =
    let parts : (kept_seconds ≤ seconds) × (seconds < kept_seconds + commit) = grind (arith, nat_tests) in
    (parts.0, omega (arith, parts.1, small))

pub recent_unless_due : UndueIsRecent
recent_unless_due s now some small undue =
    recent s.settings.commit s.kept_at.seconds s.kept_at.nanoseconds now.seconds now.nanoseconds some small undue

-- ---- shares

kept_if : (due : Bool) (now : Time) (s : Server) (es : List Event) (replies : List Reply) (u : Result (Unit {0}) RequestError × Server)
    → IsRunOf (keep_due_if due now s) es replies u → WithinShares s → WithinShares u.1
unfolding keep give ask ◌>>=◌
kept_if false now s es replies u runs within = subst WithinShares (sym (ap (λ q. q.1) (run-finished (Ok tt, s) u es replies runs))) within
kept_if true now s (e ∷ es) (reply ∷ replies) u runs within =
    subst WithinShares (sym (ap (λ q. q.1) (run-finished (Ok tt, with_kept_at now s) u es replies runs.1))) (same_within s (with_kept_at now s) refl within)
kept_if due now s es replies u runs within = elim runs [ ]

pub kept_within : (o : Option Operation) (now : Time) (s : Server) (es : List Event) (replies : List Reply) (u : Result (Unit {0}) RequestError × Server)
    → IsRunOf (keep_due_in o now s) es replies u → WithinShares s → WithinShares u.1
unfolding keep_due kept give ◌>>=◌
kept_within None now s es replies u runs within = subst WithinShares (sym (ap (λ q. q.1) (run-finished (Ok tt, s) u es replies runs))) within
kept_within (Some operation) now s es replies u runs within = kept_if (is_due s now) now s es replies u runs within
