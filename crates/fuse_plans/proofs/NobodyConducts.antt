-- How it is found who counts of those who ask: what may be asked for it.
--     NoneMade, keeps-answer        nothing is made by it; work by whose result a plan is done
--     keeps-who_counts_in
use Rattle.std.specs.Prelude.{◌≡◌, ℕ, Bool, true, false, [], Option, None, Some, Result, Ok, Err}
use Rattle.std.proofs.Common.{refl}
use Rattle.posix_acl.specs.declared.entry.Perms.{Perms}
use Rattle.fs_model.specs.declared.call.AclType.TheVariants.{Access as AccessAcl}
use Rattle.fuse_protocol.specs.declared.operation.Operation.{Operation}
use Rattle.fuse_protocol.specs.declared.operation.Operation.TheVariants.{Lookup, ReadDirPlus}
use Rattle.fuse_state.specs.Servers.{Server}
use Rattle.fuse_plans.specs.declared.request_error.RequestError.{RequestError}
use Rattle.fuse_plans.specs.Plans.{Finish, followed_by, KeepsTo}
use Rattle.fuse_plans.specs.Works.{Work}
use Rattle.fuse_plans.specs.Masks.{is_masked}
use Rattle.fuse_plans.specs.Nobody.{unless_masked, is_judged, needs_nobody, asks_alone, is_granted, or_process, or_user, who_counts_in}
use Rattle.fuse_plans.specs.Acts.{AskedBefore}
use Rattle.fuse_plans.proofs.PlanLaws.{keeps-followed_by}
use Rattle.fuse_plans.proofs.Roles.{Role, clean-nothing, doing}
use Rattle.fuse_plans.proofs.Conducts.{counted_in, CleanIf, still, begins, LeftTo, Does, does-give, with->>=, does->>=}
use Rattle.fuse_plans.proofs.Calls.{does-list_of, does-list_hides, does-look, own-object, gives-number}

module _ {rights : Role} {known : AskedBefore} where
  does-is_masked : Does rights still known (is_masked rights.subject.node)
  unfolding is_masked
  does-is_masked = with->>= (gives-number _) (λ n own. does-list_hides n (own-object own))

  does-is_granted : (uid : ℕ) (want : Perms) → Does rights still known (is_granted rights.subject.node uid want)
  unfolding is_granted
  does-is_granted uid want =
      with->>= (gives-number _) (λ n own.
      does->>= (does-look n (own-object own)) (λ status.
      does->>= (does-list_of n AccessAcl (own-object own)) (λ acl. does-give _)))

-- nothing was made so far, nor changed
abbrev pub NoneMade : Role → {X : Type 0} → AskedBefore → X → Type 0
NoneMade rights past x = (counted_in past rights.subject.start.generations ≡ rights.subject.start.generations) × CleanIf rights past

module _ (rights : Role) (s : Server) (start : rights.subject.start ≡ s) where
  keeps-answer : {X Y : Type 0} (w : Work X) (f : Result X RequestError → Y) (past : AskedBefore) → NoneMade rights past s → Does rights still [] w
      → KeepsTo (doing rights) (NoneMade rights) past (followed_by (w s) (λ r. Finish (f r.0)))
  keeps-answer {X} w f past none does =
      keeps-followed_by (doing rights) (LeftTo rights still [] (λ n x. Unit {0})) (NoneMade rights) (w s) (λ r. Finish (f r.0)) past
      (does.goes past s (begins rights s start past none.0 none.1)) after
    where
      after : (n : AskedBefore) (r : Result X RequestError × Server) → LeftTo rights still [] (λ past x. Unit {0}) n r → NoneMade rights n (f r.0)
      after n (Ok x, t) left = (left.0.holds.1, left.0.clean)
      after n (Err e, t) left = (left.holds.1, left.clean)

  keeps-is_judged : (judges : Bool) (past : AskedBefore) → NoneMade rights past s → KeepsTo (doing rights) (NoneMade rights) past (is_judged rights.subject.node judges s)
  keeps-is_judged false past none = none
  keeps-is_judged true past none = keeps-answer (is_masked rights.subject.node) unless_masked past none does-is_masked

  -- of all but look-ups nothing is asked
  keeps-needs_nobody : (operation : Operation) (past : AskedBefore) → NoneMade rights past s
      → KeepsTo (doing rights) (NoneMade rights) past (needs_nobody rights.subject.node operation s)
  keeps-needs_nobody (Lookup name) past none = keeps-is_judged s.settings.posix_acl past none
  keeps-needs_nobody (ReadDirPlus extent) past none = keeps-is_judged s.settings.posix_acl past none
  keeps-needs_nobody _ past none = none

  keeps-or_user : (nobody : Bool) (want : Option Perms) (uid : ℕ) (past : AskedBefore) → NoneMade rights past s
      → KeepsTo (doing rights) (NoneMade rights) past (or_user nobody want rights.subject.node uid s)
  keeps-or_user true want uid past none = none
  keeps-or_user false None uid past none = none
  keeps-or_user false (Some want) uid past none = keeps-answer (is_granted rights.subject.node uid want) or_process past none (does-is_granted uid want)

  pub keeps-who_counts_in : (uid : ℕ) (operation : Option Operation) → KeepsTo (doing rights) (NoneMade rights) [] (who_counts_in rights.subject.node uid operation s)
  keeps-who_counts_in uid None = (refl, λ once. clean-nothing)
  keeps-who_counts_in uid (Some operation) =
      keeps-followed_by (doing rights) (NoneMade rights) (NoneMade rights) (needs_nobody rights.subject.node operation s)
      (λ nobody. or_user nobody (asks_alone operation) rights.subject.node uid s) [] (keeps-needs_nobody operation [] (refl, λ once. clean-nothing))
      (λ n nobody none. keeps-or_user nobody (asks_alone operation) uid n none)
