-- Whether the kernel has judged, once it was found what a directory's list is; and who counts, once it was found whether the user is granted what is asked.
use Rattle.std.specs.Prelude.{◌≡◌, ℕ, Bool, true, false, not, Option, None, Some, Result}
use Rattle.std.proofs.Common.{refl, sym, subst}
use Rattle.fs_model.specs.declared.event.Event.{Event}
use Rattle.fs_model.specs.declared.reply.Reply.{Reply}
use Rattle.posix_acl.specs.declared.entry.Perms.{Perms}
use Rattle.fuse_sessions.specs.declared.session.Session.{Session}
use Rattle.fuse_plans.specs.declared.request_error.RequestError.{RequestError}
use Rattle.fuse_plans.specs.Plans.{Finish, CarriesOut, finishes}
use Rattle.fuse_plans.specs.Masks.{is_masked}
use Rattle.fuse_protocol.specs.declared.operation.Operation.{Operation}
use Rattle.fuse_state.specs.Servers.{Server}
use Rattle.fuse_plans.specs.declared.request.WhoCounts.{WhoCounts}
use Rattle.fuse_plans.specs.declared.request.WhoCounts.TheVariants.{Nobody, Process}
use Rattle.fuse_plans.specs.Nobody.{needs_nobody, unless_masked, is_judged, asks_alone, is_granted, or_process, or_user, who_counts}
use Rattle.fuse_sessions.specs.Performing.{Did}
use Rattle.fuse_steps.proofs.Steps.{carries-followed_by}

pub if-not : (b : Bool) → not b ≡ true → b ≡ false
if-not true is = absurd (cc)
if-not false is = refl

pub unless-not : (b : Bool) → not b ≡ false → b ≡ true
unless-not true is = refl
unless-not false is = absurd (cc)

module _ {M : Type 0} {Serves : M → Event → Reply → M → Type 0} where
  pub judges : (node : ℕ) {old new : Session M} {r : Result Bool RequestError} (nobody : Bool) → old.server.server.settings.posix_acl ≡ true
      → Did Serves (is_masked node) old new r → nobody ≡ unless_masked r
      → CarriesOut Serves (is_judged node old.server.server.settings.posix_acl old.server.server) old.machine new.machine nobody
  judges node {old} {new} {r} nobody judged did says =
      subst (λ (b : Bool). CarriesOut Serves (is_judged node b old.server.server) old.machine new.machine nobody) (sym judged)
      (subst (λ (b : Bool). CarriesOut Serves (is_judged node true old.server.server) old.machine new.machine b) (sym says)
      (carries-followed_by (is_masked node old.server.server) (λ q. Finish (unless_masked q.0)) old.machine new.machine new.machine
      (r, new.server.server) (unless_masked r) did.performs (finishes (unless_masked r) new.machine)))

  pub not-judged : (node : ℕ) (s : Session M) → s.server.server.settings.posix_acl ≡ false
      → CarriesOut Serves (is_judged node s.server.server.settings.posix_acl s.server.server) s.machine s.machine false
  not-judged node s alone =
      subst (λ (b : Bool). CarriesOut Serves (is_judged node b s.server.server) s.machine s.machine false) (sym alone) (finishes false s.machine)

  -- ---- who counts

  pub counts-nobody : (node uid : ℕ) (operation : Operation) (s : Server) {old new : M} {b : Bool} → b ≡ true
      → CarriesOut Serves (needs_nobody node operation s) old new b → CarriesOut Serves (who_counts node uid operation s) old new Nobody
  counts-nobody node uid operation s {old} {new} {b} is found =
      carries-followed_by (needs_nobody node operation s) (λ nobody. or_user nobody (asks_alone operation) node uid s) old new new true Nobody
      (subst (λ (c : Bool). CarriesOut Serves (needs_nobody node operation s) old new c) is found) (finishes Nobody new)

  pub counts-process : (node uid : ℕ) (operation : Operation) (s : Server) {old new : M} {b : Bool} → b ≡ false → asks_alone operation ≡ None
      → CarriesOut Serves (needs_nobody node operation s) old new b → CarriesOut Serves (who_counts node uid operation s) old new Process
  counts-process node uid operation s {old} {new} {b} is other found =
      carries-followed_by (needs_nobody node operation s) (λ nobody. or_user nobody (asks_alone operation) node uid s) old new new false Process
      (subst (λ (c : Bool). CarriesOut Serves (needs_nobody node operation s) old new c) is found)
      (subst (λ (c : Option Perms). CarriesOut Serves (or_user false c node uid s) new new Process) (sym other) (finishes Process new))

  pub counts-user : (node uid : ℕ) (operation : Operation) (want : Perms) (old : Session M) {mid new : Session M} {b : Bool} {r : Result Bool RequestError} {who : WhoCounts} → b ≡ false
      → mid.server ≡ old.server → asks_alone operation ≡ Some want
      → CarriesOut Serves (needs_nobody node operation old.server.server) old.machine mid.machine b → Did Serves (is_granted node uid want) mid new r → or_process r ≡ who
      → CarriesOut Serves (who_counts node uid operation old.server.server) old.machine new.machine who
  counts-user node uid operation want old {mid} {new} {b} {r} {who} is same reads found did says =
      let s = old.server.server in
      let granted : CarriesOut Serves (is_granted node uid want s) mid.machine new.machine (r, new.server.server) =
      subst (λ k. CarriesOut Serves (is_granted node uid want k.server) mid.machine new.machine (r, new.server.server)) same did.performs in
      subst (λ w. CarriesOut Serves (who_counts node uid operation s) old.machine new.machine w) says
      (carries-followed_by (needs_nobody node operation s) (λ nobody. or_user nobody (asks_alone operation) node uid s) old.machine mid.machine new.machine false (or_process r)
      (subst (λ (c : Bool). CarriesOut Serves (needs_nobody node operation s) old.machine mid.machine c) is found)
      (subst (λ (c : Option Perms). CarriesOut Serves (or_user false c node uid s) mid.machine new.machine (or_process r)) (sym reads)
      (carries-followed_by (is_granted node uid want s) (λ q. Finish (or_process q.0)) mid.machine new.machine new.machine (r, new.server.server) (or_process r)
      granted (finishes (or_process r) new.machine))))
