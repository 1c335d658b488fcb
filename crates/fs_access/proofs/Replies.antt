-- What one event and its reply come to.
use Rattle.std.specs.Prelude.{◌≡◌, ℕ, List, [], ◌∷◌, ◌++◌, drop, true, false, Result, Ok, Err, MatchResult, ◌+◌, ◌<◌}
use Rattle.std.proofs.Common.{refl, sym, ap, ap₂, subst, inr, arith}
use Rattle.fs_cred.specs.Credentials.{Credential}
use Rattle.fs_cred.specs.declared.refusal.Denial.{Denial}
use Rattle.fs_model.specs.declared.call.Call.TheVariants.{Access, Lstat}
use Rattle.fs_model.specs.declared.event.Event.{Event}
use Rattle.fs_model.specs.declared.event.Event.TheVariants.{Spawn, Call as Calls}
use Rattle.fs_model.specs.declared.reply.Reply.{Reply}
use Rattle.fs_model.specs.declared.reply.Reply.TheVariants.{Pid, Shown}
use Rattle.fs_model.specs.declared.reply.Status.{Status}
use Rattle.host_trees.specs.Copies.{Asked}
use Rattle.fs_access.specs.Asking.{Query, AreAsking, AreBegun, AreCalled, AreExplained, AreHeard, AreLook, FindsLink, IsAnswer, IsUnanswered, AreNoLinks, more, spawning, called, why_unanswered, reply_of, looked}
use Rattle.fs_access.specs.Components.{prefix_of}
use Rattle.fs_access.specs.declared.asking.Heard.{Heard}
use Rattle.fs_access.specs.declared.asking.Heard.TheVariants as heard
use Rattle.fs_access.specs.declared.question.Answer.{Answer}
use Rattle.fs_access.proofs.Steps.{cut_after}
use Rattle.fs_access.specs.declared.fault.AccessFault.{AccessFault}

-- the one event, and what it was answered
abbrev pub only : Event → Reply → List Asked
only event reply = record { event = event; reply = reply } ∷ []

-- a reply of another kind
pub cut : (event : Event) (reply : Reply) (fault : AccessFault) → fault ≡ why_unanswered reply → IsUnanswered (only event reply) fault
cut event reply fault is = inr ([], record { event = event; reply = reply }, refl, is)

pub begins : (q : Query) (cred : Credential) (reply : Reply) (pid : ℕ) → cred ≡ q.cred → reply ≡ Pid pid → only (Spawn cred) reply ≡ spawning q pid ∷ []
begins q cred reply pid same is = ap₂ (λ c r. only (Spawn c) r) same is

-- what the call was answered
pub heard_ends : (q : Query) (pid : ℕ) (path : List ℕ) (reply : Reply) (result : Result Heard AccessFault) → path ≡ q.path
    → MatchResult result (λ said. (reply ≡ reply_of said) × IsAnswer said) (λ fault. fault ≡ why_unanswered reply)
    → AreHeard q pid (only (Calls pid (Access path q.perms)) reply) result
heard_ends q pid path reply (Ok said) same is = (ap₂ (λ p r. only (Calls pid (Access p q.perms)) r) same is.0, is.1)
heard_ends q pid path reply (Err fault) same is = cut (Calls pid (Access path q.perms)) reply fault is

pub looks : (path : List ℕ) (pid count : ℕ) (prefix : List ℕ) (reply : Reply) (status : Status) → prefix ≡ drop 1 (prefix_of path count) → reply ≡ Shown status
    → only (Calls pid (Lstat prefix)) reply ≡ looked path pid count (Shown status) ∷ []
looks path pid count prefix reply status same is = ap₂ (λ p r. only (Calls pid (Lstat p)) r) same is

-- one component more is no link
pub passes : (path : List ℕ) (pid passed : ℕ) (first rest : List Asked) → AreNoLinks path pid passed first → AreLook path pid (passed + 1) rest (Ok false)
    → AreNoLinks path pid (passed + 1) (first ++ rest)
passes path pid passed first rest before look =
    subst (λ (r : List Asked). AreNoLinks path pid (passed + 1) (first ++ r)) (sym look.1) (more passed first look.0 before (sym look.2))

-- it is one
pub finds : (path : List ℕ) (pid most passed : ℕ) (first rest : List Asked) → passed < most → AreNoLinks path pid passed first
    → AreLook path pid (passed + 1) rest (Ok true) → FindsLink path pid most (passed + 1) (first ++ rest)
finds path pid most passed first rest below before look = record {
  passed = passed;
  before = first;
  status = look.0;
  no_links = before;
  next = refl;
  within = omega arith;
  link = sym look.2;
  are = ap (λ r. first ++ r) look.1;
}

-- ---- one after another

pub called_denied : (q : Query) (pid : ℕ) (denial : Denial) (first rest : List Asked) (r : Result Answer AccessFault)
    → AreHeard q pid first (Ok (heard.Denied denial)) → AreExplained q pid denial rest r → AreCalled q pid (first ++ rest) r
called_denied q pid denial first rest (Ok answer) said told =
    subst (λ (a : Answer). AreCalled q pid (first ++ rest) (Ok a)) (sym told.1) (rest, told.2, ap (λ f. f ++ rest) said.0)
called_denied q pid denial first rest (Err fault) said told = cut_after first rest fault told

pub asking_then : (q : Query) (pid : ℕ) (first rest : List Asked) (r : Result Answer AccessFault) → AreBegun q first (Ok pid) → AreCalled q pid rest r
    → AreAsking q (first ++ rest) r
asking_then q pid first rest (Ok answer) begins called = (pid, rest, called, ap (λ f. f ++ rest) begins)
asking_then q pid first rest (Err fault) begins called = cut_after first rest fault called
