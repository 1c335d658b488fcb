-- What is asked of a file system to know who may do what.
--     Query        the question
--     spawning, called, looked        one event with its reply: a process begins, makes the call, and looks whether a component is a link
--     why_unanswered, reply_of, IsAnswer        what a reply comes to
--     IsUnanswered        nothing is answered, for this reason
--     AreBegun, AreHeard, AreLook        what one event comes to
--     AreNoLinks, FindsLink, AreLooks        components that are no links, and the first that is one
--     AreExplained        a denial, and what explains it
--     AreCalled, AreAsking        the whole, without the process's beginning and with it
--     says_granted        what the answer says
use Rattle.std.specs.Prelude.{◌≡◌, ◌⊎◌, ◌≤◌, ◌+◌, ℕ, Bool, true, false, List, [], ◌∷◌, ◌++◌, drop, Option, None, Some, IsTrue, IsFalse, Result, Ok, Err, MatchResult}
use Rattle.posix_acl.specs.declared.entry.Perms.{Perms}
use Rattle.fs_cred.specs.Credentials.{Credential}
use Rattle.fs_cred.specs.declared.errno.Errno.TheVariants.{EIO, ENOMEM}
use Rattle.fs_cred.specs.declared.refusal.Denial.{Denial}
use Rattle.fs_cred.specs.declared.refusal.Refusal.TheVariants as refusals
use Rattle.fs_model.specs.declared.call.Call.TheVariants.{Access, Lstat}
use Rattle.fs_model.specs.declared.event.Event.TheVariants.{Spawn, Call as Calls}
use Rattle.fs_model.specs.declared.reply.FileType.{FileType}
use Rattle.fs_model.specs.declared.reply.FileType.TheVariants.{Link}
use Rattle.fs_model.specs.declared.reply.Reply.{Reply}
use Rattle.fs_model.specs.declared.reply.Reply.TheVariants.{Pid, Shown, Granted, Refused}
use Rattle.fs_model.specs.declared.reply.Status.{Status}
use Rattle.host_trees.specs.Copies.{Asked}
use Rattle.fs_access.specs.Components.{prefix_of}
use Rattle.fs_access.specs.declared.asking.Heard.{Heard}
use Rattle.fs_access.specs.declared.asking.Heard.TheVariants as heard
use Rattle.fs_access.specs.declared.fault.AccessFault.{AccessFault}
use Rattle.fs_access.specs.declared.fault.AccessFault.TheVariants.{DiskFault, OutOfMemory, NoAnswer}
use Rattle.fs_access.specs.declared.question.Answer.{Answer}
use Rattle.fs_access.specs.declared.question.Answer.TheVariants as answers

-- whether who has this credential may do this at the path
pub record Query : Type 0 where
  pub cred : Credential
  pub path : List ℕ
  pub perms : Perms

-- ---- one event, with its reply

abbrev pub spawning : Query → ℕ → Asked
spawning q pid = record { event = Spawn q.cred; reply = Pid pid }

abbrev pub called : Query → ℕ → Reply → Asked
called q pid reply = record { event = Calls pid (Access q.path q.perms); reply = reply }

-- so many components of the path, from where the process begins: so written they are no longer than the path
abbrev pub looked : List ℕ → ℕ → ℕ → Reply → Asked
looked path pid count reply = record { event = Calls pid (Lstat (drop 1 (prefix_of path count))); reply = reply }

-- ---- what a reply comes to

-- no answer: the device failed, memory ran out, or the reply is of another kind
abbrev pub why_unanswered : Reply → AccessFault
why_unanswered (Refused (refusals.Failed EIO)) = DiskFault
why_unanswered (Refused (refusals.Failed ENOMEM)) = OutOfMemory
why_unanswered reply = NoAnswer

-- the reply of which this is heard
abbrev pub reply_of : Heard → Reply
reply_of (heard.Granted rule) = Granted rule
reply_of (heard.Denied denial) = Refused (refusals.Denied denial)
reply_of (heard.Failed errno) = Refused (refusals.Failed errno)

-- an error is neither that of the device nor of memory
abbrev pub IsAnswer : Heard → Type 0
IsAnswer (heard.Failed errno) = why_unanswered (Refused (refusals.Failed errno)) ≡ NoAnswer
IsAnswer said = Unit {0}

-- Memory ran out, or the last reply is no answer.
abbrev pub IsUnanswered : List Asked → AccessFault → Type 0
IsUnanswered asked fault =
    (fault ≡ OutOfMemory) ⊎ ((before : List Asked) × (last : Asked) × (asked ≡ before ++ last ∷ []) × (fault ≡ why_unanswered last.reply))

abbrev pub AreBegun : Query → List Asked → Result ℕ AccessFault → Type 0
AreBegun q asked result = MatchResult result (λ pid. asked ≡ spawning q pid ∷ []) (IsUnanswered asked)

abbrev pub AreHeard : Query → ℕ → List Asked → Result Heard AccessFault → Type 0
AreHeard q pid asked result =
    MatchResult result (λ said. (asked ≡ called q pid (reply_of said) ∷ []) × IsAnswer said) (IsUnanswered asked)

-- ---- links on the way

abbrev pub shows_link : FileType → Bool
shows_link Link = true
shows_link kind = false

abbrev pub AreLook : List ℕ → ℕ → ℕ → List Asked → Result Bool AccessFault → Type 0
AreLook path pid count asked result =
    MatchResult result (λ is. (status : Status) × (asked ≡ looked path pid count (Shown status) ∷ []) × (is ≡ shows_link status.kind)) (IsUnanswered asked)

-- so many components were looked at, one after another, and none is a link
pub data AreNoLinks (path : List ℕ) (pid : ℕ) : ℕ → List Asked → Type 0 where
  none : AreNoLinks path pid 0 []
  more : (passed : ℕ) (before : List Asked) (status : Status) → AreNoLinks path pid passed before → IsFalse (shows_link status.kind)
      → AreNoLinks path pid (passed + 1) (before ++ looked path pid (passed + 1) (Shown status) ∷ [])

-- the last of so many that were looked at is the first link
pub record FindsLink (path : List ℕ) (pid most count : ℕ) (asked : List Asked) : Type 0 where
  pub passed : ℕ
  pub before : List Asked
  pub status : Status
  pub no_links : AreNoLinks path pid passed before
  pub next : count ≡ passed + 1
  pub within : count ≤ most
  pub link : IsTrue (shows_link status.kind)
  pub are : asked ≡ before ++ looked path pid count (Shown status) ∷ []

abbrev pub AreLooks : List ℕ → ℕ → ℕ → List Asked → Result (Option ℕ) AccessFault → Type 0
AreLooks path pid most asked (Ok None) = AreNoLinks path pid most asked
AreLooks path pid most asked (Ok (Some count)) = FindsLink path pid most count asked
AreLooks path pid most asked (Err fault) = IsUnanswered asked fault

-- ---- the whole

-- the denial is told, with the first link among the components up to the one that refused
abbrev pub AreExplained : Query → ℕ → Denial → List Asked → Result Answer AccessFault → Type 0
AreExplained q pid denial asked result =
    MatchResult result (λ answer. (link : Option ℕ) × (answer ≡ answers.Denied denial link) × AreLooks q.path pid denial.step asked (Ok link)) (IsUnanswered asked)

-- The process calls `access`, whose reply is the answer. Where that is a denial, it looks at these components.
abbrev pub AreCalled : Query → ℕ → List Asked → Result Answer AccessFault → Type 0
AreCalled q pid asked (Ok (answers.Granted rule)) = asked ≡ called q pid (Granted rule) ∷ []
AreCalled q pid asked (Ok (answers.Denied denial link)) =
    (looks : List Asked) × AreLooks q.path pid denial.step looks (Ok link) × (asked ≡ called q pid (Refused (refusals.Denied denial)) ∷ looks)
AreCalled q pid asked (Ok (answers.Failed errno)) =
    IsAnswer (heard.Failed errno) × (asked ≡ called q pid (Refused (refusals.Failed errno)) ∷ [])
AreCalled q pid asked (Err fault) = IsUnanswered asked fault

-- Before that the process begins, with the credential.
abbrev pub AreAsking : Query → List Asked → Result Answer AccessFault → Type 0
AreAsking q asked result =
    MatchResult result (λ answer. (pid : ℕ) × (rest : List Asked) × AreCalled q pid rest (Ok answer) × (asked ≡ spawning q pid ∷ rest)) (IsUnanswered asked)

abbrev pub says_granted : Answer → Bool
says_granted (answers.Granted rule) = true
says_granted answer = false
