-- Confinement of file systems, each on a disk of its own: the bytes that a process can't see into have no part in what it is
-- answered.
--     IsServed        an answer that tells of no failure
--     MayBeChosenAlike        states that the same free choices may have led to
--     BothAnswered, UnreadableBytesDoNotShow        what two file systems answer, and the law
--     IsInOneState        one that runs is in one state only
use Rattle.std.specs.Prelude.{◌≡◌, ◌≢◌, ℕ, Some, IsFalse, is_some}
use Rattle.std.specs.Ordering.{nat_cmp}
use Rattle.sector_disk.specs.Disk.{DiskState}
use Rattle.fs_cred.specs.declared.errno.Errno.TheVariants.{EIO, ENOMEM}
use Rattle.fs_cred.specs.declared.refusal.Refusal.TheVariants.{Failed}
use Rattle.fs_layout.specs.Maps.{get}
use Rattle.fs_model.specs.declared.event.Event.{Event}
use Rattle.fs_model.specs.declared.reply.Reply.{Reply}
use Rattle.fs_model.specs.declared.reply.Reply.TheVariants.{Refused}
use Rattle.fs_model.specs.Trees.{node_at}
use Rattle.fs_model.specs.Processes.{Process}
use Rattle.fs_model.specs.States.{State}
use Rattle.fs_model.specs.Alike.{AreAlike}
use Rattle.fs_model.specs.Ranges.{IsEvent}
use Rattle.fs_model.specs.Confinement.{IsConfined, IsOf, AnswerAlike}
use Rattle.fs_system.specs.Seen.{System, IsIn}
use Rattle.fs_system.specs.Doing.{Happens}

-- neither for want of memory nor for a fault of the disk
pub record IsServed (reply : Reply) : Type 0 where
  pub memory : reply ≢ Refused (Failed ENOMEM)
  pub disk : reply ≢ Refused (Failed EIO)

-- two states have the same inodes in use, and as many data sectors free
pub record MayBeChosenAlike (s t : State) : Type 0 where
  pub numbers : (n : ℕ) → is_some (node_at s.tree n) ≡ is_some (node_at t.tree n)
  pub free : s.free ≡ t.free

-- States in which the two file systems are after one event of the process each. Where the same free choices may have led to them,
-- the process got equal replies, and they are alike to it while it is there; and it is confined as before, for its next event.
pub record BothAnswered {D E : Type 0} (state : D → DiskState) (other : E → DiskState) (pid : ℕ) (new : System D) (new' : System E) (reply reply' : Reply) : Type 0 where
  pub first : State
  pub second : State
  pub is_first : IsIn state new first
  pub is_second : IsIn other new' second
  pub alike : MayBeChosenAlike first second → AnswerAlike pid reply reply' first second
  pub confined : (q : Process) → get nat_cmp first.processes pid ≡ Some q → IsConfined q.cred

-- A call, an fsync or the exit of a process happens on two file systems that are alike to it, and neither fails.
abbrev pub UnreadableBytesDoNotShow : {D E : Type 0} → (D → DiskState) → (E → DiskState) → Type 0
UnreadableBytesDoNotShow {D} {E} state other =
    (pid : ℕ) (p : Process) (s t : State) (old new : System D) (old' new' : System E) (e : Event) (reply reply' : Reply)
    → IsIn state old s → IsIn other old' t → get nat_cmp s.processes pid ≡ Some p → IsConfined p.cred → IsOf pid e → IsEvent e → AreAlike pid s t
    → Happens state old new e reply → Happens other old' new' e reply' → IsServed reply → IsServed reply'
    → BothAnswered state other pid new new' reply reply'

-- In whatever states a file system is, one of them not halted, they are one.
abbrev pub IsInOneState : {D : Type 0} → (D → DiskState) → Type 0
IsInOneState {D} state = (fs : System D) (s t : State) → IsFalse s.halted → IsIn state fs s → IsIn state fs t → t ≡ s
