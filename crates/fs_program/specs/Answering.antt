-- How it is answered who may do what at a path of a disk, and with which status that ends.
--     answer_status        the status of an answer
--     AnswersSo        a file system gives the answer
--     IsAnswerTold, MountedAnswers        the answer is told
--     AnswersOn        the same of a disk that is mounted for it
--     AccessEnds        a disk is asked
--     ImageAccessEnds        an image is asked
use Rattle.std.specs.Prelude.{◌≡◌, Bool, List, map, Result, Ok, Err, if◌then◌else◌}
use Rattle.sector_disk.specs.Disk.{DiskState, IsFresh}
use Rattle.fs_model.specs.States.{State}
use Rattle.fs_model.specs.declared.event.EventReply.TheVariants.{Reply as Replies}
use Rattle.fs_system.specs.Histories.{History, Up}
use Rattle.fs_system.specs.Mounts.{Mounts, IsNotMounted}
use Rattle.fs_system.specs.Seen.{System}
use Rattle.fs_system.specs.declared.faults.MountFault.{MountFault}
use Rattle.host_trees.specs.Copies.{Asked, Copies}
use Rattle.fs_access.specs.Asking.{AreAsking, Query, says_granted}
use Rattle.fs_access.specs.Sentences.{told_text}
use Rattle.fs_access.specs.declared.fault.AccessFault.{AccessFault}
use Rattle.fs_access.specs.declared.question.Answer.{Answer}
use Rattle.fs_fuse.specs.Performing.{ServesOne}
use Rattle.fs_command.specs.declared.status.Status.{Status}
use Rattle.fs_command.specs.declared.status.Status.TheVariants.{Done, Faulty}
use Rattle.fs_program.specs.Streams.{Writing}
use Rattle.fs_program.specs.Tellings.{IsUndone, Tells}
use Rattle.fs_program.specs.declared.failure.Failure.{Failure}
use Rattle.fs_program.specs.declared.failure.Failure.TheVariants as failures

-- a denial isn't done, as a finding isn't
abbrev pub answer_status : Answer → Status
answer_status answer = if says_granted answer then Done else Faulty

-- The file system is asked by the events of a process, whose replies are the answer.
abbrev pub AnswersSo : {D : Type 0} → (D → DiskState) → System D → Query → Result Answer AccessFault → Type 0
AnswersSo {D} state fs q found = (now : System D) × Copies (ServesOne state) fs now (λ asked. AreAsking q asked found)

-- the answer is told; or why there is none: the device failed, or memory ran out
abbrev pub IsAnswerTold : Bool → Query → Writing → Result Answer AccessFault → Result Status Failure → Type 0
IsAnswerTold json q w (Ok answer) result = Tells w (told_text json q answer) (answer_status answer) result
IsAnswerTold json q w (Err fault) result = IsUndone w (failures.Access fault) result

-- A file system was asked, and the answer told.
pub record MountedAnswers {D : Type 0} (state : D → DiskState) (fs : System D) (q : Query) (json : Bool) (w : Writing) (result : Result Status Failure) : Type 0 where
  pub found : Result Answer AccessFault
  pub answers : AnswersSo state fs q found
  pub told : IsAnswerTold json q w found result

-- A disk was mounted, and its file system was asked by these events, which are a history of it: the replies are those of the machine, in
-- the tree that the disk stands for.
pub record AnswersOn {D : Type 0} (state : D → DiskState) (disk : D) (q : Query) (found : Result Answer AccessFault) : Type 0 where
  pub first : D
  pub s : State
  pub mounts : Mounts (state disk) (state first) s
  pub asked : List Asked
  pub last : D
  pub t : State
  pub history : History state (Up s first) (map (λ a. a.event) asked) (map (λ a. Replies a.reply) asked) (Up t last)
  pub are : AreAsking q asked found

-- A disk is to be asked.
pub data AccessEnds {D : Type 0} (state : D → DiskState) (old : D) (q : Query) (json : Bool) (w : Writing) (result : Result Status Failure) : Type 0 where
  is_not_mounted : (now : D) (fault : MountFault) → IsNotMounted (state old) (state now) fault → IsUndone w (failures.Mount fault) result
      → AccessEnds state old q json w result
  was_asked : (found : Result Answer AccessFault) → AnswersOn state old q found → IsAnswerTold json q w found result
      → AccessEnds state old q json w result

-- An image is to be asked. The disk has its sectors in memory, and gives none back to the file.
pub data ImageAccessEnds {D : Type 0} (state : D → DiskState) (q : Query) (json : Bool) (w : Writing) (result : Result Status Failure) : Type 0 where
  cannot_ask : IsUndone w failures.NotOpened result → ImageAccessEnds state q json w result
  asks : (disk : D) → IsFresh (state disk) (state disk).seen → AccessEnds state disk q json w result → ImageAccessEnds state q json w result
