-- How the jobs end, and with which status.
--     status_at_end        the status of a job
--     IsOfRule, HasChecked        a finding is one of the rules'; a check has found something on a disk that has not failed
--     IsCheckTold        what a check has found is told
--     MkfsEnds, CheckEnds, UpgradeEnds        a disk is made a file system, a disk is checked, and a disk is upgraded
--     InfoEnds        a disk says of itself what it does
--     RunsOn, RunEnds        a script is run on a disk that is mounted for it
--     IsOfZeros        the disk in a new file
--     MemoryEnds, ImageMkfsEnds, ImageRunEnds, ImageCheckEnds, ImageInfoEnds, ImageUpgradeEnds        the jobs but that of serving
--     JobEnds, ProgramEnds        a job, and what the program does for its words
use Rattle.std.specs.Prelude.{◌≡◌, ◌⊎◌, ◌≤◌, ℕ, Bool, List, Option, None, IsSome, IsTrue, Result, Ok, Err, OnOk, IfOk, IfSome, replicate}
use Rattle.sector_disk.specs.Disk.{DiskState, IsFresh, IsStable, LeavesOnly, OnlyReads}
use Rattle.sector_disk.specs.Parts.{IsImageOf}
use Rattle.sector_disk.specs.Record.{Held}
use Rattle.fs_layout.specs.declared.version.Version.{Version}
use Rattle.fs_layout.specs.declared.version.Version.TheVariants.{Two, Three}
use Rattle.fs_layout.specs.Geometry.{laid_out, the_geometry}
use Rattle.fs_model.specs.States.{State}
use Rattle.fs_model.specs.declared.event.Event.TheVariants.{Sync}
use Rattle.fs_model.specs.declared.reply.Reply.{Reply}
use Rattle.fs_check.specs.Checks.{IsClean, IsFirst, IsReason, IsNone, Passed}
use Rattle.fs_check.specs.declared.faults.CheckFault.{CheckFault}
use Rattle.fs_check.specs.declared.faults.CheckFault.TheVariants.{Found, DiskFault, OutOfMemory}
use Rattle.fs_check.specs.declared.faults.Finding.{Finding}
use Rattle.fs_check.specs.declared.faults.Summary.{Summary}
use Rattle.fs_info.specs.Infos.{IsInfo, IsWhyNoInfo as IsInfoReason}
use Rattle.fs_info.specs.InfoTexts.{info_text}
use Rattle.fs_info.specs.declared.faults.InfoFault.{InfoFault}
use Rattle.fs_info.specs.declared.info.Info.{Info}
use Rattle.fs_system.specs.Doing.{Does}
use Rattle.fs_images.specs.Making.{IsDeviceFault, IsNewDisk, KeepsLogAndData}
use Rattle.fs_system.specs.Mounts.{IsNotMounted}
use Rattle.fs_system.specs.Histories.{Up}
use Rattle.fs_system.specs.Mounts.{Mounts}
use Rattle.fs_images.specs.declared.faults.MkfsFault.{MkfsFault}
use Rattle.fs_images.specs.declared.faults.MkfsFault.TheVariants.{TooSmall}
use Rattle.fs_system.specs.declared.faults.MountFault.{MountFault}
use Rattle.fs_images.specs.declared.faults.UpgradeFault.{UpgradeFault}
use Rattle.fs_images.specs.Upgrading.{IsHalfUpgraded, IsNotUpgraded, IsUpgraded}
use Rattle.fs_shell.specs.Runs.{Ran}
use Rattle.fs_shell.specs.declared.answer.Count.{Count}
use Rattle.fs_shell.specs.declared.runner.Watched.{Watched}
use Rattle.fs_shell.specs.Watching.{FailsWhere}
use Rattle.fs_shell.specs.declared.fault.RunFault.{RunFault}
use Rattle.fs_shell.specs.declared.fault.RunFault.TheVariants.{ReadFault, WriteFault}
use Rattle.fuse_serving.specs.Processes.{Showing}
use Rattle.fs_program.specs.Copying.{ImagePackEnds, ImageUnpackEnds}
use Rattle.fs_program.specs.Serving.{FuseJobEnds}
use Rattle.fs_program.specs.Programs.{RunsInMemory}
use Rattle.fs_command.specs.Statuses.{code_of, status_of}
use Rattle.fs_program.specs.Streams.{Reading, Writing, reading, watched}
use Rattle.fs_program.specs.Answering.{ImageAccessEnds}
use Rattle.fs_program.specs.Tellings.{IsUndone, Tells}
use Rattle.fs_program.specs.Unmounts.{unmount_end}
use Rattle.fs_program.specs.Texts.{made_text, clean_text, found_text, version_text}
use Rattle.fs_command.specs.Words.{AsksFor, Refuses, words_status}
use Rattle.fs_program.specs.declared.failure.Failure.{Failure}
use Rattle.fs_program.specs.declared.failure.Failure.TheVariants as failures
use Rattle.fs_program.specs.declared.memory.TheConstants.{SECTORS, INODES}
use Rattle.fs_command.specs.declared.status.Status.{Status}
use Rattle.fs_command.specs.declared.status.Status.TheVariants.{Done, Faulty, Failed}
use Rattle.fs_command.specs.declared.words.Job.{Job}
use Rattle.fs_command.specs.declared.words.Job.TheVariants.{Memory, Mkfs, Format, Pack, Unpack, Run, Check, Info as InfoJob, Upgrade, Fuse, Access}
use Rattle.fs_command.specs.declared.words.WordsFault.{WordsFault}

-- ---- statuses

-- each failure is the same status
abbrev pub status_at_end : Result Status Failure → Status
status_at_end (Ok status) = status
status_at_end (Err failure) = Failed

-- a run: that of its lines, or it ended early
abbrev pub run_status : Result Count RunFault → Status
run_status (Ok count) = status_of count.faults
run_status (Err fault) = Failed

-- a run in memory
abbrev pub memory_end : Result Count Failure → Result Status Failure
memory_end (Ok count) = Ok (status_of count.faults)
memory_end (Err failure) = Err failure

-- ---- on a disk

-- a finding is one of the fourteen rules'
abbrev pub IsOfRule : CheckFault → Type 0
IsOfRule (Found finding) = (1 ≤ finding.rule) × (finding.rule ≤ 14)
IsOfRule DiskFault = Unit {0}
IsOfRule OutOfMemory = Unit {0}

-- what a check has found is told: what a clean disk has, the finding, or why there is neither
abbrev pub IsCheckTold : Bool → Writing → Result Summary CheckFault → Result Status Failure → Type 0
IsCheckTold explain w (Ok summary) result = Tells w (clean_text summary) Done result
IsCheckTold explain w (Err (Found finding)) result = Tells w (found_text explain finding) Faulty result
IsCheckTold explain w (Err DiskFault) result = IsUndone w (failures.Check DiskFault) result
IsCheckTold explain w (Err OutOfMemory) result = IsUndone w (failures.Check OutOfMemory) result

-- A check has found this on a disk that has not failed, and that is the image of a file, where it's known what this holds.
pub record HasChecked {P : Type 0} (part : P → DiskState) (file : Option Held) (found : Result Summary CheckFault) : Type 0 where
  pub old : P
  pub now : P
  pub is_image : IfSome file (IsImageOf (part old).seen)
  pub fresh : IsFresh (part old) (part old).seen
  pub clean : IfOk found (IsClean (part old))
  pub passed : Passed IsFirst (part old) (part now) found
  pub quiet : (part now).failures ≡ 0

-- A file system of this version is to be made on a disk that has room for so many inodes.
pub data MkfsEnds (old now : DiskState) (version : Version) (inodes : ℕ) (w : Writing) (result : Result Status Failure) : Type 0 where
  cannot_make : (fault : MkfsFault) → IsDeviceFault old now fault → IsUndone w (failures.Mkfs fault) result
      → MkfsEnds old now version inodes w result
  is_made : IsNewDisk version inodes now.seen → KeepsLogAndData version inodes old now → IsStable now → Tells w (made_text (laid_out version old.size inodes)) Done result
      → MkfsEnds old now version inodes w result

-- A disk is to be checked, and a finding explained or not.
pub data CheckEnds (old now : DiskState) (explain : Bool) (w : Writing) (result : Result Status Failure) : Type 0 where
  is_clean : (summary : Summary) → IsClean old summary → Tells w (clean_text summary) Done result
      → CheckEnds old now explain w result
  has_finding : (finding : Finding) → IsFirst old finding.rule finding.at → Tells w (found_text explain finding) Faulty result
      → CheckEnds old now explain w result
  -- the device failed, or memory ran out
  is_unchecked : (fault : CheckFault) → IsReason IsNone old now fault → IsUndone w (failures.Check fault) result
      → CheckEnds old now explain w result

-- A disk is to say of itself what it does, a line each or as JSON.
pub data InfoEnds (old now : DiskState) (json : Bool) (w : Writing) (result : Result Status Failure) : Type 0 where
  says : (info : Info) → IsInfo old info → Tells w (info_text json info) Done result → InfoEnds old now json w result
  -- the disk is no file system, its commit is damaged, or the device failed
  says_nothing : (fault : InfoFault) → IsInfoReason old now fault → IsUndone w (failures.Info fault) result
      → InfoEnds old now json w result

-- A disk is to be upgraded.
pub data UpgradeEnds (old now : DiskState) (w : Writing) (result : Result Status Failure) : Type 0 where
  cannot_upgrade : (fault : UpgradeFault) → IsNotUpgraded old now fault → IsUndone w (failures.Upgrade fault) result
      → UpgradeEnds old now w result
  is_upgraded : (version : Version) → IsUpgraded version old now → Tells w (version_text version) Done result → UpgradeEnds old now w result

-- A disk was mounted, a script was run on its file system, and then that was unmounted, however the run had ended. The
-- unmount makes all stable, as sync does.
pub record RunsOn {D : Type 0} (state : D → DiskState) (disk : D) (r : Reading) (w : Writing) (ran : Result Count RunFault) (reply : Reply) : Type 0 where
  pub first : D
  pub s : State
  pub mounts : Mounts (state disk) (state first) s
  pub last : D
  pub t : State
  pub runs : Ran state r.input w.before w.after (Up s first) (Up t last) ran
  -- a fault of the reader or the writer is told exactly where it has failed
  pub read_fault : FailsWhere r.had_failed r.has_failed (ran ≡ Err ReadFault)
  pub write_fault : FailsWhere w.had_failed w.has_failed (ran ≡ Err WriteFault)
  pub flushed : OnOk ran (IsTrue w.is_flushed)
  pub left : D
  pub u : State
  pub unmounts : Does (state last) (state left) t Sync reply u

-- A script is to be run on a disk.
pub data RunEnds {D : Type 0} (state : D → DiskState) (disk : D) (r : Reading) (w : Writing) (result : Result Status Failure) : Type 0 where
  cannot_mount : (now : D) (fault : MountFault) → IsNotMounted (state disk) (state now) fault → IsUndone w (failures.Mount fault) result
      → RunEnds state disk r w result
  has_run : (ran : Result Count RunFault) (reply : Reply) → RunsOn state disk r w ran reply → result ≡ unmount_end (run_status ran) reply
      → RunEnds state disk r w result

-- ---- jobs: of a file nothing is known but that it is some disk, and of one that is checked in part what it holds

-- A script is to be run on a new disk in memory.
pub record MemoryEnds {D : Type 0} (state : D → DiskState) (r : Reading) (w : Writing) (result : Result Status Failure) : Type 0 where
  pub ran : Result Count Failure
  pub runs : RunsInMemory state Two SECTORS INODES r w (w.after ≡ w.before) ran
  pub read_fault : FailsWhere r.had_failed r.has_failed (ran ≡ Err (failures.Run ReadFault))
  pub write_fault : FailsWhere w.had_failed w.has_failed (ran ≡ Err (failures.Run WriteFault))
  pub flushed : OnOk ran (IsTrue w.is_flushed)
  pub is_end : result ≡ memory_end ran

-- a disk of so many sectors, which are zeros
pub record IsOfZeros (sectors : ℕ) (disk : DiskState) : Type 0 where
  pub size : disk.size ≡ sectors
  pub seen : disk.seen ≡ replicate sectors (replicate 512 0)

-- An image of this version is to be made. The file is new and of zeros, so those are left in its log and in its data.
pub data ImageMkfsEnds {D : Type 0} (state : D → DiskState) (version : Version) (sectors inodes : ℕ) (w : Writing) (result : Result Status Failure) : Type 0 where
  has_no_geometry : the_geometry version sectors inodes ≡ None → IsUndone w (failures.Mkfs TooSmall) result → ImageMkfsEnds state version sectors inodes w result
  exists : IsUndone w failures.Exists result → ImageMkfsEnds state version sectors inodes w result
  is_not_created : IsUndone w failures.NotCreated result → ImageMkfsEnds state version sectors inodes w result
  is_created : (old now : D) → IsOfZeros sectors (state old) → MkfsEnds (state old) (state now) version inodes w result
      → ImageMkfsEnds state version sectors inodes w result

-- The script is that of the standard input, unless it is in a file: then it is what reads of an open file give.
pub data ImageRunEnds {D F : Type 0} (state : D → DiskState) (remaining : F → Option (List ℕ)) (script : Option (List ℕ)) (r : Reading) (w : Writing)
    (result : Result Status Failure) : Type 0 where
  cannot_open : IsUndone w failures.NotOpened result → ImageRunEnds state remaining script r w result
  has_no_script : IsSome script → IsUndone w failures.NoScript result → ImageRunEnds state remaining script r w result
  runs_input : (disk : D) → IsFresh (state disk) (state disk).seen → script ≡ None → RunEnds state disk r w result
      → ImageRunEnds state remaining script r w result
  runs_file : (disk : D) (file : F) (after : Watched F) → IsFresh (state disk) (state disk).seen → IsSome script
      → RunEnds state disk (reading remaining (watched file) after) w result → ImageRunEnds state remaining script r w result

-- Of a disk in part the check has asked for no sector but those that were read of a file: else that disk had failed. What is told is
-- true of the image of that file, where it's known what it holds.
pub data ImageCheckEnds {D P F : Type 0} (state : D → DiskState) (part : P → DiskState) (held : F → Option Held) (explain : Bool) (w : Writing)
    (result : Result Status Failure) : Type 0 where
  cannot_check : IsUndone w failures.NotOpened result → ImageCheckEnds state part held explain w result
  checks : (old now : D) → IsFresh (state old) (state old).seen → OnlyReads (state old) (state now)
      → CheckEnds (state old) (state now) explain w result → ImageCheckEnds state part held explain w result
  checks_part : (file : F) (old now : P) → IfSome (held file) (IsImageOf (part old).seen) → IsFresh (part old) (part old).seen
      → OnlyReads (part old) (part now) → (part now).failures ≡ 0
      → CheckEnds (part old) (part now) explain w result → ImageCheckEnds state part held explain w result

pub data ImageInfoEnds {D : Type 0} (state : D → DiskState) (json : Bool) (w : Writing) (result : Result Status Failure) : Type 0 where
  cannot_say : IsUndone w failures.NotOpened result → ImageInfoEnds state json w result
  describes : (old now : D) → IsFresh (state old) (state old).seen → OnlyReads (state old) (state now)
      → InfoEnds (state old) (state now) json w result → ImageInfoEnds state json w result

pub data ImageUpgradeEnds {D : Type 0} (state : D → DiskState) (w : Writing) (result : Result Status Failure) : Type 0 where
  has_no_image : IsUndone w failures.NotOpened result → ImageUpgradeEnds state w result
  upgrades : (old now : D) → IsFresh (state old) (state old).seen → LeavesOnly (state old) (state now) (IsHalfUpgraded (state old))
      → UpgradeEnds (state old) (state now) w result → ImageUpgradeEnds state w result

-- A job ends so, on disks in memory and in files, the latter as wholes, in part, and never written; by what files hold, and what reads of them give; and by
-- what is shown of processes.
abbrev pub JobEnds : {M D P U F S : Type 0} → (M → DiskState) → (D → DiskState) → (P → DiskState) → (U → DiskState) → (F → Option Held) → (F → Option (List ℕ))
    → (S → Showing → S → Type 0) → S → Reading → Writing → Job → Result Status Failure → Type 0
JobEnds memory file part unwritten held remaining Shows processes r w Memory result = MemoryEnds memory r w result
JobEnds memory file part unwritten held remaining Shows processes r w (Mkfs image sectors inodes) result = ImageMkfsEnds file Two sectors inodes w result
JobEnds memory file part unwritten held remaining Shows processes r w (Format image sectors inodes) result = ImageMkfsEnds file Three sectors inodes w result
JobEnds memory file part unwritten held remaining Shows processes r w (Pack image from sectors inodes user group) result =
    (w.after ≡ w.before) × ImagePackEnds file sectors inodes result
JobEnds memory file part unwritten held remaining Shows processes r w (Unpack image to) result = (w.after ≡ w.before) × ImageUnpackEnds file result
JobEnds memory file part unwritten held remaining Shows processes r w (Run image script) result = ImageRunEnds file remaining script r w result
JobEnds memory file part unwritten held remaining Shows processes r w (Check image explain) result = ImageCheckEnds file part held explain w result
JobEnds memory file part unwritten held remaining Shows processes r w (InfoJob image json) result = ImageInfoEnds file json w result
JobEnds memory file part unwritten held remaining Shows processes r w (Upgrade image) result = ImageUpgradeEnds file w result
JobEnds memory file part unwritten held remaining Shows processes r w (Fuse image denials own_rules commit) result =
    FuseJobEnds file Shows processes denials own_rules commit result
JobEnds memory file part unwritten held remaining Shows processes r w (Access image path perms cred json) result =
    ImageAccessEnds unwritten (record { cred = cred; path = path; perms = perms }) json w result

-- ---- the program

-- What the program does for its words, and the number that it ends with.
pub data ProgramEnds {M D P U F S : Type 0} (memory : M → DiskState) (file : D → DiskState) (part : P → DiskState) (unwritten : U → DiskState) (held : F → Option Held)
    (remaining : F → Option (List ℕ)) (Shows : S → Showing → S → Type 0) (words : List (List ℕ)) (processes : S) (r : Reading) (w : Writing) (code : ℕ)
    : Type 0 where
  does_job : (job : Job) (result : Result Status Failure) → AsksFor words job → JobEnds memory file part unwritten held remaining Shows processes r w job result
      → code ≡ code_of (status_at_end result) → ProgramEnds memory file part unwritten held remaining Shows words processes r w code
  -- the help, the version, or what is wrong is printed
  refuses : (fault : WordsFault) → Refuses words fault → code ≡ code_of (words_status fault)
      → ProgramEnds memory file part unwritten held remaining Shows words processes r w code
  -- that can't be printed
  is_mute : (fault : WordsFault) → Refuses words fault → code ≡ code_of Failed → ProgramEnds memory file part unwritten held remaining Shows words processes r w code
