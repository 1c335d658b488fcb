-- Directories that were removed, and may be open still: what is shown of one stays so until the kernel forgets it.
--     look_before, inode_seen        what has a name that is to go
--     last_shown        what is shown of a directory from then on
--     removed_instead, or_of_removed        what is told of a node where that is what is left
use Rattle.std.specs.Prelude.{ℕ, Bool, true, false, not, ◌||◌, List, Option, None, Some, Result, Ok, Err, if◌then◌else◌}
use Rattle.fs_model.specs.declared.reply.FileType.{FileType}
use Rattle.fs_model.specs.declared.reply.FileType.TheVariants.{Directory}
use Rattle.fs_model.specs.declared.reply.Status.{Status}
use Rattle.fuse_plans.specs.declared.request_error.RequestError.{RequestError}
use Rattle.fuse_plans.specs.RequestErrors.{is_stale}
use Rattle.fuse_protocol.specs.declared.reply.Time.{Time}
use Rattle.fuse_state.specs.declared.removed.RemovedDirectory.{RemovedDirectory}
use Rattle.fuse_state.specs.Removed.{removed_directory}
use Rattle.fuse_state.specs.Servers.{Server, removed_directory_of}
use Rattle.fuse_plans.specs.Works.{Work, give, fail, kept, ◌>>=◌, attempt, needed}
use Rattle.fuse_plans.specs.Callers.{server_credential, look_inside}
use Rattle.fuse_plans.specs.Times.{disk_keeps_times, told_stamps, times_in}

abbrev pub status_seen : Result Status RequestError → Option Status
status_seen (Ok status) = Some status
status_seen (Err e) = None

abbrev pub inode_seen : Option Status → Option ℕ
inode_seen None = None
inode_seen (Some status) = Some status.ino

abbrev pub look_before_if : Bool → ℕ → List ℕ → Work (Option Status)
look_before_if false d name = give None
look_before_if true d name = do
  seen ← attempt (look_inside server_credential d name)
  give (status_seen seen)

-- What has the name, as the server sees it. It has to know that where a directory may go, and where it keeps times itself.
unfoldable pub look_before : Bool → ℕ → List ℕ → Work (Option Status)
look_before of_directory d name = do
  keeps ← disk_keeps_times
  look_before_if (of_directory || not keeps) d name

abbrev pub is_directory_type : FileType → Bool
is_directory_type Directory = true
is_directory_type _ = false

abbrev pub last_shown_if : Bool → Time → Status → Work (Option RemovedDirectory)
last_shown_if false now status = give None
last_shown_if true now status = do
  stamps ← told_stamps status.ino
  kept (λ s. Some (removed_directory now status (times_in s status.ino stamps)))

-- what is shown of a directory once it is removed; of anything else nothing
unfoldable pub last_shown : Time → Option Status → Work (Option RemovedDirectory)
last_shown now None = give None
last_shown now (Some status) = last_shown_if (is_directory_type status.kind) now status

-- ---- what is gone

-- where it was a directory that was removed
abbrev pub removed_instead : ℕ → RequestError → Work RemovedDirectory
removed_instead node e = if is_stale e then (do
  removed ← kept (λ s. removed_directory_of s node)
  needed e removed) else fail e

-- What is told of what a node names. Of a directory that was removed it is this.
abbrev pub or_of_removed : {X : Type 0} → ℕ → (RemovedDirectory → Server → X) → Result X RequestError → Work X
or_of_removed node f (Ok x) = give x
or_of_removed node f (Err e) = do
  removed ← removed_instead node e
  kept (f removed)
