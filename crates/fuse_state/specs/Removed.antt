-- Directories that were removed, and may be open still.
--     removed_directory        what is shown of one
use Rattle.std.specs.Prelude.{ℕ}
use Rattle.fs_model.specs.declared.reply.Status.{Status}
use Rattle.fuse_protocol.specs.declared.reply.Time.{Time}
use Rattle.fuse_state.specs.declared.removed.RemovedDirectory.{RemovedDirectory}
use Rattle.fuse_state.specs.declared.times.Times.{Times}

-- it has no name, and changed when it lost that
abbrev pub removed_directory : Time → Status → Times → RemovedDirectory
removed_directory now status times = record { status = record status { links = 0 }; times = record times { ctime = now } }
