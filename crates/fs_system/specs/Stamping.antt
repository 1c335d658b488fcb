-- What setting the times of an inode does inside a transaction.
--     AreCounts        times in the range of theirs
--     IsStamped        nothing refuses it, and the map holds the tree after it
--     IsNotStamped        why it is refused
use Rattle.std.specs.Prelude.{◌≡◌, ℕ, Option, None, Some}
use Rattle.sector_disk.specs.Disk.{DiskState, HasFailed}
use Rattle.fs_cred.specs.declared.errno.Errno.{Errno}
use Rattle.fs_cred.specs.declared.errno.Errno.TheVariants.{EIO}
use Rattle.fs_cred.specs.declared.refusal.Refusal.TheVariants.{Failed}
use Rattle.fs_layout.specs.declared.geometry.Geometry.{Geometry}
use Rattle.fs_layout.specs.Bytes.{SectorMap}
use Rattle.fs_model.specs.declared.event.Event.TheVariants.{Stamp}
use Rattle.fs_model.specs.declared.reply.Reply.TheVariants.{Stamped}
use Rattle.fs_model.specs.declared.reply.Stamps.{Stamps}
use Rattle.fs_model.specs.Ranges.{IsSomeCount}
use Rattle.fs_model.specs.Stands.{HoldsAll, placed}
use Rattle.fs_model.specs.States.{State}
use Rattle.fs_model.specs.Steps.{after, tree_after, other_refusal}
use Rattle.call_parts.specs.Performing.{chosen}

abbrev pub AreCounts : Option ℕ → Option ℕ → Option ℕ → Type 0
AreCounts atime mtime ctime = IsSomeCount atime × IsSomeCount mtime × IsSomeCount ctime

-- Nothing refuses it. It answers these times, and the map holds the tree after it.
pub record IsStamped (p : Geometry) (map : SectorMap) (s : State) (n : ℕ) (atime mtime ctime : Option ℕ) (stamps : Stamps) : Type 0 where
  pub late : other_refusal s (Stamp n atime mtime ctime) ≡ None
  pub reply : (after s (Stamp n atime mtime ctime) (chosen 0 0 0)).reply ≡ Stamped stamps
  pub holds : HoldsAll p map (placed (tree_after s (after s (Stamp n atime mtime ctime) (chosen 0 0 0))))

-- Stamping is refused: the inode isn't there, or a read failed.
pub data IsNotStamped (old new : DiskState) (s : State) (n : ℕ) (atime mtime ctime : Option ℕ) (e : Errno) : Type 0 where
  absent : other_refusal s (Stamp n atime mtime ctime) ≡ Some (Failed e) → IsNotStamped old new s n atime mtime ctime e
  read_fails : HasFailed old new → e ≡ EIO → IsNotStamped old new s n atime mtime ctime e
