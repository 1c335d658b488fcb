-- How a tree is copied to a disk and from one, and with which status that ends.
--     copied_status, copy_end        the status of a copy, and what the unmount after it is answered
--     MountedEnds        a tree is copied to a file system or from it, and that is unmounted
--     CopiesOn        a tree is copied to a file system that is mounted for it, or from it
--     LeavesTree        what is copied from stays as it is
--     PackEnds, UnpackEnds        a disk is made a file system with a tree, and a tree is copied from a disk
--     ImagePackEnds, ImageUnpackEnds        the same of images
use Rattle.std.specs.Prelude.{◌≡◌, ℕ, List, map, None, Some, Result, Ok, Err}
use Rattle.sector_disk.specs.Disk.{DiskState, IsFresh, IsStable}
use Rattle.fs_layout.specs.declared.geometry.Geometry.{Geometry}
use Rattle.fs_layout.specs.declared.version.Version.TheVariants.{Three}
use Rattle.fs_layout.specs.Geometry.{the_geometry}
use Rattle.fs_model.specs.States.{State}
use Rattle.fs_model.specs.declared.event.Event.TheVariants.{Sync}
use Rattle.fs_model.specs.declared.event.EventReply.TheVariants.{Reply as Replies}
use Rattle.fs_model.specs.declared.reply.Reply.{Reply}
use Rattle.fs_images.specs.Standing.{EachStandsFor}
use Rattle.fs_images.specs.Making.{IsDeviceFault, IsNewDisk}
use Rattle.fs_images.specs.declared.faults.MkfsFault.{MkfsFault}
use Rattle.fs_images.specs.declared.faults.MkfsFault.TheVariants.{TooSmall}
use Rattle.fs_system.specs.Doing.{Does, HappensLast}
use Rattle.fs_system.specs.Histories.{History, Up}
use Rattle.fs_system.specs.Mounts.{Mounts, IsNotMounted}
use Rattle.fs_system.specs.declared.faults.MountFault.{MountFault}
use Rattle.fs_system.specs.Seen.{System}
use Rattle.host_trees.specs.Copies.{Asked, ArePacking, AreUnpacking, Copies}
use Rattle.host_trees.specs.declared.fault.Copied.{Copied}
use Rattle.host_trees.specs.declared.fault.Copied.TheVariants.{Whole, InPart}
use Rattle.host_trees.specs.declared.fault.CopyFault.{CopyFault}
use Rattle.host_trees.specs.declared.fault.CopyFault.TheVariants.{NoDirectory, NoProc}
use Rattle.fs_fuse.specs.Performing.{ServesOne}
use Rattle.fs_program.specs.declared.failure.Failure.{Failure}
use Rattle.fs_program.specs.Unmounts.{unmount_end}
use Rattle.fs_program.specs.declared.failure.Failure.TheVariants as failures
use Rattle.fs_command.specs.declared.status.Status.{Status}
use Rattle.fs_command.specs.declared.status.Status.TheVariants.{Done, Faulty}

abbrev pub copied_status : Copied → Status
copied_status Whole = Done
copied_status InPart = Faulty

-- the end of a copy that may have failed
abbrev pub copy_end : (CopyFault → Failure) → Result Copied CopyFault → Reply → Result Status Failure
copy_end failure (Err fault) reply = Err (failure fault)
copy_end failure (Ok copied) reply = unmount_end (copied_status copied) reply

-- A tree is copied to a file system, or from it, and then that is unmounted.
pub record MountedEnds {D : Type 0} (state : D → DiskState) (Are : List Asked → Result Copied CopyFault → Type 0) (failure : CopyFault → Failure)
    (fs : System D) (result : Result Status Failure) : Type 0 where
  pub copied : Result Copied CopyFault
  pub reply : Reply
  pub now : System D
  pub left : D
  pub copies : Copies (ServesOne state) fs now (λ asked. Are asked copied)
  pub unmounts : HappensLast state now left Sync reply
  pub is_end : result ≡ copy_end failure copied reply

-- A disk was mounted, a tree was copied by events such as these, which are a history of its file system, and then that was
-- unmounted, however the copy had ended. The unmount makes all stable, as sync does.
pub record CopiesOn {D : Type 0} (state : D → DiskState) (disk : D) (Are : List Asked → Type 0) (reply : Reply) : Type 0 where
  pub first : D
  pub s : State
  pub mounts : Mounts (state disk) (state first) s
  pub asked : List Asked
  pub last : D
  pub t : State
  pub history : History state (Up s first) (map (λ a. a.event) asked) (map (λ a. Replies a.reply) asked) (Up t last)
  pub are : Are asked
  pub left : D
  pub u : State
  pub unmounts : Does (state last) (state left) t Sync reply u

-- The tree is the one that was mounted, and each image that a stop may leave then stands for it.
pub record LeavesTree {D : Type 0} (state : D → DiskState) {disk : D} {Are : List Asked → Type 0} {reply : Reply}
    (copies : CopiesOn state disk Are reply) : Type 0 where
  pub tree : copies.u.tree ≡ copies.s.tree
  pub images : EachStandsFor copies.s.room (state copies.left) copies.s.tree

-- A disk is to be made a file system with the tree of a directory: all of the tree is there, and stable, where that is done.
pub data PackEnds {D : Type 0} (state : D → DiskState) (old : D) (geometry : Geometry) (result : Result Status Failure) : Type 0 where
  cannot_make : (now : D) (fault : MkfsFault) → IsDeviceFault (state old) (state now) fault → result ≡ Err (failures.Mkfs fault)
      → PackEnds state old geometry result
  cannot_mount : (made now : D) (fault : MountFault) → IsNewDisk geometry.version geometry.inodes (state made).seen → IsStable (state made)
      → IsNotMounted (state made) (state now) fault → result ≡ Err (failures.Mount fault) → PackEnds state old geometry result
  has_packed : (made : D) (packed : Result Copied CopyFault) (reply : Reply) → IsNewDisk geometry.version geometry.inodes (state made).seen
      → IsStable (state made) → CopiesOn state made (λ asked. ArePacking asked packed) reply → result ≡ copy_end failures.Pack packed reply
      → PackEnds state old geometry result

-- The tree of a disk is to be copied to a new directory. It stays on the disk as it was mounted, however that ends.
pub data UnpackEnds {D : Type 0} (state : D → DiskState) (old : D) (result : Result Status Failure) : Type 0 where
  is_not_mounted : (now : D) (fault : MountFault) → IsNotMounted (state old) (state now) fault → result ≡ Err (failures.Mount fault)
      → UnpackEnds state old result
  has_unpacked : (unpacked : Result Copied CopyFault) (reply : Reply) (copies : CopiesOn state old (λ asked. AreUnpacking asked unpacked) reply)
      → LeavesTree state copies → result ≡ copy_end failures.Unpack unpacked reply → UnpackEnds state old result

-- An image of the third layout is to be made with the tree of a directory. Where that can't be, no file is made but in the last case.
pub data ImagePackEnds {D : Type 0} (state : D → DiskState) (sectors inodes : ℕ) (result : Result Status Failure) : Type 0 where
  has_no_geometry : the_geometry Three sectors inodes ≡ None → result ≡ Err (failures.Mkfs TooSmall) → ImagePackEnds state sectors inodes result
  has_no_directory : result ≡ Err (failures.Pack NoDirectory) → ImagePackEnds state sectors inodes result
  has_no_proc : result ≡ Err (failures.Pack NoProc) → ImagePackEnds state sectors inodes result
  is_there : result ≡ Err failures.Exists → ImagePackEnds state sectors inodes result
  cannot_create : result ≡ Err failures.NotCreated → ImagePackEnds state sectors inodes result
  packs : (disk : D) (geometry : Geometry) → the_geometry Three sectors inodes ≡ Some geometry → (state disk).size ≡ sectors
      → PackEnds state disk geometry result → ImagePackEnds state sectors inodes result

-- The tree of an image is to be copied to a new directory.
pub data ImageUnpackEnds {D : Type 0} (state : D → DiskState) (result : Result Status Failure) : Type 0 where
  has_no_disk : result ≡ Err failures.NotOpened → ImageUnpackEnds state result
  unpacks : (disk : D) → IsFresh (state disk) (state disk).seen → UnpackEnds state disk result → ImageUnpackEnds state result
