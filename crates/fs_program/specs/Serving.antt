-- How a disk is served to the kernel.
--     settings_of        what is agreed on with it
--     served_status        how that ends
--     ServesOn, FuseEnds        a disk is mounted, served and unmounted
--     ImageFuseEnds        an image is served to a kernel
--     FuseJobEnds        the job: to one that knows of who asks what is shown of processes
use Rattle.std.specs.Prelude.{◌≡◌, ◌-◌, Bool, not, List, ℕ, Option, IsSome, Result, Ok, Err}
use Rattle.sector_disk.specs.Disk.{DiskState, IsFresh}
use Rattle.fs_layout.specs.declared.geometry.Geometry.{Geometry}
use Rattle.fs_layout.specs.Version.{max_name, keeps_times}
use Rattle.fs_model.specs.States.{State}
use Rattle.fs_model.specs.declared.event.Event.TheVariants.{Sync}
use Rattle.fs_model.specs.declared.reply.Reply.{Reply}
use Rattle.fs_system.specs.Doing.{HappensLast}
use Rattle.fs_system.specs.Mounts.{IsNotMounted, Mounts}
use Rattle.fs_system.specs.Seen.{System, disk_in, IsIn}
use Rattle.fs_system.specs.declared.faults.MountFault.{MountFault}
use Rattle.fuse_protocol.specs.declared.reply.Time.{Time}
use Rattle.fuse_state.specs.declared.settings.Settings.{Settings}
use Rattle.fuse_state.specs.Keepings.{usually_kept}
use Rattle.fuse_serving.specs.Exchanges.{Exchange, SeesTime}
use Rattle.fuse_serving.specs.Processes.{Showing, LearnsBy}
use Rattle.fuse_serving.specs.declared.fault.ServeFault.{ServeFault}
use Rattle.fs_fuse.specs.Performing.{ServingEnds}
use Rattle.fs_program.specs.declared.failure.Failure.{Failure}
use Rattle.fs_program.specs.Unmounts.{unmount_end}
use Rattle.fs_program.specs.declared.failure.Failure.TheVariants as failures
use Rattle.fs_command.specs.declared.status.Status.{Status}
use Rattle.fs_command.specs.declared.status.Status.TheVariants.{Done, Failed}

-- Writes have up to 1 MiB. With its own rules the kernel judges no ACLs. All data sectors and all inodes are shown, and how long a
-- name may be. The disk keeps times where its version does. So many seconds after all was kept a request has it kept first; 0: none does.
abbrev pub settings_of : Geometry → Bool → ℕ → Time → Settings
settings_of geometry own_rules commit start = record {
  max_write = 1048576;
  posix_acl = not own_rules;
  keeping = usually_kept;
  sectors = geometry.sectors - geometry.first_data;
  inodes = geometry.inodes;
  max_name = max_name geometry.version;
  keeps_times = keeps_times geometry.version;
  start = start;
  commit = commit;
}

abbrev pub served_status : Result (Unit {0}) ServeFault → Status
served_status (Ok done) = Done
served_status (Err fault) = Failed

-- A disk was mounted; the kernel's requests were served from its file system, until the end or a fault, and are one history of it
-- either way; and then that was unmounted. The unmount makes all stable, as sync does.
pub record ServesOn {D K : Type 0} (state : D → DiskState) (Does : K → Exchange → K → Type 0) (disk : D) (own_rules : Bool) (commit : ℕ)
    (before after : K) (served : Result (Unit {0}) ServeFault) (reply : Reply) : Type 0 where
  pub start : Time
  pub begun : K
  pub sees : Does before (SeesTime start) begun
  pub first : System D
  pub s : State
  pub is_first : IsIn state first s
  pub mounts : Mounts (state disk) (disk_in state first.base) s
  pub last : System D
  pub serves : ServingEnds state Does (settings_of first.geometry own_rules commit start) first last begun after served
  pub left : D
  pub unmounts : HappensLast state last left Sync reply

-- A disk is to be served.
pub data FuseEnds {D K : Type 0} (state : D → DiskState) (Does : K → Exchange → K → Type 0) (disk : D) (own_rules : Bool) (commit : ℕ)
    (before after : K) (result : Result Status Failure) : Type 0 where
  -- memory is lacking, or the time isn't known
  cannot_begin : (fault : ServeFault) → result ≡ Err (failures.Serve fault) → FuseEnds state Does disk own_rules commit before after result
  cannot_mount : (now : D) (fault : MountFault) → IsNotMounted (state disk) (state now) fault → result ≡ Err (failures.Mount fault)
      → FuseEnds state Does disk own_rules commit before after result
  has_served : (served : Result (Unit {0}) ServeFault) (reply : Reply) → ServesOn state Does disk own_rules commit before after served reply
      → result ≡ unmount_end (served_status served) reply → FuseEnds state Does disk own_rules commit before after result

-- The image is to be served; denials are written to a file, if one is named.
pub data ImageFuseEnds {D K : Type 0} (state : D → DiskState) (Does : K → Exchange → K → Type 0) (denials : Option (List ℕ))
    (own_rules : Bool) (commit : ℕ) (before after : K) (result : Result Status Failure) : Type 0 where
  has_nothing_to_serve : result ≡ Err failures.NotOpened → ImageFuseEnds state Does denials own_rules commit before after result
  has_no_list : IsSome denials → result ≡ Err failures.NoDenials → ImageFuseEnds state Does denials own_rules commit before after result
  serves : (disk : D) → IsFresh (state disk) (state disk).seen → FuseEnds state Does disk own_rules commit before after result
      → ImageFuseEnds state Does denials own_rules commit before after result

-- It is served at the streams of a process, of which nothing is known but that who asks is who was shown.
abbrev pub FuseJobEnds : {D S : Type 0} → (D → DiskState) → (S → Showing → S → Type 0) → S → Option (List ℕ) → Bool → ℕ → Result Status Failure → Type 0
FuseJobEnds {D} {S} state Shows processes denials own_rules commit result =
    (after : S) × ImageFuseEnds state (LearnsBy Shows) denials own_rules commit processes after result
