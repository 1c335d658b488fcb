-- What is asked of the table of processes, and what holds of it.
--     answer_of        an answer that needs a process: ESRCH without it
--     open_in, slot_in        what a descriptor is for, and the descriptor that an open gets
--     with_changed, without_descriptor        one process changed; one descriptor closed
--     IsUnused        a process may open something at a descriptor
--     AreDescriptors, IsKeptProcess, IsTable        what holds of every table
use Rattle.std.specs.Prelude.{◌≡◌, ℕ, ◌<◌, ◌≤◌, nat_le, List, length, if◌then◌else◌, Option, None, Some, Result, Err}
use Rattle.std.specs.Option.{ok_or}
use Rattle.std.specs.Ordering.{nat_cmp}
use Rattle.fs_layout.specs.Maps.{get, with_entry, without, IsMap}
use Rattle.fs_cred.specs.declared.errno.Errno.{Errno}
use Rattle.fs_cred.specs.declared.errno.Errno.TheVariants.{ESRCH, EBADF, EMFILE}
use Rattle.fs_model.specs.Limits.{descriptors_limit, processes_limit}
use Rattle.fs_model.specs.Processes.{Descriptor, Process, ProcessTable, descriptor, least_unused}

-- ---- answers

abbrev pub answer_of_found : {A : Type 0} → (Process → Result A Errno) → Option Process → Result A Errno
answer_of_found f None = Err ESRCH
answer_of_found f (Some p) = f p

-- ESRCH: there is no such process
abbrev pub answer_of : {A : Type 0} → ProcessTable → ℕ → (Process → Result A Errno) → Result A Errno
answer_of processes pid f = answer_of_found f (get nat_cmp processes pid)

-- EBADF: not open
abbrev pub open_at : ℕ → Process → Result Descriptor Errno
open_at fd p = ok_or (descriptor p fd) EBADF

abbrev pub open_in : ProcessTable → ℕ → ℕ → Result Descriptor Errno
open_in processes pid fd = answer_of processes pid (open_at fd)

-- the least unused number, where not all are used
abbrev pub lowest : {X : Type 0} → List (ℕ × X) → Option ℕ
lowest m = if nat_le descriptors_limit (length m) then None else Some (least_unused 0 m)

-- EMFILE: all are used
abbrev pub lowest_slot : Process → Result ℕ Errno
lowest_slot p = ok_or (lowest p.descriptors) EMFILE

abbrev pub slot_in : ProcessTable → ℕ → Result ℕ Errno
slot_in processes pid = answer_of processes pid lowest_slot

-- the process is there, and may open something at the descriptor
pub record IsUnused (processes : ProcessTable) (pid fd : ℕ) : Type 0 where
  pub process : Process
  pub is_there : get nat_cmp processes pid ≡ Some process
  pub below : fd < descriptors_limit
  pub unused : descriptor process fd ≡ None

-- ---- changes

abbrev pub changed_where : ProcessTable → ℕ → (Process → Process) → Option Process → ProcessTable
changed_where processes pid f None = processes
changed_where processes pid f (Some p) = with_entry nat_cmp processes pid (f p)

-- the table in which f has changed the process of this number, if there is one
abbrev pub with_changed : ProcessTable → ℕ → (Process → Process) → ProcessTable
with_changed processes pid f = changed_where processes pid f (get nat_cmp processes pid)

abbrev pub without_descriptor : Process → ℕ → Process
without_descriptor p fd = record p { descriptors = without nat_cmp p.descriptors fd }

-- ---- what holds of every table

pub record AreDescriptors (m : List (ℕ × Descriptor)) : Type 0 where
  pub rising : IsMap nat_cmp m
  pub below : (fd : ℕ) (d : Descriptor) → get nat_cmp m fd ≡ Some d → fd < descriptors_limit

pub record IsKeptProcess (p : Process) : Type 0 where
  pub umask : p.umask < 512
  pub descriptors : AreDescriptors p.descriptors

pub record IsTable (processes : ProcessTable) : Type 0 where
  pub rising : IsMap nat_cmp processes
  pub few : length processes ≤ processes_limit
  pub each : (pid : ℕ) (p : Process) → get nat_cmp processes pid ≡ Some p → IsKeptProcess p
