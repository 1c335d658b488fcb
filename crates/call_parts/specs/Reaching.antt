-- How a call reaches what it acts on, whatever call it is.
--     WalksPath        the row of a call by one path
--     RefusesWalk, RefusesReach, RefusesOwned        each such call is refused: by its process, arguments, path or walk; or since
--             nothing is there; or since it isn't the caller's
--     HasWalked        its walk has found this
--     IsInodeFound, HasReached, HasOwned        and this inode, which is the caller's
--     WalksBoth, RefusesBoth, HasWalkedBoth        the same of a call by two paths
--     fd_of, IsDoer        at which descriptor something is open, and of whom
--     bad_for, opens_for        what it has to be open for, and what an open file is open for
--     ActsOn, IsNotOpen, RefusesOpen, IsOpened, IsOpenFor, HasOpened        the same of what is asked by a descriptor or by a handle
--     opened_in, closed_in, moved_in        what is open there, and the tables once it is closed or its offset moves
use Rattle.std.specs.Prelude.{◌≡◌, ℕ, Bool, true, List, ◌∷◌, None, Some, IsTrue, IsFalse, Result, Ok}
use Rattle.std.specs.Ordering.{nat_cmp}
use Rattle.sector_disk.specs.Disk.{DiskState}
use Rattle.fs_cred.specs.declared.errno.Errno.{Errno}
use Rattle.fs_cred.specs.declared.refusal.Refusal.{Refusal}
use Rattle.fs_layout.specs.declared.inode.Inode.{Inode}
use Rattle.fs_layout.specs.declared.geometry.Geometry.{Geometry}
use Rattle.fs_layout.specs.Bytes.{SectorMap, IsBytes}
use Rattle.fs_layout.specs.Images.{inode_at}
use Rattle.fs_layout.specs.Maps.{get, without}
use Rattle.sector_txn.specs.Sectors.{TxnState}
use Rattle.fs_model.specs.declared.call.Call.{Call}
use Rattle.fs_model.specs.declared.walk.Form.{Form}
use Rattle.fs_model.specs.declared.walk.Found.{Found}
use Rattle.fs_model.specs.Demands.{Demand, first_of}
use Rattle.fs_model.specs.HandleCalls.{doer_with, offset_of_call}
use Rattle.fs_model.specs.Processes.{Process, Descriptor, descriptor, with_offset}
use Rattle.fs_model.specs.Rows.{row_of}
use Rattle.fs_model.specs.Scenes.{Scene, Effect, by_path, by_two_paths, by_descriptor, found_ino, must_be_there, own_at_end, is_bad, is_bad_to_read, is_bad_to_write}
use Rattle.fs_model.specs.States.{State}
use Rattle.fs_model.specs.Steps.{asks_in_call, firm_refusal}
use Rattle.open_files.specs.Handles.{opened_at}
use Rattle.open_files.specs.Tables.{IsTable, open_in, with_changed, without_descriptor}
use Rattle.call_parts.specs.declared.reaching.OpenAt.{OpenAt}
use Rattle.call_parts.specs.declared.reaching.OpenAt.TheVariants as places
use Rattle.call_parts.specs.declared.reaching.OpenFor.{OpenFor}
use Rattle.call_parts.specs.declared.reaching.OpenFor.TheVariants.{Anything, Reading, Writing}
use Rattle.call_parts.specs.Asked.{own_asked}
use Rattle.call_parts.specs.BothTables.{Tables}
use Rattle.call_parts.specs.Callers.{Who, ByProcess, AnyCall, ByCaller, ByHandle, event_of, row_asked, opens, IsJudgedAs, MayMake}
use Rattle.call_parts.specs.Telling.{Checked, checked}
use Rattle.call_parts.specs.Paths.{HasFound}
use Rattle.call_parts.specs.TwoPaths.{HasFoundBoth}
use Rattle.call_parts.specs.Performing.{IsStateOf, MayPerform, IsRefused}

-- A call walks this path so, after its arguments, whose checks answer this. Then it asks these demands of what is found.
pub record WalksPath (who : Who) (call : Call) (checks : Checked) (links : Bool) (form : Form) (path : List ℕ) (demands : Scene → List Demand) (effect : Scene → ℕ → Effect) : Type 0 where
  pub arguments : List Demand
  pub row : row_of call ≡ by_path arguments form path demands effect
  pub are_checked : checks ≡ checked (first_of arguments)
  pub asks : IsTrue (asks_in_call call)
  pub opens : IsFalse (opens call)
  pub may : MayMake who call links

-- each call that walks so is refused
pub record RefusesWalk (old new : DiskState) (s : State) (who : Who) (checks : Checked) (links : Bool) (form : Form) (path : List ℕ) (e : Refusal) : Type 0 where
  pub each : (call : Call) (demands : Scene → List Demand) (effect : Scene → ℕ → Effect) → WalksPath who call checks links form path demands effect
      → IsRefused old new s (ByCaller who call) e

-- each that asks first that something is there
pub record RefusesReach (old new : DiskState) (s : State) (who : Who) (checks : Checked) (links : Bool) (form : Form) (path : List ℕ) (e : Refusal) : Type 0 where
  pub each : (call : Call) (rest : Scene → List Demand) (effect : Scene → ℕ → Effect)
      → WalksPath who call checks links form path (λ x. must_be_there x.first ∷ rest x) effect → IsRefused old new s (ByCaller who call) e

-- each that asks then that it is the caller's
pub record RefusesOwned (old new : DiskState) (s : State) (who : Who) (checks : Checked) (links : Bool) (form : Form) (path : List ℕ) (e : Refusal) : Type 0 where
  pub each : (call : Call) (rest : Scene → List Demand) (effect : Scene → ℕ → Effect)
      → WalksPath who call checks links form path (λ x. must_be_there x.first ∷ own_at_end x ∷ rest x) effect → IsRefused old new s (ByCaller who call) e

-- The caller is judged as q, its arguments are fine, and in each state of this map and these tables its walk finds f.
pub record HasWalked (p : Geometry) (txn : TxnState) (tables : Tables) (who : Who) (checks : Checked) (links : Bool) (form : Form) (path : List ℕ) (q : Process) (f : Found) : Type 0 where
  pub ready : MayPerform p txn tables
  pub there : IsJudgedAs tables.processes who q
  pub fine : checks ≡ Ok tt
  pub bytes : IsBytes path
  pub found : (s : State) → IsStateOf p txn.sectors tables s → HasFound s who q links form path f

-- the number and the inode of what was found
pub record IsInodeFound (p : Geometry) (image : SectorMap) (f : Found) (n : ℕ) (v : Inode) : Type 0 where
  pub some : f.ino ≡ Some n
  pub number : found_ino f ≡ n
  pub inode : v ≡ inode_at p image n
  pub met : must_be_there f ≡ None

pub record HasReached (p : Geometry) (txn : TxnState) (tables : Tables) (who : Who) (checks : Checked) (links : Bool) (form : Form) (path : List ℕ) (q : Process) (f : Found) (n : ℕ) (v : Inode) : Type 0 where
  pub walked : HasWalked p txn tables who checks links form path q f
  pub inode : IsInodeFound p txn.sectors f n v

pub record HasOwned (p : Geometry) (txn : TxnState) (tables : Tables) (who : Who) (checks : Checked) (links : Bool) (form : Form) (path : List ℕ) (q : Process) (f : Found) (n : ℕ) (v : Inode) : Type 0 where
  pub reached : HasReached p txn tables who checks links form path q f n v
  pub met : own_asked q.cred v.uid f.step ≡ None

-- A call walks both paths, the first from its start to its end before the second. Then it asks these demands of what is found.
pub record WalksBoth (who : Who) (call : Call) (links : Bool) (old_path new_path : List ℕ) (demands : Scene → List Demand) (effect : Scene → Effect) : Type 0 where
  pub row : row_of call ≡ by_two_paths old_path new_path demands effect
  pub asks : IsTrue (asks_in_call call)
  pub opens : IsFalse (opens call)
  pub may : MayMake who call links

-- each call that walks both so is refused
pub record RefusesBoth (old new : DiskState) (s : State) (who : Who) (links : Bool) (old_path new_path : List ℕ) (e : Refusal) : Type 0 where
  pub each : (call : Call) (demands : Scene → List Demand) (effect : Scene → Effect) → WalksBoth who call links old_path new_path demands effect
      → IsRefused old new s (ByCaller who call) e

-- The caller is judged as q, and in each state of this map and these tables its walks find f and g.
pub record HasWalkedBoth (p : Geometry) (txn : TxnState) (tables : Tables) (who : Who) (links : Bool) (old_path new_path : List ℕ) (q : Process) (f g : Found) : Type 0 where
  pub ready : MayPerform p txn tables
  pub there : IsJudgedAs tables.processes who q
  pub old_bytes : IsBytes old_path
  pub new_bytes : IsBytes new_path
  pub found : (s : State) → IsStateOf p txn.sectors tables s → HasFoundBoth s who q links old_path new_path f g

-- ---- what is open

abbrev pub fd_of : OpenAt → ℕ
fd_of (places.Descriptor pid fd) = fd
fd_of (places.Handle handle offset) = 0

-- who has it there: a process, or someone who has just that open, at descriptor 0
abbrev pub IsDoer : Tables → OpenAt → Process → Type 0
IsDoer tables (places.Descriptor pid fd) q = get nat_cmp tables.processes pid ≡ Some q
IsDoer tables (places.Handle handle offset) q = q ≡ doer_with offset (get nat_cmp tables.openings handle)

-- EBADF: nothing is open there, or it isn't open for this
abbrev pub bad_for : OpenFor → ℕ → Process → Demand
bad_for Anything fd q = is_bad fd q
bad_for Reading fd q = is_bad_to_read fd q
bad_for Writing fd q = is_bad_to_write fd q

abbrev pub opens_for : OpenFor → Descriptor → Bool
opens_for Anything d = true
opens_for Reading d = d.read
opens_for Writing d = d.write

-- it is asked of what is open there: by its process, or by the handle, and from that offset on
abbrev pub IsAskedAt : OpenAt → AnyCall → Type 0
IsAskedAt (places.Descriptor pid fd) (ByCaller (ByProcess asker) call) = asker ≡ pid
IsAskedAt (places.Handle handle offset) (ByHandle asked call) = (asked ≡ handle) × (offset_of_call call ≡ offset)
IsAskedAt _ _ = ⊥

-- A request acts on what is open there, where that is open for this. Then it asks these demands.
pub record ActsOn (place : OpenAt) (r : AnyCall) (purpose : OpenFor) (demands : Scene → List Demand) (effect : Scene → Effect) : Type 0 where
  pub asked : IsAskedAt place r
  pub row : row_asked r ≡ by_descriptor (bad_for purpose (fd_of place)) demands effect

-- each request that acts so is refused, whatever the disk
pub record IsNotOpen (s : State) (place : OpenAt) (purpose : OpenFor) (e : Refusal) : Type 0 where
  pub each : (r : AnyCall) (demands : Scene → List Demand) (effect : Scene → Effect) → ActsOn place r purpose demands effect
      → firm_refusal s (event_of r) ≡ Some e

-- or since its inode can't be read
pub record RefusesOpen (old new : DiskState) (s : State) (place : OpenAt) (purpose : OpenFor) (e : Refusal) : Type 0 where
  pub each : (r : AnyCall) (demands : Scene → List Demand) (effect : Scene → Effect) → ActsOn place r purpose demands effect
      → IsRefused old new s r e

-- d is open there.
pub record IsOpened (tables : Tables) (place : OpenAt) (d : Descriptor) : Type 0 where
  pub process : Process
  pub there : IsDoer tables place process
  pub at : descriptor process (fd_of place) ≡ Some d

pub record IsOpenFor (tables : Tables) (place : OpenAt) (purpose : OpenFor) (d : Descriptor) : Type 0 where
  pub opened : IsOpened tables place d
  pub fine : bad_for purpose (fd_of place) opened.process ≡ None

-- and v is its inode
pub record HasOpened (p : Geometry) (txn : TxnState) (tables : Tables) (place : OpenAt) (purpose : OpenFor) (d : Descriptor) (v : Inode) : Type 0 where
  pub ready : MayPerform p txn tables
  pub table : IsTable tables.processes
  pub is_open : IsOpenFor tables place purpose d
  pub inode : v ≡ inode_at p txn.sectors d.ino

-- what is open there, if it is
abbrev pub opened_in : Tables → OpenAt → Result Descriptor Errno
opened_in tables (places.Descriptor pid fd) = open_in tables.processes pid fd
opened_in tables (places.Handle handle offset) = opened_at tables.openings handle offset

-- it is closed there
abbrev pub closed_in : Tables → OpenAt → Tables
closed_in tables (places.Descriptor pid fd) = record tables { processes = with_changed tables.processes pid (λ q. without_descriptor q fd) }
closed_in tables (places.Handle handle offset) = record tables { openings = without nat_cmp tables.openings handle }

-- its offset moves; that of a handle isn't kept
abbrev pub moved_in : Tables → OpenAt → ℕ → Tables
moved_in tables (places.Descriptor pid fd) to = record tables { processes = with_changed tables.processes pid (λ q. with_offset q fd to) }
moved_in tables (places.Handle handle offset) to = tables
