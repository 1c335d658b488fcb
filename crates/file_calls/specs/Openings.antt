-- What an open asks, and what it leaves of the tree.
--     open_asked        asked of the call and of its path
--     open_kind_asked        asked of the kind of an inode
--     found_asked        asked of what stands at a number
--     FindsIn        a state in which a caller has found this
--     IsRefusedOpen        what it asks of that refuses it
--     Reaches        nothing refuses it then, and the map holds the tree after it, in which times have moved
--     MayOpen, Opens        the whole, once it is found: what it begins with and what it leaves
use Rattle.call_parts.specs.BothTables.{Tables, tables_in, users_of}
use Rattle.call_parts.specs.Callers.{Who, path_asked}
use Rattle.std.specs.Prelude.{◌≡◌, ℕ, false, not, ◌&&◌, ◌||◌, List, [], ◌∷◌, ◌++◌, None, unwrap_or, IsTrue, Result, Ok, Err, OnOk, MatchResult}
use Rattle.sector_disk.specs.Disk.{DiskState}
use Rattle.fs_cred.specs.declared.refusal.Refusal.{Refusal}
use Rattle.fs_cred.specs.declared.errno.Errno.TheVariants.{EEXIST, EISDIR, ELOOP, ENOTDIR}
use Rattle.fs_cred.specs.Credentials.{Credential}
use Rattle.fs_layout.specs.declared.inode.Kind.{Kind}
use Rattle.fs_layout.specs.declared.geometry.Geometry.{Geometry}
use Rattle.fs_layout.specs.Bytes.{SectorMap, IsBytes}
use Rattle.fs_model.specs.declared.call.Flags.{Flags}
use Rattle.fs_model.specs.declared.walk.Found.{Found}
use Rattle.fs_model.specs.Births.{the_node}
use Rattle.fs_model.specs.TreeChanges.{changed, touches, touched, swept}
use Rattle.fs_model.specs.Demands.{Demand, refuse, first_of, perms, permission_on}
use Rattle.fs_model.specs.Nodes.{is_directory, is_link}
use Rattle.fs_model.specs.OpenCall.{open_arguments, open_form, open_demands, open_change}
use Rattle.fs_model.specs.Parts.{ends_with_slash}
use Rattle.fs_model.specs.Processes.{Process, ProcessTable, is_open}
use Rattle.fs_model.specs.Rules.{is_directory_kind}
use Rattle.fs_model.specs.Stands.{HoldsAll, placed}
use Rattle.fs_model.specs.States.{State}
use Rattle.fs_model.specs.Steps.{HasNewNumber}
use Rattle.fs_model.specs.Summaries.{is_link_kind}
use Rattle.fs_model.specs.Trees.{Tree}
use Rattle.sector_txn.specs.Sectors.{TxnState, SameStore}
use Rattle.bit_alloc.specs.Inodes.{IsSound}
use Rattle.bit_alloc.specs.Room.{HasSpare}
use Rattle.path_walk.specs.Answers.{refused_or, IsAnswered}
use Rattle.call_parts.specs.declared.reaching.Caller.{Caller}
use Rattle.call_parts.specs.Paths.{scene_at, HasFound}
use Rattle.call_parts.specs.Performing.{IsStateOf}
use Rattle.file_calls.specs.declared.opening.Opening.{Opening}

-- all that is asked early, but for an unused descriptor
abbrev pub open_asked : Who → Flags → ℕ → List ℕ → List Demand
open_asked who f mode path = (open_arguments f mode ++ path_asked who path) ++ (refuse EISDIR (f.create && ends_with_slash path) ∷ [])

abbrev pub open_kind_asked : Flags → Kind → List Demand
open_kind_asked f kind =
    refuse EEXIST (f.create && f.excl)
    ∷ refuse ELOOP (is_link_kind kind)
    ∷ refuse ENOTDIR (f.directory && not (is_directory_kind kind))
    ∷ refuse EISDIR (is_directory_kind kind && (f.write || f.create))
    ∷ []

abbrev pub found_asked : Flags → Credential → Tree → ℕ → ℕ → List Demand
found_asked f cred t n step =
    refuse EEXIST (f.create && f.excl)
    ∷ refuse ELOOP (is_link (the_node t n).body)
    ∷ refuse ENOTDIR (f.directory && not (is_directory (the_node t n).body))
    ∷ refuse EISDIR (is_directory (the_node t n).body && (f.write || f.create))
    ∷ permission_on cred t n (perms f.read f.write false) 1 step
    ∷ []

pub record FindsIn (p : Geometry) (map : SectorMap) (flags : Flags) (q : Process) (f : Found) (s : State) : Type 0 where
  pub tables : Tables
  pub who : Who
  pub path : List ℕ
  pub bytes : IsBytes path
  pub is_state : IsStateOf p map tables s
  pub found : HasFound s who q false (open_form flags) path f

-- the demands of an open on what was found refuse it, or what may stand in their place does
abbrev pub IsRefusedOpen : DiskState → DiskState → Flags → Process → Found → State → Refusal → Type 0
IsRefusedOpen old new flags q f s e = IsAnswered old new (refused_or {A = ℕ} (first_of (open_demands flags (scene_at s q f))) (Ok 0)) (Err e)

-- n is what is opened, at this time
pub record Reaches (p : Geometry) (time : ℕ) (map : SectorMap) (flags : Flags) (mode : ℕ) (q : Process) (f : Found) (s : State) (n : ℕ) : Type 0 where
  pub met : first_of (open_demands flags (scene_at s q f)) ≡ None
  pub number : unwrap_or f.ino n ≡ n
  pub new_number : HasNewNumber s (open_change flags mode (scene_at s q f) n)
  pub holds : (now : ProcessTable) → ((k : ℕ) → IsTrue (is_open (users_of (tables_in s)) k) → IsTrue (is_open now k))
      → HoldsAll p map (placed (touched time (touches s.room s.tree (open_change flags mode (scene_at s q f) n))
      (swept (changed s.tree (open_change flags mode (scene_at s q f) n)) now)))

-- the transaction has put nothing, or little enough, and in some state of its map the process has found that
pub record MayOpen (p : Geometry) (txn : TxnState) (q : Process) (o : Opening) : Type 0 where
  pub sound : IsSound p txn
  pub spare : HasSpare p 47 txn
  pub state : State
  pub found : FindsIn p txn.sectors o.flags q o.found state

-- the number of what is opened for this caller, or why it isn't
pub record Opens (c : Caller) (q : Process) (o : Opening) (old new : TxnState) (result : Result ℕ Refusal) : Type 0 where
  pub store : SameStore old new
  pub super : OnOk result (new.sectors 0 ≡ old.sectors 0)
  pub each : (s : State) → FindsIn c.geometry old.sectors o.flags q o.found s
      → MatchResult result (λ n. Reaches c.geometry c.time new.sectors o.flags o.mode q o.found s n)
      (λ e. IsRefusedOpen old.disk new.disk o.flags q o.found s e)
