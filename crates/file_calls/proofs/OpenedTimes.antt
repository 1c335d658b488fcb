-- What an open leaves of the tree, before its times move and after.
--     Prepares        nothing refuses it, and the map holds the tree that it leaves, before times move: these are to
--     reached        they have moved
--     prepared_may_touch        they may move
use Rattle.std.specs.Prelude.{◌≡◌, ℕ, ◌+◌, ◌≤◌, List, length, None, unwrap_or, IsTrue}
use Rattle.std.proofs.Common.{arith}
use Rattle.fs_layout.specs.declared.geometry.Geometry.{Geometry}
use Rattle.fs_layout.specs.Bytes.{SectorMap}
use Rattle.sector_txn.specs.Sectors.{TxnState, SameStore}
use Rattle.bit_alloc.specs.Inodes.{IsSound}
use Rattle.bit_alloc.specs.Room.{HasSpare, TakesSpare}
use Rattle.fs_model.specs.declared.call.Flags.{Flags}
use Rattle.fs_model.specs.declared.touch.Touch.{Touch}
use Rattle.fs_model.specs.declared.walk.Found.{Found}
use Rattle.fs_model.specs.Demands.{first_of}
use Rattle.fs_model.specs.OpenCall.{open_demands, open_change}
use Rattle.fs_model.specs.Processes.{Process, ProcessTable, is_open}
use Rattle.call_parts.specs.BothTables.{tables_in, users_of}
use Rattle.fs_model.specs.Stands.{HoldsAll, placed}
use Rattle.fs_model.specs.States.{State}
use Rattle.fs_model.specs.Steps.{HasNewNumber}
use Rattle.fs_model.specs.TreeChanges.{changed, touches_of, swept}
use Rattle.call_parts.specs.Paths.{scene_at}
use Rattle.call_parts.specs.Times.{AreBelow, MayMoveTimes, MovesTimes}
use Rattle.call_parts.proofs.Changed.{all_moved, sound_again}
use Rattle.file_calls.specs.Openings.{FindsIn, Reaches}

pub record Prepares (p : Geometry) (map : SectorMap) (flags : Flags) (mode : ℕ) (q : Process) (f : Found) (s : State) (n : ℕ) (touching : List (ℕ × Touch)) : Type 0 where
  pub met : first_of (open_demands flags (scene_at s q f)) ≡ None
  pub number : unwrap_or f.ino n ≡ n
  pub new_number : HasNewNumber s (open_change flags mode (scene_at s q f) n)
  pub times : touches_of s.tree (open_change flags mode (scene_at s q f) n) ≡ touching
  pub holds : (now : ProcessTable) → ((k : ℕ) → IsTrue (is_open (users_of (tables_in s)) k) → IsTrue (is_open now k))
      → HoldsAll p map (placed (swept (changed s.tree (open_change flags mode (scene_at s q f) n)) now))

pub reached : {p : Geometry} {map : SectorMap} {flags : Flags} {mode : ℕ} {q : Process} {f : Found} {s : State} {n time : ℕ} {touching : List (ℕ × Touch)} {old new : TxnState}
    → FindsIn p map flags q f s → Prepares p old.sectors flags mode q f s n touching → MovesTimes p time touching old new → Reaches p time new.sectors flags mode q f s n
reached {flags = flags} {mode = mode} {q = q} {f = f} {s = s} {n = n} i x moved = record {
  met = x.met;
  number = x.number;
  new_number = x.new_number;
  holds = λ now still. all_moved i.is_state (open_change flags mode (scene_at s q f) n) x.times moved now (x.holds now still);
}

pub prepared_may_touch : {p : Geometry} {flags : Flags} {mode : ℕ} {q : Process} {f : Found} {s : State} {n : ℕ} {touching : List (ℕ × Touch)} (old new : TxnState) → IsSound p old → HasSpare p 47 old
    → SameStore old new → Prepares p new.sectors flags mode q f s n touching → AreBelow p.inodes touching → (k : ℕ) → TakesSpare p k old new → length touching + k ≤ 47
    → MayMoveTimes p touching new
prepared_may_touch {p} {flags} {mode} {q} {f} {s} {n} old new sound spare store x below k taken few = record {
  sound = sound_again p old new (placed (swept (changed s.tree (open_change flags mode (scene_at s q f) n)) (users_of (tables_in s)))) sound store (x.holds (users_of (tables_in s)) (λ k was. was));
  below = below;
  spare = omega (arith, spare, taken, few);
}
