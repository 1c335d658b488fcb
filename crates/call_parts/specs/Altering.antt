-- What a function that changes what the disk holds asks of it, and what it promises.
--     MayAlter        a sound disk, to which so many sectors may be put
--     AltersDisk        it is sound then, and so many were put at most; or it has failed
--     AltersTransaction        it is altered so, or has failed
--     HoldsChange        it holds the tree with this change
use Rattle.std.specs.Prelude.{◌≡◌, ℕ, Result, IfOk, OnOk, IfErr}
use Rattle.fs_cred.specs.declared.refusal.Refusal.{Refusal}
use Rattle.fs_layout.specs.declared.geometry.Geometry.{Geometry}
use Rattle.fs_layout.specs.Bytes.{SectorMap}
use Rattle.sector_txn.specs.Sectors.{TxnState, SameStore}
use Rattle.bit_alloc.specs.Inodes.{IsSound}
use Rattle.bit_alloc.specs.Room.{HasSpare, TakesSpare}
use Rattle.fs_model.specs.Stands.{HoldsAll, placed}
use Rattle.fs_model.specs.States.{State}
use Rattle.fs_model.specs.TreeChanges.{Change, changed, swept}
use Rattle.path_walk.specs.Answers.{FailsToRead}
use Rattle.call_parts.specs.BothTables.{Tables, users_of}
use Rattle.call_parts.specs.Performing.{IsStateOf}

pub record MayAlter (p : Geometry) (more : ℕ) (txn : TxnState) : Type 0 where
  pub sound : IsSound p txn
  pub spare : HasSpare p more txn

-- The map has this alteration, as the answer says; at `Err` the disk has failed.
pub record AltersDisk {A : Type 0} (p : Geometry) (more : ℕ) (alteration : A → SectorMap → SectorMap → Type 0) (old new : TxnState) (result : Result A Refusal) : Type 0 where
  pub store : SameStore old new
  pub sound : OnOk result (IsSound p new)
  pub taken : OnOk result (TakesSpare p more old new)
  pub made : IfOk result (λ x. alteration x old.sectors new.sectors)
  pub fault : IfErr result (FailsToRead old.disk new.disk)

-- The transaction has changed so; at `Err` the disk has failed.
pub record AltersTransaction (change : TxnState → TxnState → Type 0) (old new : TxnState) (result : Result (Unit {0}) Refusal) : Type 0 where
  pub store : SameStore old new
  pub made : OnOk result (change old new)
  pub fault : IfErr result (FailsToRead old.disk new.disk)

-- The new map holds what the old one held, with this change, wherever it may be made.
pub record HoldsChange (p : Geometry) (tables : Tables) (may : State → Type 0) (change : Change) (old new : SectorMap) : Type 0 where
  pub super : new 0 ≡ old 0
  pub holds : (s : State) → IsStateOf p old tables s → may s → HoldsAll p new (placed (swept (changed s.tree change) (users_of tables)))
