-- A name that goes, and what a node that loses it leaves of the disk.
--     removable        a call may remove the name
--     lost_sound, lost_touches        it is sound, and one inode was touched
use Rattle.call_parts.specs.BothTables.{Tables}
use Rattle.std.specs.Prelude.{◌≡◌, ℕ, ◌-◌, ◌<◌, Bool, true, false}
use Rattle.std.proofs.Common.{refl, arith}
use Rattle.fs_layout.specs.declared.geometry.Geometry.{Geometry}
use Rattle.fs_layout.specs.Images.{inode_at}
use Rattle.sector_txn.specs.Sectors.{TxnState}
use Rattle.bit_alloc.specs.Inodes.{IsSound, Touches}
use Rattle.fs_model.specs.declared.walk.Found.{Found}
use Rattle.call_parts.specs.NewNodes.{HasName}
use Rattle.call_parts.specs.Performing.{MayPerform}
use Rattle.name_calls.specs.Dropping.{MayRemove, LosesName, stays_with}

pub removable : {p : Geometry} {txn : TxnState} {tables : Tables} (f : Found) → MayPerform p txn tables → f.dir_ino < p.inodes → HasName p txn.sectors f.dir_ino f.name → MayRemove p f txn
removable f ready below named = let spare = ready.spare in record { ready = record { sound = ready.sound; spare = omega (arith, spare) }; below = below; named = named }

module _ {p : Geometry} {n : ℕ} {opened : Bool} {old new : TxnState} (loses : LosesName p n opened old new) where
  abbrev stays : Bool
  stays = stays_with (inode_at p old.sectors n).kind ((inode_at p old.sectors n).names - 1) opened

  pub lost_sound : IsSound p new
  lost_sound = go stays refl
    where
      go : (b : Bool) → stays ≡ b → IsSound p new
      go true stay = (loses.stays stay).sound
      go false goes = (loses.goes goes).sound

  pub lost_touches : Touches p n 0 1 old new
  lost_touches = go stays refl
    where
      go : (b : Bool) → stays ≡ b → Touches p n 0 1 old new
      go true stay = (loses.stays stay).touches
      go false goes = (loses.goes goes).touches
