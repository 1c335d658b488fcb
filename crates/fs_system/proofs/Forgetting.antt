-- A file system whose disk lets go of its past.
use Rattle.call_parts.specs.BothTables.{Tables}
use Rattle.std.proofs.Common.{◌≡◌, ℕ, refl, sym, subst}
use Rattle.sector_disk.specs.Disk.{DiskState, IsSame, ForgetsPast}
use Rattle.sector_disk.proofs.Moments.{narrowed}
use Rattle.fs_layout.specs.declared.geometry.Geometry.{Geometry}
use Rattle.redo_journal.specs.Meaning.{SameMap}
use Rattle.sector_txn.specs.Stores.{StoreView, present}
use Rattle.fs_model.specs.States.{State}
use Rattle.fs_system.specs.Mounting.{IsSystem}
use Rattle.fs_system.specs.declared.base.Base.{Base}
use Rattle.fs_system.specs.declared.base.Base.TheVariants.{Running, Taken}
use Rattle.fs_system.specs.Seen.{System, disk_in, IsOn, IsIn}
use Rattle.fs_system.proofs.Ends.{running_same, same_disk}

-- a store goes on in its state
pub store_stays : {D : Type 0} (state : D → DiskState) (before after : StoreView D) → SameMap (present state after) (present state before)
    → IsSame (state before.disk) (state after.disk) → (p : Geometry) (time : ℕ) (tables : Tables) (s : State)
    → IsOn state p time tables (Running before) s → IsOn state p time tables (Running after) s
store_stays state before after map same p time tables s on =
    (running_same (state before.disk).size (state after.disk).size p (present state before) (present state after) tables tables s same.narrowed.size map refl on.0, on.1)

-- where there is no disk, none has a past
pub nothing_past : {D : Type 0} (state : D → DiskState) → ForgetsPast (disk_in state Taken) (disk_in state Taken)
nothing_past state = record { same = same_disk (disk_in state Taken); failures = refl; failed_writes = refl; nothing_earlier = λ t image left. absurd left }

-- a file system whose disk gives the same goes on in its state, and may be mounted again
module _ {D : Type 0} (state : D → DiskState) (old now : Base D) (geometry : Geometry) (tables : Tables) (time : ℕ)
    (same : IsSame (disk_in state old) (disk_in state now))
    (stays : (p : Geometry) (time : ℕ) (tables : Tables) (s : State) → IsOn state p time tables old s → IsOn state p time tables now s) where
  pub forgot_system : IsSystem state (record { base = old; geometry = geometry; processes = tables.processes; openings = tables.openings; time = time })
      → IsSystem state (record { base = now; geometry = geometry; processes = tables.processes; openings = tables.openings; time = time })
  forgot_system was = record {
    in_some = (was.in_some.0, stays geometry time tables was.in_some.0 was.in_some.1);
    mountable = λ image left. was.mountable image (narrowed same.narrowed left);
  }

  module _ (fs : System D) (view_is : record { base = old; geometry = geometry; processes = tables.processes; openings = tables.openings; time = time } ≡ fs) where
    pub forgot_state : (s : State) → IsIn state fs s → IsIn state (record { base = now; geometry = geometry; processes = tables.processes; openings = tables.openings; time = time }) s
    forgot_state s on = stays geometry time tables s (subst (λ (x : System D). IsIn state x s) (sym view_is) on)

    pub forgot_same : IsSame (disk_in state fs.base) (disk_in state now)
    forgot_same = subst (λ (x : System D). IsSame (disk_in state x.base) (disk_in state now)) view_is same

    pub forgot_past : ForgetsPast (disk_in state old) (disk_in state now) → ForgetsPast (disk_in state fs.base) (disk_in state now)
    forgot_past past = subst (λ (x : System D). ForgetsPast (disk_in state x.base) (disk_in state now)) view_is past
