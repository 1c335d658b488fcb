-- What an event comes to that was performed in a transaction.
use Rattle.call_parts.specs.BothTables.{Tables, users_of}
use Rattle.std.proofs.Common.{◌≡◌, ◌≤◌, ℕ, true, refl, sym, ap, ◌∙◌, arith, inl, inr, ⊎_elim}
use Rattle.sector_disk.specs.Disk.{DiskState, Image, IsImage, LeavesOnly, OnlyReads, HasFailed, HasFailedToWrite}
use Rattle.sector_disk.proofs.Moments.{failed_later}
use Rattle.fs_layout.specs.declared.geometry.Geometry.{Geometry}
use Rattle.fs_layout.specs.Bytes.{SectorMap}
use Rattle.fs_cred.specs.declared.errno.Errno.TheVariants.{EIO}
use Rattle.fs_cred.specs.declared.refusal.Refusal.TheVariants.{Failed}
use Rattle.redo_journal.specs.Meaning.{SameMap}
use Rattle.fs_layout.specs.Header.{header_of, log_end, max_delta}
use Rattle.fs_layout.proofs.RecoveryLaw.{header_there, log_there}
use Rattle.sector_txn.specs.Images.{LeavesOneOf}
use Rattle.sector_txn.specs.Sectors.{TxnState}
use Rattle.sector_txn.proofs.Images.{maps_same, after_reads}
use Rattle.bit_alloc.specs.Inodes.{IsSound}
use Rattle.bit_alloc.proofs.Soundness.{spare_first, sound_from}
use Rattle.fs_layout.proofs.Places.{geometry_is_laid_out}
use Rattle.fs_model.specs.declared.event.Event.{Event}
use Rattle.fs_model.specs.declared.reply.Reply.{Reply}
use Rattle.fs_model.specs.declared.reply.Reply.TheVariants.{Refused}
use Rattle.fs_model.specs.Stands.{placed}
use Rattle.fs_model.specs.States.{State}
use Rattle.call_parts.specs.Performing.{MayPerform, IsStateOf}
use Rattle.fs_system.specs.Doing.{Does, IsFound}
use Rattle.fs_system.specs.Layouts.{IsDiskOf}
use Rattle.fs_system.specs.Running.{IsRunning}
use Rattle.fs_system.proofs.Endings.{IsPerformed, tree_then, done_state, done_state_of, done_tree, done_steps, done_halts, done_no_fault, done_unstable, halts, done_holds}
use Rattle.fs_system.proofs.Ends.{running_same, tree_held}
use Rattle.fs_system.proofs.Joining.{disk_same, leaves_found}
use Rattle.fs_system.proofs.Soundness.{outside_set}

-- ---- a transaction that has put nothing is ready

pub begins_ready : (p : Geometry) (txn : TxnState) (tables : Tables) (s : State) → txn.header ≡ header_of (txn.sectors 0) → txn.room ≡ max_delta txn.header → IsRunning txn.disk.size p txn.sectors tables s
    → MayPerform p txn tables
begins_ready p txn tables s header room r =
    let sectors : p.sectors ≡ txn.disk.size = ap (λ (q : Geometry). q.sectors) (geometry_is_laid_out txn.disk.size r.disk_is.super.inodes r.disk_is.has_geometry) in
    let there = header ∙ header_there r.disk_is.super (txn.sectors 0) txn.disk.size r.disk_is.super_fits r.disk_is.super_is r.disk_is.has_geometry in
    let ends = ap log_end header ∙ log_there r.disk_is.super (txn.sectors 0) txn.disk.size r.disk_is.super_fits r.disk_is.super_is r.disk_is.has_geometry in
    let sound : IsSound p txn =
    sound_from p txn r.state_of.holds.consistent (omega (arith, sectors)) (omega (arith, ends)) (outside_set p txn.sectors (placed s.tree) r.state_of.holds) in
    record {
      sound = sound;
      spare = spare_first p txn r.state_of.holds.consistent.geometry (room ∙ ap max_delta there);
      state = s;
      is_state = r.state_of;
    }

-- ---- a layout that stays

pub disk_kept : (size : ℕ) (p : Geometry) (old new : SectorMap) → new 0 ≡ old 0 → IsDiskOf size p old → IsDiskOf size p new
disk_kept size p old new same d = record { super = d.super; super_is = same ∙ d.super_is; super_fits = d.super_fits; same_size = d.same_size; has_geometry = d.has_geometry }

-- ---- faults after reads

pub write_failed_later : (old mid new : DiskState) → mid.failed_writes ≡ old.failed_writes → HasFailedToWrite mid new → HasFailedToWrite old new
write_failed_later old mid new none failed = ⊎_elim (λ more. inl (omega (arith, none, more))) (λ worn. inr worn) failed

-- ---- one event, from a store whose map is `map` on the disk `old`

module _ (old : DiskState) (only_now : (image : Image) → old.left_since old.moment image → IsImage old image)
    (p : Geometry) (map : SectorMap) (tables : Tables) (s : State) (r : IsRunning old.size p map tables s) (e : Event) where
  -- the event acts, on a map with the same data, and the commit leaves `new`
  module _ (before now_map : SectorMap) (same : SameMap before map) (super : now_map 0 ≡ before 0)
      (mid new : DiskState) (reads : OnlyReads old mid) (run : LeavesOneOf before now_map mid new) (later : mid.failures ≤ new.failures)
      (now : Tables) (reply : Reply) (at : IsStateOf p before tables s) (d : IsPerformed p now_map now s e reply) where
    now_disk : IsDiskOf old.size p now_map
    now_disk = disk_kept old.size p before now_map super (disk_same old.size p map before same r.disk_is)

    images : LeavesOnly old new (IsFound old s (tree_then s d.change (users_of now)))
    images =
        leaves_found p map now_map s (tree_then s d.change (users_of now)) _ old new r.state_of.same_room r.state_of.up
        r.disk_is (tree_held p map tables s r.state_of) now_disk (done_holds at d) (after_reads only_now reads (maps_same same (λ n part. refl) run))

    pub event_runs : (size : ℕ) (map' : SectorMap) → size ≡ old.size → SameMap map' now_map → IsRunning size p map' now (done_state at d)
    event_runs size map' sized alike =
        running_same old.size size p now_map map' now now (done_state at d) sized alike refl (record { disk_is = now_disk; state_of = done_state_of at d })

    pub does_event : new.failed_writes ≡ mid.failed_writes → Does old new s e reply (done_state at d)
    does_event quiet = record {
      serves = done_steps at d;
      added = tree_then s d.change (users_of now);
      is_added = inl refl;
      images = images;
      synced = λ stable. absurd (let c = sym (done_unstable at d reply) ∙ stable in cc);
      cause = λ io up. absurd (let c = sym (done_no_fault at d) ∙ io in cc);
      halts = λ up halted. absurd (let c = sym r.state_of.up ∙ halted in cc);
      unhalted = λ up. quiet ∙ reads.failed_writes;
      unread = λ io up. absurd (let c = sym (done_no_fault at d) ∙ io in cc);
      later = omega (arith, reads.failures, later);
      still = λ halted. absurd (let c = sym r.state_of.up ∙ halted in cc);
    }

    pub does_halt : HasFailed mid new → HasFailedToWrite mid new → Does old new s e (Refused (Failed EIO)) (record s { processes = now.processes; openings = now.openings; halted = true })
    does_halt failed unwritten = record {
      serves = done_halts at d;
      added = tree_then s d.change (users_of now);
      is_added = inr (_, halts at d, sym (done_tree at d));
      images = images;
      synced = λ stable. absurd (let c = sym (done_unstable at d (Refused (Failed EIO))) ∙ stable in cc);
      cause = λ io up. failed_later old mid new reads.failures failed;
      halts = λ up halted. write_failed_later old mid new reads.failed_writes unwritten;
      unhalted = λ up. absurd cc;
      unread = λ io up. absurd cc;
      later = omega (arith, reads.failures, later);
      still = λ halted. absurd (let c = sym r.state_of.up ∙ halted in cc);
    }
