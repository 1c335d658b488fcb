use Rattle.std.specs.Prelude.{◌≡◌, ℕ, ◌<◌, false}
use Rattle.std.proofs.Common.{◌≤◌, sym, ap, subst, ◌∙◌}
use Rattle.sector_disk.specs.Disk.{DiskState, Image, IsImage, HasFailed, LeavesOnly}
use Rattle.fs_layout.specs.declared.geometry.Geometry.{Geometry}
use Rattle.fs_layout.specs.Bytes.{SectorMap}
use Rattle.redo_journal.specs.Meaning.{SameMap}
use Rattle.sector_txn.specs.Images.{LeavesOneOf}
use Rattle.sector_txn.specs.Sectors.{SameStore}
use Rattle.sector_txn.specs.Stores.{StoreView, TxnView, present, map_before, map_now, txn_state}
use Rattle.fs_model.specs.Stands.{room_of}
use Rattle.call_parts.specs.Dropping.{LeavesInode}
use Rattle.fs_system.specs.Sweeping.{StandsPruned, FreesNameless, KeepsTree}
use Rattle.fs_system.proofs.Kept.{cause_from, of_stores, only_read, leaves_from, reads_alone}
use Rattle.fs_system.proofs.Sweeps.{stored_same, begins_sound, begins_spare, commit_images, commit_frees, dropped_images}
use Rattle.fs_system.proofs.sweeping.free_nameless.Goals as goal

pub leave-requires-clause-sound : goal.leave-requires-clause-sound
leave-requires-clause-sound g c =
    let state = g.D.Disk.state in
    let some = c.requires.tree in
    let began = c.begin-txn.ensures in
    begins_sound c.args.geometry (txn_state state c.begin-txn.result) some.0 began.header
    (stored_same (ap (λ d. (state d).size) began.disk) began.map some.1.stored)

pub leave-requires-clause-spare : goal.leave-requires-clause-spare
leave-requires-clause-spare g c =
    let state = g.D.Disk.state in
    let some = c.requires.tree in
    let began = c.begin-txn.ensures in
    begins_spare c.args.geometry (txn_state state c.begin-txn.result) some.0 began.header began.room
    (stored_same (ap (λ d. (state d).size) began.disk) began.map some.1.stored)

-- the transaction frees the inode where it is a file without a name, and its commit leaves this disk
module _ {D : Type 0} (state : D → DiskState) (store : StoreView D) (only_now : (image : Image) → (state store.disk).left_since (state store.disk).moment image → IsImage (state store.disk) image)
    (begun last : TxnView D) (disk : begun.disk ≡ store.disk) (map : SameMap (map_now state begun) (present state store)) (before : SameMap (map_before state begun) (present state store))
    (same : SameStore (txn_state state begun) (txn_state state last)) (p : Geometry) (n : ℕ) (below : n < p.inodes) (leaves : LeavesInode p n false (txn_state state begun) (txn_state state last))
    (new : D) (run : LeavesOneOf (map_before state last) (map_now state last) (state last.disk) (state new)) where
  keeps_tree : KeepsTree p (present state store) (state store.disk) (state new)
  keeps_tree =
      commit_images (state store.disk) (state last.disk) (state new) only_now p n below (present state store) (txn_state state begun) (txn_state state last) map leaves
      (only_read state store begun disk before last same) (leaves_from state store begun disk before last same (state new) run)

  frees_nameless : (after : SectorMap) → SameMap after (map_now state last)
      → ((k : ℕ) (image : Image) → k ≤ (state new).moment → IsImage (state new) image → (state new).left_since k image)
      → FreesNameless p n (present state store) (state store.disk) after (state new)
  frees_nameless after alike counts_now t h =
      commit_frees (state store.disk) (state last.disk) (state new) only_now p n below (present state store) (txn_state state begun) (txn_state state last) map leaves
      (only_read state store begun disk before last same) (leaves_from state store begun disk before last same (state new) run) t h after alike counts_now

pub returns-in-Ok-keep-clause-frees : goal.returns-in-Ok-keep-clause-frees
returns-in-Ok-keep-clause-frees g c =
    let began = c.begin-txn.ensures in
    let after = c.in-Ok-keep.store in
    frees_nameless g.D.Disk.state c.args.store (g.met.D.Disk.only_now c.args.store.disk) c.begin-txn.result c.leave.new.s began.disk began.map began.before c.in-Ok.ensures.store c.args.geometry
    c.args.ino c.requires.number.1 c.in-Ok.ensures.leaves after.disk c.in-Ok-keep.ensures.images
    (present g.D.Disk.state after) c.in-Ok-keep.ensures.map (g.met.D.Disk.counts_now after.disk)

pub returns-in-Ok-keep-clause-any_moment : goal.returns-in-Ok-keep-clause-any_moment
returns-in-Ok-keep-clause-any_moment g c =
    let began = c.begin-txn.ensures in
    keeps_tree g.D.Disk.state c.args.store (g.met.D.Disk.only_now c.args.store.disk) c.begin-txn.result c.leave.new.s began.disk began.map began.before c.in-Ok.ensures.store c.args.geometry
    c.args.ino c.requires.number.1 c.in-Ok.ensures.leaves c.in-Ok-keep.store.disk c.in-Ok-keep.ensures.images

pub returns-in-Err-keep-clause-any_moment : goal.returns-in-Err-keep-clause-any_moment
returns-in-Err-keep-clause-any_moment g c = λ t h.
    let state = g.D.Disk.state in
    let began = c.begin-txn.ensures in
    subst (λ k. LeavesOnly (state c.args.store.disk) (state k) (StandsPruned (room_of c.args.geometry) t)) (sym c.into_disk.ensures)
    (keeps_tree state c.args.store (g.met.D.Disk.only_now c.args.store.disk) c.begin-txn.result c.leave.new.s began.disk began.map began.before c.in-Ok.ensures.store c.args.geometry c.args.ino
    c.requires.number.1 c.in-Ok.ensures.leaves c.in-Err-keep.broken c.in-Err-keep.ensures.images t h)

pub returns-in-Err-clause-any_moment : goal.returns-in-Err-clause-any_moment
returns-in-Err-clause-any_moment g c = λ t h.
    dropped_images (g.D.Disk.state c.args.store.disk) (g.D.Disk.state c.into_disk-in-Err.result) (g.met.D.Disk.only_now c.args.store.disk)
    (reads_alone g.D.Disk.state c.args.store c.begin-txn.result c.begin-txn.ensures.disk c.begin-txn.ensures.before c.leave.new.s c.in-Err.ensures.store
    c.into_disk-in-Err.result (c.into_disk-in-Err.ensures ∙ c.drop_delta.ensures.disk)) c.args.geometry (present g.D.Disk.state c.args.store) t h

pub returns-in-Err-keep-clause-cause : goal.returns-in-Err-keep-clause-cause
returns-in-Err-keep-clause-cause g c =
    let state = g.D.Disk.state in
    let reads = only_read state c.args.store c.begin-txn.result c.begin-txn.ensures.disk c.begin-txn.ensures.before c.leave.new.s c.in-Ok.ensures.store in
    let cause = cause_from _ reads c.in-Err-keep.ensures.cause in
    record {
      later = subst (λ k. (state c.args.store.disk).failures ≤ (state k).failures) (sym c.into_disk.ensures) cause.later;
      fault = subst (λ k. HasFailed (state c.args.store.disk) (state k)) (sym c.into_disk.ensures) cause.fault;
    }

pub returns-in-Err-clause-cause : goal.returns-in-Err-clause-cause
returns-in-Err-clause-cause g c =
    let state = g.D.Disk.state in
    let now = c.into_disk-in-Err.result in
    let dropped = c.into_disk-in-Err.ensures ∙ c.drop_delta.ensures.disk in
    let reads = reads_alone state c.args.store c.begin-txn.result c.begin-txn.ensures.disk c.begin-txn.ensures.before c.leave.new.s c.in-Err.ensures.store now dropped in
    record {
      later = reads.failures;
      fault = of_stores state c.args.store c.begin-txn.result c.begin-txn.ensures.disk c.begin-txn.ensures.before c.leave.new.s c.in-Err.ensures.store now dropped
          HasFailed c.in-Err.ensures.fault.1;
    }
