-- A file whose bytes a call has changed.
--     bytes_rewritten        the map holds the tree with the file's new bytes
--     content_altered, fails_alone        from block_map's promises
use Rattle.std.specs.Prelude.{◌≡◌, ℕ, ◌≤◌, List, length, Some, IsTrue, Ok}
use Rattle.std.proofs.Common.{refl, sym, subst, arith}
use Rattle.fs_layout.specs.declared.inode.Inode.{Inode}
use Rattle.fs_layout.specs.declared.inode.Kind.TheVariants as kinds
use Rattle.fs_layout.specs.declared.geometry.Geometry.{Geometry}
use Rattle.fs_layout.specs.Bytes.{SectorMap, IsBytes}
use Rattle.fs_layout.specs.Images.{Holds, inode_at}
use Rattle.sector_disk.specs.Disk.{DiskState, HasFailed}
use Rattle.fs_cred.specs.declared.errno.Errno.TheVariants.{EIO}
use Rattle.fs_cred.specs.declared.refusal.Refusal.TheVariants.{Failed}
use Rattle.sector_txn.specs.Sectors.{TxnState, SameStore}
use Rattle.bit_alloc.specs.Inodes.{KeepsFields, KeepsAcls}
use Rattle.block_map.specs.Contents.{ChangesContent}
use Rattle.block_map.specs.declared.fault.MapFault.{MapFault}
use Rattle.block_map.specs.declared.fault.MapFault.TheVariants as map
use Rattle.fs_model.specs.declared.touch.Touch.TheVariants.{Modified}
use Rattle.fs_model.specs.TreeChanges.{Rewrite, changed, swept}
use Rattle.fs_model.specs.Nodes.{Node, bytes_in, with_bytes}
use Rattle.fs_model.specs.Processes.{ProcessTable, is_open}
use Rattle.call_parts.specs.BothTables.{Tables, tables_in, users_of}
use Rattle.fs_model.specs.Stands.{HoldsAll, placed}
use Rattle.fs_model.specs.States.{State}
use Rattle.fs_model.specs.Trees.{node_at, names_of, parent}
use Rattle.fs_model.proofs.PlacedChanges.{rewrite_held}
use Rattle.fs_model.proofs.StepsBodies.{bytes_may_replace}
use Rattle.call_parts.specs.Performing.{IsStateOf}
use Rattle.call_parts.proofs.Calling.{state_tree}
use Rattle.call_parts.proofs.HeldChanges.{bytes_held}
use Rattle.path_walk.specs.Answers.{FailsToRead}
use Rattle.path_walk.proofs.HeldNodes.{held_node, bytes_say}
use Rattle.call_parts.specs.Altering.{AltersDisk}
use Rattle.call_parts.specs.ByteChanges.{ChangesBytes}

pub bytes_rewritten : {p : Geometry} {old new : SectorMap} {tables : Tables} {s : State} (at : IsStateOf p old tables s) (now : ProcessTable)
    → ((n : ℕ) → IsTrue (is_open (users_of (tables_in s)) n) → IsTrue (is_open now n)) → (n : ℕ) (node : Node) → node_at s.tree n ≡ Some node
    → (inode_at p old n).kind ≡ kinds.File → (f : List ℕ → List ℕ) → ChangesBytes p n f old new
    → length (f (bytes_in node.body)) ≤ s.room.file_limit → IsBytes (f (bytes_in node.body))
    → HoldsAll p new (placed (swept (changed s.tree (Rewrite Modified n (record node { body = with_bytes (f (bytes_in node.body)) node.body }))) now))
bytes_rewritten {p} {old} {new} {tables} {s} at now still n node there file f c few are =
    let v = inode_at p old n in
    let w = inode_at p new n in
    let held = held_node (state_tree at) n node there in
    let bytes = f (bytes_in node.body) in
    rewrite_held s at.is_state at.up now still p old at.holds at.same_room new Modified n node (record node { body = with_bytes bytes node.body }) there
    (bytes_may_replace s.room s.tree n node (at.is_state.tree.each n node there) bytes few are) c.inode c.used
    (bytes_held old new v w (record { node = node; names = names_of s.tree n; parent = parent s.tree n }) held bytes file c.fields c.acls
    (c.held (bytes_in node.body) (bytes_say p.version old v node.body file held.body)))

-- ---- from the calls on what an inode holds

content_changes : {p : Geometry} {n taken more : ℕ} {old new : TxnState} {v w : Inode} (f : List ℕ → List ℕ) → v ≡ inode_at p old.sectors n
    → ChangesContent p n taken more old new v w → ((held : List ℕ) → Holds old.sectors v held → Holds new.sectors w (f held)) → ChangesBytes p n f old.sectors new.sectors
content_changes {p} {n} {taken} {more} {old} {new} {v} {w} f is c held = record {
  super = c.touches.super;
  inode = c.touches.inode;
  fields = subst (λ (u : Inode). KeepsFields u (inode_at p new.sectors n)) is (subst (KeepsFields v) (sym c.now) c.fields);
  acls = subst (λ (u : Inode). KeepsAcls old.sectors new.sectors u (inode_at p new.sectors n)) is
      (subst (KeepsAcls old.sectors new.sectors v) (sym c.now) c.acls);
  held = λ bytes has.
      subst (λ (u : Inode). Holds new.sectors u (f bytes)) (sym c.now) (held bytes (subst (λ (u : Inode). Holds old.sectors u bytes) (sym is) has));
  used = c.used;
}

-- so many sectors were taken at most
pub content_altered : {p : Geometry} {n taken more most : ℕ} {old new : TxnState} {v w : Inode} (f : List ℕ → List ℕ) → more ≤ most → SameStore old new → v ≡ inode_at p old.sectors n
    → ChangesContent p n taken more old new v w → ((held : List ℕ) → Holds old.sectors v held → Holds new.sectors w (f held))
    → AltersDisk p most (λ (done : Unit {0}). ChangesBytes p n f) old new (Ok tt)
content_altered f few store is c held = let room = c.touches.puts.room in record {
  store = store;
  sound = c.sound;
  taken = omega (arith, few, room);
  made = content_changes f is c held;
  fault = tt;
}

-- a rewrite fails only where the disk does
only_fails : (old new : DiskState) (e : MapFault) → (e ≡ map.TooBig → ⊥) → (e ≡ map.Full → ⊥) → (e ≡ map.DiskFault → HasFailed old new) → HasFailed old new
only_fails old new map.Full big full failed = absurd (full refl)
only_fails old new map.TooBig big full failed = absurd (big refl)
only_fails old new map.DiskFault big full failed = failed refl

pub fails_alone : (old new : DiskState) (e : MapFault) → (e ≡ map.TooBig → ⊥) → (e ≡ map.Full → ⊥) → (e ≡ map.DiskFault → HasFailed old new)
    → FailsToRead old new (Failed EIO)
fails_alone old new e big full failed = (refl, only_fails old new e big full failed)
