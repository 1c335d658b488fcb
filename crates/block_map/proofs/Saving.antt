-- An inode is saved after steps of a change.
use Rattle.std.proofs.Common.{◌≡◌, ℕ, ◌+◌, ◌/◌, ◌≤◌, ◌<◌, [], refl, ◌∙◌, arith, inl, inr}
use Rattle.fs_layout.specs.declared.inode.Inode.{Inode}
use Rattle.fs_layout.specs.declared.geometry.Geometry.{Geometry}
use Rattle.fs_layout.specs.Images.{inode_at, free_sectors}
use Rattle.fs_layout.specs.Ownership.{IsConsistent}
use Rattle.fs_layout.specs.InodeChanges.{Keeps, Saves}
use Rattle.fs_layout.proofs.Places.{after_map, before_data}
use Rattle.fs_layout.proofs.Saves.{IsSaved}
use Rattle.fs_layout.proofs.Consistent.{saved_stays_consistent}
use Rattle.fs_layout.proofs.Bits.{inode_has_bit}
use Rattle.sector_txn.specs.Sectors.{TxnState, PutsOnly}
use Rattle.sector_txn.proofs.TransactionRuns.{changes_beside, changes_joined, changes_weaker}
use Rattle.bit_alloc.specs.Room.{bitmaps}
use Rattle.bit_alloc.specs.Inodes.{IsSound, IsSectorFor}
use Rattle.bit_alloc.proofs.Soundness.{sound_after}
use Rattle.block_map.specs.Contents.{ChangesContent}
use Rattle.block_map.specs.Steps.{IsStepSector, Alters}
use Rattle.block_map.proofs.Alterings.{acls_joined, acls_where_kept}

-- the sectors of a step are some of those that a call on an inode may put
pub puts_steps : (p : Geometry) (n : ℕ) {more : ℕ} {old new : TxnState} → PutsOnly (IsStepSector p) (bitmaps p) more old new → PutsOnly (IsSectorFor p n) (bitmaps p) more old new
puts_steps p n puts =
    changes_weaker {R = IsStepSector p} {Q = IsSectorFor p n} (λ t way. elim way [ inl map ↦ inl map | inr data_sector ↦ inr (inr data_sector) ]) (omega arith) puts

-- what the inode holds is not touched by its save
pub record IsEnded (p : Geometry) (n taken more : ℕ) (old mid new : TxnState) (v w : Inode) : Type 0 where
  pub content : ChangesContent p n taken more old new v w
  pub keeps : Keeps mid.sectors new.sectors w

-- the steps and the save are one change
pub saved_after : {p : Geometry} {n taken more : ℕ} {old mid new : TxnState} {v w : Inode} → IsSound p old → n < p.inodes → inode_at p old.sectors n ≡ v
    → Alters p old mid v w → PutsOnly (IsStepSector p) (bitmaps p) more old mid → free_sectors p old.sectors ≤ free_sectors p mid.sectors + taken
    → Saves p n w mid.sectors new.sectors → PutsOnly (λ t. t ≡ p.table + n / 4) [] 1 mid new → IsEnded p n taken (more + 1) old mid new v w
saved_after {p} {n} {taken} {more} {old} {mid} {new} {v} {w} sound lt at alters puts free saves put =
    let h : IsConsistent p old.sectors = sound.consistent in
    let after = saved_stays_consistent h lt at alters.fits alters.blocks saves in
    let saved : IsSaved p n w old.sectors mid.sectors new.sectors = after.1 in
    let few = inode_has_bit h.geometry n lt in
    let m = after_map h.geometry in
    let d = before_data h.geometry in
    let all : PutsOnly (IsSectorFor p n) (bitmaps p) (more + 1) old new =
    changes_joined (puts_steps p n puts)
    (changes_weaker {Q = IsSectorFor p n} (λ t e. inr (inl e)) (omega arith) (changes_beside put (bitmaps p))) in
    record {
      content = record {
        sound = sound_after sound all.store after.0 (λ k small none. saved.inode_bits k small);
        touches = record {
          puts = all;
          super = saves.others 0 (λ e. omega (arith, m, e)) ∙ alters.blocks.low 0 (omega (arith, m, d)) (λ b. let from = b.0 in omega (arith, m, from));
          inode = saved.changes;
          free = let e = saved.free in omega (arith, free, e);
        };
        now = saved.is;
        fields = alters.fields;
        acls = acls_joined alters.acls (acls_where_kept refl refl saved.keeps);
        used = saved.inode_bits n few;
      };
      keeps = saved.keeps;
    }
