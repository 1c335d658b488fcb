-- Bytes are written over others, and the inode is not saved.
use Rattle.std.proofs.Common.{◌≡◌, ◌≢◌, ℕ, ◌+◌, ◌*◌, ◌/◌, ◌≤◌, ◌<◌, List, [], length, sym, ap, subst, ◌∙◌, arith, inl, inr}
use Rattle.std.proofs.lemmas.Bool.{cases_eq}
use Rattle.fs_layout.specs.declared.inode.Inode.{Inode}
use Rattle.fs_layout.specs.declared.inode.Kind.TheVariants as kinds
use Rattle.fs_layout.specs.declared.geometry.Geometry.{Geometry}
use Rattle.fs_layout.specs.Bytes.{SectorMap, IsBytes, splice}
use Rattle.fs_layout.specs.Inode.{FitsInode}
use Rattle.fs_layout.specs.Images.{inode_map_bits, pointer, stored, inode_at, Holds, HasNoHole, Owns, free_sectors}
use Rattle.fs_layout.specs.Ownership.{IsConsistent}
use Rattle.fs_layout.specs.InodeChanges.{IsInodeMap, Puts, IsOwnedApart, ChangesInode}
use Rattle.fs_layout.proofs.Places.{after_map, before_data}
use Rattle.fs_layout.proofs.Parts.{owns_block}
use Rattle.fs_layout.proofs.Bits.{inode_has_bit, inode_bit_kept}
use Rattle.fs_layout.proofs.Saves.{in_table, stored_kept, valid_kept, owned_at}
use Rattle.fs_layout.proofs.Consistent.{owned_is_apart, blocks_keep_table, stays_consistent}
use Rattle.fs_layout.proofs.Free.{inode_fits_there}
use Rattle.sector_txn.specs.Sectors.{TxnState, IsUnchanged, PutsOnly}
use Rattle.sector_txn.proofs.TransactionRuns.{changes_beside, changes_weaker}
use Rattle.bit_alloc.specs.Room.{bitmaps}
use Rattle.bit_alloc.specs.Inodes.{IsSound, IsSectorFor}
use Rattle.bit_alloc.proofs.Transactions.{puts_after}
use Rattle.bit_alloc.proofs.Soundness.{sound_after}
use Rattle.block_map.specs.Contents.{ChangesContent}
use Rattle.block_map.specs.Steps.{MayChange, IsStepSector, Alters, WritesBlock}
use Rattle.block_map.proofs.Givings.{may_unchanged}
use Rattle.block_map.proofs.Alterings.{altered_after}
use Rattle.block_map.proofs.Runs.{same_map}
use Rattle.block_map.proofs.Writings.{free_after_put, writes_block_there}
use Rattle.block_map.proofs.Wrote.{free_same}

-- a used inode of the table may be changed
pub used_may_change : {p : Geometry} {n : ℕ} {txn : TxnState} {v : Inode} → IsSound p txn → n < p.inodes → v ≡ inode_at p txn.sectors n → v.kind ≢ kinds.Free → MayChange p txn v
used_may_change {p} {n} {txn} {v} sound lt is used = record {
  bitmaps = sound.bitmaps;
  apart = subst (λ (u : Inode). IsOwnedApart p txn.sectors u) (sym is) (owned_is_apart sound.consistent n lt);
  fits = subst FitsInode (sym is) (inode_fits_there sound.consistent n lt);
  used = used;
}

-- ---- a change without a save
-- the inode stays in the table
pub changed_unsaved : {p : Geometry} {n taken more : ℕ} {old new : TxnState} {v : Inode} → IsSound p old → n < p.inodes → inode_at p old.sectors n ≡ v
    → Alters p old new v v → PutsOnly (IsStepSector p) (bitmaps p) more old new → free_sectors p old.sectors ≤ free_sectors p new.sectors + taken
    → ChangesContent p n taken more old new v v
changed_unsaved {p} {n} {taken} {more} {old} {new} {v} sound lt at alters puts free =
    let h : IsConsistent p old.sectors = sound.consistent in
    let x = alters.blocks in
    let few : n < inode_map_bits p = inode_has_bit h.geometry n lt in
    let m = after_map h.geometry in
    let d = before_data h.geometry in
    let there : inode_at p new.sectors n ≡ v = blocks_keep_table h.geometry x n lt ∙ at in
    let inode_map : (s : ℕ) → IsInodeMap p s → new.sectors s ≡ old.sectors s =
    λ s i. let below = i.1 in x.low s (omega (arith, below, m, d)) (λ b. let from = b.0 in omega (arith, below, from)) in
    let bytes : (k : ℕ) → k < p.inodes → stored p new.sectors k ≡ stored p old.sectors k =
    λ k less. stored_kept p k old.sectors new.sectors (let i = in_table p k h.geometry less in x.low (p.table + k / 4) i.1 (λ b. let j = b.1 in omega (arith, j))) in
    let bits = λ (k : ℕ) (small : k < inode_map_bits p). inode_bit_kept p old.sectors new.sectors k small inode_map in
    let changes : ChangesInode p n old.sectors new.sectors =
    record {
      owned = owned_at (sym at) (sym there) x.owned;
      valid = valid_kept p n old.sectors new.sectors (bytes n lt) (h.valid n lt);
      table = λ k less ne. bytes k less;
      inode_bits = λ k small ne. bits k small;
    } in
    record {
      sound = sound_after sound puts.store (stays_consistent h lt changes) (λ k small none. bits k small);
      touches = record {
        puts = changes_weaker {R = IsStepSector p} {Q = IsSectorFor p n} (λ t way. elim way [ inl map ↦ inl map | inr data_sector ↦ inr (inr data_sector) ]) (omega arith) puts;
        super = x.low 0 (omega (arith, m, d)) (λ b. let from = b.0 in omega (arith, m, from));
        inode = changes;
        free = free;
      };
      now = there;
      fields = alters.fields;
      acls = alters.acls;
      used = bits n few;
    }

-- ---- one block is rewritten, after reads
-- the sector of a block, by the blocks that were loaded for it
pub loaded_number : (image : SectorMap) {u v : Inode} {number : ℕ} (k : ℕ) → number ≡ pointer image u k → u ≡ v → number ≡ pointer image v k
loaded_number image k is e = is ∙ ap (λ (u : Inode). pointer image u k) e

module _ {p : Geometry} {n s : ℕ} {old mid new : TxnState} {v : Inode} (k at : ℕ) (x : List ℕ)
    (sound : IsSound p old) (lt : n < p.inodes) (is : v ≡ inode_at p old.sectors n) (used : v.kind ≢ kinds.Free) (same : IsUnchanged old mid)
    (here : pointer old.sectors v k ≡ s) (some : s ≢ 0) (room : at + length x ≤ 512) (fine : IsBytes x) (inside : 512 * k + at + length x ≤ v.size)
    (put : Puts s (splice (mid.sectors s) at x) mid.sectors new.sectors) (puts : PutsOnly (λ t. t ≡ s) [] 1 mid new) where
  may_before : MayChange p old v
  may_before = used_may_change sound lt is used

  map_before : mid.sectors ≡ old.sectors
  map_before = same_map old.sectors mid.sectors same.sectors

  in_data : (p.first_data ≤ s) × (s < p.sectors)
  in_data = let d = may_before.apart.each s (subst (Owns old.sectors v) here (owns_block old.sectors v k (λ e. some (sym here ∙ e)))) in (d.0, d.1)

  step_puts : PutsOnly (IsStepSector p) (bitmaps p) 1 mid new
  step_puts = changes_weaker {Q = IsStepSector p} (λ t e. let d = in_data in inr (omega (arith, e, d.0), omega (arith, e, d.1))) (omega arith) (changes_beside puts (bitmaps p))

  step : WritesBlock p k at x mid new v v
  step =
      writes_block_there new k at x (may_unchanged may_before same) (ap (λ (image : SectorMap). pointer image v k) map_before ∙ here) some put room fine step_puts inside

  pub over_changes : ChangesContent p n 0 1 old new v v
  over_changes =
      changed_unsaved sound lt (sym is) (altered_after same step.alters) (puts_after same step_puts)
      (let f = free_after_put sound.bitmaps.geometry in_data.0 put in let e = free_same p old mid same in omega (arith, e, f))

  pub over_holds : (held : List ℕ) → Holds old.sectors v held → Holds new.sectors v (splice held (512 * k + at) x)
  over_holds held h = step.held held (subst (λ (image : SectorMap). Holds image v held) (sym map_before) h)

  pub over_whole : HasNoHole old.sectors v → HasNoHole new.sectors v
  over_whole whole j less none = elim (cases_eq j k) [
    | inl e ↦ step.here (ap (λ (i : ℕ). pointer new.sectors v i) (sym e) ∙ none)
    | inr ne ↦ whole j less (ap (λ (image : SectorMap). pointer image v j) (sym map_before) ∙ sym (step.others j ne) ∙ none)
  ]
