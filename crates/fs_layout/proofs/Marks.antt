-- A bit of a bitmap is written: a sector is taken or released by it, and an inode's bit is one change of that inode.
use Rattle.std.proofs.Common.{◌≡◌, ◌≢◌, ℕ, ◌+◌, ◌/◌, ◌%◌, ◌<◌, ◌≤◌, false, List, get_or, set, refl, sym, subst, ◌∙◌, arith, inl, inr, IsTrue}
use Rattle.std.specs.Int.{bit_at}
use Rattle.std.proofs.lemmas.Bool.{cases_eq}
use Rattle.fs_layout.specs.declared.inode.Inode.{Inode}
use Rattle.fs_layout.specs.declared.geometry.Geometry.{Geometry}
use Rattle.fs_layout.specs.Bytes.{SectorMap, IsSector}
use Rattle.fs_layout.specs.Geometry.{IsGeometry}
use Rattle.fs_layout.specs.Images.{HasWholeTables, inode_map_bits, map_bits, bit, stored, inode_at, Owns}
use Rattle.fs_layout.specs.Ownership.{IsConsistent}
use Rattle.fs_layout.specs.InodeChanges.{Keeps, Puts, IsInodeMap, IsBlockMap, IsFree, IsOwnedApart, Rewrites, Takes, Releases, MarksSector, MarksInode, ChangesInode}
use Rattle.fs_layout.proofs.Places.{after_map, before_data}
use Rattle.fs_layout.proofs.Bits.{has_bit, not_both, bit_kept, block_bit_kept, in_inode_map, in_block_map, PutsByte, bit_put_other}
use Rattle.fs_layout.proofs.Blocks.{map_is_low, low_not_owned, nothing_changes}
use Rattle.fs_layout.proofs.Saves.{stored_kept, inode_kept, valid_kept, owned_on, owned_at}
use Rattle.fs_layout.proofs.Consistent.{owned_is_apart}

-- ---- from a byte to a bit
-- one sector of the tables is written, and is whole
table_put : (p : Geometry) {start n b : ℕ} {old new : SectorMap} → HasWholeTables p old → PutsByte start n b old new → IsSector (new (start + n / 4096)) → HasWholeTables p new
table_put p {start} {n} {new = new} tables x whole t past low = elim (cases_eq t (start + n / 4096)) [
  | inl e ↦ subst (λ (u : ℕ). IsSector (new u)) (sym e) whole
  | inr ne ↦ subst IsSector (sym (x.others t ne)) (tables t past low)
]

-- a write of one byte into the block bitmap, which changes one bit of it
pub marks_sector : {p : Geometry} {s b : ℕ} {old new : SectorMap} → HasWholeTables p old → IsGeometry p → s < map_bits p → PutsByte p.block_bitmap s b old new
    → IsSector (new (p.block_bitmap + s / 4096))
    → ((i : ℕ) → i < 8 → i ≢ s % 8 → bit_at b i ≡ bit_at (get_or (old (p.block_bitmap + s / 4096)) (s % 4096 / 8) 0) i) → MarksSector p s old new
marks_sector {p} {s} {b} {old} {new} tables geometry fits x whole same = record {
  sectors = table_put p tables x whole;
  bits = λ t low ne. bit_put_other x same t ne;
  others = λ t ban. x.others t (λ e. ban (subst (IsBlockMap p) (sym e) (in_block_map p s fits)));
}

-- a write of one byte into the inode bitmap, which changes one bit of it
pub marks_inode : {p : Geometry} {n b : ℕ} {old new : SectorMap} → HasWholeTables p old → n < inode_map_bits p → PutsByte p.inode_bitmap n b old new
    → IsSector (new (p.inode_bitmap + n / 4096))
    → ((i : ℕ) → i < 8 → i ≢ n % 8 → bit_at b i ≡ bit_at (get_or (old (p.inode_bitmap + n / 4096)) (n % 4096 / 8) 0) i) → MarksInode p n old new
marks_inode {p} {n} {b} {old} {new} tables fits x whole same = record {
  sectors = table_put p tables x whole;
  bits = λ m low ne. bit_put_other x same m ne;
  others = λ s ban. x.others s (λ e. ban (subst (IsInodeMap p) (sym e) (in_inode_map p n fits)));
}

-- ---- sectors taken and released
-- no sector that the inode owns is one of the block bitmap
pub no_map : {p : Geometry} {image : SectorMap} {v : Inode} → IsGeometry p → IsOwnedApart p image v → (s : ℕ) → Owns image v s → IsBlockMap p s → ⊥
no_map geometry apart s o m = low_not_owned apart s (map_is_low geometry s m) o

-- a free sector is not owned
pub free_not_owned : {p : Geometry} {image : SectorMap} {v : Inode} → IsOwnedApart p image v → (s : ℕ) → IsFree p image s → Owns image v s → ⊥
free_not_owned apart s free o = not_both (apart.each s o).2 free.2

-- a bit of the block bitmap after a write into the data
data_bit : {p : Geometry} {old new : SectorMap} {s : ℕ} {x : List ℕ} → IsGeometry p → p.first_data ≤ s → Puts s x old new → (t : ℕ) → t < map_bits p
    → bit new p.block_bitmap t ≡ bit old p.block_bitmap t
data_bit {p} {old} {new} geometry ge put t fits = block_bit_kept p old new t fits (λ u m. put.others u (λ e. let low = map_is_low geometry u m in omega (arith, low, ge, e)))

-- tables after a write into the data
data_tables : (p : Geometry) {old new : SectorMap} {s : ℕ} {x : List ℕ} → p.first_data ≤ s → Puts s x old new → HasWholeTables p old
    → HasWholeTables p new
data_tables p ge put tables t past low = subst IsSector (sym (put.others t (λ e. omega (arith, low, ge, e)))) (tables t past low)

-- The bit of a free sector is set, and the sector is written: what the inode owns is the same,
pub takes_keeps : {p : Geometry} {v : Inode} {s : ℕ} {x : List ℕ} {old mid new : SectorMap} → IsGeometry p → IsOwnedApart p old v → IsFree p old s
    → MarksSector p s old mid → Puts s x mid new → Keeps old new v
takes_keeps {v = v} {s} {old = old} geometry apart free mark put t o =
    put.others t (λ e. free_not_owned apart s free (subst (λ (u : ℕ). Owns old v u) e o)) ∙ mark.others t (no_map geometry apart t o)

-- and the sector is taken
pub takes : {p : Geometry} {v : Inode} {s : ℕ} {x : List ℕ} {old mid new : SectorMap} → IsGeometry p → IsOwnedApart p old v → IsFree p old s
    → MarksSector p s old mid → IsTrue (bit mid p.block_bitmap s)
    → Puts s x mid new → IsSector x → Takes p v s old new
takes {p} {v} {s} {x} {old} {mid} {new} geometry apart free mark set put fine =
    let few : s < map_bits p = has_bit geometry s free.1 in
    record {
      free = free;
      set = data_bit geometry free.0 put s few ∙ set;
      bits = λ t fits ne. data_bit geometry free.0 put t fits ∙ mark.bits t fits ne;
      sectors = data_tables p free.0 put mark.sectors;
      here = subst IsSector (sym put.here) fine;
      whole = λ t o. subst IsSector (sym (takes_keeps geometry apart free mark put t o)) (apart.whole t o);
      others = λ t ne ban out. put.others t ne ∙ mark.others t out;
    }

-- A sector is taken, and then a sector that the inode owned is written, as that of the pointers.
pub takes_and_puts : {p : Geometry} {v : Inode} {s t : ℕ} {x : List ℕ} {old mid new : SectorMap} → IsGeometry p → IsOwnedApart p old v → Takes p v s old mid
    → Owns old v t → Puts t x mid new → IsSector x → Takes p v s old new
takes_and_puts {p} {v} {s} {t} {x} {old} {mid} {new} geometry apart a o put fine =
    let ge : p.first_data ≤ t = (apart.each t o).0 in
    let few : s < map_bits p = has_bit geometry s a.free.1 in
    record {
      free = a.free;
      set = data_bit geometry ge put s few ∙ a.set;
      bits = λ u fits ne. data_bit geometry ge put u fits ∙ a.bits u fits ne;
      sectors = data_tables p ge put a.sectors;
      here = elim (cases_eq s t) [
        | inl e ↦ subst (λ (u : ℕ). IsSector (new u)) (sym e) (subst IsSector (sym put.here) fine)
        | inr ne ↦ subst IsSector (sym (put.others s ne)) a.here
      ];
      whole = λ u own. elim (cases_eq u t) [
        | inl e ↦ subst (λ (k : ℕ). IsSector (new k)) (sym e) (subst IsSector (sym put.here) fine)
        | inr ne ↦ subst IsSector (sym (put.others u ne)) (a.whole u own)
      ];
      others = λ u ne ban out. put.others u (λ e. ban (subst (λ (k : ℕ). Owns old v k) (sym e) o)) ∙ a.others u ne ban out;
    }

-- Sectors that the inode owns are written, and then the bit of a sector is cleared.
pub releases : {p : Geometry} {v : Inode} {s : ℕ} {old mid new : SectorMap} → IsGeometry p → IsOwnedApart p old v → Rewrites v old mid
    → MarksSector p s mid new
    → bit new p.block_bitmap s ≡ false → Releases p v s old new
releases {p} {v} {s} {old} {mid} {new} geometry apart r mark clear = record {
  clear = clear;
  bits = λ t fits ne. mark.bits t fits ne ∙ block_bit_kept p old mid t fits (λ u m. r.others u (low_not_owned apart u (map_is_low geometry u m)));
  sectors = mark.sectors;
  whole = λ t ne o. subst IsSector (sym (mark.others t (no_map geometry apart t o))) (r.whole t o);
  others = λ t ban out. mark.others t out ∙ r.others t ban;
}

-- The bit of a sector of the inode is cleared, and then a sector that it owned is written, as that of the pointers.
pub releases_and_puts : {p : Geometry} {v : Inode} {s t : ℕ} {x : List ℕ} {old mid new : SectorMap} → IsGeometry p → IsOwnedApart p old v
    → Owns old v s → Releases p v s old mid → Owns old v t → Puts t x mid new → IsSector x → Releases p v s old new
releases_and_puts {p} {v} {s} {t} {x} {old} {mid} {new} geometry apart here r o put fine =
    let ge : p.first_data ≤ t = (apart.each t o).0 in
    record {
      clear = data_bit geometry ge put s (has_bit geometry s (apart.each s here).1) ∙ r.clear;
      bits = λ u fits ne. data_bit geometry ge put u fits ∙ r.bits u fits ne;
      sectors = data_tables p ge put r.sectors;
      whole = λ u ne own. elim (cases_eq u t) [
        | inl e ↦ subst (λ (k : ℕ). IsSector (new k)) (sym e) (subst IsSector (sym put.here) fine)
        | inr other ↦ subst IsSector (sym (put.others u other)) (r.whole u ne own)
      ];
      others = λ u ban out. put.others u (λ e. ban (subst (λ (k : ℕ). Owns old v k) (sym e) o)) ∙ r.others u ban out;
    }

-- nothing is written, and then the bit of a sector is cleared
pub releases_alone : {p : Geometry} {v : Inode} {s : ℕ} {old new : SectorMap} → IsGeometry p → IsOwnedApart p old v → MarksSector p s old new
    → bit new p.block_bitmap s ≡ false → Releases p v s old new
releases_alone {p} {v} {s} {old} {new} geometry apart mark clear = releases geometry apart (record { whole = apart.whole; others = λ t ban. refl }) mark clear

-- the bit of a sector is cleared: what the inode owns is the same
pub marks_keeps : {p : Geometry} {v : Inode} {s : ℕ} {old new : SectorMap} → IsGeometry p → IsOwnedApart p old v → MarksSector p s old new → Keeps old new v
marks_keeps geometry apart mark t o = mark.others t (no_map geometry apart t o)

-- ---- an inode's bit
-- the inode's bit changes, and neither the inode nor what it owns does
pub marks_change : {p : Geometry} {n : ℕ} {old new : SectorMap} → IsConsistent p old → n < p.inodes → MarksInode p n old new
    → ChangesInode p n old new × (inode_at p new n ≡ inode_at p old n)
marks_change {p} {n} {old} {new} h lt mark =
    let geometry : IsGeometry p = h.geometry in
    let apart : IsOwnedApart p old (inode_at p old n) = owned_is_apart h n lt in
    let past : (s : ℕ) → p.block_bitmap ≤ s → new s ≡ old s = λ s ge. mark.others s (λ m. let low = m.1 in omega (arith, ge, low)) in
    let after = after_map geometry in
    let high : (s : ℕ) → p.first_data ≤ s → new s ≡ old s = λ s ge. past s (let b = before_data geometry in omega (arith, after, b, ge)) in
    let same_bit : (s : ℕ) → s < map_bits p → bit new p.block_bitmap s ≡ bit old p.block_bitmap s =
    λ s fits. bit_kept old new p.block_bitmap s (past (p.block_bitmap + s / 4096) (omega arith)) in
    let table : (m : ℕ) → stored p new m ≡ stored p old m = λ m. stored_kept p m old new (past (p.table + m / 4) (omega (arith, after))) in
    let same : inode_at p new n ≡ inode_at p old n = inode_kept p n old new (table n) in (
      record {
        owned = owned_at refl (sym same) (owned_on geometry apart (nothing_changes geometry h.sectors apart).owned mark.sectors high same_bit);
        valid = valid_kept p n old new (table n) (h.valid n lt);
        table = λ m lm ne. table m;
        inode_bits = mark.bits;
      },
      same,
    )
