-- An inode may be saved before or after what another one owns changes.
use Rattle.std.proofs.Common.{◌≡◌, ◌≢◌, ℕ, ◌+◌, ◌*◌, ◌/◌, ◌%◌, ◌<◌, ◌≤◌, cond, List, refl, sym, ap, ◌∙◌, arith, inl, inr, nat_eq}
use Rattle.std.proofs.lemmas.Bool.{cases_eq, eq-eqb, ne_eqb}
use Rattle.fs_layout.specs.declared.inode.TheConstants.{INODE_SIZE}
use Rattle.fs_layout.specs.declared.inode.Inode.{Inode}
use Rattle.fs_layout.specs.declared.geometry.Geometry.{Geometry}
use Rattle.fs_layout.specs.Bytes.{SectorMap, splice}
use Rattle.fs_layout.specs.Inode.{inode_bytes, FitsInode}
use Rattle.fs_layout.specs.Geometry.{IsGeometry}
use Rattle.fs_layout.specs.Images.{HasWholeTables, map_bits, bit, inode_at}
use Rattle.fs_layout.specs.Ownership.{IsConsistent}
use Rattle.fs_layout.specs.InodeChanges.{Keeps, IsOwnedApart, ChangesOwned, ChangesBlocks, Saves}
use Rattle.fs_layout.proofs.Parts.{owns_still, owned_before}
use Rattle.fs_layout.proofs.Bits.{has_bit, bit_kept, in_block_map}
use Rattle.fs_layout.proofs.Saves.{IsSaved, data_saved, below_saved, tables_saved, in_table, owned_on}
use Rattle.fs_layout.proofs.Consistent.{saved_stays_consistent, other_inode, blocks_leave_apart}

-- the image with inode n written as v
pub with_inode : Geometry → ℕ → Inode → SectorMap → SectorMap
with_inode p n v image s = cond (nat_eq s (p.table + n / 4)) (splice (image s) (INODE_SIZE * (n % 4)) (inode_bytes v)) (image s)

pub with_inode_saves : (p : Geometry) (n : ℕ) (v : Inode) (image : SectorMap) → Saves p n v image (with_inode p n v image)
unfolding with_inode
with_inode_saves p n v image = record {
  here = rw (eq-eqb (p.table + n / 4) (p.table + n / 4) refl) refl;
  others = λ s ne. rw (ne_eqb s (p.table + n / 4) ne) refl;
}

-- what the inode owned in another image is what it owned in old, and the bitmaps and the data are the same
pub owned_from : {p : Geometry} {v w : Inode} {old other new : SectorMap} → IsGeometry p → IsOwnedApart p old v → ChangesOwned p v w old new
    → ((s : ℕ) → p.first_data ≤ s → other s ≡ old s) → ((s : ℕ) → s < map_bits p → bit other p.block_bitmap s ≡ bit old p.block_bitmap s)
    → ChangesOwned p v w other new
owned_from {p} {v} {w} {old} {other} {new} geometry apart c same bits =
    let keeps : Keeps old other v = λ s o. same s (apart.each s o).0 in
    record {
      sectors = c.sectors;
      whole = c.whole;
      others = λ s ge lt used ban. c.others s ge lt (sym (bits s (has_bit geometry s lt)) ∙ used) (λ o. ban (owns_still keeps o)) ∙ sym (same s ge);
      fresh = λ s o. elim (c.fresh s o) [ inl was ↦ inl (owns_still keeps was) | inr f ↦ inr (f.0, f.1, bits s (has_bit geometry s f.1) ∙ f.2) ];
      once = c.once;
      taken = c.taken;
      released = λ s fits t e. owns_still keeps (c.released s fits (sym (bits s fits) ∙ t) e);
      gained = λ s fits t e. c.gained s fits t (sym (bits s fits) ∙ e);
      stayed = λ s fits t o. c.stayed s fits t (owned_before keeps o);
    }

-- an inode is saved before the blocks of another one change, and not after it: the change is the same
pub save_first : {p : Geometry} {n : ℕ} {u v w : Inode} {old mid first new : SectorMap} → IsGeometry p → n < p.inodes → FitsInode u
    → HasWholeTables p old → IsOwnedApart p old v
    → ChangesBlocks p v w old mid → Saves p n u old first → Saves p n u mid new → ChangesBlocks p v w first new
save_first {p} {n} {u} {v} {w} {old} {mid} {first} {new} geometry lt fits tables apart x before after =
    let tables' : HasWholeTables p mid = x.owned.sectors in
    let bits : (a b : SectorMap) → Saves p n u a b → HasWholeTables p a → (s : ℕ) → s < map_bits p → bit b p.block_bitmap s ≡ bit a p.block_bitmap s =
    λ a b y whole s low. bit_kept a b p.block_bitmap s (below_saved geometry lt fits whole y (p.block_bitmap + s / 4096) (in_block_map p s low).1) in
    record {
      owned = owned_from geometry apart
          (owned_on geometry apart x.owned (tables_saved geometry lt fits tables' after) (data_saved geometry lt fits tables' after) (bits mid new after tables'))
          (data_saved geometry lt fits tables before) (bits old first before tables);
      low = λ s less ban. elim (cases_eq s (p.table + n / 4)) [
        | inr ne ↦ after.others s ne ∙ x.low s less ban ∙ sym (before.others s ne)
        | inl e ↦
            let i = in_table p n geometry lt in
            let same : mid (p.table + n / 4) ≡ old (p.table + n / 4) = x.low (p.table + n / 4) i.1 (λ b. let k = b.1 in omega (arith, k)) in
            ap new e ∙ after.here ∙ ap (λ (r : List ℕ). splice r (INODE_SIZE * (n % 4)) (inode_bytes u)) same ∙ sym before.here ∙ sym (ap first e)
      ];
    }

-- The blocks of two inodes change, and then both are saved: it is as if the first had been saved before the second
-- changed, with a consistent image in between.
pub both_saved : {p : Geometry} {n m : ℕ} {v w : Inode} {old one two three new : SectorMap} → IsConsistent p old → n < p.inodes
    → m < p.inodes → m ≢ n → FitsInode v → FitsInode w
    → ChangesBlocks p (inode_at p old n) v old one → ChangesBlocks p (inode_at p old m) w one two → Saves p n v two three → Saves p m w three new
    → (between : SectorMap) × IsSaved p n v old one between × IsConsistent p between × IsSaved p m w between three new × IsConsistent p new
both_saved {p} {n} {m} {v} {w} {old} {one} {two} {three} {new} h ln lm ne fits_v fits_w x y first second =
    let between : SectorMap = with_inode p n v one in
    let save : Saves p n v one between = with_inode_saves p n v one in
    let a = saved_stays_consistent h ln refl fits_v x save in
    let same : inode_at p between m ≡ inode_at p old m = other_inode h ln a.1.changes m lm ne in
    let apart : IsOwnedApart p one (inode_at p old m) = blocks_leave_apart h ln lm ne x.owned in
    let change : ChangesBlocks p (inode_at p old m) w between three = save_first h.geometry ln fits_v x.owned.sectors apart y save first in
    let b = saved_stays_consistent a.0 lm same fits_w change second in
    (between, a.1, a.0, b.1, b.0)
