-- Changes of what one inode owns, one after the other.
use Rattle.std.proofs.Common.{ℕ, ◌<◌, ◌∙◌, inl, inr, IsTrue}
use Rattle.fs_layout.specs.declared.inode.Inode.{Inode}
use Rattle.fs_layout.specs.declared.geometry.Geometry.{Geometry}
use Rattle.fs_layout.specs.Bytes.{SectorMap}
use Rattle.fs_layout.specs.Geometry.{IsGeometry}
use Rattle.fs_layout.specs.Images.{IsData, map_bits, bit, Owns}
use Rattle.fs_layout.specs.InodeChanges.{IsOwnedApart, ChangesOwned, ChangesBlocks, ChangesInode}
use Rattle.fs_layout.proofs.Bits.{has_bit, set_or_clear, not_both}

-- ---- two changes
-- a sector that was used, and not by v, is used
pub used_on : {p : Geometry} {v w : Inode} {a b : SectorMap} {s : ℕ} → ChangesOwned p v w a b → s < map_bits p
    → IsTrue (bit a p.block_bitmap s) → (Owns a v s → ⊥)
    → IsTrue (bit b p.block_bitmap s)
used_on {p} {b = b} {s = s} x fits t ban = elim (set_or_clear (bit b p.block_bitmap s)) [ inl m ↦ m | inr e ↦ absurd (ban (x.released s fits t e)) ]

-- and it is not w's
still_apart : {p : Geometry} {v w : Inode} {a b : SectorMap} {s : ℕ} → ChangesOwned p v w a b → IsTrue (bit a p.block_bitmap s)
    → (Owns a v s → ⊥) → Owns b w s → ⊥
still_apart {s = s} x t ban o = elim (x.fresh s o) [ inl was ↦ ban was | inr f ↦ not_both t f.2 ]

-- one change of what an inode owns after the other is one
pub both_owned : {p : Geometry} {u v w : Inode} {a b c : SectorMap} → IsGeometry p → ChangesOwned p u v a b → ChangesOwned p v w b c
    → ChangesOwned p u w a c
both_owned {p} {u} {v} {w} {a} {b} {c} geometry x y =
    let few : (s : ℕ) → s < p.sectors → s < map_bits p = has_bit geometry in
    record {
      sectors = y.sectors;
      whole = y.whole;
      others = λ s ge lt used ban. y.others s ge lt (used_on x (few s lt) used ban) (still_apart x used ban) ∙ x.others s ge lt used ban;
      fresh = λ s o. elim (y.fresh s o) [
        | inl was ↦ x.fresh s was
        | inr f ↦ elim (set_or_clear (bit a p.block_bitmap s)) [
          | inl t ↦ inl (x.released s (few s f.1) t f.2)
          | inr e ↦ inr (f.0, f.1, e)
        ]
      ];
      once = y.once;
      taken = y.taken;
      released = λ s fits t e. elim (set_or_clear (bit b p.block_bitmap s)) [
        | inr f ↦ x.released s fits t f
        | inl m ↦ elim (x.fresh s (y.released s fits m e)) [ inl was ↦ was | inr f ↦ absurd (not_both t f.2) ]
      ];
      gained = λ s fits t e. elim (set_or_clear (bit b p.block_bitmap s)) [ inl m ↦ y.stayed s fits t (x.gained s fits m e) | inr f ↦ y.gained s fits t f ];
      stayed = λ s fits t o. elim (set_or_clear (bit b p.block_bitmap s)) [ inl m ↦ y.stayed s fits t (x.stayed s fits m o) | inr f ↦ y.gained s fits t f ];
    }

-- one change of blocks after the other is one
pub both_changes : {p : Geometry} {u v w : Inode} {a b c : SectorMap} → IsGeometry p → ChangesBlocks p u v a b → ChangesBlocks p v w b c
    → ChangesBlocks p u w a c
both_changes geometry x y = record { owned = both_owned geometry x.owned y.owned; low = λ s lt ban. y.low s lt ban ∙ x.low s lt ban }

-- what the inode owns after a change is apart again
pub apart_after : {p : Geometry} {v w : Inode} {old new : SectorMap} → IsGeometry p → IsOwnedApart p old v → ChangesOwned p v w old new
    → IsOwnedApart p new w
apart_after {p} {v} {w} {old} {new} geometry apart x =
    let in_data : (s : ℕ) → Owns new w s → IsData p s =
    λ s o. elim (x.fresh s o) [ inl was ↦ ((apart.each s was).0, (apart.each s was).1) | inr f ↦ (f.0, f.1) ] in
    record {
      each = λ s o. let d = in_data s o in (d.0, d.1, x.taken s (has_bit geometry s d.1) o);
      whole = x.whole;
      once = x.once;
    }

-- one change of an inode after the other is one
pub both_inodes : {p : Geometry} {n : ℕ} {a b c : SectorMap} → IsGeometry p → ChangesInode p n a b → ChangesInode p n b c → ChangesInode p n a c
both_inodes geometry x y = record {
  owned = both_owned geometry x.owned y.owned;
  valid = y.valid;
  table = λ m lt ne. y.table m lt ne ∙ x.table m lt ne;
  inode_bits = λ m few ne. y.inode_bits m few ne ∙ x.inode_bits m few ne;
}
