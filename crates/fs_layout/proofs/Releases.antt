-- An inode gives up a sector that it had for one thing.
use Rattle.std.proofs.Common.{◌≡◌, ◌≢◌, ℕ, ◌+◌, ◌≤◌, sym, ap, ◌∙◌, arith, inl, inr}
use Rattle.std.proofs.lemmas.Bool.{cases_eq}
use Rattle.fs_layout.specs.declared.inode.Inode.{Inode}
use Rattle.fs_layout.specs.declared.geometry.Geometry.{Geometry}
use Rattle.fs_layout.specs.Bytes.{SectorMap}
use Rattle.fs_layout.specs.Geometry.{IsGeometry}
use Rattle.fs_layout.specs.Images.{bit, free_sectors, Part, part, Owns}
use Rattle.fs_layout.specs.InodeChanges.{IsBlockMap, Loses, Releases, IsOwnedApart, ChangesBlocks}
use Rattle.fs_layout.proofs.Bits.{has_bit, not_both, free_sectors_more}
use Rattle.fs_layout.proofs.Blocks.{low_not_owned, map_is_low}

-- what it still has it had before
kept_before : {old new : SectorMap} {v w : Inode} {at : Part} {s t : ℕ} → Loses old new v w at s → (o : Owns new w t) → part old v o.at ≡ t
kept_before {new = new} {w = w} l o = sym (l.others o.at (λ e. o.some (sym o.is ∙ ap (part new w) e ∙ l.now))) ∙ o.is

-- the sector that is lost is there for nothing else
lost_is_gone : {p : Geometry} {old new : SectorMap} {v w : Inode} {at : Part} {s t : ℕ} → IsOwnedApart p old v → Loses old new v w at s
    → Owns new w t → t ≢ s
lost_is_gone {new = new} {w = w} {at = at} {s = s} {t = t} apart l o e =
    let same : o.at ≡ at = apart.once t (record { at = o.at; is = kept_before l o; some = o.some }) (record { at = at; is = l.was ∙ sym e; some = o.some }) in
    o.some (sym o.is ∙ ap (part new w) same ∙ l.now)

-- what was not lost it still has
kept_still : {old new : SectorMap} {v w : Inode} {at : Part} {s t : ℕ} → Loses old new v w at s → t ≢ s → Owns old v t → Owns new w t
kept_still {old} {v = v} l ne o = record { at = o.at; is = l.others o.at (λ e. ne (sym o.is ∙ ap (part old v) e ∙ l.was)) ∙ o.is; some = o.some }

-- the inode has one sector less, and the bitmap follows
pub loses : {p : Geometry} {old new : SectorMap} {v w : Inode} {at : Part} {s : ℕ} → IsGeometry p → IsOwnedApart p old v → s ≢ 0 → Loses old new v w at s
    → Releases p v s old new → ChangesBlocks p v w old new
loses {p} {old} {new} {v} {w} {at} {s} geometry apart some l x =
    let no_map : (t : ℕ) → p.first_data ≤ t → IsBlockMap p t → ⊥ = λ t ge m. let a = map_is_low geometry t m in omega (arith, a, ge) in
    record {
      owned = record {
        sectors = x.sectors;
        whole = λ t o. x.whole t (lost_is_gone apart l o) (record { at = o.at; is = kept_before l o; some = o.some });
        others = λ t ge lt used ban. x.others t ban (no_map t ge);
        fresh = λ t o. inl (record { at = o.at; is = kept_before l o; some = o.some });
        once = λ t a b. apart.once t (record { at = a.at; is = kept_before l a; some = a.some }) (record { at = b.at; is = kept_before l b; some = b.some });
        taken = λ t fits o. x.bits t fits (lost_is_gone apart l o) ∙ (apart.each t (record { at = o.at; is = kept_before l o; some = o.some })).2;
        released = λ t fits u e. elim (cases_eq t s) [
          | inl f ↦ record { at = at; is = l.was ∙ sym f; some = λ z. some (sym f ∙ z) }
          | inr ne ↦ absurd (not_both u (sym (x.bits t fits ne) ∙ e))
        ];
        gained = λ t fits u e. elim (cases_eq t s) [
          | inl f ↦ absurd (not_both u (ap (bit new p.block_bitmap) f ∙ x.clear))
          | inr ne ↦ absurd (not_both u (x.bits t fits ne ∙ e))
        ];
        stayed = λ t fits u o. kept_still l (λ f. not_both u (ap (bit new p.block_bitmap) f ∙ x.clear)) o;
      };
      low = λ t lt ban. x.others t (low_not_owned apart t lt) ban;
    }

-- one sector more is free then
pub loses_free_sectors : {p : Geometry} {v : Inode} {s : ℕ} {old new : SectorMap} → IsGeometry p → IsOwnedApart p old v → Owns old v s
    → Releases p v s old new
    → free_sectors p new ≡ free_sectors p old + 1
loses_free_sectors {p} {s = s} {old} {new} geometry apart o x =
    let d = apart.each s o in
    free_sectors_more p old new s (d.0, d.1) d.2 x.clear (λ t at ne. x.bits t (has_bit geometry t at.1) ne)
