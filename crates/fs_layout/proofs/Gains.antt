-- An inode gets a sector that was free, for one thing.
use Rattle.std.proofs.Common.{◌≡◌, ◌≢◌, ℕ, ◌+◌, ◌≤◌, false, sym, ap, subst, ◌∙◌, arith, inl, inr}
use Rattle.std.proofs.lemmas.Bool.{cases_eq}
use Rattle.fs_layout.specs.declared.inode.Inode.{Inode}
use Rattle.fs_layout.specs.declared.geometry.Geometry.{Geometry}
use Rattle.fs_layout.specs.Bytes.{SectorMap, IsSector}
use Rattle.fs_layout.specs.Geometry.{IsGeometry}
use Rattle.fs_layout.specs.Images.{bit, free_sectors, Part, part, Owns}
use Rattle.fs_layout.specs.InodeChanges.{IsBlockMap, Gains, Takes, IsFree, IsOwnedApart, ChangesBlocks}
use Rattle.fs_layout.proofs.Places.{after_map, before_data}
use Rattle.fs_layout.proofs.Parts.{same_part_or_not}
use Rattle.fs_layout.proofs.Bits.{has_bit, not_both, free_sectors_less}
use Rattle.fs_layout.proofs.Blocks.{low_not_owned, map_is_low}

-- what is not for the gained part was so before
gained_else : {old new : SectorMap} {v w : Inode} {at : Part} {s t : ℕ} → Gains old new v w at s → t ≢ s → (o : Owns new w t) → part old v o.at ≡ t
gained_else {new = new} {w = w} g ne o = sym (g.others o.at (λ e. ne (sym o.is ∙ ap (part new w) e ∙ g.now))) ∙ o.is

gained_still : {old new : SectorMap} {v w : Inode} {at : Part} {s t : ℕ} → Gains old new v w at s → Owns old v t → Owns new w t
gained_still {old} {v = v} g o = record { at = o.at; is = g.others o.at (λ e. o.some (sym o.is ∙ ap (part old v) e ∙ g.was)) ∙ o.is; some = o.some }

-- a sector that was free is there for one thing
gained_at : {p : Geometry} {old new : SectorMap} {v w : Inode} {at : Part} {s : ℕ} → IsOwnedApart p old v → Gains old new v w at s
    → bit old p.block_bitmap s ≡ false → (o : Owns new w s) → o.at ≡ at
gained_at {at = at} {s = s} apart g clear o =
    elim (same_part_or_not o.at at) [
      | inl e ↦ e
      | inr away ↦ absurd (not_both (apart.each s (record { at = o.at; is = sym (g.others o.at away) ∙ o.is; some = o.some })).2 clear)
    ]

-- the inode has one more sector, which was free, and the bitmap follows
pub gains : {p : Geometry} {old new : SectorMap} {v w : Inode} {at : Part} {s : ℕ} → IsGeometry p → IsOwnedApart p old v → Gains old new v w at s
    → Takes p v s old new → ChangesBlocks p v w old new
gains {p} {old} {new} {v} {w} {at} {s} geometry apart g x =
    let clear : bit old p.block_bitmap s ≡ false = x.free.2 in
    let some : s ≢ 0 = λ e. let a = x.free.0 in let b = before_data geometry in let c = after_map geometry in omega (arith, a, b, c, e) in
    let no_map : (t : ℕ) → p.first_data ≤ t → IsBlockMap p t → ⊥ = λ t ge m. let a = map_is_low geometry t m in omega (arith, a, ge) in
    record {
      owned = record {
        sectors = x.sectors;
        whole = λ t o. elim (cases_eq t s) [
          | inl e ↦ subst (λ (u : ℕ). IsSector (new u)) (sym e) x.here
          | inr ne ↦ x.whole t (record { at = o.at; is = gained_else g ne o; some = o.some })
        ];
        others = λ t ge lt used ban. x.others t (λ e. not_both used (ap (bit old p.block_bitmap) e ∙ clear)) ban (no_map t ge);
        fresh = λ t o. elim (cases_eq t s) [
          | inl e ↦ inr (subst (IsFree p old) (sym e) x.free)
          | inr ne ↦ inl (record { at = o.at; is = gained_else g ne o; some = o.some })
        ];
        once = λ t a b. elim (cases_eq t s) [
          | inl e ↦ gained_at apart g clear (record { at = a.at; is = a.is ∙ e; some = some }) ∙ sym (gained_at apart g clear (record { at = b.at; is = b.is ∙ e; some = some }))
          | inr ne ↦ apart.once t (record { at = a.at; is = gained_else g ne a; some = a.some }) (record { at = b.at; is = gained_else g ne b; some = b.some })
        ];
        taken = λ t fits o. elim (cases_eq t s) [
          | inl e ↦ ap (bit new p.block_bitmap) e ∙ x.set
          | inr ne ↦ x.bits t fits ne ∙ (apart.each t (record { at = o.at; is = gained_else g ne o; some = o.some })).2
        ];
        released = λ t fits u e. elim (cases_eq t s) [
          | inl f ↦ absurd (not_both u (ap (bit old p.block_bitmap) f ∙ clear))
          | inr ne ↦ absurd (not_both u (sym (x.bits t fits ne) ∙ e))
        ];
        gained = λ t fits u e. elim (cases_eq t s) [
          | inl f ↦ record { at = at; is = g.now ∙ sym f; some = λ z. some (sym f ∙ z) }
          | inr ne ↦ absurd (not_both u (x.bits t fits ne ∙ e))
        ];
        stayed = λ t fits u o. gained_still g o;
      };
      low = λ t lt ban. x.others t (λ e. let a = x.free.0 in omega (arith, a, e, lt)) (low_not_owned apart t lt) ban;
    }

-- one sector less is free then
pub gains_free_sectors : {p : Geometry} {v : Inode} {s : ℕ} {old new : SectorMap} → IsGeometry p → Takes p v s old new
    → free_sectors p old ≡ free_sectors p new + 1
gains_free_sectors {p} {s = s} {old} {new} geometry x =
    free_sectors_less p old new s x.free x.set (λ t at ne. x.bits t (has_bit geometry t at.1) ne)
