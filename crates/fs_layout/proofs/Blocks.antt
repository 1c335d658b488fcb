-- Sectors that an inode owns are written: what changes by that.
use Rattle.std.proofs.Common.{◌≡◌, ◌≢◌, ℕ, suc, ◌<◌, List, refl, sym, ap, subst, ◌∙◌, arith, inl, inr}
use Rattle.std.proofs.lemmas.Bool.{cases_eq}
use Rattle.fs_layout.specs.declared.inode.Inode.{Inode}
use Rattle.fs_layout.specs.declared.geometry.Geometry.{Geometry}
use Rattle.fs_layout.specs.Bytes.{SectorMap, IsSector}
use Rattle.fs_layout.specs.Geometry.{IsGeometry}
use Rattle.fs_layout.specs.Images.{HasWholeTables, map_bits, bit, free_sectors, levels, pointer, Part, OnLevel, Block, part, Owns}
use Rattle.fs_layout.specs.InodeChanges.{Puts, Rewrites, IsBlockMap, IsOwnedApart, ChangesBlocks}
use Rattle.fs_layout.proofs.Places.{before_data}
use Rattle.fs_layout.proofs.Parts.{KeepsPointers, HasNoPointers, part_same, block_has_no_pointers}
use Rattle.fs_layout.proofs.Pointers.{part_alike}
use Rattle.fs_layout.proofs.Bits.{has_bit, not_both, block_bit_kept, free_sectors_kept}

-- what stands below the data is not owned
pub low_not_owned : {p : Geometry} {image : SectorMap} {v : Inode} → IsOwnedApart p image v → (s : ℕ) → s < p.first_data → Owns image v s → ⊥
low_not_owned apart s lt o = let ge = (apart.each s o).0 in omega (arith, lt, ge)

-- the block bitmap stands below the data
pub map_is_low : {p : Geometry} → IsGeometry p → (s : ℕ) → IsBlockMap p s → s < p.first_data
map_is_low geometry s m = let a = before_data geometry in let b = m.1 in omega (arith, a, b)

-- Only what the inode owns is written, and each part stays where it was. So it is also where nothing differs.
pub rewrites : {p : Geometry} {v w : Inode} {old new : SectorMap} → IsGeometry p → HasWholeTables p old → IsOwnedApart p old v
    → ((a : Part) → part new w a ≡ part old v a) → Rewrites v old new
    → ChangesBlocks p v w old new
rewrites {p} {v} {w} {old} {new} geometry tables apart same r =
    let back : (s : ℕ) → Owns new w s → Owns old v s = λ s o. record { at = o.at; is = sym (same o.at) ∙ o.is; some = o.some } in
    let low : (s : ℕ) → s < p.first_data → new s ≡ old s = λ s lt. r.others s (low_not_owned apart s lt) in
    let same_bit : (s : ℕ) → s < map_bits p → bit new p.block_bitmap s ≡ bit old p.block_bitmap s = λ s fits. block_bit_kept p old new s fits (λ t m. low t (map_is_low geometry t m)) in
    record {
      owned = record {
        sectors = λ s past lt. subst IsSector (sym (low s lt)) (tables s past lt);
        whole = λ s o. r.whole s (back s o);
        others = λ s ge lt used ban. r.others s ban;
        fresh = λ s o. inl (back s o);
        once = λ s a b. apart.once s (record { at = a.at; is = sym (same a.at) ∙ a.is; some = a.some }) (record { at = b.at; is = sym (same b.at) ∙ b.is; some = b.some });
        taken = λ s fits o. same_bit s fits ∙ (apart.each s (back s o)).2;
        released = λ s fits t e. absurd (not_both t (sym (same_bit s fits) ∙ e));
        gained = λ s fits t e. absurd (not_both t (same_bit s fits ∙ e));
        stayed = λ s fits t o. record { at = o.at; is = same o.at ∙ o.is; some = o.some };
      };
      low = λ s lt ban. low s lt;
    }

-- as many sectors are free as before
pub rewrites_free_sectors : {p : Geometry} {v : Inode} {old new : SectorMap} → IsGeometry p → IsOwnedApart p old v → Rewrites v old new
    → free_sectors p new ≡ free_sectors p old
rewrites_free_sectors {p} {v} {old} {new} geometry apart r =
    free_sectors_kept p old new (λ s at. block_bit_kept p old new s (has_bit geometry s at.1) (λ t m. r.others t (low_not_owned apart t (map_is_low geometry t m))))

-- ---- one sector
-- a sector that the inode owns is written
pub put_rewrites : {v : Inode} {old new : SectorMap} {s : ℕ} {x : List ℕ} → Owns old v s → ((t : ℕ) → Owns old v t → IsSector (old t)) → IsSector x
    → Puts s x old new → Rewrites v old new
put_rewrites {v} {old} {new} {s} {x} here whole fine put = record {
  whole = λ t o. elim (cases_eq t s) [
    | inl e ↦ subst IsSector (sym put.here ∙ ap new (sym e)) fine
    | inr ne ↦ subst IsSector (sym (put.others t ne)) (whole t o)
  ];
  others = λ t ban. put.others t (λ e. ban (subst (λ (u : ℕ). Owns old v u) (sym e) here));
}

-- the sectors of pointers are none that the inode has for something else
pub pointers_apart : {p : Geometry} {v : Inode} {old new : SectorMap} {s : ℕ} {x : List ℕ} → IsOwnedApart p old v → (at : Part) → HasNoPointers at
    → part old v at ≡ s → s ≢ 0 → Puts s x old new → KeepsPointers old new v
unfolding part
pointers_apart {v = v} {s = s} apart at ne is some put level i has =
    put.others _ (λ e. ne level i (apart.once s (record { at = at; is = is; some = some }) (record { at = OnLevel (suc level) i; is = e; some = some })))

-- what the inode has for something else is the same
pub others_kept : {p : Geometry} {v : Inode} {old new : SectorMap} {s t : ℕ} {x : List ℕ} → IsOwnedApart p old v → (at : Part)
    → part old v at ≡ s → s ≢ 0
    → Puts s x old new → (o : Owns old v t) → o.at ≢ at → new t ≡ old t
others_kept {s = s} {t} apart at is some put o ne =
    put.others t (λ e. ne (apart.once s (record { at = o.at; is = o.is ∙ e; some = some }) (record { at = at; is = is; some = some })))

-- One sector that the inode has, and not for its pointers, is written: a block, or an ACL.
pub part_changes : {p : Geometry} {v : Inode} {old new : SectorMap} {s : ℕ} {x : List ℕ} → IsGeometry p → HasWholeTables p old → IsOwnedApart p old v
    → (at : Part) → HasNoPointers at → part old v at ≡ s → s ≢ 0 → IsSector x → Puts s x old new → ChangesBlocks p v v old new
part_changes {v = v} {old} {new} geometry tables apart at ne is some fine put =
    rewrites geometry tables apart (part_same old new v (pointers_apart apart at ne is some put)) (put_rewrites (record { at = at; is = is; some = some }) apart.whole fine put)

-- one block is written
pub block_changes : {p : Geometry} {v : Inode} {old new : SectorMap} {s : ℕ} {x : List ℕ} → IsGeometry p → HasWholeTables p old → IsOwnedApart p old v
    → (k : ℕ) → pointer old v k ≡ s → s ≢ 0 → IsSector x → Puts s x old new → ChangesBlocks p v v old new
unfolding part
block_changes geometry tables apart k is some fine put = part_changes geometry tables apart (Block k) (block_has_no_pointers k) is some fine put

-- ---- no sector
-- the inode differs, and what it owns does not
pub fields_change : {p : Geometry} {v w : Inode} {image : SectorMap} → IsGeometry p → HasWholeTables p image → IsOwnedApart p image v
    → w.acl ≡ v.acl → w.default_acl ≡ v.default_acl → levels w ≡ levels v → ChangesBlocks p v w image image
fields_change {v = v} {w} {image} geometry tables apart acl default_acl same =
    rewrites geometry tables apart (part_alike image v w acl default_acl same) (record { whole = apart.whole; others = λ s ban. refl })

-- nothing changes
pub nothing_changes : {p : Geometry} {v : Inode} {image : SectorMap} → IsGeometry p → HasWholeTables p image → IsOwnedApart p image v
    → ChangesBlocks p v v image image
nothing_changes geometry tables apart = fields_change geometry tables apart refl refl refl
