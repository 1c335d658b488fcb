-- A consistent image stays so where only what it says nothing of differs: the sectors below the bitmaps, the free ones,
-- and those past the end.
use Rattle.std.proofs.Common.{◌≡◌, ℕ, ◌+◌, ◌/◌, ◌<◌, ◌≤◌, sym, subst, ◌∙◌, arith, inl, inr, ◌⊎◌, ◌↔◌}
use Rattle.fs_layout.specs.declared.geometry.Geometry.{Geometry}
use Rattle.fs_layout.specs.Bytes.{SectorMap, IsSector}
use Rattle.fs_layout.specs.Geometry.{IsGeometry}
use Rattle.fs_layout.specs.Images.{inode_map_bits, map_bits, bit, free_sectors, stored, inode_at, Owns}
use Rattle.fs_layout.specs.Ownership.{IsOwned, IsConsistent, Agrees}
use Rattle.fs_layout.specs.InodeChanges.{Keeps}
use Rattle.fs_layout.proofs.Places.{after_map, before_data}
use Rattle.fs_layout.proofs.Parts.{owns_still, owned_before}
use Rattle.fs_layout.proofs.Bits.{has_bit, bit_kept, inode_bit_kept, in_block_map, free_sectors_kept}
use Rattle.fs_layout.proofs.Saves.{in_table, stored_kept, inode_kept, valid_kept}
use Rattle.fs_layout.proofs.Consistent.{owns_as, owned_is_used}

-- ---- images that agree
-- they do where all sectors from the bitmaps on are the same
pub same_agrees : {p : Geometry} {old new : SectorMap} → IsGeometry p → ((s : ℕ) → p.inode_bitmap ≤ s → s < p.sectors → new s ≡ old s) → Agrees p old new
same_agrees geometry same = record {
  tables = λ s past low. same s past (let e = geometry.data_sectors in omega (arith, low, e));
  used = λ s at set. same s (let m = after_map geometry in let t = before_data geometry in omega (arith, at.0, m, t)) at.1;
}

-- the block bitmap is the same in images that agree
agreed_bit : {p : Geometry} {old new : SectorMap} → IsGeometry p → Agrees p old new → (s : ℕ) → s < map_bits p
    → bit new p.block_bitmap s ≡ bit old p.block_bitmap s
agreed_bit {p} {old} {new} geometry a s fits =
    let t = before_data geometry in
    let b = in_block_map p s fits in
    bit_kept old new p.block_bitmap s (a.tables (p.block_bitmap + s / 4096) (let m = after_map geometry in omega (arith, m)) (omega (arith, t, b.1)))

-- each agrees with the other
pub agrees_back : {p : Geometry} {old new : SectorMap} → IsGeometry p → Agrees p old new → Agrees p new old
agrees_back geometry a = record {
  tables = λ s past low. sym (a.tables s past low);
  used = λ s at set. sym (a.used s at (sym (agreed_bit geometry a s (has_bit geometry s at.1)) ∙ set));
}

-- and with what the other agrees with
pub agrees_on : {p : Geometry} {a b c : SectorMap} → IsGeometry p → Agrees p a b → Agrees p b c → Agrees p a c
agrees_on geometry x y = record {
  tables = λ s past low. y.tables s past low ∙ x.tables s past low;
  used = λ s at set. y.used s at (agreed_bit geometry x s (has_bit geometry s at.1) ∙ set) ∙ x.used s at set;
}

-- ---- a consistent image and one that agrees with it
module _ {p : Geometry} {old new : SectorMap} (h : IsConsistent p old) (same : Agrees p old new) where
  agree_stored : (n : ℕ) → n < p.inodes → stored p new n ≡ stored p old n
  agree_stored n lt = let i = in_table p n h.geometry lt in stored_kept p n old new (same.tables (p.table + n / 4) (let m = after_map h.geometry in omega (arith, m)) i.1)

  -- each inode is the same
  pub agree_inode : (n : ℕ) → n < p.inodes → inode_at p new n ≡ inode_at p old n
  agree_inode n lt = inode_kept p n old new (agree_stored n lt)

  -- and each sector that it owns
  pub agree_keeps : (n : ℕ) → n < p.inodes → Keeps old new (inode_at p old n)
  agree_keeps n lt s o = same.used s (h.in_data n s lt o) (owned_is_used h n s lt o)

  -- an inode owns what it owned, for the same
  abbrev pub agree_owns : (n : ℕ) {s : ℕ} → n < p.inodes → Owns old (inode_at p old n) s → Owns new (inode_at p new n) s
  agree_owns n lt o = owns_as (sym (agree_inode n lt)) (owns_still (agree_keeps n lt) o)

  -- and it owned what it owns
  abbrev pub agree_owned : (n : ℕ) {s : ℕ} → n < p.inodes → Owns new (inode_at p new n) s → Owns old (inode_at p old n) s
  agree_owned n lt o = owned_before (agree_keeps n lt) (owns_as (agree_inode n lt) o)

  -- each bit of the inode bitmap is the same
  pub agree_inode_bit : (n : ℕ) → n < inode_map_bits p → bit new p.inode_bitmap n ≡ bit old p.inode_bitmap n
  agree_inode_bit n few =
      inode_bit_kept p old new n few (λ s i. same.tables s i.0 (let past = i.1 in let m = after_map h.geometry in let t = before_data h.geometry in omega (arith, past, m, t)))

  -- and each bit of the block bitmap
  pub agree_block_bit : (s : ℕ) → s < map_bits p → bit new p.block_bitmap s ≡ bit old p.block_bitmap s
  agree_block_bit s fits = agreed_bit h.geometry same s fits

  -- as many sectors are free
  pub agree_free_sectors : free_sectors p new ≡ free_sectors p old
  agree_free_sectors = free_sectors_kept p old new (λ s at. agree_block_bit s (has_bit h.geometry s at.1))

  agree_owner : (s : ℕ) → IsOwned p old s ↔ IsOwned p new s
  agree_owner s =
      (λ o. record { by = o.by; below = o.below; is = agree_owns o.by o.below o.is }, λ o. record { by = o.by; below = o.below; is = agree_owned o.by o.below o.is })

  -- the image is consistent too
  pub agree_consistent : IsConsistent p new
  agree_consistent = record {
    geometry = h.geometry;
    sectors = λ s past low. subst IsSector (sym (same.tables s past low)) (h.sectors s past low);
    owned_sectors = λ n s lt o. let was = agree_owned n lt o in subst IsSector (sym (agree_keeps n lt s was)) (h.owned_sectors n s lt was);
    valid = λ n lt. valid_kept p n old new (agree_stored n lt) (h.valid n lt);
    in_data = λ n s lt o. h.in_data n s lt (agree_owned n lt o);
    sole = λ n m s ln lm a b. h.sole n m s ln lm (agree_owned n ln a) (agree_owned m lm b);
    block_bits = λ s fits. (
      λ t. owned_with (agree_owner s).0 ((h.block_bits s fits).0 (sym (agree_block_bit s fits) ∙ t)),
      λ o. agree_block_bit s fits ∙ (h.block_bits s fits).1 (owned_with (agree_owner s).1 o),
    );
  }
    where
      owned_with : {A B C D : Type 0} → (C → D) → A ⊎ (B ⊎ C) → A ⊎ (B ⊎ D)
      owned_with f (inl a) = inl a
      owned_with f (inr (inl b)) = inr (inl b)
      owned_with f (inr (inr c)) = inr (inr (f c))
