-- A consistent image stays so where one inode changes.
use Rattle.std.proofs.Common.{◌≡◌, ◌≢◌, ℕ, ◌+◌, ◌/◌, ◌<◌, ◌≤◌, refl, sym, ap, subst, ◌∙◌, arith, inl, inr, ◌⊎◌, IsTrue, Ok}
use Rattle.std.proofs.lemmas.Bool.{cases_eq}
use Rattle.fs_layout.specs.declared.inode.Inode.{Inode}
use Rattle.fs_layout.specs.declared.geometry.Geometry.{Geometry}
use Rattle.fs_layout.specs.Bytes.{SectorMap, IsSector}
use Rattle.fs_layout.specs.Inode.{inode_of, FitsInode}
use Rattle.fs_layout.specs.Geometry.{IsGeometry}
use Rattle.fs_layout.specs.Images.{IsData, map_bits, bit, stored, inode_at, levels, part, Owns}
use Rattle.fs_layout.specs.Ownership.{IsOwned, IsConsistent}
use Rattle.fs_layout.specs.InodeChanges.{Keeps, IsOwnedApart, ChangesOwned, ChangesBlocks, Saves, ChangesInode}
use Rattle.fs_layout.proofs.Parts.{owns_still, owned_before}
use Rattle.fs_layout.proofs.Bits.{has_bit, set_or_clear, not_both}
use Rattle.fs_layout.proofs.Blocks.{fields_change}
use Rattle.fs_layout.proofs.Composes.{used_on}
use Rattle.fs_layout.proofs.Saves.{in_table, stored_kept, inode_kept, valid_kept, IsSaved, saved}

-- what an inode owns, as what an equal inode owns
abbrev pub owns_as : {image : SectorMap} {v w : Inode} {s : ℕ} → v ≡ w → Owns image v s → Owns image w s
owns_as {image} e o = record { at = o.at; is = ap (λ (u : Inode). part image u o.at) (sym e) ∙ o.is; some = o.some }

-- a sector that an inode of a consistent image owns is used
pub owned_is_used : {p : Geometry} {image : SectorMap} → IsConsistent p image → (n s : ℕ) → n < p.inodes → Owns image (inode_at p image n) s
    → IsTrue (bit image p.block_bitmap s)
owned_is_used h n s lt o =
    let d = h.in_data n s lt o in
    (h.block_bits s (has_bit h.geometry s d.1)).1 (inr (inr (record { by = n; below = lt; is = o })))

-- what an inode of a consistent image owns is in the data, has its bit set, and serves one thing
pub owned_is_apart : {p : Geometry} {image : SectorMap} → IsConsistent p image → (n : ℕ) → n < p.inodes → IsOwnedApart p image (inode_at p image n)
owned_is_apart h n lt = record {
  each = λ s o. let d = h.in_data n s lt o in (d.0, d.1, owned_is_used h n s lt o);
  whole = λ s o. h.owned_sectors n s lt o;
  once = λ s a b. (h.sole n n s lt lt a b).1;
}

-- ---- what an inode owns changes, and it is not saved yet
-- each inode, also this one, stands in the table as before
pub blocks_keep_table : {p : Geometry} {v w : Inode} {old mid : SectorMap} → IsGeometry p → ChangesBlocks p v w old mid → (m : ℕ)
    → m < p.inodes → inode_at p mid m ≡ inode_at p old m
blocks_keep_table {p} {old = old} {mid} geometry x m lm =
    let i = in_table p m geometry lm in
    inode_kept p m old mid (stored_kept p m old mid (x.low (p.table + m / 4) i.1 (λ b. let k = b.1 in omega (arith, k))))

-- each sector that another inode owns is the same
pub blocks_keep_others : {p : Geometry} {n m : ℕ} {w : Inode} {old mid : SectorMap} → IsConsistent p old → n < p.inodes → m < p.inodes → m ≢ n
    → ChangesOwned p (inode_at p old n) w old mid → Keeps old mid (inode_at p old m)
blocks_keep_others {n = n} {m} h ln lm ne x s o =
    let d = h.in_data m s lm o in
    x.others s d.0 d.1 (owned_is_used h m s lm o) (λ b. ne (h.sole m n s lm ln o b).0)

-- and what it owns is apart, as before
pub blocks_leave_apart : {p : Geometry} {n m : ℕ} {w : Inode} {old mid : SectorMap} → IsConsistent p old → n < p.inodes → m < p.inodes → m ≢ n
    → ChangesOwned p (inode_at p old n) w old mid → IsOwnedApart p mid (inode_at p old m)
blocks_leave_apart {p} {n} {m} {w} {old} {mid} h ln lm ne x =
    let keeps : Keeps old mid (inode_at p old m) = blocks_keep_others h ln lm ne x in
    let apart : IsOwnedApart p old (inode_at p old m) = owned_is_apart h m lm in
    record {
      each = λ s o.
          let was : Owns old (inode_at p old m) s = owned_before keeps o in
          let d = apart.each s was in
          (d.0, d.1, used_on x (has_bit h.geometry s d.1) d.2 (λ b. ne (h.sole m n s lm ln was b).0));
      whole = λ s o. let was = owned_before keeps o in subst IsSector (sym (keeps s was)) (apart.whole s was);
      once = λ s a b. apart.once s (owned_before keeps a) (owned_before keeps b);
    }

-- ---- one inode changes
module _ {p : Geometry} {n : ℕ} {old new : SectorMap} (h : IsConsistent p old) (ln : n < p.inodes) (c : ChangesInode p n old new) where
  -- each other inode is the same
  pub other_inode : (m : ℕ) → m < p.inodes → m ≢ n → inode_at p new m ≡ inode_at p old m
  other_inode m lm ne = inode_kept p m old new (c.table m lm ne)

  -- and so is each sector that it owns
  pub other_keeps : (m : ℕ) → m < p.inodes → m ≢ n → Keeps old new (inode_at p old m)
  other_keeps m lm ne = blocks_keep_others h ln lm ne c.owned

  -- another inode owns what it owned, for the same
  abbrev pub other_owns : (m : ℕ) {s : ℕ} → m < p.inodes → m ≢ n → Owns old (inode_at p old m) s → Owns new (inode_at p new m) s
  other_owns m lm ne o = owns_as (sym (other_inode m lm ne)) (owns_still (other_keeps m lm ne) o)

  -- and it owned what it owns
  abbrev pub other_owned : (m : ℕ) {s : ℕ} → m < p.inodes → m ≢ n → Owns new (inode_at p new m) s → Owns old (inode_at p old m) s
  other_owned m lm ne o = owned_before (other_keeps m lm ne) (owns_as (other_inode m lm ne) o)

  -- n owns nothing that another inode owns
  apart : (m s : ℕ) → m < p.inodes → m ≢ n → Owns new (inode_at p new n) s → Owns new (inode_at p new m) s → ⊥
  apart m s lm ne a b =
      let was : Owns old (inode_at p old m) s = other_owned m lm ne b in
      elim (c.owned.fresh s a) [
        | inl o ↦ ne (h.sole m n s lm ln was o).0
        | inr f ↦ not_both (owned_is_used h m s lm was) f.2
      ]

  in_data_now : (m s : ℕ) → m < p.inodes → Owns new (inode_at p new m) s → IsData p s
  in_data_now m s lm o = elim (cases_eq m n) [
    | inl e ↦ elim (c.owned.fresh s (subst (λ (k : ℕ). Owns new (inode_at p new k) s) e o)) [ inl was ↦ h.in_data n s ln was | inr f ↦ (f.0, f.1) ]
    | inr ne ↦ h.in_data m s lm (other_owned m lm ne o)
  ]

  whole_now : (m s : ℕ) → m < p.inodes → Owns new (inode_at p new m) s → IsSector (new s)
  whole_now m s lm o = elim (cases_eq m n) [
    | inl e ↦ c.owned.whole s (subst (λ (k : ℕ). Owns new (inode_at p new k) s) e o)
    | inr ne ↦ let was : Owns old (inode_at p old m) s = other_owned m lm ne o in subst IsSector (sym (other_keeps m lm ne s was)) (h.owned_sectors m s lm was)
  ]

  sole_now : (a b s : ℕ) → a < p.inodes → b < p.inodes → (x : Owns new (inode_at p new a) s) → (y : Owns new (inode_at p new b) s)
      → (a ≡ b) × (x.at ≡ y.at)
  sole_now a b s la lb x y =
      elim (cases_eq a n) [
        | inl ea ↦ elim (cases_eq b n) [
          | inl eb ↦ (ea ∙ sym eb, c.owned.once s (owns_as (ap (inode_at p new) ea) x) (owns_as (ap (inode_at p new) eb) y))
          | inr nb ↦ absurd (apart b s lb nb (owns_as (ap (inode_at p new) ea) x) y)
        ]
        | inr na ↦ elim (cases_eq b n) [
          | inl eb ↦ absurd (apart a s la na (owns_as (ap (inode_at p new) eb) y) x)
          | inr nb ↦ h.sole a b s la lb (other_owned a la na x) (other_owned b lb nb y)
        ]
      ]

  owned_now : (s : ℕ) → s < map_bits p → IsTrue (bit new p.block_bitmap s) → (s < p.first_data) ⊎ ((p.sectors ≤ s) ⊎ IsOwned p new s)
  owned_now s fits now =
      elim (set_or_clear (bit old p.block_bitmap s)) [
        | inr e ↦ inr (inr (record { by = n; below = ln; is = c.owned.gained s fits now e }))
        | inl t ↦ elim ((h.block_bits s fits).0 t) [
          | inl low ↦ inl low
          | inr r ↦ elim r [
            | inl high ↦ inr (inl high)
            | inr o ↦ elim (cases_eq o.by n) [
              | inl e ↦ inr (inr (record { by = n; below = ln; is = c.owned.stayed s fits now (owns_as (ap (inode_at p old) e) o.is) }))
              | inr ne ↦ inr (inr (record { by = o.by; below = o.below; is = other_owns o.by o.below ne o.is }))
            ]
          ]
        ]
      ]

  set_now : (s : ℕ) → s < map_bits p → (s < p.first_data) ⊎ ((p.sectors ≤ s) ⊎ IsOwned p new s) → IsTrue (bit new p.block_bitmap s)
  set_now s fits now =
      elim now [
        | inl low ↦ used_on c.owned fits ((h.block_bits s fits).1 (inl low)) (λ o. let d = (h.in_data n s ln o).0 in omega (arith, d, low))
        | inr r ↦ elim r [
          | inl high ↦ used_on c.owned fits ((h.block_bits s fits).1 (inr (inl high))) (λ o. let d = (h.in_data n s ln o).1 in omega (arith, d, high))
          | inr o ↦ elim (cases_eq o.by n) [
            | inl e ↦ c.owned.taken s fits (owns_as (ap (inode_at p new) e) o.is)
            | inr ne ↦
                let was : Owns old (inode_at p old o.by) s = other_owned o.by o.below ne o.is in
                used_on c.owned fits (owned_is_used h o.by s o.below was) (λ a. ne (h.sole o.by n s o.below ln was a).0)
          ]
        ]
      ]

  -- the image is consistent again
  pub stays_consistent : IsConsistent p new
  stays_consistent = record {
    geometry = h.geometry;
    sectors = c.owned.sectors;
    owned_sectors = whole_now;
    valid = λ m lm. elim (cases_eq m n) [
      | inl e ↦ subst (λ (k : ℕ). inode_of (stored p new k) ≡ Ok (inode_at p new k)) (sym e) c.valid
      | inr ne ↦ valid_kept p m old new (c.table m lm ne) (h.valid m lm)
    ];
    in_data = in_data_now;
    sole = sole_now;
    block_bits = λ s fits. (owned_now s fits, set_now s fits);
  }

-- What an inode of a consistent image owns changes, and it is saved: the image is consistent again.
pub saved_stays_consistent : {p : Geometry} {n : ℕ} {v w : Inode} {old mid new : SectorMap} → IsConsistent p old → n < p.inodes
    → inode_at p old n ≡ v → FitsInode w
    → ChangesBlocks p v w old mid → Saves p n w mid new → IsConsistent p new × IsSaved p n w old mid new
saved_stays_consistent {p} {n} {v} {w} {old} {mid} {new} h lt at fits x y =
    let x' : ChangesBlocks p (inode_at p old n) w old mid = subst (λ (u : Inode). ChangesBlocks p u w old mid) (sym at) x in
    let s : IsSaved p n w old mid new = saved h.geometry lt refl (owned_is_apart h n lt) fits x' y in
    (stays_consistent h lt s.changes, s)

-- An inode is saved with the sectors that it had: the image is consistent again.
pub fields_saved_stay_consistent : {p : Geometry} {n : ℕ} {v w : Inode} {old new : SectorMap} → IsConsistent p old → n < p.inodes
    → inode_at p old n ≡ v → FitsInode w
    → w.acl ≡ v.acl → w.default_acl ≡ v.default_acl → levels w ≡ levels v → Saves p n w old new
    → IsConsistent p new × IsSaved p n w old old new
fields_saved_stay_consistent {p} {n} {v} {w} {old} {new} h lt at fits acl default_acl same y =
    let apart : IsOwnedApart p old v = subst (λ (u : Inode). IsOwnedApart p old u) at (owned_is_apart h n lt) in
    saved_stays_consistent h lt at fits (fields_change h.geometry h.sectors apart acl default_acl same) y
