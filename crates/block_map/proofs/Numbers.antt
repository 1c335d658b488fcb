-- The sector of pointers at hand, and the sectors of blocks by it.
use Rattle.std.proofs.Common.{◌≡◌, ◌≢◌, ℕ, suc, ◌+◌, ◌-◌, ◌*◌, ◌/◌, ◌<◌, ◌≤◌, List, refl, sym, ap, subst, ◌∙◌, arith, inl, inr, ◌⊎◌}
use Rattle.fs_layout.specs.declared.inode.TheConstants.{DIRECT_BLOCKS, MAX_BLOCKS, POINTER_LEVELS, SECTOR_POINTERS}
use Rattle.fs_layout.specs.declared.inode.Inode.{Inode}
use Rattle.fs_layout.specs.Bytes.{SectorMap, zeros}
use Rattle.fs_layout.specs.Header.{log_end}
use Rattle.fs_layout.specs.Images.{own_count, holder, number_on, pointer, HasPointers, OnLevel, part, Owns}
use Rattle.fs_layout.proofs.Pointers.{no_level, number_past, own_count_above}
use Rattle.fs_layout.proofs.Parts.{level_is_one, index_is_one, number_on_kept, owns_block, owns_on_level, pointers_kept}
use Rattle.fs_layout.proofs.Places.{after_map, before_data}
use Rattle.fs_layout.specs.declared.geometry.Geometry.{Geometry}
use Rattle.fs_layout.specs.InodeChanges.{Keeps, IsOwnedApart}
use Rattle.bit_alloc.specs.Bitmaps.{HasBitmaps}
use Rattle.block_map.specs.Drops.{OwnsOnlyData}
use Rattle.sector_txn.specs.Sectors.{TxnState, IsUnchanged}
use Rattle.bit_alloc.proofs.Transactions.{map_unchanged}
use Rattle.block_map.specs.declared.blocks.Blocks.{Blocks}
use Rattle.block_map.specs.Blocks.{IsWithin, IsAtHand, IsLoaded}
use Rattle.block_map.proofs.Sizing.{sized_number}

-- no sector of pointers has an index so high
pub no_sector_at : (image : SectorMap) (v : Inode) → number_on image v 1 MAX_BLOCKS ≡ 0
no_sector_at image v = number_past image v 1 MAX_BLOCKS (omega arith)

-- there is none above the highest level
pub none_above : (image : SectorMap) (v : Inode) (level i : ℕ) (content : List ℕ) → POINTER_LEVELS < level → content ≡ zeros 512 → HasPointers image v level i content
none_above image v level i content gt clear = record { is = λ some. absurd (some (no_level image v level i gt)); none = λ none. clear }

-- what was read of the level above has the number
pub next_pointers : {image : SectorMap} {content : List ℕ} (v : Inode) (level i : ℕ) → level ≢ 0 → HasPointers image v (level + 1) ((i - 1) / SECTOR_POINTERS) content
    → HasPointers image v (suc level) (holder (own_count level) i) content
next_pointers {image} {content} v level i ne h =
    let next : level + 1 ≡ suc level = omega arith in
    let one : 1 ≡ own_count level = sym (own_count_above level ne) in
    subst (λ (c : ℕ). HasPointers image v (suc level) ((i - c) / SECTOR_POINTERS) content) one
    (subst (λ (n : ℕ). HasPointers image v n ((i - 1) / SECTOR_POINTERS) content) next h)

-- so of each number that the sector has
pub listed_pointers : {image : SectorMap} {content : List ℕ} (v : Inode) (level i j count : ℕ) → own_count level ≡ count → count + SECTOR_POINTERS * j ≤ i
    → i < count + SECTOR_POINTERS * j + SECTOR_POINTERS → HasPointers image v (level + 1) j content → HasPointers image v (suc level) (holder (own_count level) i) content
listed_pointers {image} {content} v level i j count own low high h =
    let next : level + 1 ≡ suc level = omega arith in
    let at : j ≡ holder (own_count level) i = omega (arith, own, low, high) in
    subst (λ (m : ℕ). HasPointers image v (suc level) m content) at (subst (λ (n : ℕ). HasPointers image v n j content) next h)

-- near which number a sector is sought is no part of what is at hand
pub at_hand_near : {image : SectorMap} {b : Blocks} (near : ℕ) → IsAtHand image b → IsAtHand image (record b { near = near })
at_hand_near near h = record { number = h.number; is = h.is; none = h.none }

-- what is at hand, as the layout says it
pub at_hand_has : {image : SectorMap} {b : Blocks} → IsAtHand image b → HasPointers image b.inode 1 b.index b.pointers
at_hand_has {image} {b} h = record {
  is = λ some. h.is (λ e. some (h.number ∙ e)) ∙ ap image (sym h.number);
  none = λ none. h.none (sym h.number ∙ none);
}

pub at_hand_of : {image : SectorMap} (b : Blocks) → b.sector ≡ number_on image b.inode 1 b.index → HasPointers image b.inode 1 b.index b.pointers → IsAtHand image b
at_hand_of {image} b is h = record {
  number = sym is;
  is = λ some. h.is (λ e. some (is ∙ e)) ∙ ap image (sym is);
  none = λ none. h.none (sym is ∙ none);
}

pub loaded_has : {image : SectorMap} {b : Blocks} {k : ℕ} → IsLoaded image b k → DIRECT_BLOCKS ≤ k → HasPointers image b.inode 1 (holder DIRECT_BLOCKS k) b.pointers
loaded_has {image} {b} l ge = subst (λ (i : ℕ). HasPointers image b.inode 1 i b.pointers) (l.index ge) (at_hand_has l.at_hand)

-- what is at hand is the sector of pointers that has the block's number
pub loaded_sector : {image : SectorMap} {b : Blocks} {k : ℕ} → IsLoaded image b k → DIRECT_BLOCKS ≤ k → number_on image b.inode 1 (holder DIRECT_BLOCKS k) ≡ b.sector
loaded_sector {image} {b} l ge = ap (number_on image b.inode 1) (sym (l.index ge)) ∙ l.at_hand.number

-- what is at hand stays so where its number and content are the same
pub at_hand_kept : {old new : SectorMap} {b : Blocks} → IsAtHand old b → (w : Inode) → number_on new w 1 b.index ≡ number_on old b.inode 1 b.index
    → (b.sector ≢ 0 → new b.sector ≡ old b.sector) → IsAtHand new (record b { inode = w })
at_hand_kept {old} {new} {b} h w number same = record {
  number = number ∙ h.number;
  is = λ some. h.is some ∙ sym (same some);
  none = h.none;
}

-- so with another size
pub at_hand_sized : {image : SectorMap} {b : Blocks} → IsAtHand image b → (m : ℕ) → IsAtHand image (record b { inode = record b.inode { size = m } })
at_hand_sized {image} {b} h m = at_hand_kept h (record b.inode { size = m }) (sized_number image b.inode m 1 b.index) (λ some. refl)

-- a block can be read
pub number_within : {image : SectorMap} {size n : ℕ} (header : ℕ) (v : Inode) (k : ℕ) → IsWithin header size image v → n ≡ pointer image v k → n ≢ 0 → (log_end header ≤ n) × (n < size)
number_within {image} header v k within is some =
    let w = within (pointer image v k) (owns_block image v k (λ e. some (is ∙ e))) in
    (omega (arith, is, w.0), omega (arith, is, w.1))

-- and a sector of pointers
pub listed_within : {image : SectorMap} {size n : ℕ} (header : ℕ) (v : Inode) (level i : ℕ) → IsWithin header size image v → n ≡ number_on image v level i → n ≢ 0 → (log_end header ≤ n) × (n < size)
listed_within {image} header v level i within is some =
    let w = within (number_on image v level i) (owns_on_level image v level i (λ e. some (is ∙ e))) in
    (omega (arith, is, w.0), omega (arith, is, w.1))

-- ---- sectors are told apart
pub numbers_apart : {p : Geometry} {image : SectorMap} {v : Inode} → IsOwnedApart p image v → (n m i j : ℕ) → (n ≢ m) ⊎ (i ≢ j) → number_on image v n i ≢ 0
    → number_on image v n i ≢ number_on image v m j
unfolding part
numbers_apart {image = image} {v} apart n m i j ne some e =
    let same = apart.once (number_on image v n i) (record { at = OnLevel n i; is = refl; some = some }) (record { at = OnLevel m j; is = sym e; some = some }) in
    elim ne [
      | inl away ↦ away (level_is_one n m i j same)
      | inr away ↦ away (index_is_one n m i j same)
    ]

-- ---- after reads
module _ {old mid : TxnState} (same : IsUnchanged old mid) where
  pub within_unchanged : {v : Inode} → IsWithin old.header old.disk.size old.sectors v → IsWithin mid.header mid.disk.size mid.sectors v
  within_unchanged {v} within s o =
      let w = within s (subst (λ (image : SectorMap). Owns image v s) (sym (map_unchanged same)) o) in
      (omega (arith, w.0, ap log_end same.store.header), omega (arith, w.1, same.store.reads.narrowed.size))

  pub has_unchanged : {v : Inode} {level i : ℕ} {content : List ℕ} → HasPointers old.sectors v level i content → HasPointers mid.sectors v level i content
  has_unchanged {v} {level} {i} {content} h = subst (λ (image : SectorMap). HasPointers image v level i content) (map_unchanged same) h

  pub has_before : {v : Inode} {level i : ℕ} {content : List ℕ} → HasPointers mid.sectors v level i content → HasPointers old.sectors v level i content
  has_before {v} {level} {i} {content} h = subst (λ (image : SectorMap). HasPointers image v level i content) (sym (map_unchanged same)) h

  pub at_hand_unchanged : {b : Blocks} → IsAtHand old.sectors b → IsAtHand mid.sectors b
  at_hand_unchanged {b} h = subst (λ (image : SectorMap). IsAtHand image b) (map_unchanged same) h

  pub loaded_unchanged : {b : Blocks} {k : ℕ} → IsLoaded old.sectors b k → IsLoaded mid.sectors b k
  loaded_unchanged {b} {k} l = subst (λ (image : SectorMap). IsLoaded image b k) (map_unchanged same) l

  pub number_before : (v : Inode) (level i : ℕ) {n : ℕ} → n ≡ number_on mid.sectors v level i → n ≡ number_on old.sectors v level i
  number_before v level i is = is ∙ ap (λ (image : SectorMap). number_on image v level i) (sym (map_unchanged same))

  pub pointer_before : (k : ℕ) {u v : Inode} {n : ℕ} → n ≡ pointer mid.sectors u k → u ≡ v → n ≡ pointer old.sectors v k
  pointer_before k {u} {v} is e = is ∙ ap (λ (image : SectorMap). pointer image u k) (sym (map_unchanged same)) ∙ ap (λ (i : Inode). pointer old.sectors i k) e

  pub at_hand_before : {b : Blocks} → IsAtHand mid.sectors b → IsAtHand old.sectors b
  at_hand_before {b} h = subst (λ (image : SectorMap). IsAtHand image b) (sym (map_unchanged same)) h

-- where nothing that the inode owns differs
pub at_hand_keeps : {old new : SectorMap} {b : Blocks} → Keeps old new b.inode → IsAtHand old b → IsAtHand new b
at_hand_keeps {old} {new} {b} keeps h =
    at_hand_kept h b.inode (number_on_kept keeps 1 b.index)
    (λ some. ap new (sym h.number) ∙ pointers_kept keeps 0 b.index (λ e. some (sym h.number ∙ e)) ∙ ap old h.number)

pub has_kept : {old new : SectorMap} {v : Inode} {level i : ℕ} {content : List ℕ} → Keeps old new v → HasPointers old v (suc level) i content → HasPointers new v (suc level) i content
has_kept {old} {new} {v} {level} {i} keeps h =
    let same : number_on new v (suc level) i ≡ number_on old v (suc level) i = number_on_kept keeps (suc level) i in
    record {
      is = λ some. h.is (λ e. some (same ∙ e)) ∙ sym (pointers_kept keeps level i (λ e. some (same ∙ e))) ∙ ap new (sym same);
      none = λ none. h.none (sym same ∙ none);
    }

-- data sectors can be read
pub data_within : {p : Geometry} {txn : TxnState} {v : Inode} → HasBitmaps p txn → OwnsOnlyData p txn.sectors v → IsWithin txn.header txn.disk.size txn.sectors v
data_within h owned s o =
    let d = owned s o in
    let m = after_map h.geometry in
    let b = before_data h.geometry in
    (omega (arith, d.0, m, b, h.header), omega (arith, d.1, h.disk))
