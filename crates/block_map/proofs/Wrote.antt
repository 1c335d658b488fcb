-- Bytes are written and the inode is saved.
use Rattle.std.proofs.Common.{◌≡◌, ◌≢◌, ℕ, ◌+◌, ◌-◌, ◌/◌, ◌%◌, ◌≤◌, ◌<◌, ◌*◌, zero, suc, List, [], ◌∷◌, ◌++◌, length, refl, sym, ap, subst, ◌∙◌, arith, inl, inr}
use Rattle.std.specs.Prelude.{max, min, Contains}
use Rattle.fs_layout.specs.declared.inode.TheConstants.{MAX_BLOCKS, MAX_FILE_SIZE, OLDER_FILE_SIZE, POINTER_LEVELS, SECTOR_POINTERS}
use Rattle.fs_layout.specs.declared.inode.Inode.{Inode}
use Rattle.fs_layout.specs.declared.geometry.Geometry.{Geometry}
use Rattle.fs_layout.specs.Bytes.{SectorMap, IsSector, zeros, overwritten}
use Rattle.fs_layout.specs.Images.{own_count, number_on, place_in_holder, pointer, Holds, HasNoHole, inode_at, free_sectors}
use Rattle.fs_layout.specs.InodeChanges.{Saves}
use Rattle.fs_layout.proofs.Parts.{Holds-kept, HasNoHole-kept, owns_block, owns_on_level}
use Rattle.fs_layout.proofs.Places.{after_map, before_data}
use Rattle.sector_txn.specs.Sectors.{TxnState, IsUnchanged, IsPut, PutsOnly}
use Rattle.sector_txn.proofs.TransactionRuns.{changes_beside, changes_put_shared, changes_weaker}
use Rattle.bit_alloc.specs.Room.{bitmaps}
use Rattle.bit_alloc.specs.Inodes.{IsSound}
use Rattle.bit_alloc.proofs.Transactions.{puts_after}
use Rattle.block_map.specs.declared.write.TheConstants.{MAX_WRITE}
use Rattle.block_map.specs.Blocks.{IsWithin}
use Rattle.block_map.specs.Contents.{AllowsSize}
use Rattle.block_map.specs.Drops.{cut_below, cut_by, first_above, first_on}
use Rattle.block_map.specs.Sizes.{put_to}
use Rattle.block_map.specs.Steps.{MayChange, IsStepSector, pointer_sectors, WritesBlocks, blocks_to, taken_by, put_by}
use Rattle.block_map.proofs.Alterings.{alters_joined}
use Rattle.block_map.proofs.Counts.{lacks_few, lacks_pointers_most, pointers_any, pointers_few, pointers_in_block, taken_is}
use Rattle.block_map.proofs.Rooms.{puts_beside}
use Rattle.block_map.proofs.Runs.{same_map}
use Rattle.block_map.proofs.Saving.{IsEnded, saved_after}
use Rattle.block_map.proofs.Sizing.{may_change, sized, sized_holds, sized_pointer, spliced_is_overwritten}

-- what may be changed can be read
pub may_within : {p : Geometry} {txn : TxnState} {v : Inode} → MayChange p txn v → IsWithin txn.header txn.disk.size txn.sectors v
may_within {p} {txn} {v} may s o =
    let d = may.apart.each s o in
    let m = after_map may.bitmaps.geometry in
    let b = before_data may.bitmaps.geometry in
    (omega (arith, d.0, m, b, may.bitmaps.header), omega (arith, d.1, may.bitmaps.disk))

-- and each of its blocks is a whole sector
pub block_whole : {p : Geometry} {txn : TxnState} {v : Inode} {s : ℕ} (k : ℕ) → MayChange p txn v → s ≡ pointer txn.sectors v k → s ≢ 0 → IsSector (txn.sectors s)
block_whole {txn = txn} {v} k may is some =
    subst (λ (n : ℕ). IsSector (txn.sectors n)) (sym is) (may.apart.whole (pointer txn.sectors v k) (owns_block txn.sectors v k (λ e. some (is ∙ e))))

-- which a rewrite alone puts
pub rewrite_puts : {p : Geometry} {old new : TxnState} {v : Inode} {s : ℕ} (k : ℕ) → MayChange p old v → s ≡ pointer old.sectors v k → s ≢ 0
    → PutsOnly (λ t. t ≡ s) [] 1 old new → PutsOnly (IsStepSector p) (bitmaps p) 1 old new
rewrite_puts {p} {old} {v = v} k may is some puts =
    let d = may.apart.each (pointer old.sectors v k) (owns_block old.sectors v k (λ e. some (is ∙ e))) in
    changes_weaker {Q = IsStepSector p} (λ t e. inr (omega (arith, e, is, d.0), omega (arith, e, is, d.1))) (omega arith) (changes_beside puts (bitmaps p))

-- a sector of pointers is put after a sector was taken
pub pointers_puts : {p : Geometry} {old mid new : TxnState} {v : Inode} {u : ℕ} {x : List ℕ} (level i : ℕ) → MayChange p old v → u ≡ number_on old.sectors v level i → u ≢ 0
    → PutsOnly (IsStepSector p) (bitmaps p) 1 old mid → IsPut u x mid new → PutsOnly (IsStepSector p) (u ∷ bitmaps p) 1 old new
pointers_puts {p} {old} {v = v} {u} level i may is some puts put =
    let d = may.apart.each (number_on old.sectors v level i) (owns_on_level old.sectors v level i (λ e. some (is ∙ e))) in
    let first : Contains (u ∷ bitmaps p) u = (0, omega arith, refl) in
    changes_put_shared {R = IsStepSector p} (puts_beside puts u) put (inr (omega (arith, d.0, is), omega (arith, d.1, is))) first

-- the size after a write within the limit
pub limit_at : (m size offset len limit : ℕ) → m ≡ max size (offset + len) → offset ≤ limit - len → len ≤ MAX_WRITE → MAX_WRITE ≤ limit → limit ≤ MAX_FILE_SIZE
    → size ≤ MAX_FILE_SIZE → m ≤ MAX_FILE_SIZE
limit_at m size offset len limit is within few least most small = omega (arith, is, within, few, least, most, small)

-- ---- how many sectors are taken
-- one for each of the blocks, and 5 for pointers at most
taken_with_blocks : (image : SectorMap) (v : Inode) (offset len n : ℕ) → blocks_to (offset + len) ≤ offset / 512 + n → n ≤ 33 → offset + len ≤ 512 * MAX_BLOCKS
    → taken_by image v offset len ≤ n + 5
taken_with_blocks image v offset len n blocks few limit =
    let end : ℕ = blocks_to (offset + len) in
    let some = lacks_few image v 0 (offset / 512) (end - offset / 512) in
    let more = lacks_pointers_most image v (offset / 512) end in
    let pointers = pointers_few (offset / 512) end (omega (arith, blocks, few)) (omega (arith, limit)) in
    all_few _ _ _ _ (taken_is image v offset len) (omega (arith, some, blocks)) more pointers
  where
    all_few : (taken holes lack most : ℕ) → taken ≡ holes + lack → holes ≤ n → lack ≤ most → most ≤ 5 → taken ≤ n + 5
    all_few taken holes lack most is one two three = omega (arith, is, one, two, three)

-- 38 at most
pub taken_most : (image : SectorMap) (v : Inode) (offset len : ℕ) → len ≤ MAX_WRITE → offset + len ≤ 512 * MAX_BLOCKS → taken_by image v offset len ≤ 38
taken_most image v offset len few limit = taken_with_blocks image v offset len 33 (omega (arith, few)) (omega arith) limit

-- 14 at most for up to 4,096 bytes
pub taken_few : (image : SectorMap) (v : Inode) (offset len : ℕ) → len ≤ 4096 → offset + len ≤ 512 * MAX_BLOCKS → taken_by image v offset len ≤ 14
taken_few image v offset len few limit = taken_with_blocks image v offset len 9 (omega (arith, few)) (omega arith) limit

-- the size says nothing of it, nor do reads
pub taken_same : (old mid : TxnState) (v : Inode) (m offset len : ℕ) → IsUnchanged old mid → taken_by mid.sectors (record v { size = m }) offset len ≡ taken_by old.sectors v offset len
unfolding number_on
taken_same old mid v m offset len same =
    let e : mid.sectors ≡ old.sectors = same_map old.sectors mid.sectors same.sectors in
    ap (λ (image : SectorMap). taken_by image (record v { size = m }) offset len) e

pub free_same : (p : Geometry) (old mid : TxnState) → IsUnchanged old mid → free_sectors p mid.sectors ≡ free_sectors p old.sectors
free_same p old mid same = ap (free_sectors p) (same_map old.sectors mid.sectors same.sectors)

-- ---- how many sectors are put
-- 40 at most
pub put_most : (offset len : ℕ) → len ≤ MAX_WRITE → put_by offset len ≤ 40
put_most offset len few = all_few _ _ (omega (arith, few)) (pointers_any (offset / 512) (blocks_to (offset + len)) (omega (arith, few)))
  where
    all_few : (blocks pointers : ℕ) → blocks ≤ 33 → pointers ≤ 6 → blocks + pointers + 1 ≤ 40
    all_few blocks pointers one two = omega (arith, one, two)

-- 16 at most for up to 4,096 bytes
pub put_few : (offset len : ℕ) → len ≤ 4096 → put_by offset len ≤ 16
put_few offset len few = all_few _ _ (omega (arith, few)) (pointers_any (offset / 512) (blocks_to (offset + len)) (omega (arith, few)))
  where
    all_few : (blocks pointers : ℕ) → blocks ≤ 9 → pointers ≤ 6 → blocks + pointers + 1 ≤ 16
    all_few blocks pointers one two = omega (arith, one, two)

-- on each level that is cut at most one
cut_few : (levels first : ℕ) → cut_below levels first ≤ levels
cut_few zero first = omega arith
cut_few (suc level) first = one_more (cut_below level first) (place_in_holder (own_count level) (first_on level first)) (cut_few level first)
  where
    one_more : (rest left : ℕ) → rest ≤ level → rest + min left 1 ≤ suc level
    one_more rest left few = omega (arith, few)

-- 5 at most for another size
pub put_to_few : (size : ℕ) → put_to size ≤ 5
put_to_few size = with_two (cut_by (blocks_to size)) (cut_few POINTER_LEVELS (blocks_to size))
  where
    with_two : (cuts : ℕ) → cuts ≤ 3 → 1 + cuts + 1 ≤ 5
    with_two cuts few = omega (arith, few)

-- 4 at most where it needs no more than two levels, as a directory's
pub put_to_fewer : (size : ℕ) → size ≤ OLDER_FILE_SIZE → put_to size ≤ 4
put_to_fewer size small =
    let first : first_on 1 (blocks_to size) ≤ 1 + SECTOR_POINTERS = omega (arith, small) in
    with_two (cut_below 2 (blocks_to size)) (place_in_holder 1 (first_on 2 (blocks_to size))) (cut_few 2 (blocks_to size)) (alone (first_on 1 (blocks_to size)) first)
  where
    alone : (first : ℕ) → first ≤ 1 + SECTOR_POINTERS → place_in_holder 1 (first_above 1 first) ≡ 0
    alone first few = let one : first_above 1 first ≤ 1 = omega (arith, few) in below (first_above 1 first) one
      where
        below : (above : ℕ) → above ≤ 1 → place_in_holder 1 above ≡ 0
        below above one = omega (arith, one)

    with_two : (cuts left : ℕ) → cuts ≤ 2 → left ≡ 0 → 1 + (cuts + min left 1) + 1 ≤ 4
    with_two cuts left few none = omega (arith, few, none)

-- 4 at most where the bytes are those of one block, as a slot of a directory
pub put_in_block : (offset len : ℕ) → 0 < len → offset % 512 + len ≤ 512 → offset + len ≤ OLDER_FILE_SIZE → put_by offset len ≤ 4
put_in_block offset len some within small =
    let end : blocks_to (offset + len) ≡ offset / 512 + 1 = omega (arith, some, within) in
    all_few _ _ (omega (arith, end)) (pointers_in_block (offset / 512) (blocks_to (offset + len)) (omega (arith, end)) (omega (arith, small)))
  where
    all_few : (blocks pointers : ℕ) → blocks ≤ 1 → pointers ≤ 2 → blocks + pointers + 1 ≤ 4
    all_few blocks pointers one two = omega (arith, one, two)

-- ---- the whole call
module _ {p : Geometry} {n m offset : ℕ} {x : List ℕ} {old mid done new : TxnState} {u v w : Inode}
    (sound : IsSound p old) (lt : n < p.inodes) (at : v ≡ inode_at p old.sectors n) (allowed : AllowsSize v.kind m) (limit : m ≤ MAX_FILE_SIZE) (few : length x ≤ MAX_WRITE)
    (is : m ≡ max v.size (offset + length x)) (same : IsUnchanged old mid) (e : u ≡ v) (step : WritesBlocks p offset x mid done (record u { size = m }) w) where
  pub wrote : Saves p n w done.sectors new.sectors → PutsOnly (λ t. t ≡ p.table + n / 4) [] 1 done new
      → IsEnded p n (taken_by old.sectors v offset (length x)) (put_by offset (length x)) old done new v w
  wrote saves put =
      let written : WritesBlocks p offset x mid done (record v { size = m }) w = subst (λ (i : Inode). WritesBlocks p offset x mid done (record i { size = m }) w) e step in
      let puts : PutsOnly (IsStepSector p) (bitmaps p) (blocks_to (offset + length x) - offset / 512 + pointer_sectors (offset / 512) (blocks_to (offset + length x))) old done = puts_after same written.puts in
      let count = taken_same old mid v m offset (length x) same in
      let free = written.free in
      let before = free_same p old mid same in
      (saved_after sound lt (sym at) (alters_joined (sized m (may_change m sound lt at allowed) same allowed limit) written.alters) puts (omega (arith, count, free, before)) saves put)

  pub wrote_held : (ended : IsEnded p n (taken_by old.sectors v offset (length x)) (put_by offset (length x)) old done new v w) → (held : List ℕ) → Holds old.sectors v held
      → Holds new.sectors w (overwritten held offset x)
  wrote_held ended held h =
      let written : WritesBlocks p offset x mid done (record v { size = m }) w = subst (λ (i : Inode). WritesBlocks p offset x mid done (record i { size = m }) w) e step in
      let z = h.size in
      subst (λ (r : List ℕ). Holds new.sectors w r) (spliced_is_overwritten held x offset m (is ∙ ap (λ (k : ℕ). max k (offset + length x)) z))
      (Holds-kept ended.keeps (written.held (held ++ zeros (m - length held)) (sized_holds m same (omega (arith, is)) held h)))

  pub wrote_whole : (ended : IsEnded p n (taken_by old.sectors v offset (length x)) (put_by offset (length x)) old done new v w) → HasNoHole old.sectors v → offset ≤ v.size → HasNoHole new.sectors w
  wrote_whole ended whole from =
      let written : WritesBlocks p offset x mid done (record v { size = m }) w = subst (λ (i : Inode). WritesBlocks p offset x mid done (record i { size = m }) w) e step in
      HasNoHole-kept ended.keeps (λ k inside none.
      let none_before = written.hole k none in
      let was : pointer old.sectors v k ≡ 0 =
      ap (λ (image : SectorMap). pointer image v k) (sym (same_map old.sectors mid.sectors same.sectors)) ∙ sym (sized_pointer mid.sectors v m k) ∙ none_before.0 in
      let size = written.size in
      elim none_before.1 [
        | inl before ↦ whole k (omega (arith, before, from)) was
        | inr past ↦ whole k (omega (arith, inside, size, is, past)) was
      ])
