-- A block is written: one that has a sector, or a hole, directly or through the sector of pointers.
use Rattle.std.proofs.Common.{◌≡◌, ◌≢◌, ℕ, ◌+◌, ◌*◌, ◌^◌, ◌<◌, ◌≤◌, suc, List, [], ◌∷◌, ◌++◌, length, refl, sym, ap, subst, ◌∙◌, arith}
use Rattle.std.proofs.lemmas.Bool.{eq-eqb, le-ltb}
use Rattle.fs_layout.specs.declared.inode.TheConstants.{DIRECT_BLOCKS}
use Rattle.fs_layout.specs.declared.inode.Inode.{Inode}
use Rattle.fs_layout.specs.declared.geometry.Geometry.{Geometry}
use Rattle.fs_layout.specs.Bytes.{SectorMap, IsBytes, IsSector, splice, le32, zeros}
use Rattle.fs_layout.specs.Geometry.{IsGeometry}
use Rattle.fs_layout.specs.Images.{own_count, holder, place_in_holder, number_on, pointer, AccessAcl, DefaultAcl, OnLevel, Block, part, Owns, free_sectors}
use Rattle.fs_layout.specs.InodeChanges.{Keeps, Puts, PutsEntry, Allocates, Turns, ReplacesBlock, IsOwnedApart, with_direct}
use Rattle.fs_layout.proofs.Parts.{KeepsPointers, block_has_no_pointers, number_on_kept, number_on_same, pointer_same, pointers_kept, owns_acl, owns_default_acl, owns_on_level}
use Rattle.fs_layout.proofs.Sectors.{IsSector-splice}
use Rattle.fs_layout.proofs.SplicedBytes.{IsSector-zeros}
use Rattle.fs_layout.proofs.Bits.{has_bit, block_bit_kept, free_sectors_kept}
use Rattle.fs_layout.proofs.Blocks.{map_is_low, pointers_apart, others_kept, block_changes}
use Rattle.fs_layout.proofs.UsedInodes.{with_direct_fits}
use Rattle.fs_layout.proofs.Held.{held_block, held_hole, splice_replaces, write_block}
use Rattle.fs_layout.proofs.Pointers.{turns_direct, turns_entry}
use Rattle.fs_layout.proofs.Sizes.{other_blocks, now_block}
use Rattle.fs_layout.proofs.Steps.{allocates_keeps, allocated_some, direct_block_gained, direct_block_filled, entry_there_since, entry_block_gained, entry_block_filled}
use Rattle.fs_layout.proofs.Places.{numbers_most}
use Rattle.sector_txn.specs.Sectors.{TxnState, SameStore, PutsOnly}
use Rattle.bit_alloc.specs.Bitmaps.{HasBitmaps}
use Rattle.bit_alloc.specs.Room.{bitmaps}
use Rattle.bit_alloc.specs.Inodes.{KeepsAcls}
use Rattle.bit_alloc.proofs.Soundness.{put_keeps_bitmaps}
use Rattle.block_map.specs.Blocks.{IsAtHand}
use Rattle.block_map.specs.declared.blocks.Blocks.{Blocks}
use Rattle.block_map.specs.Steps.{MayChange, IsStepSector, hole, pointers_to, WritesBlock}
use Rattle.block_map.proofs.Alterings.{fields_same, acls_kept, acls_where_kept}
use Rattle.block_map.proofs.Numbers.{at_hand_kept}
use Rattle.block_map.proofs.Rooms.{puts_before}

pub pointers_are : (image : SectorMap) (v : Inode) (k : ℕ) → DIRECT_BLOCKS ≤ k → pointers_to image v k ≡ number_on image v 1 (holder DIRECT_BLOCKS k) ∷ []
pointers_are image v k from = rw (le-ltb k DIRECT_BLOCKS from) refl

-- the content of what is at hand is the same where the sectors of pointers are
pub at_hand_content : {old : SectorMap} (new : SectorMap) {b : Blocks} → IsAtHand old b → KeepsPointers old new b.inode → b.sector ≢ 0 → new b.sector ≡ old b.sector
at_hand_content {old} new {b} h kept some =
    ap new (sym h.number) ∙ kept 0 b.index (λ e. some (sym h.number ∙ e)) ∙ ap old h.number

-- a number is put into the sector that had it before a sector was taken
pub puts_entry_at : {old mid new : SectorMap} {v : Inode} {u : ℕ} {pointers : List ℕ} (level i s : ℕ) → u ≡ number_on old v (suc level) (holder (own_count level) i)
    → Keeps old mid v → own_count level ≤ i → u ≢ 0 → s < 2 ^ 32 → pointers ≡ splice (mid u) (4 * place_in_holder (own_count level) i) (le32 s)
    → Puts u pointers mid new → PutsEntry v level i s mid new
puts_entry_at {old} {mid} {new} {v} {u} {pointers} level i s sector keeps from has small written put =
    let there : u ≡ number_on mid v (suc level) (holder (own_count level) i) = sector ∙ sym (number_on_kept keeps (suc level) (holder (own_count level) i)) in
    record {
      from = from;
      some = λ e. has (there ∙ e);
      fits = small;
      put = subst (λ (t : ℕ). Puts t (splice (mid t) (4 * place_in_holder (own_count level) i) (le32 s)) mid new) there
          (record { here = put.here ∙ written; others = put.others });
    }

-- the sector of pointers of a block is the one that is shared
pub shares_pointers : (p : Geometry) {u more : ℕ} {old new : TxnState} (v : Inode) (k : ℕ) → DIRECT_BLOCKS ≤ k → u ≡ number_on old.sectors v 1 (holder DIRECT_BLOCKS k)
    → PutsOnly (IsStepSector p) (u ∷ bitmaps p) more old new → PutsOnly (IsStepSector p) (pointers_to old.sectors v k ++ bitmaps p) more old new
shares_pointers p {u} {more} {old} {new} v k from is puts =
    subst (λ (ns : List ℕ). PutsOnly (IsStepSector p) (ns ++ bitmaps p) more old new) (sym (pointers_are old.sectors v k from))
    (subst (λ (t : ℕ). PutsOnly (IsStepSector p) (t ∷ bitmaps p) more old new) is puts)

-- no sector becomes free or taken by a put into the data
pub free_after_put : {p : Geometry} {s : ℕ} {x : List ℕ} {old new : SectorMap} → IsGeometry p → p.first_data ≤ s → Puts s x old new → free_sectors p new ≡ free_sectors p old
free_after_put {p} {s} {x} {old} {new} geometry ge put =
    free_sectors_kept p old new (λ t at. block_bit_kept p old new t (has_bit geometry t at.1) (λ u m. put.others u (λ e. let low = map_is_low geometry u m in omega (arith, low, ge, e))))

acl_is_no_block : (k : ℕ) → AccessAcl ≢ Block k
acl_is_no_block k e = cc

default_acl_is_no_block : (k : ℕ) → DefaultAcl ≢ Block k
default_acl_is_no_block k e = cc

-- a hole lacks one sector
pub hole_is_one : (image : SectorMap) (v : Inode) (k : ℕ) → pointer image v k ≡ 0 → hole image v k ≡ 1
hole_is_one image v k none = rw (eq-eqb (pointer image v k) 0 none) refl

-- ---- a block that has a sector
module _ {p : Geometry} {old : TxnState} (new : TxnState) {v : Inode} (k at : ℕ) {s : ℕ} (x : List ℕ) (may : MayChange p old v) (is : pointer old.sectors v k ≡ s) (some : s ≢ 0)
    (put : Puts s (splice (old.sectors s) at x) old.sectors new.sectors) where
  own : Owns old.sectors v s
  unfolding part
  own = record { at = Block k; is = is; some = some }

  -- the sectors of pointers are the same
  pub there_kept : KeepsPointers old.sectors new.sectors v
  unfolding part
  there_kept = pointers_apart may.apart (Block k) (block_has_no_pointers k) is some put

  pub writes_block_there : at + length x ≤ 512 → IsBytes x → PutsOnly (IsStepSector p) (bitmaps p) 1 old new → 512 * k + at + length x ≤ v.size
      → WritesBlock p k at x old new v v
  unfolding part
  writes_block_there room fine puts inside =
      let whole : IsSector (old.sectors s) = may.apart.whole s own in
      let in_data : p.first_data ≤ s = (may.apart.each s own).0 in
      let same : (j : ℕ) → pointer new.sectors v j ≡ pointer old.sectors v j = λ j. pointer_same old.sectors new.sectors v there_kept j in
      record {
        alters = record {
          blocks = block_changes may.bitmaps.geometry may.bitmaps.tables may.apart k is some (IsSector-splice (old.sectors s) x at whole fine room) put;
          fields = fields_same;
          acls = acls_kept refl refl
              (λ has. others_kept may.apart (Block k) is some put (record { at = AccessAcl; is = refl; some = has }) (acl_is_no_block k))
              (λ has. others_kept may.apart (Block k) is some put (record { at = DefaultAcl; is = refl; some = has }) (default_acl_is_no_block k));
          bitmaps = put_keeps_bitmaps may.bitmaps puts.store in_data put;
          fits = may.fits;
        };
        puts = puts_before puts (pointers_to old.sectors v k);
        size = refl;
        pointers = λ i. number_on_same old.sectors new.sectors v there_kept 1 i;
        here = λ e. some (sym is ∙ sym (same k) ∙ e);
        others = λ j ne. same j;
        held = λ bytes h.
            write_block may.apart is some put h
            (splice_replaces bytes (old.sectors s) x k at (held_block h k is some) whole.len room (let z = h.size in omega (arith, z, inside)));
        free = let f = free_after_put may.bitmaps.geometry in_data put in omega (arith, f);
      }

  -- so is what is at hand
  pub there_at_hand : {b : Blocks} → IsAtHand old.sectors b → b.inode ≡ v → IsAtHand new.sectors b
  there_at_hand {b} h e =
      let kept : KeepsPointers old.sectors new.sectors b.inode = subst (λ (i : Inode). KeepsPointers old.sectors new.sectors i) (sym e) there_kept in
      at_hand_kept h b.inode (number_on_same old.sectors new.sectors b.inode kept 1 b.index) (at_hand_content new.sectors h kept)

-- ---- a hole
-- directly
module _ {p : Geometry} {old new : TxnState} {bits : SectorMap} {v : Inode} {k s : ℕ} (at : ℕ) (x : List ℕ) {y : List ℕ}
    (may : MayChange p old v) (none : pointer old.sectors v k ≡ 0) (room : at + length x ≤ 512)
    (is : y ≡ splice (zeros 512) at x) (fits : 512 * k + at + length x ≤ v.size) (inside : 512 * k < v.size)
    (a : Allocates p s y old.sectors bits new.sectors) (free : free_sectors p old.sectors ≡ free_sectors p new.sectors + 1) (bitmaps_now : HasBitmaps p new)
    (puts : PutsOnly (IsStepSector p) (bitmaps p) 1 old new) (lt : k < DIRECT_BLOCKS) where
  direct_turned : Turns old.sectors new.sectors v (with_direct v k s) (Block k) 0 s
  direct_turned = turns_direct old.sectors new.sectors v k 0 s lt may.fits.direct_len none (pointers_kept (allocates_keeps may.bitmaps.geometry may.apart a))

  pub writes_direct_block : WritesBlock p k at x old new v (with_direct v k s)
  unfolding part
  writes_direct_block =
      let geometry : IsGeometry p = may.bitmaps.geometry in
      let len : length v.direct ≡ DIRECT_BLOCKS = may.fits.direct_len in
      record {
        alters = record {
          blocks = direct_block_gained geometry may.apart a k lt len none;
          fields = record { kind = refl; mode = refl; uid = refl; gid = refl; names = refl; parent = refl; mtime = refl; ctime = refl; atime = refl };
          acls = acls_where_kept refl refl (allocates_keeps geometry may.apart a);
          bitmaps = bitmaps_now;
          fits = with_direct_fits v k s may.fits may.used (let l = a.free.1 in let most = numbers_most geometry in omega (arith, l, most));
        };
        puts = puts_before puts (pointers_to old.sectors v k);
        size = refl;
        pointers = λ i. direct_turned.others (OnLevel 1 i) (λ e. block_has_no_pointers k 0 i (sym e));
        here = λ e. allocated_some geometry may.apart a (sym (now_block direct_turned) ∙ e);
        others = λ j ne. other_blocks direct_turned j ne;
        held = λ bytes h.
            direct_block_filled geometry may.apart a k bytes (splice bytes (512 * k + at) x) lt len none inside h
            (subst (λ (z : List ℕ). ReplacesBlock k z bytes (splice bytes (512 * k + at) x)) (sym is)
            (splice_replaces bytes (zeros 512) x k at (held_hole h k none) IsSector-zeros.len room (let z = h.size in omega (arith, z, fits))));
        free = omega (arith, free, hole_is_one old.sectors v k none);
      }

  pub direct_at_hand : {b : Blocks} → IsAtHand old.sectors b → b.inode ≡ v → IsAtHand new.sectors (record b { inode = with_direct v k s })
  unfolding part
  direct_at_hand {b} h e =
      at_hand_kept h (with_direct v k s)
      (direct_turned.others (OnLevel 1 b.index) (λ z. block_has_no_pointers k 0 b.index (sym z)) ∙ ap (λ (i : Inode). number_on old.sectors i 1 b.index) (sym e))
      (at_hand_content new.sectors h (subst (λ (i : Inode). KeepsPointers old.sectors new.sectors i) (sym e) (pointers_kept (allocates_keeps may.bitmaps.geometry may.apart a))))

-- a sector of pointers is no ACL's
pub acl_apart : {p : Geometry} {image : SectorMap} {v : Inode} → IsOwnedApart p image v → (level i : ℕ) → number_on image v (suc level) i ≢ 0 → v.acl ≢ number_on image v (suc level) i
unfolding part
acl_apart {image = image} {v} apart level i has f =
    let same : AccessAcl ≡ OnLevel (suc level) i =
    apart.once (number_on image v (suc level) i) (record { at = AccessAcl; is = f; some = has }) (record { at = OnLevel (suc level) i; is = refl; some = has }) in cc

pub default_apart : {p : Geometry} {image : SectorMap} {v : Inode} → IsOwnedApart p image v → (level i : ℕ) → number_on image v (suc level) i ≢ 0
    → v.default_acl ≢ number_on image v (suc level) i
unfolding part
default_apart {image = image} {v} apart level i has f =
    let same : DefaultAcl ≡ OnLevel (suc level) i =
    apart.once (number_on image v (suc level) i) (record { at = DefaultAcl; is = f; some = has }) (record { at = OnLevel (suc level) i; is = refl; some = has }) in cc

-- the ACLs stay where a sector of pointers is written after a sector was taken
pub acls_beside : {p : Geometry} {old mid new : SectorMap} {v : Inode} {u : ℕ} {y : List ℕ} (level i : ℕ) → IsOwnedApart p old v → Keeps old mid v
    → u ≡ number_on old v (suc level) i → u ≢ 0 → Puts u y mid new → KeepsAcls old new v v
acls_beside {old = old} {mid} {new} {v} level i apart keeps is some put =
    let has : number_on old v (suc level) i ≢ 0 = λ e. some (is ∙ e) in
    acls_kept refl refl
    (λ acl. put.others v.acl (λ e. acl_apart apart level i has (e ∙ is)) ∙ keeps v.acl (owns_acl old v acl))
    (λ acl. put.others v.default_acl (λ e. default_apart apart level i has (e ∙ is)) ∙ keeps v.default_acl (owns_default_acl old v acl))

-- through the sector of pointers at hand
module _ {p : Geometry} {old mid new : TxnState} {bits : SectorMap} {v : Inode} {k s u : ℕ} (at : ℕ) (x : List ℕ) {y before pointers : List ℕ}
    (may : MayChange p old v) (none : pointer old.sectors v k ≡ 0) (room : at + length x ≤ 512)
    (is : y ≡ splice (zeros 512) at x) (fits : 512 * k + at + length x ≤ v.size) (inside : 512 * k < v.size)
    (a : Allocates p s y old.sectors bits mid.sectors) (free : free_sectors p old.sectors ≡ free_sectors p mid.sectors + 1) (bitmaps_mid : HasBitmaps p mid)
    (from : DIRECT_BLOCKS ≤ k) (sector : u ≡ number_on old.sectors v 1 (holder DIRECT_BLOCKS k)) (has : u ≢ 0) (loaded : before ≡ old.sectors u)
    (entry : pointers ≡ splice before (4 * place_in_holder DIRECT_BLOCKS k) (le32 s)) (put : Puts u pointers mid.sectors new.sectors) (store : SameStore mid new)
    (puts : PutsOnly (IsStepSector p) (u ∷ bitmaps p) 1 old new) where
  geometry : IsGeometry p
  geometry = may.bitmaps.geometry

  keeps : Keeps old.sectors mid.sectors v
  keeps = allocates_keeps geometry may.apart a

  owned : Owns old.sectors v u
  owned = subst (λ (t : ℕ). Owns old.sectors v t) (sym sector) (owns_on_level old.sectors v 1 (holder DIRECT_BLOCKS k) (λ e. has (sector ∙ e)))

  written : pointers ≡ splice (mid.sectors u) (4 * place_in_holder DIRECT_BLOCKS k) (le32 s)
  written = entry ∙ ap (λ (r : List ℕ). splice r (4 * place_in_holder DIRECT_BLOCKS k) (le32 s)) (loaded ∙ sym (keeps u owned))

  e : PutsEntry v 0 k s mid.sectors new.sectors
  e = puts_entry_at 0 k s sector keeps from has (let l = a.free.1 in let most = numbers_most geometry in omega (arith, l, most)) written put

  entry_turned : Turns old.sectors new.sectors v v (Block k) 0 s
  entry_turned = turns_entry none (entry_there_since geometry may.apart a e)

  pub writes_entry_block : WritesBlock p k at x old new v v
  unfolding part
  writes_entry_block = record {
    alters = record {
      blocks = entry_block_gained geometry may.apart a e none;
      fields = fields_same;
      acls = acls_beside 0 (holder DIRECT_BLOCKS k) may.apart keeps sector has put;
      bitmaps = put_keeps_bitmaps bitmaps_mid store (may.apart.each u owned).0 put;
      fits = may.fits;
    };
    puts = shares_pointers p v k from sector puts;
    size = refl;
    pointers = λ i. entry_turned.others (OnLevel 1 i) (λ e. block_has_no_pointers k 0 i (sym e));
    here = λ f. allocated_some geometry may.apart a (sym (now_block entry_turned) ∙ f);
    others = λ j ne. other_blocks entry_turned j ne;
    held = λ bytes h.
        entry_block_filled geometry may.apart a e bytes (splice bytes (512 * k + at) x) none inside h
        (subst (λ (z : List ℕ). ReplacesBlock k z bytes (splice bytes (512 * k + at) x)) (sym is)
        (splice_replaces bytes (zeros 512) x k at (held_hole h k none) IsSector-zeros.len room (let z = h.size in omega (arith, z, fits))));
    free =
        let f = free_after_put geometry (may.apart.each u owned).0 put in
        omega (arith, free, f, hole_is_one old.sectors v k none);
  }

  -- what is at hand is what was put
  pub entry_at_hand : (c : Blocks) → c.inode ≡ v → c.index ≡ holder DIRECT_BLOCKS k → c.sector ≡ u → c.pointers ≡ pointers → IsAtHand new.sectors c
  unfolding part
  entry_at_hand c same index at_u content = record {
    number =
        ap (λ (i : Inode). number_on new.sectors i 1 c.index) same
        ∙ entry_turned.others (OnLevel 1 c.index) (λ z. block_has_no_pointers k 0 c.index (sym z))
        ∙ ap (number_on old.sectors v 1) index ∙ sym sector ∙ sym at_u;
    is = λ some. content ∙ sym put.here ∙ ap new.sectors (sym at_u);
    none = λ zero. absurd (has (sym at_u ∙ zero));
  }
