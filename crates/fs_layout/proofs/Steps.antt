-- Single writes put together: a sector is taken or released for one thing, and what changes and is held by it.
use Rattle.std.proofs.Common.{◌≡◌, ◌≢◌, ℕ, suc, ◌*◌, ◌<◌, List, length, get_or, refl, sym, ap, subst, ◌∙◌, arith, inl, inr, ◌⊎◌}
use Rattle.fs_layout.specs.declared.inode.TheConstants.{DIRECT_BLOCKS, POINTER_LEVELS, SECTOR_POINTERS}
use Rattle.fs_layout.specs.declared.inode.Inode.{Inode}
use Rattle.fs_layout.specs.declared.geometry.Geometry.{Geometry}
use Rattle.fs_layout.specs.Bytes.{SectorMap, IsSector, splice, le32, zeros}
use Rattle.fs_layout.specs.Geometry.{IsGeometry}
use Rattle.fs_layout.specs.Images.{own_count, holder, place_in_holder, number_on, pointer, first_block, OnLevel, Block, part, Owns, Holds}
use Rattle.fs_layout.specs.InodeChanges.{Keeps, Gains, with_direct, with_indirect, IsOwnedApart, Takes, Rewrites, Allocates, Frees, PutsEntry, ReplacesBlock, ChangesBlocks}
use Rattle.fs_layout.proofs.Places.{after_map, before_data}
use Rattle.fs_layout.proofs.Parts.{KeepsPointers, pointers_kept, number_on_kept, owns_block, owns_on_level, level_is_one, index_is_one, block_has_no_pointers}
use Rattle.fs_layout.proofs.Sectors.{IsSector-splice, IsBytes-le32}
use Rattle.fs_layout.proofs.SplicedBytes.{length-le32}
use Rattle.fs_layout.proofs.Blocks.{put_rewrites}
use Rattle.fs_layout.proofs.Pointers.{HasEntry, turns_direct, turns_entry, turns_acl, turns_default_acl, gains_named, gains_on_level}
use Rattle.fs_layout.proofs.Gains.{gains}
use Rattle.fs_layout.proofs.Releases.{loses}
use Rattle.fs_layout.proofs.Marks.{no_map, free_not_owned, takes, takes_keeps, takes_and_puts, releases, releases_alone, marks_keeps}
use Rattle.fs_layout.proofs.Held.{KeepsBlocks, KeepsAllBlocks, keeps_all_blocks, keeps_other_blocks}
use Rattle.fs_layout.proofs.Sizes.{fills, drops, turns_acl_holds, turns_default_acl_holds, turns_pointers}

-- ---- a sector is taken
module _ {p : Geometry} {v : Inode} {s : ℕ} {x : List ℕ} {old mid new : SectorMap} (geometry : IsGeometry p) (apart : IsOwnedApart p old v) (a : Allocates p s x old mid new) where
  allocated : Takes p v s old new
  allocated = takes geometry apart a.free a.mark a.set a.put a.whole

  -- what the inode owns is the same
  pub allocates_keeps : Keeps old new v
  allocates_keeps = takes_keeps geometry apart a.free a.mark a.put

  -- and the sector is not 0
  pub allocated_some : s ≢ 0
  allocated_some e = let g = a.free.0 in let t = before_data geometry in let m = after_map geometry in omega (arith, g, t, m, e)

  kept : KeepsPointers old new v
  kept = pointers_kept allocates_keeps

  same_content : KeepsAllBlocks old new v
  same_content = keeps_all_blocks allocates_keeps

  -- for a direct block
  pub direct_block_gained : (k : ℕ) → k < DIRECT_BLOCKS → length v.direct ≡ DIRECT_BLOCKS → pointer old v k ≡ 0 → ChangesBlocks p v (with_direct v k s) old new
  direct_block_gained k lt len none = gains geometry apart (turns_direct old new v k 0 s lt len none kept) allocated

  -- then what the inode holds has x there
  pub direct_block_filled : (k : ℕ) (bytes then : List ℕ) → k < DIRECT_BLOCKS → length v.direct ≡ DIRECT_BLOCKS → pointer old v k ≡ 0 → 512 * k < v.size → Holds old v bytes
      → ReplacesBlock k x bytes then → Holds new (with_direct v k s) then
  direct_block_filled k bytes then lt len none inside h r =
      fills (turns_direct old new v k 0 s lt len none kept) allocated_some a.put.here (keeps_other_blocks allocates_keeps k) refl inside h r

  -- for the access ACL
  pub acl_gained : v.acl ≡ 0 → ChangesBlocks p v (record v { acl = s }) old new
  acl_gained none = gains geometry apart (turns_acl old new v 0 s none kept) allocated

  -- the inode holds what it held, with an ACL
  pub acl_gained_holds : (bytes : List ℕ) → v.acl ≡ 0 → Holds old v bytes → Holds new (record v { acl = s }) bytes
  acl_gained_holds bytes none h = turns_acl_holds (turns_acl old new v 0 s none kept) same_content refl h

  -- for the default ACL
  pub default_acl_gained : v.default_acl ≡ 0 → ChangesBlocks p v (record v { default_acl = s }) old new
  default_acl_gained none = gains geometry apart (turns_default_acl old new v 0 s none kept) allocated

  -- the inode holds what it held, with a default ACL
  pub default_acl_gained_holds : (bytes : List ℕ) → v.default_acl ≡ 0 → Holds old v bytes → Holds new (record v { default_acl = s }) bytes
  default_acl_gained_holds bytes none h = turns_default_acl_holds (turns_default_acl old new v 0 s none kept) same_content refl h

  -- for a sector of pointers that the inode names, which is zeros
  named_gains : (level : ℕ) → level < POINTER_LEVELS → length v.indirect ≡ POINTER_LEVELS → get_or v.indirect level 0 ≡ 0 → x ≡ zeros 512
      → Gains old new v (with_indirect v level s) (OnLevel (suc level) 0) s
  named_gains level lt len none clear = gains_named old new v level s lt len kept none allocated_some (a.put.here ∙ clear)

  pub named_gained : (level : ℕ) → level < POINTER_LEVELS → length v.indirect ≡ POINTER_LEVELS → get_or v.indirect level 0 ≡ 0 → x ≡ zeros 512
      → ChangesBlocks p v (with_indirect v level s) old new
  named_gained level lt len none clear = gains geometry apart (named_gains level lt len none clear) allocated

  -- the inode holds what it held, with a sector of pointers
  pub named_gained_holds : (level : ℕ) (bytes : List ℕ) → level < POINTER_LEVELS → length v.indirect ≡ POINTER_LEVELS → get_or v.indirect level 0 ≡ 0 → x ≡ zeros 512
      → 512 * first_block (suc level) 0 < v.size → Holds old v bytes → Holds new (with_indirect v level s) bytes
  named_gained_holds level bytes lt len none clear inside h =
      turns_pointers (named_gains level lt len none clear) same_content refl (λ le. absurd (omega (arith, le, inside))) h

-- ---- a sector is taken whose number stands in a sector of pointers
-- that sector
abbrev at_holder : SectorMap → Inode → ℕ → ℕ → ℕ
at_holder image v level i = number_on image v (suc level) (holder (own_count level) i)

-- the sector with the entry is whole again
entry_whole : {v : Inode} {level i y : ℕ} {old new : SectorMap} → PutsEntry v level i y old new → IsSector (old (at_holder old v level i))
    → IsSector (splice (old (at_holder old v level i)) (4 * place_in_holder (own_count level) i) (le32 y))
entry_whole {v} {level} {i} {y} {old} e whole =
    let low : place_in_holder (own_count level) i < SECTOR_POINTERS = omega arith in
    IsSector-splice (old (at_holder old v level i)) (le32 y) (4 * place_in_holder (own_count level) i) whole (IsBytes-le32 y) (omega (arith, low, length-le32 y))

-- two sectors of pointers are two
numbers_apart : {p : Geometry} {image : SectorMap} {v : Inode} → IsOwnedApart p image v → (n m i j : ℕ) → (n ≢ m) ⊎ (i ≢ j) → number_on image v (suc n) i ≢ 0
    → number_on image v (suc n) i ≢ number_on image v (suc m) j
unfolding part
numbers_apart {image = image} {v} apart n m i j ne some e =
    let same = apart.once (number_on image v (suc n) i) (record { at = OnLevel (suc n) i; is = refl; some = some }) (record { at = OnLevel (suc m) j; is = sym e; some = some }) in
    elim ne [
      | inl away ↦ away (let z = level_is_one (suc n) (suc m) i j same in omega (arith, z))
      | inr away ↦ away (index_is_one (suc n) (suc m) i j same)
    ]

-- the number is put into what stood there before other sectors were written, and no other sector of pointers was
entry_since : {p : Geometry} {v : Inode} {level i y : ℕ} {old mid new : SectorMap} → IsOwnedApart p old v → Keeps old mid v → PutsEntry v level i y mid new
    → HasEntry v level i y old new
entry_since {v = v} {level} {i} {y} {old} {mid} {new} apart keeps e =
    let holder_same : at_holder mid v level i ≡ at_holder old v level i = number_on_kept keeps (suc level) (holder (own_count level) i) in
    let some : at_holder old v level i ≢ 0 = λ z. e.some (holder_same ∙ z) in
    let own : Owns old v (at_holder old v level i) = owns_on_level old v (suc level) (holder (own_count level) i) some in
    let here : (s : ℕ) → at_holder mid v level i ≡ s → new s ≡ splice (mid s) (4 * place_in_holder (own_count level) i) (le32 y) =
    λ s is. subst (λ (t : ℕ). new t ≡ splice (mid t) (4 * place_in_holder (own_count level) i) (le32 y)) is e.put.here in
    record {
      from = e.from;
      some = some;
      len = (apart.whole (at_holder old v level i) own).len;
      fits = e.fits;
      is = here (at_holder old v level i) holder_same
          ∙ ap (λ (r : List ℕ). splice r (4 * place_in_holder (own_count level) i) (le32 y)) (keeps (at_holder old v level i) own);
      others = λ n p ne has.
          let s = number_on old v (suc n) p in
          e.put.others s (λ z. numbers_apart apart n level p (holder (own_count level) i) ne has (z ∙ holder_same))
          ∙ keeps s (owns_on_level old v (suc n) p has);
    }

-- no block is such a sector
block_no_holder : {p : Geometry} {v : Inode} {old : SectorMap} → IsOwnedApart p old v → (level i k : ℕ) → pointer old v k ≢ 0
    → pointer old v k ≢ at_holder old v level i
unfolding part
block_no_holder {v = v} {old} apart level i k some z =
    block_has_no_pointers k level (holder (own_count level) i)
    (apart.once (pointer old v k) (record { at = Block k; is = refl; some = some })
    (record { at = OnLevel (suc level) (holder (own_count level) i); is = sym z; some = some }))

-- of what the inode owns only that sector differs: so each other block keeps its content
others_than_holder : {p : Geometry} {v : Inode} {old new : SectorMap} → IsOwnedApart p old v → (level k : ℕ)
    → ((t : ℕ) → Owns old v t → t ≢ at_holder old v level k → new t ≡ old t) → KeepsBlocks old new v k
others_than_holder {v = v} {old} apart level k same j ne some = same (pointer old v j) (owns_block old v j some) (block_no_holder apart level k j some)

module _ {p : Geometry} {v : Inode} {level i s : ℕ} {x : List ℕ} {old mid put new : SectorMap}
    (geometry : IsGeometry p) (apart : IsOwnedApart p old v) (a : Allocates p s x old mid put) (e : PutsEntry v level i s put new) where
  pub entry_there_since : HasEntry v level i s old new
  entry_there_since = entry_since apart (allocates_keeps geometry apart a) e

  owned : Owns old v (at_holder old v level i)
  owned = owns_on_level old v (suc level) (holder (own_count level) i) entry_there_since.some

  holder_same : at_holder put v level i ≡ at_holder old v level i
  holder_same = number_on_kept (allocates_keeps geometry apart a) (suc level) (holder (own_count level) i)

  not_holder : s ≢ at_holder old v level i
  not_holder f = free_not_owned apart s a.free (subst (λ (u : ℕ). Owns old v u) (sym f) owned)

  -- what stands in the sector that was taken
  pub entry_content : new s ≡ x
  entry_content = e.put.others s (λ z. not_holder (z ∙ holder_same)) ∙ a.put.here

  -- what the inode owns is the same but for the sector of pointers that has the number
  pub entry_keeps : (t : ℕ) → Owns old v t → t ≢ at_holder old v level i → new t ≡ old t
  entry_keeps t o ne = e.put.others t (λ z. ne (z ∙ holder_same)) ∙ allocates_keeps geometry apart a t o

  -- the inode has one sector more
  pub entry_gained_changes : Gains old new v v (OnLevel level i) s → ChangesBlocks p v v old new
  entry_gained_changes g =
      let own : Owns old v (at_holder put v level i) = subst (λ (u : ℕ). Owns old v u) (sym holder_same) owned in
      let whole : IsSector (put (at_holder put v level i)) = (allocated geometry apart a).whole (at_holder put v level i) own in
      gains geometry apart g (takes_and_puts geometry apart (allocated geometry apart a) own e.put (entry_whole e whole))

-- for a block
module _ {p : Geometry} {v : Inode} {k s : ℕ} {x : List ℕ} {old mid put new : SectorMap}
    (geometry : IsGeometry p) (apart : IsOwnedApart p old v) (a : Allocates p s x old mid put) (e : PutsEntry v 0 k s put new) where
  entry_gained : pointer old v k ≡ 0 → Gains old new v v (Block k) s
  entry_gained none = turns_entry none (entry_there_since geometry apart a e)

  -- the inode has one block more
  pub entry_block_gained : pointer old v k ≡ 0 → ChangesBlocks p v v old new
  entry_block_gained none = entry_gained_changes geometry apart a e (entry_gained none)

  -- and what it holds has x there
  pub entry_block_filled : (bytes then : List ℕ) → pointer old v k ≡ 0 → 512 * k < v.size → Holds old v bytes
      → ReplacesBlock k x bytes then → Holds new v then
  entry_block_filled bytes then none inside h r =
      fills (entry_gained none) (allocated_some geometry apart a) (entry_content geometry apart a e)
      (others_than_holder apart 0 k (entry_keeps geometry apart a e)) refl inside h r

-- for a sector of pointers, which is zeros
module _ {p : Geometry} {v : Inode} {level i s : ℕ} {x : List ℕ} {old mid put new : SectorMap}
    (geometry : IsGeometry p) (apart : IsOwnedApart p old v) (a : Allocates p s x old mid put) (e : PutsEntry v (suc level) i s put new) (clear : x ≡ zeros 512) where
  pub entry_pointers : number_on old v (suc level) i ≡ 0 → Gains old new v v (OnLevel (suc level) i) s
  entry_pointers none = gains_on_level (entry_there_since geometry apart a e) none (allocated_some geometry apart a) (entry_content geometry apart a e ∙ clear)

  -- the inode has one sector of pointers more
  pub entry_pointers_gained : number_on old v (suc level) i ≡ 0 → ChangesBlocks p v v old new
  entry_pointers_gained none = entry_gained_changes geometry apart a e (entry_pointers none)

  -- and holds what it held
  pub entry_pointers_hold : (bytes : List ℕ) → number_on old v (suc level) i ≡ 0 → 512 * first_block (suc level) i < v.size → Holds old v bytes → Holds new v bytes
  entry_pointers_hold bytes none inside h =
      turns_pointers (entry_pointers none) same refl (λ le. absurd (omega (arith, le, inside))) h
    where
      same : KeepsAllBlocks old new v
      same k some =
          entry_keeps geometry apart a e (pointer old v k) (owns_block old v k some) (block_no_holder apart (suc level) i k some)

-- ---- a sector is released
module _ {p : Geometry} {v : Inode} {s : ℕ} {old new : SectorMap} (geometry : IsGeometry p) (apart : IsOwnedApart p old v) (some : s ≢ 0) (f : Frees p s old new) where
  -- what the inode owns is the same
  pub frees_keeps : Keeps old new v
  frees_keeps = marks_keeps geometry apart f.mark

  kept_then : KeepsPointers old new v
  kept_then = pointers_kept frees_keeps

  same_then : KeepsAllBlocks old new v
  same_then = keeps_all_blocks frees_keeps

  -- a direct block
  pub direct_block_lost : (k : ℕ) → k < DIRECT_BLOCKS → length v.direct ≡ DIRECT_BLOCKS → pointer old v k ≡ s → ChangesBlocks p v (with_direct v k 0) old new
  direct_block_lost k lt len was = loses geometry apart some (turns_direct old new v k s 0 lt len was kept_then) (releases_alone geometry apart f.mark f.clear)

  -- then what the inode holds has zeros there
  pub direct_block_dropped : (k : ℕ) (bytes then : List ℕ) → k < DIRECT_BLOCKS → length v.direct ≡ DIRECT_BLOCKS → pointer old v k ≡ s → Holds old v bytes
      → ReplacesBlock k (zeros 512) bytes then → Holds new (with_direct v k 0) then
  direct_block_dropped k bytes then lt len was h r = drops (turns_direct old new v k s 0 lt len was kept_then) (keeps_other_blocks frees_keeps k) refl h r

  -- the access ACL
  pub acl_lost : v.acl ≡ s → ChangesBlocks p v (record v { acl = 0 }) old new
  acl_lost was = loses geometry apart some (turns_acl old new v s 0 was kept_then) (releases_alone geometry apart f.mark f.clear)

  -- the inode holds what it held, without its ACL
  pub acl_lost_holds : (bytes : List ℕ) → v.acl ≡ s → Holds old v bytes → Holds new (record v { acl = 0 }) bytes
  acl_lost_holds bytes was h = turns_acl_holds (turns_acl old new v s 0 was kept_then) same_then refl h

  -- the default ACL
  pub default_acl_lost : v.default_acl ≡ s → ChangesBlocks p v (record v { default_acl = 0 }) old new
  default_acl_lost was = loses geometry apart some (turns_default_acl old new v s 0 was kept_then) (releases_alone geometry apart f.mark f.clear)

  -- the inode holds what it held, without its default ACL
  pub default_acl_lost_holds : (bytes : List ℕ) → v.default_acl ≡ s → Holds old v bytes → Holds new (record v { default_acl = 0 }) bytes
  default_acl_lost_holds bytes was h = turns_default_acl_holds (turns_default_acl old new v s 0 was kept_then) same_then refl h

-- a block of a sector of pointers is released: its number is written as 0, and then its bit is cleared
module _ {p : Geometry} {v : Inode} {k s : ℕ} {old put new : SectorMap}
    (geometry : IsGeometry p) (apart : IsOwnedApart p old v) (e : PutsEntry v 0 k 0 old put) (f : Frees p s put new) where
  owned_before : Owns old v (at_holder old v 0 k)
  owned_before = owns_on_level old v 1 (holder DIRECT_BLOCKS k) e.some

  written : Rewrites v old put
  written = put_rewrites owned_before apart.whole (entry_whole e (apart.whole (at_holder old v 0 k) owned_before)) e.put

  -- what the inode owns is the same but for that sector
  unwritten : (t : ℕ) → Owns old v t → t ≢ at_holder old v 0 k → new t ≡ old t
  unwritten t o ne = f.mark.others t (no_map geometry apart t o) ∙ e.put.others t ne

  entry_put : HasEntry v 0 k 0 old new
  entry_put = record {
    from = e.from;
    some = e.some;
    len = (apart.whole (at_holder old v 0 k) owned_before).len;
    fits = e.fits;
    is = f.mark.others (at_holder old v 0 k) (no_map geometry apart (at_holder old v 0 k) owned_before) ∙ e.put.here;
    others = λ n p ne has.
        unwritten (number_on old v (suc n) p) (owns_on_level old v (suc n) p has) (numbers_apart apart n 0 p (holder DIRECT_BLOCKS k) ne has);
  }

  -- the inode has one block less
  pub entry_block_lost : s ≢ 0 → pointer old v k ≡ s → ChangesBlocks p v v old new
  entry_block_lost some was = loses geometry apart some (turns_entry was entry_put) (releases geometry apart written f.mark f.clear)

  -- and what it holds has zeros there
  pub entry_block_dropped : (bytes then : List ℕ) → pointer old v k ≡ s → Holds old v bytes → ReplacesBlock k (zeros 512) bytes then
      → Holds new v then
  entry_block_dropped bytes then was h r = drops (turns_entry was entry_put) (others_than_holder apart 0 k unwritten) refl h r
