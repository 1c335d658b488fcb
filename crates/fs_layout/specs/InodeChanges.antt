-- What changing one inode may touch.
--     Keeps, Puts        sectors that are the same, and one that is written
--     PutsEntry, ReplacesBlock        a number is written into the sector of pointers that has it; bytes with another block
--     Turns, Gains, Loses        what an inode has for one thing changes
--     IsInodeMap, IsBlockMap, IsFree        a sector of a bitmap, and a data sector that is free
--     MarksSector, MarksInode, Allocates, Frees        one bit of a bitmap is written; a sector is taken by it, or released
--     IsOwnedApart        what an inode owns is in the data, has its bit set, and serves one thing
--     Rewrites, Takes, Releases        the writes for an inode: into what it owns, with one more sector, with one less
--     ChangesOwned, ChangesBlocks        what one inode owns changes, and the block bitmap with it
--     Saves        an inode is written into the table
--     ChangesInode        both: one inode changes, with what it owns
use Rattle.std.specs.Prelude.{◌≡◌, ◌≢◌, ℕ, suc, ◌+◌, ◌*◌, ◌/◌, ◌%◌, ◌^◌, ◌<◌, ◌≤◌, false, Ok, IsTrue, List, length, get_or, set, ◌⊎◌}
use Rattle.fs_layout.specs.declared.inode.Inode.{Inode}
use Rattle.fs_layout.specs.declared.inode.TheConstants.{INODE_SIZE}
use Rattle.fs_layout.specs.declared.geometry.Geometry.{Geometry}
use Rattle.fs_layout.specs.Bytes.{SectorMap, IsSector, splice, le32}
use Rattle.fs_layout.specs.Inode.{inode_bytes, inode_of}
use Rattle.fs_layout.specs.Images.{HasWholeTables, own_count, holder, place_in_holder, number_on, Part, part, inode_map_bits, map_bits, bit, stored, inode_at, Owns}

-- the sectors that the inode owns in old are the same in new
abbrev pub Keeps : SectorMap → SectorMap → Inode → Type 0
Keeps old new v = (s : ℕ) → Owns old v s → new s ≡ old s

-- new has x at s, and nothing else differs
pub record Puts (s : ℕ) (x : List ℕ) (old new : SectorMap) : Type 0 where
  pub here : new s ≡ x
  pub others : (t : ℕ) → t ≢ s → new t ≡ old t

-- in the sector of pointers that has it, number i of a level is written as y, and nothing else differs
pub record PutsEntry (v : Inode) (level i y : ℕ) (old new : SectorMap) : Type 0 where
  pub from : own_count level ≤ i
  pub some : number_on old v (suc level) (holder (own_count level) i) ≢ 0
  pub fits : y < 2 ^ 32
  pub put : let s = number_on old v (suc level) (holder (own_count level) i) in
      Puts s (splice (old s) (4 * place_in_holder (own_count level) i) (le32 y)) old new

-- block k of bytes is x, which is zero where there are no bytes
abbrev pub IsBlockOf : List ℕ → ℕ → List ℕ → Type 0
IsBlockOf bytes k x = (i : ℕ) → i / 512 ≡ k → get_or bytes i 0 ≡ get_or x (i % 512) 0

-- `then` is bytes with x for block k
pub record ReplacesBlock (k : ℕ) (x bytes then : List ℕ) : Type 0 where
  pub len : length then ≡ length bytes
  pub inside : IsBlockOf then k x
  pub outside : (i : ℕ) → i / 512 ≢ k → get_or then i 0 ≡ get_or bytes i 0

-- From old, where the inode is v, to new, where it is w: it had sector x for this and has y; for all else it has
-- what it had. 0 is none.
pub record Turns (old new : SectorMap) (v w : Inode) (at : Part) (x y : ℕ) : Type 0 where
  pub was : part old v at ≡ x
  pub now : part new w at ≡ y
  pub others : (other : Part) → other ≢ at → part new w other ≡ part old v other

-- the inode has s for this, and had none
abbrev pub Gains : SectorMap → SectorMap → Inode → Inode → Part → ℕ → Type 0
Gains old new v w at s = Turns old new v w at 0 s

-- the inode had s for this, and has none
abbrev pub Loses : SectorMap → SectorMap → Inode → Inode → Part → ℕ → Type 0
Loses old new v w at s = Turns old new v w at s 0

-- the inode with s as its direct block k
abbrev pub with_direct : Inode → ℕ → ℕ → Inode
with_direct v k s = record v { direct = set v.direct k s }

-- the inode with s as the first sector of pointers of level `suc level`
abbrev pub with_indirect : Inode → ℕ → ℕ → Inode
with_indirect v level s = record v { indirect = set v.indirect level s }

-- a sector of the inode bitmap, and of the block bitmap
abbrev pub IsInodeMap : Geometry → ℕ → Type 0
IsInodeMap p s = (p.inode_bitmap ≤ s) × (s < p.block_bitmap)

abbrev pub IsBlockMap : Geometry → ℕ → Type 0
IsBlockMap p s = (p.block_bitmap ≤ s) × (s < p.table)

-- a data sector that is free
abbrev pub IsFree : Geometry → SectorMap → ℕ → Type 0
IsFree p image s = (p.first_data ≤ s) × (s < p.sectors) × (bit image p.block_bitmap s ≡ false)

-- what the inode owns is in the data, has its bit set, and serves one thing
pub record IsOwnedApart (p : Geometry) (image : SectorMap) (v : Inode) : Type 0 where
  pub each : (s : ℕ) → Owns image v s → (p.first_data ≤ s) × (s < p.sectors) × IsTrue (bit image p.block_bitmap s)
  pub whole : (s : ℕ) → Owns image v s → IsSector (image s)
  pub once : (s : ℕ) → (a b : Owns image v s) → a.at ≡ b.at

-- of the block bitmap no bit but that of sector s differs, and nothing else does
pub record MarksSector (p : Geometry) (s : ℕ) (old new : SectorMap) : Type 0 where
  pub sectors : HasWholeTables p new
  pub bits : (t : ℕ) → t < map_bits p → t ≢ s → bit new p.block_bitmap t ≡ bit old p.block_bitmap t
  pub others : (t : ℕ) → (IsBlockMap p t → ⊥) → new t ≡ old t

-- the free sector s is taken and its bit set, and then x is written there
pub record Allocates (p : Geometry) (s : ℕ) (x : List ℕ) (old mid new : SectorMap) : Type 0 where
  pub free : IsFree p old s
  pub mark : MarksSector p s old mid
  pub set : IsTrue (bit mid p.block_bitmap s)
  pub put : Puts s x mid new
  pub whole : IsSector x

-- the bit of sector s is cleared
pub record Frees (p : Geometry) (s : ℕ) (old new : SectorMap) : Type 0 where
  pub mark : MarksSector p s old new
  pub clear : bit new p.block_bitmap s ≡ false

-- only sectors that the inode owns differ
pub record Rewrites (v : Inode) (old new : SectorMap) : Type 0 where
  pub whole : (s : ℕ) → Owns old v s → IsSector (new s)
  pub others : (s : ℕ) → (Owns old v s → ⊥) → new s ≡ old s

-- The free sector s is taken and its bit set. Besides, only sectors that the inode owns differ.
pub record Takes (p : Geometry) (v : Inode) (s : ℕ) (old new : SectorMap) : Type 0 where
  pub free : IsFree p old s
  pub set : IsTrue (bit new p.block_bitmap s)
  pub bits : (t : ℕ) → t < map_bits p → t ≢ s → bit new p.block_bitmap t ≡ bit old p.block_bitmap t
  pub sectors : HasWholeTables p new
  pub here : IsSector (new s)
  pub whole : (t : ℕ) → Owns old v t → IsSector (new t)
  pub others : (t : ℕ) → t ≢ s → (Owns old v t → ⊥) → (IsBlockMap p t → ⊥) → new t ≡ old t

-- The bit of sector s is cleared. Besides, only sectors that the inode owns differ.
pub record Releases (p : Geometry) (v : Inode) (s : ℕ) (old new : SectorMap) : Type 0 where
  pub clear : bit new p.block_bitmap s ≡ false
  pub bits : (t : ℕ) → t < map_bits p → t ≢ s → bit new p.block_bitmap t ≡ bit old p.block_bitmap t
  pub sectors : HasWholeTables p new
  pub whole : (t : ℕ) → t ≢ s → Owns old v t → IsSector (new t)
  pub others : (t : ℕ) → (Owns old v t → ⊥) → (IsBlockMap p t → ⊥) → new t ≡ old t

-- From old, where the inode is v, to new, where it is w: of the used data sectors only those that v owns differ;
-- w owns sectors of v and sectors that were free; the block bitmap follows.
pub record ChangesOwned (p : Geometry) (v w : Inode) (old new : SectorMap) : Type 0 where
  pub sectors : HasWholeTables p new
  pub whole : (s : ℕ) → Owns new w s → IsSector (new s)
  pub others : (s : ℕ) → p.first_data ≤ s → s < p.sectors → IsTrue (bit old p.block_bitmap s) → (Owns old v s → ⊥) → new s ≡ old s
  pub fresh : (s : ℕ) → Owns new w s → Owns old v s ⊎ IsFree p old s
  pub once : (s : ℕ) → (a b : Owns new w s) → a.at ≡ b.at
  -- what w owns is set; what is no longer set was v's; what is newly set is w's; what was v's and is set is w's
  pub taken : (s : ℕ) → s < map_bits p → Owns new w s → IsTrue (bit new p.block_bitmap s)
  pub released : (s : ℕ) → s < map_bits p → IsTrue (bit old p.block_bitmap s) → bit new p.block_bitmap s ≡ false → Owns old v s
  pub gained : (s : ℕ) → s < map_bits p → IsTrue (bit new p.block_bitmap s) → bit old p.block_bitmap s ≡ false → Owns new w s
  pub stayed : (s : ℕ) → s < map_bits p → IsTrue (bit new p.block_bitmap s) → Owns old v s → Owns new w s

-- that, and below the data only the block bitmap differs
pub record ChangesBlocks (p : Geometry) (v w : Inode) (old new : SectorMap) : Type 0 where
  pub owned : ChangesOwned p v w old new
  pub low : (s : ℕ) → s < p.first_data → (IsBlockMap p s → ⊥) → new s ≡ old s

-- inode n is written as v, and nothing else differs
pub record Saves (p : Geometry) (n : ℕ) (v : Inode) (old new : SectorMap) : Type 0 where
  pub here : new (p.table + n / 4) ≡ splice (old (p.table + n / 4)) (INODE_SIZE * (n % 4)) (inode_bytes v)
  pub others : (s : ℕ) → s ≢ p.table + n / 4 → new s ≡ old s

-- inode n changes with what it owns, and no other inode does
pub record ChangesInode (p : Geometry) (n : ℕ) (old new : SectorMap) : Type 0 where
  pub owned : ChangesOwned p (inode_at p old n) (inode_at p new n) old new
  pub valid : inode_of (stored p new n) ≡ Ok (inode_at p new n)
  pub table : (m : ℕ) → m < p.inodes → m ≢ n → stored p new m ≡ stored p old m
  pub inode_bits : (m : ℕ) → m < inode_map_bits p → m ≢ n → bit new p.inode_bitmap m ≡ bit old p.inode_bitmap m

-- of the inode bitmap no bit but that of inode n differs, and nothing else does
pub record MarksInode (p : Geometry) (n : ℕ) (old new : SectorMap) : Type 0 where
  pub sectors : HasWholeTables p new
  pub bits : (m : ℕ) → m < inode_map_bits p → m ≢ n → bit new p.inode_bitmap m ≡ bit old p.inode_bitmap m
  pub others : (s : ℕ) → (IsInodeMap p s → ⊥) → new s ≡ old s
