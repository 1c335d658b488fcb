-- Laws that functions without a body prove: numbers and structures as bytes, header sectors of new disks, what a recovered image is, what changing one inode
-- leaves alone, and what maps, a directory's names and stored ACLs are.
use Rattle.std.specs.Prelude.{ℕ, ◌+◌, ◌<◌, ◌≤◌, ◌^◌, ◌≡◌, ◌≢◌, List, length, map, get_or, Option, None, Some, Result, Ok, All, Contains, ◌↔◌, true, false}
use Rattle.std.specs.List.{range_with_len}
use Rattle.std.specs.declared.cmp.Ordering.{Ordering}
use Rattle.posix_acl.specs.AccessList.{AccessList, IsAcl, IsSomeAcl, list_numbers, mode_bits}
use Rattle.fs_layout.specs.declared.fault.LayoutFault.{LayoutFault}
use Rattle.fs_layout.specs.declared.inode.Inode.{Inode}
use Rattle.fs_layout.specs.declared.geometry.Geometry.{Geometry}
use Rattle.fs_layout.specs.declared.version.Version.{Version}
use Rattle.fs_layout.specs.declared.version.Version.TheVariants.{Three}
use Rattle.fs_layout.specs.Geometry.{allows_header, are_in_range, least_header, new_header}
use Rattle.fs_layout.specs.Version.{slot_size, max_names, max_directory_size}
use Rattle.fs_layout.specs.Bytes.{IsBytes, IsSector, SectorMap, splice, window}
use Rattle.fs_layout.specs.Inode.{FitsInode}
use Rattle.fs_layout.specs.Directories.{NamedInode, FitsSlot, slot_bytes, slots_bytes, slot_of}
use Rattle.fs_layout.specs.AclSector.{FitsAclSector, acl_sector_of}
use Rattle.fs_layout.specs.Images.{inode_at, pointer}
use Rattle.fs_layout.specs.Ownership.{IsConsistent, Agrees}
use Rattle.fs_layout.specs.InodeChanges.{Keeps, ChangesBlocks, ChangesInode, Saves}
use Rattle.fs_layout.specs.Commit.{IsCommit, IsValidCommit, named_start}
use Rattle.fs_layout.specs.Header.{header_of}
use Rattle.fs_layout.specs.Recovered.{recovered}
use Rattle.fs_layout.specs.Maps.{name_cmp, get, with_entry, without, IsMap}
use Rattle.fs_layout.specs.Directories.{names_of_slots, HaveDistinctNames, slot_count, stored_slot, slot_at, HasNames}
use Rattle.fs_layout.specs.AclSector.{acl_content, HoldsAcl, kept_acl}

-- numbers of n bytes: one that is read is written as the bytes that it was read from, and one that is written is read
pub record AreNumbersAsBytes (n : ℕ) (bytes : ℕ → List ℕ) (number : List ℕ → ℕ → ℕ) : Type 0 where
  pub written : (s : List ℕ) (at : ℕ) → IsBytes s → at + n ≤ length s → bytes (number s at) ≡ window s at n
  pub read : (s : List ℕ) (at x : ℕ) → at + n ≤ length s → x < 256 ^ n → number (splice s at (bytes x)) at ≡ x

-- Values that are written as n bytes: each that fits is read again, from these bytes alone and from wherever they are written.
pub record AreReadAgain {V : Type 0} (n : ℕ) (Fits : V → Type 0) (bytes : V → List ℕ) (read : List ℕ → Result V LayoutFault) : Type 0 where
  pub alone : (v : V) → Fits v → read (bytes v) ≡ Ok v
  pub within : (s : List ℕ) (at : ℕ) (v : V) → at + n ≤ length s → Fits v → read (window (splice s at (bytes v)) at n) ≡ Ok v

-- on a disk of so many sectors a target has its log sector's content, and each other sector its own
pub record IsRecovery (size : ℕ) : Type 0 where
  pub target : (image : SectorMap) (targets : List ℕ) (k : ℕ) → IsCommit size image targets → k < length targets
      → recovered size image (get_or targets k 0) ≡ image (named_start image + header_of (image 0) + k)
  pub other : (image : SectorMap) (targets : List ℕ) (s : ℕ) → IsCommit size image targets → (Contains targets s → ⊥)
      → recovered size image s ≡ image s
  pub invalid : (image : SectorMap) (s : ℕ) → (IsValidCommit size image → ⊥) → recovered size image s ≡ image s

-- on each disk whose size fits 32 bits
abbrev pub RecoversEach : Type 0
RecoversEach = (size : ℕ) → size < 2 ^ 32 → IsRecovery size

-- A disk of this version, with numbers in their ranges, may have as many header sectors as a new one has, and none has fewer than the
-- fewest.
pub record AllowsNewHeader (version : Version) (sectors inodes : ℕ) : Type 0 where
  pub allowed : allows_header version (new_header version sectors inodes) sectors inodes ≡ true
  pub least : (header : ℕ) → header < least_header sectors inodes → allows_header Three header sectors inodes ≡ false

abbrev pub NewHeadersAreAllowed : Type 0
NewHeadersAreAllowed =
    (version : Version) (sectors inodes : ℕ) → are_in_range version sectors inodes ≡ true → AllowsNewHeader version sectors inodes

-- In a consistent image, where inode n changes with what it owns, the image stays consistent, and each other inode is
-- the same with all that it owns.
pub record LeavesOthers (p : Geometry) (n : ℕ) (old new : SectorMap) : Type 0 where
  pub consistent : IsConsistent p new
  pub others : (m : ℕ) → m < p.inodes → m ≢ n → inode_at p new m ≡ inode_at p old m
  pub kept : (m : ℕ) → m < p.inodes → m ≢ n → Keeps old new (inode_at p old m)

abbrev pub OneInodeChanges : Type 0
OneInodeChanges =
    (p : Geometry) (n : ℕ) (old new : SectorMap) → IsConsistent p old → n < p.inodes → ChangesInode p n old new → LeavesOthers p n old new

-- Where the blocks of an inode change and then the inode is saved, one inode changes, and it is the one that was saved.
abbrev pub SavingEnds : Type 0
SavingEnds =
    (p : Geometry) (n : ℕ) (w : Inode) (old mid new : SectorMap) → IsConsistent p old → n < p.inodes → FitsInode w
    → ChangesBlocks p (inode_at p old n) w old mid → Saves p n w mid new → ChangesInode p n old new × (inode_at p new n ≡ w)

-- What a consistent image is rests on its tables and on the data sectors that are used alone.
abbrev pub RestsOnUsed : Type 0
RestsOnUsed = (p : Geometry) (old new : SectorMap) → IsConsistent p old → Agrees p old new → IsConsistent p new

-- There is a consistent image.
abbrev pub SomeConsistent : Type 0
SomeConsistent = (p : Geometry) × (image : SectorMap) × IsConsistent p image

-- Finite maps with keys in this order: an entry that is set or removed is no longer what it was, each other one is; and a
-- map is what it has at each key.
pub record HaveEntries {K : Type 0} (X : Type 0) (R : K → K → Ordering) : Type 0 where
  pub here : (m : List (K × X)) (k : K) (x : X) → get R (with_entry R m k x) k ≡ Some x
  pub others : (m : List (K × X)) (k q : K) (x : X) → q ≢ k → get R (with_entry R m k x) q ≡ get R m q
  pub gone : (m : List (K × X)) (k : K) → get R (without R m k) k ≡ None
  pub left : (m : List (K × X)) (k q : K) → q ≢ k → get R (without R m k) q ≡ get R m q
  pub with_is : (m : List (K × X)) (k : K) (x : X) → IsMap R m → IsMap R (with_entry R m k x)
  pub without_is : (m : List (K × X)) (k : K) → IsMap R m → IsMap R (without R m k)
  pub more : (m : List (K × X)) (k : K) (x : X) → IsMap R m → get R m k ≡ None → length (with_entry R m k x) ≡ length m + 1
  pub fewer : (m : List (K × X)) (k : K) (x : X) → IsMap R m → get R m k ≡ Some x → length m ≡ length (without R m k) + 1
  pub one : (m n : List (K × X)) → IsMap R m → IsMap R n → ((q : K) → get R m q ≡ get R n q) → m ≡ n

-- The names of slots, none of which stands twice, are a map with an entry for each slot.
pub record AreNamesOf (slots : List NamedInode) : Type 0 where
  pub map_is : IsMap name_cmp (names_of_slots slots)
  pub count : length (names_of_slots slots) ≡ length slots
  pub each : (name : List ℕ) (n : ℕ)
      → (get name_cmp (names_of_slots slots) name ≡ Some n) ↔ Contains slots (record { ino = n; name = name })

-- In each version a name fits its slot, and so do as many slots as a directory has names the bytes of the largest one.
pub record SlotsHoldNames (version : Version) : Type 0 where
  pub slot : (x : NamedInode) → FitsSlot version x → length (slot_bytes version x) ≡ slot_size version
  pub slots : (slots : List NamedInode) → All (FitsSlot version) slots → length slots ≤ max_names version
      → length (slots_bytes version slots) ≤ max_directory_size version

abbrev pub SlotsHaveNames : Type 0
SlotsHaveNames = (slots : List NamedInode) → HaveDistinctNames slots → AreNamesOf slots

-- A directory has one map of names,
abbrev pub OneMapOfNames : Type 0
OneMapOfNames =
    (version : Version) (image : SectorMap) (v : Inode) (names others : List (List ℕ × ℕ))
    → HasNames version image v names → HasNames version image v others → names ≡ others

-- which its slots say, each read by itself, where the sectors of its blocks are whole,
pub record AreRead (version : Version) (image : SectorMap) (v : Inode) (names : List (List ℕ × ℕ)) : Type 0 where
  pub each : (k : ℕ) → k < slot_count version v → slot_of version (stored_slot version image v k) ≡ Ok (slot_at version image v k)
  pub apart : (j k : ℕ) → j < k → k < slot_count version v → (slot_at version image v j).name ≢ (slot_at version image v k).name
  pub are : names ≡ names_of_slots (map (slot_at version image v) (range_with_len 0 (slot_count version v)))

abbrev pub NamesAreRead : Type 0
NamesAreRead =
    (version : Version) (image : SectorMap) (v : Inode) (names : List (List ℕ × ℕ)) → HasNames version image v names
    → ((k : ℕ) → pointer image v k ≢ 0 → IsSector (image (pointer image v k))) → AreRead version image v names

-- and which stays where the sectors that it owns stay.
abbrev pub NamesStay : Type 0
NamesStay =
    (version : Version) (old new : SectorMap) (v : Inode) (names : List (List ℕ × ℕ))
    → Keeps old new v → HasNames version old v names → HasNames version new v names

-- A valid ACL has a sector of its own.
pub record HasSector (a : AccessList) : Type 0 where
  pub whole : IsSector (acl_content a)
  pub fits : FitsAclSector (list_numbers a)
  pub read : acl_sector_of (acl_content a) ≡ Ok (list_numbers a)
  pub one : (b : AccessList) → IsAcl b → acl_content b ≡ acl_content a → b ≡ a

abbrev pub AclsHaveSectors : Type 0
AclsHaveSectors = (a : AccessList) → IsAcl a → HasSector a

-- So a sector holds one ACL or none,
abbrev pub HoldsOneAcl : Type 0
HoldsOneAcl =
    (image : SectorMap) (s : ℕ) (x y : Option AccessList) → IsSomeAcl x → IsSomeAcl y → HoldsAcl image s x → HoldsAcl image s y → x ≡ y

-- and the sector of an access ACL tells it, together with the mode bits.
abbrev pub ModeTellsTheRest : Type 0
ModeTellsTheRest =
    (image : SectorMap) (s : ℕ) (a b : AccessList) → IsAcl a → IsAcl b → mode_bits a ≡ mode_bits b
    → HoldsAcl image s (kept_acl a) → HoldsAcl image s (kept_acl b) → a ≡ b
