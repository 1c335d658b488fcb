-- The checker's rules, each a predicate on an image, read from its bytes: our own layout.
--     IsGeometryOf        the first two: the superblock gives the disk this geometry; the commit is valid, as `IsValidCommit` says it
--     ImageRule, rule_number        the others, and their numbers; they speak of the recovered image
--     namings_in, namings        how many slots of one directory, and of all, name an inode
--     IsBit, IsAllowed, IsGoodInode, IsLaidOut, HasAcls, IsGoodSlot, HasNameCount, HasParent, GoesUp        what single rules ask
--     Obeys        an image obeys a rule at a number
--     ObeysAll, ObeysBefore        all rules at each number; those with a lower number than k
--     IsFinding        the first rule that fails, at its least number
use Rattle.std.specs.Prelude.{◌≡◌, ◌≢◌, ℕ, suc, ◌*◌, ◌%◌, ◌<◌, ◌≤◌, ◌==◌, nat_eq, nat_lt, nat_le, Bool, true, false, not, ◌||◌, List, get_or, if◌then◌else◌, Some, Ok, IsTrue, IsFalse, count_by, sum_by, ◌⊎◌, ◌↔◌}
use Rattle.std.specs.List.{range_with_len}
use Rattle.posix_acl.specs.AccessList.{AccessList, IsAcl, is_extended, list_numbers, mode_bits}
use Rattle.fs_layout.specs.declared.superblock.Super.{Super}
use Rattle.fs_layout.specs.declared.inode.Kind.{Kind}
use Rattle.fs_layout.specs.declared.inode.Kind.TheVariants as kinds
use Rattle.fs_layout.specs.declared.version.Version.{Version}
use Rattle.fs_layout.specs.declared.inode.Inode.{Inode}
use Rattle.fs_layout.specs.declared.geometry.Geometry.{Geometry}
use Rattle.fs_layout.specs.Bytes.{SectorMap, IsSector, u16_of}
use Rattle.fs_layout.specs.Superblock.{super_of}
use Rattle.fs_layout.specs.Commit.{IsValidCommit}
use Rattle.fs_layout.specs.Inode.{inode_of}
use Rattle.fs_layout.specs.AclSector.{acl_sector_of}
use Rattle.fs_layout.specs.Directories.{slot_count, stored_slot, slot_at, slot_of}
use Rattle.fs_layout.specs.Geometry.{geometry_in}
use Rattle.fs_layout.specs.Version.{max_file_size, max_inode_names, max_directory_size, slot_size, keeps_times}
use Rattle.fs_layout.specs.Images.{bit, inode_map_bits, map_bits, IsData, stored, inode_at, Owns, byte_at, first_block, IsTrimmed, HasNoHole}
use Rattle.fs_layout.specs.Ownership.{IsOwned}
use Rattle.fs_layout.specs.Recovered.{recovered}
use Rattle.fs_model.specs.Limits.{root}
use Rattle.fs_model.specs.Nodes.{no_stamps}
use Rattle.fs_model.specs.StoredStamps.{stamps_in}

-- ---- the superblock and the commit sector

-- Rule 1. The superblock is valid, it says that the disk has the sectors that it has, and gives it this geometry.
pub record IsGeometryOf (sectors : ℕ) (image : SectorMap) (p : Geometry) : Type 0 where
  pub super : Super
  pub super_is : super_of (image 0) ≡ Ok super
  pub same_size : super.sectors ≡ sectors
  pub has_geometry : geometry_in super.version super.header sectors super.inodes ≡ Some p

pub record HasGeometry (sectors : ℕ) (image : SectorMap) : Type 0 where
  pub geometry : Geometry
  pub is : IsGeometryOf sectors image geometry

-- ---- names

abbrev pub is_directory_kind : Kind → Bool
is_directory_kind kinds.Free = false
is_directory_kind kinds.File = false
is_directory_kind kinds.Directory = true
is_directory_kind kinds.Link = false

-- how many slots of an inode name n; none, if it is no directory
abbrev pub namings_in : Version → SectorMap → Inode → ℕ → ℕ
namings_in version m v n =
    if is_directory_kind v.kind then count_by (λ k. (slot_at version m v k).ino == n) (range_with_len 0 (slot_count version v)) else 0

-- how many slots of the disk name n
abbrev pub namings : Geometry → SectorMap → ℕ → ℕ
namings p m n = sum_by (λ d. namings_in p.version m (inode_at p m d) n) (range_with_len 0 p.inodes)

-- ---- what single rules ask

-- Rule 3. The bits of 0, of 1 and from the inode count on are set, any other exactly where the kind isn't 0.
abbrev pub IsBit : Geometry → SectorMap → ℕ → Type 0
IsBit p m n = bit m p.inode_bitmap n ≡ (nat_lt n 2 || nat_le p.inodes n || not (nat_eq (u16_of (stored p m n) 0) 0))

-- A file and a directory have at most the bytes that the version allows, a directory those of whole slots, and no inode names a sector
-- of pointers by which only blocks past those of the largest file are found, nor has it any times where none are kept.
pub record IsAllowed (version : Version) (v : Inode) : Type 0 where
  pub size : v.kind ≡ kinds.File → v.size ≤ max_file_size version
  pub indirect : (level : ℕ) → max_file_size version ≤ 512 * first_block (suc level) 0 → get_or v.indirect level 0 ≡ 0
  pub directory : v.kind ≡ kinds.Directory → v.size ≤ max_directory_size version
  pub slots : v.kind ≡ kinds.Directory → v.size % slot_size version ≡ 0
  pub stamps : IsFalse (keeps_times version) → stamps_in v ≡ no_stamps

-- Rule 4. The bytes are an inode: a free one, all zero, or one with a valid kind, mode and size, as the version allows it, and
-- zeros where nothing is kept; 0 is free, and 1 a directory.
pub record IsGoodInode (p : Geometry) (m : SectorMap) (n : ℕ) : Type 0 where
  pub is : inode_of (stored p m n) ≡ Ok (inode_at p m n)
  pub allowed : IsAllowed p.version (inode_at p m n)
  pub none : n ≡ 0 → (inode_at p m n).kind ≡ kinds.Free
  pub top : n ≡ root → (inode_at p m n).kind ≡ kinds.Directory

-- Rule 5. Each number of a block or of an ACL's sector is in the data area.
abbrev pub IsInData : Geometry → SectorMap → ℕ → Type 0
IsInData p m n = (s : ℕ) → Owns m (inode_at p m n) s → IsData p s

-- Rule 6. No sector is owned twice, by two inodes or by one for two things.
abbrev pub IsOwnedOnce : Geometry → SectorMap → ℕ → Type 0
IsOwnedOnce p m s =
    (j k : ℕ) → j < p.inodes → k < p.inodes → (a : Owns m (inode_at p m j) s) → (b : Owns m (inode_at p m k) s) → (j ≡ k) × (a.at ≡ b.at)

-- Rule 7. The bit is set exactly for a sector that is owned, below the data or past the end.
abbrev pub IsBlockBit : Geometry → SectorMap → ℕ → Type 0
IsBlockBit p m s = IsTrue (bit m p.block_bitmap s) ↔ ((s < p.first_data) ⊎ ((p.sectors ≤ s) ⊎ IsOwned p m s))

-- Rule 8. Past the size there is no block, no sector of pointers by which only such blocks are found, and no byte but zeros;
-- only files have holes; no byte of a link's target is zero.
pub record IsLaidOut (m : SectorMap) (v : Inode) : Type 0 where
  pub trim : IsTrimmed m v
  pub rest : (i : ℕ) → v.size ≤ i → byte_at m v i ≡ 0
  pub whole : v.kind ≢ kinds.File → HasNoHole m v
  pub target : v.kind ≡ kinds.Link → (i : ℕ) → i < v.size → byte_at m v i ≢ 0

-- a sector's content is a valid ACL in canonical order
pub record IsStoredAcl (content : List ℕ) (a : AccessList) : Type 0 where
  pub valid : IsAcl a
  pub entries : acl_sector_of content ≡ Ok (list_numbers a)

-- the sector of an access ACL: more than the three base entries, with the permission bits of the mode
pub record HasSomeAccessAcl (m : SectorMap) (v : Inode) : Type 0 where
  pub acl : AccessList
  pub stored : IsStoredAcl (m v.acl) acl
  pub more : IsTrue (is_extended acl)
  pub bits : mode_bits acl ≡ v.mode % 512

pub record HasSomeDefaultAcl (m : SectorMap) (v : Inode) : Type 0 where
  pub acl : AccessList
  pub stored : IsStoredAcl (m v.default_acl) acl

-- Rule 9. ACL sectors are valid, none on a link, and default ACLs on directories alone.
pub record HasAcls (m : SectorMap) (v : Inode) : Type 0 where
  pub access : v.acl ≢ 0 → HasSomeAccessAcl m v
  pub default : v.default_acl ≢ 0 → HasSomeDefaultAcl m v
  pub no_link : v.kind ≡ kinds.Link → v.acl ≡ 0
  pub only_directory : v.kind ≢ kinds.Directory → v.default_acl ≡ 0

-- Rule 10, of one slot. It is valid, and its inode is in use and isn't the root.
pub record IsGoodSlot (p : Geometry) (m : SectorMap) (v : Inode) (k : ℕ) : Type 0 where
  pub is : slot_of p.version (stored_slot p.version m v k) ≡ Ok (slot_at p.version m v k)
  pub below : (slot_at p.version m v k).ino < p.inodes
  pub used : (inode_at p m (slot_at p.version m v k).ino).kind ≢ kinds.Free
  pub not_root : (slot_at p.version m v k).ino ≢ root

-- Rule 11. No two slots have one name.
abbrev pub AreNamesApart : Version → SectorMap → Inode → Type 0
AreNamesApart version m v =
    (j k : ℕ) → j < k → k < slot_count version v → (slot_at version m v j).name ≢ (slot_at version m v k).name

-- Rule 12. The names field of a file or a link is the number of slots that name it, at most as many as the version allows, of a
-- link at least 1; that of a directory is 1, and one slot names it, the root none.
abbrev pub HasNameCount : Version → Kind → ℕ → ℕ → ℕ → Type 0
HasNameCount version kinds.Free n field count = Unit {0}
HasNameCount version kinds.File n field count = (field ≡ count) × (count ≤ max_inode_names version)
HasNameCount version kinds.Directory n field count = (field ≡ 1) × (count ≡ (if n == root then 0 else 1))
HasNameCount version kinds.Link n field count = (field ≡ count) × (1 ≤ count) × (count ≤ max_inode_names version)

-- Rule 13. The parent field of a directory is the one that names it, of the root it is the root, of any other inode 0.
pub record HasParent (p : Geometry) (m : SectorMap) (n : ℕ) : Type 0 where
  pub named : (inode_at p m n).kind ≡ kinds.Directory → n ≢ root → (inode_at p m n).parent < p.inodes
      × (1 ≤ namings_in p.version m (inode_at p m (inode_at p m n).parent) n)
  pub top : n ≡ root → (inode_at p m n).parent ≡ root
  pub none : (inode_at p m n).kind ≢ kinds.Directory → (inode_at p m n).parent ≡ 0

-- Rule 14. Going up by the parent fields reaches the root.
pub data GoesUp (p : Geometry) (m : SectorMap) : ℕ → Type 0 where
  at_root : GoesUp p m root
  above : (d : ℕ) → GoesUp p m (inode_at p m d).parent → GoesUp p m d

-- ---- all rules

-- the rules from the third on
pub data ImageRule : Type 0 where
  InodeBits Inodes InData OwnedOnce BlockBits LaidOut Acls Slots NamesApart Names Parents Ways : ImageRule

abbrev pub rule_number : ImageRule → ℕ
rule_number InodeBits = 3
rule_number Inodes = 4
rule_number InData = 5
rule_number OwnedOnce = 6
rule_number BlockBits = 7
rule_number LaidOut = 8
rule_number Acls = 9
rule_number Slots = 10
rule_number NamesApart = 11
rule_number Names = 12
rule_number Parents = 13
rule_number Ways = 14

-- The recovered image m of a disk with this geometry obeys the rule at a number: that of an inode, but for rule 3 of a bit,
-- for 6 of a sector and for 7 of a bit. Numbers out of range obey.
abbrev pub Obeys : Geometry → SectorMap → ImageRule → ℕ → Type 0
Obeys p m InodeBits n = n < inode_map_bits p → IsBit p m n
Obeys p m Inodes n = n < p.inodes → IsGoodInode p m n
Obeys p m InData n = n < p.inodes → IsInData p m n
Obeys p m OwnedOnce s = IsOwnedOnce p m s
Obeys p m BlockBits s = s < map_bits p → IsBlockBit p m s
Obeys p m LaidOut n = n < p.inodes → IsLaidOut m (inode_at p m n)
Obeys p m Acls n = n < p.inodes → HasAcls m (inode_at p m n)
Obeys p m Slots d = d < p.inodes → (inode_at p m d).kind ≡ kinds.Directory → (k : ℕ) → k < slot_count p.version (inode_at p m d)
    → IsGoodSlot p m (inode_at p m d) k
Obeys p m NamesApart d = d < p.inodes → (inode_at p m d).kind ≡ kinds.Directory → AreNamesApart p.version m (inode_at p m d)
Obeys p m Names n = n < p.inodes → HasNameCount p.version (inode_at p m n).kind n (inode_at p m n).names (namings p m n)
Obeys p m Parents n = n < p.inodes → HasParent p m n
Obeys p m Ways d = d < p.inodes → (inode_at p m d).kind ≡ kinds.Directory → GoesUp p m d

-- an image obeys the rule at each number
abbrev pub ObeysEach : Geometry → SectorMap → ImageRule → Type 0
ObeysEach p m r = (n : ℕ) → Obeys p m r n

-- an image obeys each rule below number k
abbrev pub ObeysBefore : Geometry → SectorMap → ℕ → Type 0
ObeysBefore p m k = (r : ImageRule) → rule_number r < k → ObeysEach p m r

-- the image of a disk of so many sectors obeys all rules
pub record ObeysAll (sectors : ℕ) (image : SectorMap) : Type 0 where
  pub geometry : Geometry
  pub is_geometry : IsGeometryOf sectors image geometry
  pub commit : IsValidCommit sectors image
  pub rules : (r : ImageRule) → ObeysEach geometry (recovered sectors image) r

-- at this number m fails the rule, at none before it
pub record IsLeastFailure (p : Geometry) (m : SectorMap) (r : ImageRule) (at : ℕ) : Type 0 where
  pub fails : Obeys p m r at → ⊥
  pub least : (n : ℕ) → n < at → Obeys p m r n

-- The first rule that fails, and the least number at which it does.
pub data IsFinding (sectors : ℕ) (image : SectorMap) : ℕ → ℕ → Type 0 where
  no_geometry : (HasGeometry sectors image → ⊥) → IsFinding sectors image 1 0
  no_commit : HasGeometry sectors image → (IsValidCommit sectors image → ⊥) → IsFinding sectors image 2 1
  fails : (p : Geometry) (r : ImageRule) (at : ℕ) → IsGeometryOf sectors image p → IsValidCommit sectors image
      → ObeysBefore p (recovered sectors image) (rule_number r) → IsLeastFailure p (recovered sectors image) r at
      → IsFinding sectors image (rule_number r) at

-- ---- the law

-- each sector of the disk has 512 bytes
abbrev pub HasWholeSectors : ℕ → SectorMap → Type 0
HasWholeSectors sectors image = (s : ℕ) → s < sectors → IsSector (image s)
