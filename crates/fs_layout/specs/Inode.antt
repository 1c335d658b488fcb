-- An inode, 128 bytes in the inode table: its bytes, and what bytes are read as.
use Rattle.std.specs.Prelude.{ℕ, zero, suc, ◌<◌, ◌^◌, ◌≡◌, ◌%◌, ◌++◌, List, length, get_or, Result, Ok, Err, Option, Some, None, Bool, true, nat_eq, nat_le, if◌then◌else◌, ◌&&◌, IsTrue}
use Rattle.fs_layout.specs.declared.inode.Kind.{Kind}
use Rattle.fs_layout.specs.declared.inode.Kind.TheVariants.{Free, File, Directory, Link}
use Rattle.fs_layout.specs.declared.inode.Inode.{Inode}
use Rattle.fs_layout.specs.declared.fault.LayoutFault.{LayoutFault}
use Rattle.fs_layout.specs.declared.fault.LayoutFault.TheVariants.{BadKind, BadNumber, NotZero}
use Rattle.fs_layout.specs.declared.inode.TheConstants.{DIRECT_BLOCKS, POINTER_LEVELS, MAX_FILE_SIZE, MAX_DIRECTORY_SIZE, MAX_LINK_SIZE, OLDER_FILE_SIZE, OLDER_DIRECTORY_SIZE}
use Rattle.fs_layout.specs.declared.inode.TheConstants.Inode.{FREE}
use Rattle.fs_layout.specs.declared.slot.TheConstants.{SLOT_SIZE}
use Rattle.fs_layout.specs.Bytes.{le16, le32, le64, le32s, zeros, u16_of, u32_of, u64_of, u32s_of, are_zero, window}

abbrev pub kind_number : Kind → ℕ
kind_number Free = 0
kind_number File = 1
kind_number Directory = 2
kind_number Link = 3

abbrev pub kind_of : ℕ → Option Kind
kind_of zero = Some Free
kind_of (suc zero) = Some File
kind_of (suc (suc zero)) = Some Directory
kind_of (suc (suc (suc zero))) = Some Link
kind_of (suc (suc (suc (suc n)))) = None

-- the times, with zeros after them
abbrev pub times_bytes : Inode → List ℕ
times_bytes v = le64 v.mtime ++ (le64 v.ctime ++ (le64 v.atime ++ zeros 8))

-- the fields one after the other
abbrev pub inode_bytes : Inode → List ℕ
inode_bytes v =
    le16 (kind_number v.kind) ++ (le16 v.mode ++ (le32 v.uid ++ (le32 v.gid ++ (le32 v.names ++ (le64 v.size
    ++ (le32 v.parent ++ (le32 v.acl ++ (le32 v.default_acl ++ (le32s v.direct ++ (le32s v.indirect ++ times_bytes v))))))))))

-- mode and size are in the range of the kind, in the version that allows most
abbrev pub numbers_fit : Kind → ℕ → ℕ → Bool
numbers_fit Free mode size = true
numbers_fit File mode size = nat_le mode 0o777 && nat_le size MAX_FILE_SIZE
numbers_fit Directory mode size = (nat_le mode 0o3777 && nat_le size MAX_DIRECTORY_SIZE) && nat_eq (size % SLOT_SIZE) 0
numbers_fit Link mode size = (nat_eq mode 0o777 && nat_le 1 size) && nat_le size MAX_LINK_SIZE

unfoldable pub inode_fits : Inode → Bool
inode_fits v = numbers_fit v.kind v.mode v.size

-- an inode that nothing uses
abbrev pub free_inode : Inode
free_inode = FREE

-- what its kind asks of an inode
pub record IsInode (v : Inode) : Type 0 where
  pub numbers : IsTrue (inode_fits v)
  pub free : v.kind ≡ Free → v ≡ free_inode

-- that, and each number fits its field
pub record FitsInode (v : Inode) : Type 0 where
  pub valid : IsInode v
  pub mode : v.mode < 2 ^ 16
  pub uid : v.uid < 2 ^ 32
  pub gid : v.gid < 2 ^ 32
  pub names : v.names < 2 ^ 32
  pub size : v.size < 2 ^ 64
  pub parent : v.parent < 2 ^ 32
  pub acl : v.acl < 2 ^ 32
  pub default_acl : v.default_acl < 2 ^ 32
  pub direct_len : length v.direct ≡ DIRECT_BLOCKS
  pub direct : (i : ℕ) → get_or v.direct i 0 < 2 ^ 32
  pub indirect_len : length v.indirect ≡ POINTER_LEVELS
  pub indirect : (level : ℕ) → get_or v.indirect level 0 < 2 ^ 32
  pub mtime : v.mtime < 2 ^ 64
  pub ctime : v.ctime < 2 ^ 64
  pub atime : v.atime < 2 ^ 64

abbrev pub fields_of : Kind → List ℕ → Inode
fields_of kind s = record {
  kind = kind;
  mode = u16_of s 2;
  uid = u32_of s 4;
  gid = u32_of s 8;
  names = u32_of s 12;
  size = u64_of s 16;
  parent = u32_of s 24;
  acl = u32_of s 28;
  default_acl = u32_of s 32;
  direct = u32s_of s 36 DIRECT_BLOCKS;
  indirect = u32s_of s 84 POINTER_LEVELS;
  mtime = u64_of s 96;
  ctime = u64_of s 104;
  atime = u64_of s 112;
}

-- the bytes of no field are zero: of a free inode all of them, of another one those after its times
abbrev pub gaps_are_zero : Kind → List ℕ → Bool
gaps_are_zero Free s = are_zero s
gaps_are_zero File s = are_zero (window s 120 8)
gaps_are_zero Directory s = are_zero (window s 120 8)
gaps_are_zero Link s = are_zero (window s 120 8)

-- and in versions 1 and 2 those of the triple indirect sector and of the times too
abbrev pub older_gaps_are_zero : Kind → List ℕ → Bool
older_gaps_are_zero kind s = gaps_are_zero kind s && are_zero (window s 92 36)

-- an inode has no more bytes than versions 1 and 2 allow
abbrev pub is_small : Kind → ℕ → Bool
is_small Free size = true
is_small File size = nat_le size OLDER_FILE_SIZE
is_small Directory size = nat_le size OLDER_DIRECTORY_SIZE
is_small Link size = true

-- mode and size are in the range of the kind in versions 1 and 2
unfoldable pub older_inode_fits : Inode → Bool
older_inode_fits v = inode_fits v && is_small v.kind v.size

-- that, each number fits its field, there is no triple indirect sector, and no time is known
pub record FitsOlderInode (v : Inode) : Type 0 where
  pub fields : FitsInode v
  pub older : IsTrue (older_inode_fits v)
  pub triple_indirect : get_or v.indirect 2 0 ≡ 0
  pub mtime : v.mtime ≡ 0
  pub ctime : v.ctime ≡ 0
  pub atime : v.atime ≡ 0

-- the inode of this kind that bytes are, if it fits and they are zero where they have to be, or the first fault
abbrev pub inode_if : (Inode → Bool) → (Kind → List ℕ → Bool) → Option Kind → List ℕ → Result Inode LayoutFault
inode_if fits zero_in None s = Err BadKind
inode_if fits zero_in (Some kind) s =
    if fits (fields_of kind s) then
    (if zero_in kind s then Ok (fields_of kind s) else Err NotZero)
    else Err BadNumber

-- the inode that 128 bytes are, or the first fault
unfoldable pub inode_of : List ℕ → Result Inode LayoutFault
inode_of s = inode_if inode_fits gaps_are_zero (kind_of (u16_of s 0)) s

-- the inode that they are in versions 1 and 2, or the first fault
unfoldable pub older_inode_of : List ℕ → Result Inode LayoutFault
older_inode_of s = inode_if older_inode_fits older_gaps_are_zero (kind_of (u16_of s 0)) s
