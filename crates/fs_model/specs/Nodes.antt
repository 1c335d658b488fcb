-- Files, directories and symbolic links, each by itself: POSIX.1-2017, Base Definitions (File, Directory, Symbolic Link),
-- and acl(5).
--     Directory, Body, Node        an object
--     no_stamps, stamped        times that aren't known; times of which some are set
--     is_directory, is_link, acl_in, names_of_body, bytes_in, ..        what a body has
--     with_acl, with_names, with_bytes, ..        a body with something else in it
--     accessed        what an access decision reads of it
--     type_of, shown_mode, shown_size        what stat(2) shows of it
--     sectors_of        the sectors that it takes, without holes
use Rattle.std.specs.Prelude.{ℕ, zero, suc, ◌+◌, ◌-◌, ◌*◌, ◌/◌, Bool, true, false, List, [], length, if◌then◌else◌, Option, None, Some, is_some, unwrap_or}
use Rattle.posix_acl.specs.AccessList.{AccessList, is_extended, mode_bits}
use Rattle.fs_cred.specs.declared.node.Node.{Node as AccessNode}
use Rattle.fs_cred.specs.declared.node.NodeKind.TheVariants.{File as FileKind, Directory as DirectoryKind}
use Rattle.fs_model.specs.declared.reply.Stamps.{Stamps}
use Rattle.fs_model.specs.declared.reply.FileType.{FileType}
use Rattle.fs_model.specs.declared.reply.FileType.TheVariants.{File as FileT, Directory as DirectoryT, Link as LinkT}
use Rattle.fs_layout.specs.declared.inode.TheConstants.{SECTOR_POINTERS, S_ISGID, S_ISVTX}
use Rattle.fs_layout.specs.declared.slot.TheConstants.{SLOT_SIZE}
use Rattle.fs_layout.specs.Images.{own_count}

-- a directory's names with their inode numbers, its default ACL, S_ISGID and S_ISVTX
pub record Directory : Type 0 where
  pub names : List (List ℕ × ℕ)
  pub default : Option AccessList
  pub set_group_id : Bool
  pub sticky : Bool

-- a file with its access ACL and its bytes, a directory with its access ACL, or a link with its target
pub data Body : Type 0 where
  File : AccessList → List ℕ → Body
  Dir : AccessList → Directory → Body
  Link : List ℕ → Body

pub record Node : Type 0 where
  pub owner : ℕ
  pub group : ℕ
  pub body : Body
  pub stamps : Stamps

abbrev pub no_stamps : Stamps
no_stamps = record { atime = 0; mtime = 0; ctime = 0 }

-- the times that are given are set, the others stay
abbrev pub stamped : Option ℕ → Option ℕ → Option ℕ → Stamps → Stamps
stamped atime mtime ctime x =
    record { atime = unwrap_or atime x.atime; mtime = unwrap_or mtime x.mtime; ctime = unwrap_or ctime x.ctime }

abbrev pub directory_in : Body → Option Directory
directory_in (Dir _ d) = Some d
directory_in _ = None

abbrev pub is_directory : Body → Bool
is_directory b = is_some (directory_in b)

abbrev pub is_link : Body → Bool
is_link (Link _) = true
is_link _ = false

abbrev pub acl_in : Body → Option AccessList
acl_in (File a _) = Some a
acl_in (Dir a _) = Some a
acl_in (Link _) = None

abbrev pub default_in : Body → Option AccessList
default_in (Dir _ d) = d.default
default_in _ = None

abbrev pub names_of_body : Body → List (List ℕ × ℕ)
names_of_body (Dir _ d) = d.names
names_of_body _ = []

abbrev pub bytes_in : Body → List ℕ
bytes_in (File _ bytes) = bytes
bytes_in _ = []

abbrev pub target_in : Body → List ℕ
target_in (Link target) = target
target_in _ = []

abbrev pub with_acl : AccessList → Body → Body
with_acl a (File _ bytes) = File a bytes
with_acl a (Dir _ d) = Dir a d
with_acl a (Link target) = Link target

abbrev pub with_default : Option AccessList → Body → Body
with_default default (Dir a d) = Dir a (record d { default = default })
with_default default b = b

abbrev pub with_names : List (List ℕ × ℕ) → Body → Body
with_names names (Dir a d) = Dir a (record d { names = names })
with_names _ b = b

abbrev pub with_bytes : List ℕ → Body → Body
with_bytes bytes (File a _) = File a bytes
with_bytes _ b = b

-- Access is decided on files and directories; a link has no ACL.
abbrev pub accessed_body : ℕ → ℕ → Body → Option AccessNode
accessed_body owner group (File a _) = Some (record { kind = FileKind; owner = owner; group = group; acl = a })
accessed_body owner group (Dir a _) = Some (record { kind = DirectoryKind; owner = owner; group = group; acl = a })
accessed_body owner group (Link _) = None

abbrev pub accessed : Node → Option AccessNode
accessed node = accessed_body node.owner node.group node.body

abbrev pub type_of : Body → FileType
type_of (File _ _) = FileT
type_of (Dir _ _) = DirectoryT
type_of (Link _) = LinkT

-- the file mode bits of sys/stat.h; a link shows 0777
abbrev pub shown_mode : Body → ℕ
shown_mode (File a _) = mode_bits a
shown_mode (Dir a d) = mode_bits a + (if d.sticky then S_ISVTX else 0) + (if d.set_group_id then S_ISGID else 0)
shown_mode (Link _) = 511

-- our own rule for a directory: the bytes of the smallest slot for each name
abbrev pub shown_size : Body → ℕ
shown_size (File _ bytes) = length bytes
shown_size (Dir _ d) = SLOT_SIZE * length d.names
shown_size (Link target) = length target

-- how many numbers of a level so many bytes need without holes: a block for 512 bytes; and a sector of pointers for as many numbers of
-- the level below as it has, but the first stand in the inode
abbrev pub numbers_for : ℕ → ℕ → ℕ
numbers_for zero bytes = (bytes + 511) / 512
numbers_for (suc level) bytes = (numbers_for level bytes - own_count level + (SECTOR_POINTERS - 1)) / SECTOR_POINTERS

-- sectors of so many bytes without holes: the blocks, and three levels of sectors of pointers
abbrev pub sectors_for : ℕ → ℕ
sectors_for bytes = numbers_for 0 bytes + (numbers_for 1 bytes + (numbers_for 2 bytes + numbers_for 3 bytes))

-- an ACL that is more than mode bits takes a sector
abbrev pub acl_sectors : AccessList → ℕ
acl_sectors a = if is_extended a then 1 else 0

-- where a directory's slot takes so many bytes
abbrev pub sectors_of : ℕ → Body → ℕ
sectors_of slot (File a bytes) = sectors_for (length bytes) + acl_sectors a
sectors_of slot (Dir a d) = sectors_for (slot * length d.names) + acl_sectors a + (if is_some d.default then 1 else 0)
sectors_of slot (Link target) = 1
