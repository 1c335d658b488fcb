-- What a request asks for, by its opcode and its body. A body may be longer than its form asks: what stands behind is of later
-- versions of the protocol, and isn't read. Only a value, or what is written, ends with the body.
--     first_number, first_handle        what a body begins with that has at least so many bytes
--     symlink_of to init_of        a body of this form
--     operation_of        the table of the opcodes
use Rattle.std.specs.Prelude.{ℕ, ◌+◌, ◌==◌, List, length, drop, nat_le, Option, Some, None, option_map, option_and_then, if◌then◌else◌}
use Rattle.std.specs.Int.RustNames.{bit_and}
use Rattle.fuse_protocol.specs.declared.opcode.TheConstants.{LOOKUP, FORGET, GETATTR, SETATTR, READLINK, SYMLINK, MKNOD, MKDIR, UNLINK, RMDIR, RENAME, LINK, OPEN, READ, WRITE, STATFS, RELEASE, FSYNC, SETXATTR, GETXATTR, LISTXATTR, REMOVEXATTR, INIT, OPENDIR, READDIR, RELEASEDIR, FSYNCDIR, ACCESS, CREATE, INTERRUPT, DESTROY, BATCH_FORGET, READDIRPLUS, RENAME2, SYNCFS}
use Rattle.fuse_protocol.specs.declared.operation.TheConstants.{FATTR_MODE, FATTR_UID, FATTR_GID, FATTR_SIZE, FATTR_ATIME, FATTR_MTIME, FATTR_FH, FATTR_ATIME_NOW, FATTR_MTIME_NOW}
use Rattle.fuse_protocol.specs.declared.operation.AttrChanges.{AttrChanges}
use Rattle.fuse_protocol.specs.declared.operation.Extent.{Extent}
use Rattle.fuse_protocol.specs.declared.operation.NewTime.{NewTime}
use Rattle.fuse_protocol.specs.declared.operation.NewTime.TheVariants.{Now, At}
use Rattle.fuse_protocol.specs.declared.operation.Operation.{Operation}
use Rattle.fuse_protocol.specs.declared.operation.Operation.TheVariants.{Lookup, Forget, GetAttr, SetAttr, ReadLink, SymLink, MkNod, MkDir, Unlink, RmDir, Rename, Link, Open, Read, Write, StatFs, Release, FSync, SetXAttr, GetXAttr, ListXAttr, RemoveXAttr, Init, OpenDir, ReadDir, ReadDirPlus, ReleaseDir, FSyncDir, Access, Create, Interrupt, Destroy, BatchForget, SyncFs, Unknown}
use Rattle.fuse_protocol.specs.Bytes.{word_at, long_at}
use Rattle.fuse_protocol.specs.Forgets.{forget_count, batch_of}
use Rattle.fuse_protocol.specs.Names.{text_of, name_from}

-- a value, where the body has at least so many bytes
abbrev pub where_long : {X : Type 0} → List ℕ → ℕ → X → Option X
where_long s size x = if nat_le size (length s) then Some x else None

abbrev pub first_number : List ℕ → ℕ → Option ℕ
first_number s size = where_long s size (word_at s 0)

abbrev pub first_handle : List ℕ → ℕ → Option ℕ
first_handle s size = where_long s size (long_at s 0)

-- ---- names

-- what is said with the name at an offset; and with the two names from there on
abbrev pub with_name : List ℕ → ℕ → (List ℕ → Operation) → Option Operation
with_name s at f = option_map f (name_from s at)

abbrev pub with_two_names : List ℕ → ℕ → (List ℕ → List ℕ → Operation) → Option Operation
with_two_names s at f = option_and_then (λ name. with_name s (at + length name + 1) (f name)) (name_from s at)

-- the name of the link, then its target
abbrev pub symlink_of : List ℕ → Option Operation
symlink_of s = option_and_then (λ name. option_map (SymLink name) (text_of s (length name + 1))) (name_from s 0)

-- mode, device, umask
abbrev pub make_node_of : List ℕ → Option Operation
make_node_of s = with_name s 16 (λ name. MkNod name (word_at s 0) (word_at s 8))

-- mode, umask
abbrev pub make_directory_of : List ℕ → Option Operation
make_directory_of s = with_name s 8 (λ name. MkDir name (word_at s 0) (word_at s 4))

-- the new directory
abbrev pub rename_of : List ℕ → Option Operation
rename_of s = with_two_names s 8 (λ name new_name. Rename name (long_at s 0) new_name 0)

-- the new directory, flags
abbrev pub rename_with_flags_of : List ℕ → Option Operation
rename_with_flags_of s = with_two_names s 16 (λ name new_name. Rename name (long_at s 0) new_name (word_at s 8))

-- the node that gets the name
abbrev pub link_of : List ℕ → Option Operation
link_of s = with_name s 8 (λ name. Link (long_at s 0) name)

-- flags, mode, umask
abbrev pub create_of : List ℕ → Option Operation
create_of s = with_name s 16 (λ name. Create name (record { 0 = word_at s 0 }) (word_at s 4) (word_at s 8))

-- ---- attributes

-- a value that counts only where a flag is set
abbrev pub where_set : {X : Type 0} → ℕ → ℕ → X → Option X
where_set valid flag x = if bit_and valid flag == 0 then None else Some x

-- the present time where the flag is set, or the one whose parts stand at these offsets
abbrev pub new_time : List ℕ → ℕ → ℕ → ℕ → NewTime
new_time s now seconds nanoseconds = if bit_and (word_at s 0) now == 0 then At (long_at s seconds) (word_at s nanoseconds) else Now

unfoldable pub attr_changes : List ℕ → AttrChanges
attr_changes s = record {
  mode = where_set (word_at s 0) FATTR_MODE (word_at s 68);
  uid = where_set (word_at s 0) FATTR_UID (word_at s 76);
  gid = where_set (word_at s 0) FATTR_GID (word_at s 80);
  size = where_set (word_at s 0) FATTR_SIZE (long_at s 16);
  atime = where_set (word_at s 0) FATTR_ATIME (new_time s FATTR_ATIME_NOW 32 56);
  mtime = where_set (word_at s 0) FATTR_MTIME (new_time s FATTR_MTIME_NOW 40 60);
  handle = where_set (word_at s 0) FATTR_FH (long_at s 8);
}

abbrev pub set_attr_of : List ℕ → Option Operation
set_attr_of s = where_long s 88 (SetAttr (attr_changes s))

-- the value's size, then the name; the value is the rest
abbrev pub with_value : List ℕ → List ℕ → List ℕ → Option Operation
with_value s name value = if length value == word_at s 0 then Some (SetXAttr name value) else None

abbrev pub set_xattr_of : List ℕ → Option Operation
set_xattr_of s = option_and_then (λ name. with_value s name (drop (8 + length name + 1) s)) (text_of s 8)

abbrev pub get_xattr_of : List ℕ → Option Operation
get_xattr_of s = option_map (λ name. GetXAttr name (word_at s 0)) (text_of s 8)

-- ---- what is open

abbrev pub extent_of : List ℕ → Option Extent
extent_of s = where_long s 40 (record { handle = long_at s 0; offset = long_at s 8; size = word_at s 16 })

-- what is written is the rest, and has the size
abbrev pub write_with : Extent → List ℕ → Option Operation
write_with x bytes = if length bytes == x.size then Some (Write x.handle x.offset bytes) else None

abbrev pub write_of : List ℕ → Option Operation
write_of s = option_and_then (λ x. write_with x (drop 40 s)) (extent_of s)

-- ---- the rest

-- the version, the most that is read ahead, flags
abbrev pub init_of : List ℕ → Option Operation
init_of s = where_long s 16 (Init (record { major = word_at s 0; minor = word_at s 4; max_readahead = word_at s 8; flags = record { 0 = word_at s 12 } }))

-- ---- the table

-- An operation of an opcode that isn't in the table is unknown, whatever its body. Nothing is told back of a FORGET, a
-- BATCH_FORGET and an INTERRUPT, whatever the body of these.
unfoldable pub other_operation : ℕ → List ℕ → Option Operation
other_operation code s =
    if code == FORGET then Some (Forget (forget_count s)) else
    (if code == STATFS then Some StatFs else
    (if code == INIT then init_of s else
    (if code == INTERRUPT then Some Interrupt else
    (if code == DESTROY then Some Destroy else
    (if code == BATCH_FORGET then Some (BatchForget (batch_of s)) else
    (if code == SYNCFS then where_long s 8 SyncFs else
    Some Unknown))))))

unfoldable pub handle_operation : ℕ → List ℕ → Option Operation
handle_operation code s =
    if code == READ then option_map Read (extent_of s) else
    (if code == WRITE then write_of s else
    (if code == RELEASE then option_map Release (first_handle s 24) else
    (if code == FSYNC then option_map FSync (first_handle s 16) else
    (if code == READDIR then option_map ReadDir (extent_of s) else
    (if code == READDIRPLUS then option_map ReadDirPlus (extent_of s) else
    (if code == RELEASEDIR then option_map ReleaseDir (first_handle s 24) else
    (if code == FSYNCDIR then where_long s 16 FSyncDir else
    other_operation code s)))))))

unfoldable pub object_operation : ℕ → List ℕ → Option Operation
object_operation code s =
    if code == GETATTR then where_long s 16 GetAttr else
    (if code == SETATTR then set_attr_of s else
    (if code == READLINK then Some ReadLink else
    (if code == OPEN then option_map (λ flags. Open (record { 0 = flags })) (first_number s 8) else
    (if code == SETXATTR then set_xattr_of s else
    (if code == GETXATTR then get_xattr_of s else
    (if code == LISTXATTR then option_map ListXAttr (first_number s 8) else
    (if code == REMOVEXATTR then option_map RemoveXAttr (text_of s 0) else
    (if code == OPENDIR then where_long s 8 OpenDir else
    (if code == ACCESS then option_map Access (first_number s 8) else
    handle_operation code s)))))))))

unfoldable pub operation_of : ℕ → List ℕ → Option Operation
operation_of code s =
    if code == LOOKUP then with_name s 0 Lookup else
    (if code == SYMLINK then symlink_of s else
    (if code == MKNOD then make_node_of s else
    (if code == MKDIR then make_directory_of s else
    (if code == UNLINK then with_name s 0 Unlink else
    (if code == RMDIR then with_name s 0 RmDir else
    (if code == RENAME then rename_of s else
    (if code == RENAME2 then rename_with_flags_of s else
    (if code == LINK then link_of s else
    (if code == CREATE then create_of s else
    object_operation code s)))))))))
