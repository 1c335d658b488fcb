-- The bytes of a directory's entry.
--     directory_entry_bytes, entry_size        as READDIR tells it
--     directory_record_bytes, record_size        as READDIRPLUS does, with what a look-up of its name tells
use Rattle.std.specs.Prelude.{ℕ, ◌+◌, ◌-◌, ◌%◌, List, [], ◌∷◌, ◌++◌, length, Option, None, Some}
use Rattle.fuse_protocol.specs.declared.entry.DirectoryEntry.{DirectoryEntry}
use Rattle.fuse_protocol.specs.declared.entry.DirectoryRecord.{DirectoryRecord}
use Rattle.fuse_protocol.specs.declared.entry.EntryKind.{EntryKind}
use Rattle.fuse_protocol.specs.declared.entry.EntryKind.TheVariants as kinds
use Rattle.fuse_protocol.specs.declared.reply.FoundEntry.{FoundEntry}
use Rattle.fuse_protocol.specs.Bytes.{bytes_of_u32s, bytes_of_u64s, zeros_of}
use Rattle.fuse_protocol.specs.Replies.{entry_reply_bytes, absent_bytes}

-- as readdir(3) numbers kinds
abbrev pub entry_kind_number : EntryKind → ℕ
entry_kind_number kinds.Unknown = 0
entry_kind_number kinds.Directory = 4
entry_kind_number kinds.File = 8
entry_kind_number kinds.Link = 10

-- so many bytes are missing to a multiple of 8
abbrev pub padding : ℕ → ℕ
padding name = (8 - name % 8) % 8

abbrev pub entry_size : ℕ → ℕ
entry_size name = 24 + name + padding name

-- inode, offset of the next, length of the name, kind, name, zeros
unfoldable pub directory_entry_bytes : DirectoryEntry → List ℕ
directory_entry_bytes e =
    bytes_of_u64s (e.ino ∷ e.next ∷ [])
    ++ (bytes_of_u32s (length e.name ∷ entry_kind_number e.kind ∷ []) ++ (e.name ++ zeros_of (padding (length e.name))))

-- ---- with what a look-up tells

-- 128 bytes before the entry
abbrev pub record_size : ℕ → ℕ
record_size name = 128 + entry_size name

-- as LOOKUP tells it; the node is 0 where nothing is found
abbrev pub found_bytes : Option FoundEntry → List ℕ
found_bytes None = absent_bytes 0
found_bytes (Some f) = entry_reply_bytes f

unfoldable pub directory_record_bytes : DirectoryRecord → List ℕ
directory_record_bytes r = found_bytes r.found ++ directory_entry_bytes r.entry
