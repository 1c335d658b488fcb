-- Which bytes a reply is.
--     IsReply        its error is one that the kernel takes, and its size has 32 bits
--     body_bytes        the body
--     reply_bytes        header and body
use Rattle.std.specs.Prelude.{ℕ, ◌+◌, ◌-◌, ◌<◌, ◌^◌, List, [], ◌∷◌, ◌++◌, length}
use Rattle.fuse_protocol.specs.declared.flags.OpenedFlags.{OpenedFlags}
use Rattle.fuse_protocol.specs.declared.reply.Attr.{Attr}
use Rattle.fuse_protocol.specs.declared.reply.FoundEntry.{FoundEntry}
use Rattle.fuse_protocol.specs.declared.reply.Terms.{Terms}
use Rattle.fuse_protocol.specs.declared.reply.Room.{Room}
use Rattle.fuse_protocol.specs.declared.reply.Reply.{Reply}
use Rattle.fuse_protocol.specs.declared.reply.Reply.TheVariants as replies
use Rattle.fuse_protocol.specs.declared.reply.TheConstants.{MAJOR, MINOR, TIME_GRANULARITY, REPLY_HEADER_SIZE}
use Rattle.fuse_protocol.specs.Bytes.{bytes_of_u16s, bytes_of_u32s, bytes_of_u64s}

-- 88 bytes: the device and the flags are 0
abbrev pub attr_bytes : Attr → List ℕ
attr_bytes a =
    bytes_of_u64s (a.ino ∷ a.size ∷ a.blocks ∷ a.atime.seconds ∷ a.mtime.seconds ∷ a.ctime.seconds ∷ [])
    ++ bytes_of_u32s (a.atime.nanoseconds ∷ a.mtime.nanoseconds ∷ a.ctime.nanoseconds ∷ a.mode ∷ a.links ∷ a.uid ∷ a.gid ∷ 0 ∷ a.block_size ∷ 0 ∷ [])

-- 128 bytes: the node, its generation, for how many seconds name and attributes are valid, and the attributes
abbrev pub entry_reply_bytes : FoundEntry → List ℕ
entry_reply_bytes f = bytes_of_u64s (f.node ∷ 0 ∷ f.name_valid ∷ f.valid ∷ 0 ∷ []) ++ attr_bytes f.attr

-- 128 bytes: no node has the name, and that is valid for so many seconds
abbrev pub absent_bytes : ℕ → List ℕ
absent_bytes valid = bytes_of_u64s (0 ∷ 0 ∷ valid ∷ 0 ∷ 0 ∷ 0 ∷ 0 ∷ 0 ∷ 0 ∷ 0 ∷ 0 ∷ 0 ∷ 0 ∷ 0 ∷ 0 ∷ 0 ∷ [])

-- 16 bytes: the handle, and flags
abbrev pub open_bytes : ℕ → OpenedFlags → List ℕ
open_bytes handle flags = bytes_of_u64s (handle ∷ flags.0 ∷ [])

-- 64 bytes: nothing is mapped, and of the second flags none is taken
abbrev pub terms_bytes : Terms → List ℕ
terms_bytes t =
    bytes_of_u32s (MAJOR ∷ MINOR ∷ t.max_readahead ∷ t.flags.0 ∷ [])
    ++ (bytes_of_u16s (t.max_background ∷ t.congestion_threshold ∷ [])
    ++ (bytes_of_u32s (t.max_write ∷ TIME_GRANULARITY ∷ [])
    ++ (bytes_of_u16s (t.max_pages ∷ 0 ∷ []) ++ bytes_of_u64s (0 ∷ 0 ∷ 0 ∷ 0 ∷ []))))

-- 80 bytes: all free blocks are there for everybody
abbrev pub room_bytes : Room → List ℕ
room_bytes r =
    bytes_of_u64s (r.blocks ∷ r.free_blocks ∷ r.free_blocks ∷ r.inodes ∷ r.free_inodes ∷ [])
    ++ (bytes_of_u32s (r.block_size ∷ r.max_name ∷ r.block_size ∷ []) ++ bytes_of_u32s (0 ∷ 0 ∷ 0 ∷ 0 ∷ 0 ∷ 0 ∷ 0 ∷ []))

abbrev pub body_bytes : Reply → List ℕ
body_bytes (replies.Error number) = []
body_bytes replies.Done = []
body_bytes (replies.Attr valid a) = bytes_of_u64s (valid ∷ 0 ∷ []) ++ attr_bytes a
body_bytes (replies.Entry found) = entry_reply_bytes found
body_bytes (replies.Absent valid) = absent_bytes valid
body_bytes (replies.Created found handle flags) = entry_reply_bytes found ++ open_bytes handle flags
body_bytes (replies.Open handle flags) = open_bytes handle flags
body_bytes (replies.Init terms) = terms_bytes terms
body_bytes (replies.Count count) = bytes_of_u32s (count ∷ 0 ∷ [])
body_bytes (replies.StatFs room) = room_bytes room
body_bytes (replies.Bytes bytes) = bytes

-- 0, or the error's number below 0 in two's complement
abbrev pub error_field : Reply → ℕ
error_field (replies.Error number) = 2 ^ 32 - number
error_field _ = 0

-- the kernel takes errors from 1 to 511
abbrev pub IsReply : Reply → Type 0
IsReply (replies.Error number) = (0 < number) × (number < 512)
IsReply (replies.Bytes bytes) = REPLY_HEADER_SIZE + length bytes < 2 ^ 32
IsReply _ = Unit {0}

-- the length, the outcome, the number of the request, and the body
unfoldable pub reply_bytes : ℕ → Reply → List ℕ
reply_bytes unique r = bytes_of_u32s ((REPLY_HEADER_SIZE + length (body_bytes r)) ∷ error_field r ∷ []) ++ (bytes_of_u64s (unique ∷ []) ++ body_bytes r)
