-- Calls on a descriptor: POSIX.1-2017, read(), write(), lseek(), close(), fstat(), ftruncate() and readdir().
-- Permission was asked at open(); here it is asked what the descriptor was opened for.
--     read_within, write_within        a read and a write of at most so many bytes
--     read_row, write_row, lseek_row, close_row, fstat_row, ftruncate_row, readdir_row        each call
--     shown        what is shown of a node
use Rattle.std.specs.Prelude.{ℕ, ◌+◌, ◌-◌, ◌^◌, nat_lt, nat_le, min, not, List, [], ◌∷◌, length, take, drop, if◌then◌else◌, Option, None, Some, is_some, unwrap_or, ℤ, pos, negsuc, ◌+ℤ◌}
use Rattle.std.specs.Ordering.{nat_cmp}
use Rattle.fs_layout.specs.Bytes.{resized, overwritten}
use Rattle.fs_cred.specs.declared.errno.Errno.TheVariants.{ENOTDIR, EISDIR, EINVAL, EFBIG, ENOSPC}
use Rattle.fs_model.specs.declared.call.Whence.{Whence}
use Rattle.fs_model.specs.declared.call.Whence.TheVariants.{Set, Cur, End}
use Rattle.fs_model.specs.declared.reply.Status.{Status}
use Rattle.fs_model.specs.declared.reply.Reply.TheVariants.{Done, Data, Wrote, At, Shown, Names}
use Rattle.fs_model.specs.Limits.{move_limit, free_for}
use Rattle.fs_layout.specs.Maps.{without}
use Rattle.fs_model.specs.Nodes.{Node, is_directory, names_of_body, bytes_in, with_bytes, type_of, shown_mode, shown_size}
use Rattle.fs_model.specs.Trees.{Tree, parent, names_of}
use Rattle.fs_model.specs.Processes.{the_descriptor, with_offset}
use Rattle.fs_model.specs.Births.{the_node}
use Rattle.fs_model.specs.declared.touch.Touch.TheVariants.{Modified}
use Rattle.fs_model.specs.TreeChanges.{Rewrite}
use Rattle.fs_model.specs.Demands.{Demand, refuse, only_if}
use Rattle.fs_model.specs.Parts.{is_empty}
use Rattle.fs_model.specs.Scenes.{Scene, Effect, Row, node_open, is_bad, is_bad_to_read, is_bad_to_write, nothing_asked, answers, with_process, rewrites, by_descriptor}

-- ---- read: from the offset, as many bytes as are asked for, are there, and are read at once

abbrev pub read_demands : ℕ → Scene → List Demand
read_demands fd s = refuse EISDIR (is_directory (node_open s fd).body) ∷ []

abbrev pub read_bytes : ℕ → Scene → ℕ → ℕ → List ℕ
read_bytes most s fd len = take (min len most) (drop (the_descriptor s.process fd).offset (bytes_in (node_open s fd).body))

abbrev pub read_effect : ℕ → ℕ → ℕ → Scene → Effect
read_effect most fd len s =
    let bytes = read_bytes most s fd len in
    with_process (with_offset s.process fd ((the_descriptor s.process fd).offset + length bytes)) (Data bytes)

abbrev pub read_within : ℕ → ℕ → ℕ → Row
read_within most fd len = by_descriptor (is_bad_to_read fd) (read_demands fd) (read_effect most fd len)

abbrev pub read_row : ℕ → ℕ → Row
read_row fd len = read_within move_limit fd len

-- ---- write: from the offset, or from the end with O_APPEND; over the limit is cut off

abbrev pub write_offset : Scene → ℕ → ℕ
write_offset s fd =
    let d = the_descriptor s.process fd in
    if d.append then length (bytes_in (node_open s fd).body) else d.offset

abbrev pub write_count : ℕ → Scene → ℕ → List ℕ → ℕ
write_count most s fd bytes = min (length bytes) (min most (s.state.room.file_limit - write_offset s fd))

-- fewer data sectors are free than so many bytes may take
abbrev pub no_blocks_for : ℕ → Scene → Demand
no_blocks_for count s = refuse ENOSPC (nat_lt s.state.free (free_for count))

-- to write nothing is never refused
abbrev pub write_demands : ℕ → ℕ → List ℕ → Scene → List Demand
write_demands most fd bytes s =
    only_if (not (is_empty bytes)) (refuse EFBIG (nat_le s.state.room.file_limit (write_offset s fd)) ∷ no_blocks_for (min (length bytes) most) s ∷ [])

abbrev pub written : Node → ℕ → List ℕ → Node
written node offset new = record node { body = with_bytes (overwritten (bytes_in node.body) offset new) node.body }

abbrev pub write_effect : ℕ → ℕ → List ℕ → Scene → Effect
write_effect most fd bytes s =
    let offset = write_offset s fd in
    let count = write_count most s fd bytes in
    if is_empty bytes then answers s (Wrote 0)
    else record {
      change = Rewrite Modified (the_descriptor s.process fd).ino (written (node_open s fd) offset (take count bytes));
      process = with_offset s.process fd (offset + count);
      reply = Wrote count;
    }

abbrev pub write_within : ℕ → ℕ → List ℕ → Row
write_within most fd bytes = by_descriptor (is_bad_to_write fd) (write_demands most fd bytes) (write_effect most fd bytes)

abbrev pub write_row : ℕ → List ℕ → Row
write_row fd bytes = write_within move_limit fd bytes

-- ---- lseek: an offset is from 0 to 2^63 - 1

abbrev pub seekable : ℤ → Option ℕ
seekable (pos n) = if nat_lt n (2 ^ 63) then Some n else None
seekable (negsuc _) = None

abbrev pub seek_base : Scene → ℕ → Whence → ℕ
seek_base s fd Set = 0
seek_base s fd Cur = (the_descriptor s.process fd).offset
seek_base s fd End = length (bytes_in (node_open s fd).body)

abbrev pub sought : Scene → ℕ → Whence → ℤ → Option ℕ
sought s fd whence by = seekable (pos (seek_base s fd whence) +ℤ by)

abbrev pub lseek_demands : ℕ → Whence → ℤ → Scene → List Demand
lseek_demands fd whence by s =
    refuse EISDIR (is_directory (node_open s fd).body)
    ∷ refuse EINVAL (not (is_some (sought s fd whence by)))
    ∷ []

abbrev pub lseek_effect : ℕ → Whence → ℤ → Scene → Effect
lseek_effect fd whence by s =
    let to = unwrap_or (sought s fd whence by) 0 in
    with_process (with_offset s.process fd to) (At to)

abbrev pub lseek_row : ℕ → Whence → ℤ → Row
lseek_row fd whence by = by_descriptor (is_bad fd) (lseek_demands fd whence by) (lseek_effect fd whence by)

-- ---- close

abbrev pub close_effect : ℕ → Scene → Effect
close_effect fd s = with_process (record s.process { descriptors = without nat_cmp s.process.descriptors fd }) Done

abbrev pub close_row : ℕ → Row
close_row fd = by_descriptor (is_bad fd) nothing_asked (close_effect fd)

-- ---- fstat; a directory has one name, which is our own rule

abbrev pub shown : Tree → ℕ → Status
shown t n =
    let node = the_node t n in
    record {
      ino = n;
      kind = type_of node.body;
      mode = shown_mode node.body;
      links = if is_directory node.body then 1 else names_of t n;
      owner = node.owner;
      group = node.group;
      size = shown_size node.body;
    }

abbrev pub fstat_effect : ℕ → Scene → Effect
fstat_effect fd s = answers s (Shown (shown s.state.tree (the_descriptor s.process fd).ino))

abbrev pub fstat_row : ℕ → Row
fstat_row fd = by_descriptor (is_bad fd) nothing_asked (fstat_effect fd)

-- ---- ftruncate

abbrev pub resized_node : ℕ → Node → Node
resized_node size node = record node { body = with_bytes (resized (bytes_in node.body) size) node.body }

abbrev pub ftruncate_demands : ℕ → Scene → List Demand
ftruncate_demands size s = refuse EFBIG (nat_lt s.state.room.file_limit size) ∷ []

abbrev pub ftruncate_effect : ℕ → ℕ → Scene → Effect
ftruncate_effect fd size s = rewrites s Modified (the_descriptor s.process fd).ino (resized_node size)

abbrev pub ftruncate_row : ℕ → ℕ → Row
ftruncate_row fd size = by_descriptor (is_bad_to_write fd) (ftruncate_demands size) (ftruncate_effect fd size)

-- ---- readdir: `.`, `..`, and the names in bytewise order

abbrev pub readdir_demands : ℕ → Scene → List Demand
readdir_demands fd s = refuse ENOTDIR (not (is_directory (node_open s fd).body)) ∷ []

abbrev pub readdir_effect : ℕ → Scene → Effect
readdir_effect fd s =
    let n = (the_descriptor s.process fd).ino in
    answers s (Names ((46 ∷ [], n) ∷ (46 ∷ 46 ∷ [], parent s.state.tree n) ∷ names_of_body (node_open s fd).body))

abbrev pub readdir_row : ℕ → Row
readdir_row fd = by_descriptor (is_bad_to_read fd) (readdir_demands fd) (readdir_effect fd)
