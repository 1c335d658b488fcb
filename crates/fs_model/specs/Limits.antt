-- The limits of this file system: our own values for the names of limits.h (POSIX.1-2017). Those that the layout gives are
-- its constants; those that differ by its version are a disk's room (NAME_MAX, LINK_MAX, the names in one directory).
--     path_limit, links_limit        PATH_MAX less 1, SYMLOOP_MAX
--     target_limit        SYMLINK_MAX
--     descriptors_limit, processes_limit        OPEN_MAX, CHILD_MAX
--     move_limit        bytes in one read, and in one write, of a process
--     handle_read_limit, handle_write_limit        bytes in one read by a handle, and in one write
--     least_free        free data sectors without which nothing is taken
--     much_free        free data sectors without which no more than a move is written
--     free_for        how many have to be free for a write of so many bytes
--     root        the number of the root's inode
use Rattle.std.specs.Prelude.{ℕ, nat_le, if◌then◌else◌}
use Rattle.fs_layout.specs.declared.inode.TheConstants.{MAX_LINK_SIZE}
use Rattle.fs_layout.specs.declared.geometry.TheConstants.{ROOT}

abbrev pub path_limit : ℕ
path_limit = 1023

abbrev pub links_limit : ℕ
links_limit = 40

abbrev pub target_limit : ℕ
target_limit = MAX_LINK_SIZE

-- of one process
abbrev pub descriptors_limit : ℕ
descriptors_limit = 32

abbrev pub processes_limit : ℕ
processes_limit = 64

abbrev pub move_limit : ℕ
move_limit = 4096

abbrev pub handle_read_limit : ℕ
handle_read_limit = 1048576

abbrev pub handle_write_limit : ℕ
handle_write_limit = 16384

abbrev pub least_free : ℕ
least_free = 16

abbrev pub much_free : ℕ
much_free = 40

abbrev pub free_for : ℕ → ℕ
free_for count = if nat_le count move_limit then least_free else much_free

abbrev pub root : ℕ
root = ROOT
