-- The versions of the layout.
--     version_number, version_of        the number of a version, and the version of a number
--     max_sectors, max_inodes        the most sectors and inodes of a disk
--     max_file_size        the most bytes of a file
--     max_name, max_names, max_inode_names        the most bytes of a name, names of a directory, and names of a file or link
--     slot_size, block_slots        the bytes of a slot of a directory, and how many a block has
--     max_directory_size        the most bytes of a directory
--     keeps_times        whether inodes have times
use Rattle.std.specs.Prelude.{ℕ, zero, suc, ◌+◌, ◌*◌, Option, Some, None, Bool, true, false}
use Rattle.fs_layout.specs.declared.version.Version.{Version}
use Rattle.fs_layout.specs.declared.version.Version.TheVariants.{One, Two, Three}
use Rattle.fs_layout.specs.declared.inode.TheConstants.{INDIRECT_END, OLDER_FILE_SIZE, MAX_FILE_SIZE}

abbrev pub version_number : Version → ℕ
version_number One = 1
version_number Two = 2
version_number Three = 3

abbrev pub version_of : ℕ → Option Version
version_of zero = None
version_of (suc zero) = Some One
version_of (suc (suc zero)) = Some Two
version_of (suc (suc (suc zero))) = Some Three
version_of (suc (suc (suc (suc n)))) = None

abbrev pub max_sectors : Version → ℕ
max_sectors One = 65536
max_sectors Two = 65536
max_sectors Three = 16777216

abbrev pub max_inodes : Version → ℕ
max_inodes One = 4096
max_inodes Two = 4096
max_inodes Three = 1048576

abbrev pub max_file_size : Version → ℕ
max_file_size One = 512 * INDIRECT_END
max_file_size Two = OLDER_FILE_SIZE
max_file_size Three = MAX_FILE_SIZE

abbrev pub max_name : Version → ℕ
max_name One = 120
max_name Two = 120
max_name Three = 248

abbrev pub max_names : Version → ℕ
max_names One = 560
max_names Two = 560
max_names Three = 32768

abbrev pub max_inode_names : Version → ℕ
max_inode_names One = 500
max_inode_names Two = 500
max_inode_names Three = 65000

-- an inode's number, the name's length and zeros, eight bytes, and room for the longest name
abbrev pub slot_size : Version → ℕ
slot_size version = max_name version + 8

abbrev pub block_slots : Version → ℕ
block_slots One = 4
block_slots Two = 4
block_slots Three = 2

abbrev pub max_directory_size : Version → ℕ
max_directory_size version = slot_size version * max_names version

abbrev pub keeps_times : Version → Bool
keeps_times One = false
keeps_times Two = false
keeps_times Three = true
