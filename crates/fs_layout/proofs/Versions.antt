-- How large a file may be.
use Rattle.std.proofs.Common.{◌≤◌, arith}
use Rattle.fs_layout.specs.declared.inode.TheConstants.{MAX_FILE_SIZE, OLDER_DIRECTORY_SIZE}
use Rattle.fs_layout.specs.declared.version.Version.{Version}
use Rattle.fs_layout.specs.declared.version.Version.TheVariants.{One, Two, Three}
use Rattle.fs_layout.specs.Version.{max_file_size, max_directory_size}

-- in each version a file may be as large as a directory, and none larger than an inode's size may say
pub file_bounds : (version : Version) → (max_directory_size version ≤ max_file_size version) × (max_file_size version ≤ MAX_FILE_SIZE)
file_bounds One = (omega arith, omega arith)
file_bounds Two = (omega arith, omega arith)
file_bounds Three = (omega arith, omega arith)

-- in each version a file may be as large as a directory of the first
pub file_least : (version : Version) → OLDER_DIRECTORY_SIZE ≤ max_file_size version
file_least One = omega arith
file_least Two = omega arith
file_least Three = omega arith
