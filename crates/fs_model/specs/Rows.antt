-- The 25 calls.
--     row_of        each call's demands and effect
use Rattle.fs_model.specs.declared.call.Call.{Call}
use Rattle.fs_model.specs.declared.call.Call.TheVariants.{Open, Read, Write, Lseek, Close, Fstat, Stat, Lstat, Access, Truncate, Ftruncate, Chmod, Chown, GetAcl, SetAcl, Readdir, Mkdir, Rmdir, Link, Symlink, Readlink, Unlink, Rename, Chdir, Umask}
use Rattle.fs_model.specs.Scenes.{Row}
use Rattle.fs_model.specs.OpenCall.{open_row}
use Rattle.fs_model.specs.DescriptorCalls.{read_row, write_row, lseek_row, close_row, fstat_row, ftruncate_row, readdir_row}
use Rattle.fs_model.specs.AttributeCalls.{stat_row, lstat_row, access_row, truncate_row, chmod_row, chown_row, get_acl_row, set_acl_row, chdir_row, umask_row}
use Rattle.fs_model.specs.NameCalls.{mkdir_row, rmdir_row, link_row, symlink_row, readlink_row, unlink_row}
use Rattle.fs_model.specs.RenameCall.{rename_row}

unfoldable pub row_of : Call → Row
row_of (Open path flags mode) = open_row path flags mode
row_of (Read fd len) = read_row fd len
row_of (Write fd bytes) = write_row fd bytes
row_of (Lseek fd whence by) = lseek_row fd whence by
row_of (Close fd) = close_row fd
row_of (Fstat fd) = fstat_row fd
row_of (Stat path) = stat_row path
row_of (Lstat path) = lstat_row path
row_of (Access path want) = access_row path want
row_of (Truncate path size) = truncate_row path size
row_of (Ftruncate fd size) = ftruncate_row fd size
row_of (Chmod path mode) = chmod_row path mode
row_of (Chown path owner group) = chown_row path owner group
row_of (GetAcl path which) = get_acl_row path which
row_of (SetAcl path which acl) = set_acl_row path which acl
row_of (Readdir fd) = readdir_row fd
row_of (Mkdir path mode) = mkdir_row path mode
row_of (Rmdir path) = rmdir_row path
row_of (Link old new) = link_row old new
row_of (Symlink target path) = symlink_row target path
row_of (Readlink path) = readlink_row path
row_of (Unlink path) = unlink_row path
row_of (Rename old new) = rename_row old new
row_of (Chdir path) = chdir_row path
row_of (Umask mask) = umask_row mask
