-- The errors of errno(3) that calls answer.
use Rattle.std.specs.Prelude.{ℕ, List, codes}
use Rattle.fs_cred.specs.declared.errno.Errno.{Errno}
use Rattle.fs_cred.specs.declared.errno.Errno.TheVariants.{EPERM, ENOENT, ESRCH, EIO, EBADF, EAGAIN, ENOMEM, EACCES, EBUSY, EEXIST, ENOTDIR, EISDIR, EINVAL, EMFILE, EFBIG, ENOSPC, EMLINK, ENAMETOOLONG, ENOTEMPTY, ELOOP}

-- the numbers of the errors on Linux
abbrev pub errno_number : Errno → ℕ
errno_number EPERM = 1
errno_number ENOENT = 2
errno_number ESRCH = 3
errno_number EIO = 5
errno_number EBADF = 9
errno_number EAGAIN = 11
errno_number ENOMEM = 12
errno_number EACCES = 13
errno_number EBUSY = 16
errno_number EEXIST = 17
errno_number ENOTDIR = 20
errno_number EISDIR = 21
errno_number EINVAL = 22
errno_number EMFILE = 24
errno_number EFBIG = 27
errno_number ENOSPC = 28
errno_number EMLINK = 31
errno_number ENAMETOOLONG = 36
errno_number ENOTEMPTY = 39
errno_number ELOOP = 40

-- the names of the errors
abbrev pub errno_name : Errno → List ℕ
errno_name EPERM = codes "EPERM"
errno_name ENOENT = codes "ENOENT"
errno_name ESRCH = codes "ESRCH"
errno_name EIO = codes "EIO"
errno_name EBADF = codes "EBADF"
errno_name EAGAIN = codes "EAGAIN"
errno_name ENOMEM = codes "ENOMEM"
errno_name EACCES = codes "EACCES"
errno_name EBUSY = codes "EBUSY"
errno_name EEXIST = codes "EEXIST"
errno_name ENOTDIR = codes "ENOTDIR"
errno_name EISDIR = codes "EISDIR"
errno_name EINVAL = codes "EINVAL"
errno_name EMFILE = codes "EMFILE"
errno_name EFBIG = codes "EFBIG"
errno_name ENOSPC = codes "ENOSPC"
errno_name EMLINK = codes "EMLINK"
errno_name ENAMETOOLONG = codes "ENAMETOOLONG"
errno_name ENOTEMPTY = codes "ENOTEMPTY"
errno_name ELOOP = codes "ELOOP"
