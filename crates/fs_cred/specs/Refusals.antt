-- Why a call is refused.
use Rattle.fs_cred.specs.declared.errno.Errno.{Errno}
use Rattle.fs_cred.specs.declared.errno.Errno.TheVariants.{EPERM, EACCES}
use Rattle.fs_cred.specs.declared.refusal.Need.{Need}
use Rattle.fs_cred.specs.declared.refusal.Need.TheVariants.{Search, Perm, Own, Chown, Chgrp, Remove}

-- what is answered where this is denied
abbrev pub need_errno : Need → Errno
need_errno Search = EACCES
need_errno (Perm want) = EACCES
need_errno Own = EPERM
need_errno Chown = EPERM
need_errno Chgrp = EPERM
need_errno Remove = EPERM
