-- Why a request fails.
--     failed        a refusal of the machine
--     refusal_errno, is_for        the error of a refusal; whether one is for it
--     error_number        the number on Linux
--     is_stale        what was asked for is gone
use Rattle.std.specs.Prelude.{ℕ, ◌==◌, Bool, true, false}
use Rattle.fs_cred.specs.declared.errno.Errno.{Errno}
use Rattle.fs_cred.specs.declared.refusal.Refusal.{Refusal}
use Rattle.fs_cred.specs.declared.refusal.Refusal.TheVariants.{Denied, Failed}
use Rattle.fs_cred.specs.Errnos.{errno_number}
use Rattle.fuse_plans.specs.declared.request_error.OtherErrno.{OtherErrno}
use Rattle.fuse_plans.specs.declared.request_error.OtherErrno.TheVariants.{ENFILE, ERANGE, ENOSYS, ENODATA, EPROTO, EOPNOTSUPP, ESTALE}
use Rattle.fuse_plans.specs.declared.request_error.RequestError.{RequestError}
use Rattle.fuse_plans.specs.declared.request_error.RequestError.TheVariants.{Refuses, Lacks}

abbrev pub failed : Errno → RequestError
failed e = Refuses (Failed e)

abbrev pub refusal_errno : Refusal → Errno
refusal_errno (Denied d) = d.errno
refusal_errno (Failed e) = e

abbrev pub other_number : OtherErrno → ℕ
other_number ENFILE = 23
other_number ERANGE = 34
other_number ENOSYS = 38
other_number ENODATA = 61
other_number EPROTO = 71
other_number EOPNOTSUPP = 95
other_number ESTALE = 116

abbrev pub error_number : RequestError → ℕ
error_number (Refuses r) = errno_number (refusal_errno r)
error_number (Lacks e) = other_number e

-- the machine refuses with this error
abbrev pub is_for : Errno → RequestError → Bool
is_for e (Refuses r) = errno_number (refusal_errno r) == errno_number e
is_for e (Lacks _) = false

abbrev pub is_stale : RequestError → Bool
is_stale (Lacks ESTALE) = true
is_stale _ = false
