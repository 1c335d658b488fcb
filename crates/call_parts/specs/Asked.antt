-- What a call asks on the inode that it has found.
--     own_asked        to own it
--     owner_asked        to own it or to give away what is another's, and then to give it this owner and this group
--     holder_asked, acl_space_asked        to give it an ACL
--     sticky_asked        to take it from a directory with S_ISVTX
use Rattle.std.specs.Prelude.{ℕ, nat_lt, not, ◌&&◌, List, [], ◌∷◌, Option, ◌/◌, ◌%◌, ◌==◌}
use Rattle.posix_acl.specs.AccessList.{AccessList}
use Rattle.fs_cred.specs.declared.errno.Errno.TheVariants.{ENOSPC, ENOTDIR}
use Rattle.fs_cred.specs.declared.refusal.Need.TheVariants.{Own, Chown, Chgrp, Remove}
use Rattle.fs_cred.specs.Credentials.{Credential}
use Rattle.fs_cred.specs.Ownership.{may_own, owns_or_may_chown, may_chown, may_chgrp, sticky_allows}
use Rattle.fs_layout.specs.declared.inode.Kind.{Kind}
use Rattle.fs_model.specs.declared.call.AclType.{AclType}
use Rattle.fs_model.specs.AttributeCalls.{is_default, needs_sector}
use Rattle.fs_model.specs.Demands.{Demand, refuse, only_if, allowed_by}
use Rattle.fs_model.specs.Limits.{least_free}
use Rattle.fs_model.specs.Rules.{is_directory_kind}
use Rattle.fs_layout.specs.declared.inode.TheConstants.{S_ISVTX}
use Rattle.fs_layout.specs.declared.inode.Inode.{Inode}

abbrev pub own_asked : Credential → ℕ → ℕ → Demand
own_asked cred owner step = allowed_by 1 step Own (may_own cred owner)

-- what has this owner and group gets others
abbrev pub owner_asked : Credential → ℕ → ℕ → ℕ → ℕ → ℕ → List Demand
owner_asked cred owner group uid gid step =
    allowed_by 1 step Own (owns_or_may_chown cred owner)
    ∷ allowed_by 1 step Chown (may_chown cred owner uid)
    ∷ allowed_by 1 step Chgrp (may_chgrp cred group gid)
    ∷ []

-- what is of this kind gets an ACL of this type
abbrev pub holder_asked : AclType → Kind → Demand
holder_asked which kind = refuse ENOTDIR (is_default which && not (is_directory_kind kind))

-- the ACL has a sector, where so many are free
abbrev pub acl_space_asked : AclType → Option AccessList → ℕ → List Demand
acl_space_asked which acl free = only_if (needs_sector which acl) (refuse ENOSPC (nat_lt free least_free) ∷ [])

-- of the directory's inode d and of v, after so many lookups of the walk with this number
abbrev pub sticky_asked : Credential → Inode → Inode → ℕ → ℕ → Demand
sticky_asked cred d v walk step = allowed_by walk step Remove (sticky_allows cred (d.mode / S_ISVTX % 2 == 1) d.uid v.uid)
