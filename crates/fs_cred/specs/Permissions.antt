-- Sets of permissions.
use Rattle.std.specs.Prelude.{Bool, false, not, ◌&&◌, ◌||◌}
use Rattle.posix_acl.specs.declared.entry.Perms.{Perms}

-- perms has all of want
abbrev pub holds : Perms → Perms → Bool
holds perms want =
    (not want.read || perms.read) && (not want.write || perms.write) && (not want.execute || perms.execute)

-- the empty set, which each set has all of
abbrev pub nothing : Perms
nothing = record { read = false; write = false; execute = false }
