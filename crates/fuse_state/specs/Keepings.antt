-- What the kernel may keep of what it is told.
use Rattle.std.specs.Prelude.{true, false}
use Rattle.fuse_state.specs.declared.keeping.Keeping.{Keeping}

abbrev pub nothing_kept : Keeping
nothing_kept = record { names = 0; absent = 0; attributes = 0; pages = false }

-- on a mount, in seconds
abbrev pub usually_kept : Keeping
usually_kept = record { names = 1; absent = 1; attributes = 1; pages = true }
