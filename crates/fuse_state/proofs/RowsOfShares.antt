-- Computed rows: who may open one more directory.
use Rattle.std.specs.Prelude.{◌≡◌, ℕ, zero, suc, Bool, true, false, List, [], ◌∷◌, refl}
use Rattle.fuse_state.specs.declared.settings.Settings.{Settings}
use Rattle.fuse_state.specs.Keepings.{usually_kept}
use Rattle.fuse_state.specs.Servers.{Server, new_server, with_opened, may_open_directory}

abbrev settings : Settings
settings = record { sectors = 1024; inodes = 64; max_name = 120; keeps_times = false; max_write = 4096; posix_acl = true; keeping = usually_kept; start = record { seconds = 0; nanoseconds = 0 }; commit = 0 }

-- A user opens so many directories.
abbrev opens : ℕ → ℕ → Server → Server
opens zero uid s = s
opens (suc n) uid s = opens n uid (with_opened uid 5 s)

-- of users 1000, 1001, 1002 and 0
abbrev may_open : Server → List Bool
may_open s = may_open_directory s 1000 ∷ may_open_directory s 1001 ∷ may_open_directory s 1002 ∷ may_open_directory s 0 ∷ []

-- One user has opened all it may: it is refused, and no other is.
one_opens_all : may_open (opens 128 1000 (new_server settings)) ≡ false ∷ true ∷ true ∷ true ∷ []
one_opens_all = refl

-- Two have opened all that is for all: they are refused, a third isn't, nor is user 0.
two_open_all : may_open (opens 72 1001 (opens 128 1000 (new_server settings))) ≡ false ∷ false ∷ true ∷ true ∷ []
two_open_all = refl

-- User 0 opens its part, and a third user still finds one.
root_opens_all : may_open (opens 16 0 (opens 72 1001 (opens 128 1000 (new_server settings)))) ≡ false ∷ false ∷ true ∷ false ∷ []
root_opens_all = refl
