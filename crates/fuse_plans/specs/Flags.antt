-- Flags: how a request opens a file, and how the machine does.
--     mode_in        for reading, for writing, or for both
--     opening, making, creating, listing        the machine's flags
--     is_exec, is_excl, is_trunc, reads_alone        what else it says
use Rattle.std.specs.Prelude.{ℕ, ◌==◌, Bool, true, false, not, Option, None, Some, if◌then◌else◌, bit_and}
use Rattle.std.proofs.Common.{refl}
use Rattle.fs_model.specs.declared.call.Flags.{Flags}
use Rattle.fuse_plans.specs.declared.mode.Mode.{Mode}
use Rattle.fuse_plans.specs.declared.mode.Mode.TheVariants.{Reads, Writes, Both}

-- 3 is no mode
abbrev pub mode_in : ℕ → Option Mode
mode_in flags =
    let k = bit_and flags 3 in
    if k == 0 then Some Reads else if k == 1 then Some Writes else if k == 2 then Some Both else None

abbrev pub is_exec : ℕ → Bool
is_exec flags = not (bit_and flags 0x20 == 0)

abbrev pub is_excl : ℕ → Bool
is_excl flags = not (bit_and flags 0o200 == 0)

abbrev pub is_trunc : ℕ → Bool
is_trunc flags = not (bit_and flags 0o1000 == 0)

-- nothing but to read: neither to write, nor that it lose its bytes
abbrev pub reads_alone : ℕ → Mode → Bool
reads_alone flags Reads = not (is_trunc flags)
reads_alone flags _ = false

abbrev reading : Flags
reading = record { read = true; write = false; create = false; excl = false; trunc = false; append = false; nofollow = false; directory = false; opens = refl }

abbrev pub only : Mode → Flags
only Reads = reading
only Writes = record reading { read = false; write = true; opens = refl }
only Both = record reading { write = true; opens = refl }

abbrev pub flags_of_mode : Mode → Bool → Bool → Bool → Bool → Flags
flags_of_mode mode is_new trunc nofollow directory = record (only mode) {
  create = is_new;
  excl = is_new;
  trunc = trunc;
  nofollow = nofollow;
  directory = directory;
}

-- what is there, and no link; append isn't passed on, since the kernel gives each write its place
abbrev pub opening : Mode → Bool → Flags
opening mode trunc = flags_of_mode mode false trunc true false

-- a file that isn't there yet
abbrev pub creating : Mode → Flags
creating mode = flags_of_mode mode true false false false

abbrev pub making : Flags
making = creating Writes

abbrev pub listing : Flags
listing = flags_of_mode Reads false false false true
