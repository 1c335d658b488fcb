-- Room that is reserved for what a server keeps.
--     Kept        what it keeps, and for how many more things it has memory
--     HasTableRoom        what it takes that there is so much room
use Rattle.std.specs.Prelude.{ℕ, ◌+◌, ◌<◌, ◌≤◌, ◌^◌}
use Rattle.fuse_state.specs.Servers.{Server}

pub record Kept : Type 0 where
  pub server : Server
  -- so many things may be added without asking for memory
  pub room : ℕ

-- each table has the room, and the handles of so many directories are numbers of 64 bits
pub record HasTableRoom (room generations times directories listings removed_directories next_directory : ℕ) : Type 0 where
  pub for_generations : room ≤ generations
  pub for_times : room ≤ times
  pub for_directories : room ≤ directories
  pub for_listings : room ≤ listings
  pub for_removed_directories : room ≤ removed_directories
  pub for_numbers : next_directory + room < 2 ^ 64
