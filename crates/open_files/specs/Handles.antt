-- What is asked of the table of handles, and what holds of it.
--     opened_at        what a handle is for, from an offset on: EBADF without it
--     room_left        for how many more handles there is memory
--     count_for, count_of_handle        how many handles there are for an inode, and how many of one number
--     counted_in, recounted        what counts say of an inode, and of each once one is counted anew
--     AreCounted        the counts are those of the handles
use Rattle.std.specs.Prelude.{◌≡◌, ℕ, ◌-◌, ◌==◌, min, nat_eq, List, count_by, if◌then◌else◌, Option, None, Some, unwrap_or, Result}
use Rattle.std.specs.Option.{ok_or, option_map}
use Rattle.std.specs.Ordering.{nat_cmp}
use Rattle.std.specs.HashMap.{HashMap, spare}
use Rattle.std.specs.Map.{lookup}
use Rattle.slab.specs.Slab.{Slab, slab_len}
use Rattle.fs_layout.specs.Maps.{get}
use Rattle.fs_cred.specs.declared.errno.Errno.{Errno}
use Rattle.fs_cred.specs.declared.errno.Errno.TheVariants.{EBADF}
use Rattle.fs_model.specs.Processes.{Descriptor, Openings}

abbrev pub with_start : ℕ → Descriptor → Descriptor
with_start offset d = record d { offset = offset }

abbrev pub opened_at : Openings → ℕ → ℕ → Result Descriptor Errno
opened_at openings handle offset = ok_or (option_map (with_start offset) (get nat_cmp openings handle)) EBADF

-- in the slab, and in the counts
abbrev pub room_left : {T S : Type 0} → Slab T → HashMap ℕ ℕ S → ℕ
room_left slab counts = min (slab.capacity - slab_len slab) (spare counts)

abbrev pub count_for : ℕ → Openings → ℕ
count_for n openings = count_by (λ d. d.1.ino == n) openings

abbrev pub own_found : ℕ → Option Descriptor → ℕ
own_found n None = 0
own_found n (Some d) = if d.ino == n then 1 else 0

abbrev pub count_of_handle : Openings → ℕ → ℕ → ℕ
count_of_handle openings handle n = own_found n (get nat_cmp openings handle)

-- an inode without a count has no handle
abbrev pub counted_in : List (ℕ × ℕ) → ℕ → ℕ
counted_in counts n = unwrap_or (lookup (nat_eq n) counts) 0

abbrev pub recounted : List (ℕ × ℕ) → ℕ → ℕ → ℕ → ℕ
recounted counts ino count n = if nat_eq ino n then count else counted_in counts n

pub record AreCounted (openings : Openings) (counts : List (ℕ × ℕ)) : Type 0 where
  pub each : (n : ℕ) → counted_in counts n ≡ count_for n openings
