-- The header of the log: the first sectors of a log area, which have those targets of a commit that the commit sector has no
-- room for. How many there are follows from sector 0 alone, and tells how much of a disk the journal takes: without any there is
-- one log area, and with some there are two, which commits use in turn.
--     header_for, header_of        how many sectors the header has
--     second_area        how many sectors the second log area has
--     area_start        the first sector of a log area
--     next_area, other_area        the area of the next commit, by the commit sector's number and by the area of the commit before
--     log_end        the first sector behind the log
--     max_delta, max_targets        the most sectors that a call puts, and that a commit has
use Rattle.std.specs.Prelude.{ℕ, zero, suc, ◌+◌, ◌-◌, ◌*◌, List, Result, Ok, Err, nat_lt, nat_le, ◌&&◌, if◌then◌else◌}
use Rattle.fs_layout.specs.declared.commit.TheConstants.{MAX_TARGETS, HEADER_TARGETS}
use Rattle.fs_layout.specs.declared.fault.LayoutFault.{LayoutFault}
use Rattle.fs_layout.specs.declared.geometry.TheConstants.{FIRST_LOG_SECTOR}
use Rattle.fs_layout.specs.declared.superblock.Super.{Super}
use Rattle.fs_layout.specs.declared.header.TheConstants.{MAX_HEADER, LEAST_LOG_END}
use Rattle.fs_layout.specs.Superblock.{super_of}

-- how many header sectors there are where sector 0 is read so: none where it says more than any disk has
abbrev pub header_for : Result Super LayoutFault → ℕ
header_for (Ok v) = if nat_le v.header MAX_HEADER then v.header else 0
header_for (Err fault) = 0

-- how many header sectors a disk has whose sector 0 has this content; none where that is no superblock
unfoldable pub header_of : List ℕ → ℕ
header_of content = header_for (super_of content)

-- with so many header sectors: how many sectors the second log area has; without any there is none
abbrev pub second_area : ℕ → ℕ
second_area zero = 0
second_area (suc less) = 126 + 129 * suc less

-- the first sector of a log area, which is its header's
abbrev pub area_start : ℕ → ℕ → ℕ
area_start header zero = FIRST_LOG_SECTOR
area_start header (suc area) = FIRST_LOG_SECTOR + second_area header

-- the area that the next commit is logged in, where the commit sector has this number: the one that it doesn't name, and the
-- first one where it has no targets
abbrev pub next_area : ℕ → ℕ → ℕ
next_area zero number = 0
next_area (suc less) number = if nat_lt 0 number && nat_lt number 0x8000_0000 then 1 else 0

-- the area of the commit after one in this area
abbrev pub other_area : ℕ → ℕ → ℕ
other_area zero area = 0
other_area (suc less) area = 1 - area

-- the first sector behind the log
abbrev pub log_end : ℕ → ℕ
log_end header = LEAST_LOG_END + 129 * header + second_area header

-- the most sectors that a call puts
abbrev pub max_delta : ℕ → ℕ
max_delta header = 64 + 128 * header

-- the most targets that a commit has
abbrev pub max_targets : ℕ → ℕ
max_targets header = MAX_TARGETS + HEADER_TARGETS * header
