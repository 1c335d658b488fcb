-- Why names are not added, removed, led elsewhere or changed.
--     pointers_for, taken_for        how many sectors a further block needs for pointers, and how many one more name takes
--     WhyNotAdded, WhyNotChanged        why a name isn't added; why one isn't removed, led elsewhere or changed
--     as_dir_fault        a fault of what an inode holds, as one of a directory
use Rattle.std.specs.Prelude.{◌≡◌, ◌≢◌, ◌⊎◌, ℕ, ◌+◌, ◌-◌, ◌/◌, ◌%◌, ◌<◌, nat_eq, nat_lt, if◌then◌else◌, List, length, None}
use Rattle.fs_layout.specs.declared.inode.TheConstants.{DIRECT_BLOCKS, SECTOR_POINTERS, INDIRECT_END}
use Rattle.fs_layout.specs.declared.inode.Inode.{Inode}
use Rattle.fs_layout.specs.declared.geometry.Geometry.{Geometry}
use Rattle.fs_layout.specs.Version.{max_names}
use Rattle.fs_layout.specs.Bytes.{SectorMap}
use Rattle.fs_layout.specs.Images.{free_sectors}
use Rattle.fs_layout.specs.Maps.{name_cmp, get}
use Rattle.block_map.specs.declared.fault.MapFault.{MapFault}
use Rattle.block_map.specs.declared.fault.MapFault.TheVariants as map
use Rattle.dir_core.specs.declared.fault.DirFault.{DirFault}
use Rattle.dir_core.specs.declared.fault.DirFault.TheVariants.{Full, Exists, Absent, DiskFault, OutOfMemory}

-- how many sectors of pointers block k is the first to need: one for each `SECTOR_POINTERS` blocks past the direct ones, and
-- where the blocks of the indirect sector end one for the numbers of the further ones
abbrev pub pointers_for : ℕ → ℕ
pointers_for k =
    if nat_lt k DIRECT_BLOCKS then 0 else
    (if nat_eq ((k - DIRECT_BLOCKS) % SECTOR_POINTERS) 0 then (if nat_eq k INDIRECT_END then 2 else 1) else 0)

-- how many sectors one more name takes: none where the last block has place for a slot, else one, and those of pointers to it
abbrev pub taken_for : Inode → ℕ
taken_for v = if nat_eq (v.size % 512) 0 then 1 + pointers_for (v.size / 512) else 0

-- Why a name isn't added to a directory with these names, in this order: it is there; there are as many names as can be,
-- or fewer sectors are free than one more takes.
abbrev pub WhyNotAdded : Geometry → SectorMap → Inode → List (List ℕ × ℕ) → List ℕ → DirFault → Type 0
WhyNotAdded p image v names name Exists = get name_cmp names name ≢ None
WhyNotAdded p image v names name Full =
    (get name_cmp names name ≡ None) × ((length names ≡ max_names p.version) ⊎ (free_sectors p image < taken_for v))
WhyNotAdded p image v names name Absent = ⊥
WhyNotAdded p image v names name DiskFault = Unit {0}
WhyNotAdded p image v names name OutOfMemory = ⊥

-- why a name isn't removed from these names, led to another inode or changed to another name: it isn't there
abbrev pub WhyNotChanged : List (List ℕ × ℕ) → List ℕ → DirFault → Type 0
WhyNotChanged names name Exists = ⊥
WhyNotChanged names name Full = ⊥
WhyNotChanged names name Absent = get name_cmp names name ≡ None
WhyNotChanged names name DiskFault = Unit {0}
WhyNotChanged names name OutOfMemory = ⊥

-- a fault of what an inode holds, as one of a directory
abbrev pub as_dir_fault : MapFault → DirFault
as_dir_fault map.Full = Full
as_dir_fault map.TooBig = Full
as_dir_fault map.DiskFault = DiskFault
