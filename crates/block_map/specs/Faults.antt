-- Why bytes are not written.
--     as_map_fault        a fault of a bitmap, as one of an inode's bytes
use Rattle.bit_alloc.specs.declared.bitmap.TakeFault.{TakeFault}
use Rattle.bit_alloc.specs.declared.bitmap.TakeFault.TheVariants as take
use Rattle.block_map.specs.declared.fault.MapFault.{MapFault}
use Rattle.block_map.specs.declared.fault.MapFault.TheVariants as faults

-- a fault of a bitmap, as one of an inode's bytes
abbrev pub as_map_fault : TakeFault → MapFault
as_map_fault take.Full = faults.Full
as_map_fault take.DiskFault = faults.DiskFault
