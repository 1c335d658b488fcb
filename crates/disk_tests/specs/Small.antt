-- The disks of these tests.
--     IsSmall, HasSmallMap        a disk of 1,024 sectors without a header; a map on one
--     HasTwoAreas        a disk of 2,048 sectors with a header sector
use Rattle.std.specs.Prelude.{◌≡◌}
use Rattle.sector_disk.specs.Disk.{DiskState}
use Rattle.redo_journal.specs.States.{header_at}
use Rattle.sector_txn.specs.Sectors.{TxnState}

pub record IsSmall (disk : DiskState) : Type 0 where
  pub size : disk.size ≡ 1024
  pub header : header_at disk.seen ≡ 0

pub record HasSmallMap (txn : TxnState) : Type 0 where
  pub size : txn.disk.size ≡ 1024
  pub header : txn.header ≡ 0

pub record HasTwoAreas (disk : DiskState) : Type 0 where
  pub size : disk.size ≡ 2048
  pub header : header_at disk.seen ≡ 1
