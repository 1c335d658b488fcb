-- What a disk says of itself stays so while it is read.
use Rattle.sector_disk.specs.Disk.{DiskState, OnlyReads, sector}
use Rattle.fs_check.proofs.Carrying.{back_of}
use Rattle.fs_info.specs.Infos.{IsInfo, IsInfoOf}
use Rattle.fs_info.specs.declared.info.Info.{Info}

pub info_back : {old mid : DiskState} {info : Info} → OnlyReads old mid → IsInfo mid info → IsInfo old info
info_back {info = info} reads is = back_of (λ n i. IsInfoOf n (sector i) info) reads is
