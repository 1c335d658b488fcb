use Rattle.std.proofs.Common.{arith}
use Rattle.fs_images.proofs.Places.{some_sectors}
use Rattle.fs_images.proofs.upgrading.read_superblock.Goals as goal

pub read-requires : goal.read-requires
read-requires g c =
    let some = some_sectors (g.D.Disk.state c.args.disk.now).seen c.requires.0 c.requires.1 c.requires.2 c.requires.3 in
    let size = (g.met.D.Disk.seen_is_image c.args.disk.now).size in
    omega (arith, some, size)
