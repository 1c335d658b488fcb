use Rattle.std.proofs.Common.{arith, ap, ◌∙◌}
use Rattle.fs_check.specs.Checks.{meaning}
use Rattle.fs_check.proofs.Tables.{table_geometry}
use Rattle.fs_check.proofs.inodes.read_table.Goals as goal

pub inode_sector-requires : goal.inode_sector-requires
inode_sector-requires g c =
    let at = table_geometry _ _ c.args.opened.now.geometry c.args.ino c.requires.opened.geometry c.if-geometry-ino.false in
    let below = at.on_disk in
    let small = at.small in
    omega (arith, below, small)

pub read_recovered-requires-clause-on_disk : goal.read_recovered-requires-clause-on_disk
read_recovered-requires-clause-on_disk g c =
    let below = (table_geometry _ _ c.args.opened.now.geometry c.args.ino c.requires.opened.geometry c.if-geometry-ino.false).on_disk in
    let there = c.inode_sector.ensures in
    omega (arith, below, there)

pub returns-clause-table : goal.returns-clause-table
returns-clause-table g c = λ lt. c.in_ok-read_recovered.ensures.content ∙ ap (meaning (g.D.Disk.state c.args.disk.now)) c.inode_sector.ensures
