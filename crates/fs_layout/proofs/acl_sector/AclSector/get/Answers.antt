use Rattle.std.proofs.Common.{arith}
use Rattle.fs_layout.proofs.AclSectorLaw.{read_to_end}
use Rattle.fs_layout.proofs.acl_sector.AclSector.get.Goals as goal

pub returns : goal.returns
returns c =
    read_to_end c.args.from.now c.get_entries.new.to c.u16_at-count.result c.are_zero.result c.are_zero-2.result
    c.u16_at-count.ensures (omega arith) c.are_zero.ensures c.if-not-are_zero.false c.are_zero-2.ensures c.if-not-are_zero-2.false c.get_entries.ensures
