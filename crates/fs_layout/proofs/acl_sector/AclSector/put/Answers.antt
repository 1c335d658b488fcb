use Rattle.std.proofs.Common.{ap, arith, length, refl, ◌∙◌}
use Rattle.fs_layout.proofs.AclSectorLaw.{written}
use Rattle.fs_layout.proofs.acl_sector.AclSector.put.Goals as goal
use Rattle.fs_layout.specs.AclSector.{acl_sector_bytes}

pub returns : goal.returns
returns c =
    written c.args.to.now c.put_u16.new.to c.put_zeros.new.to c.put_entries.new.to c.put_zeros-2.new.to c.entries-entries.result.now _
    c.requires (omega (arith, ap length c.entries-entries.ensures.value)) refl c.put_u16.ensures c.put_zeros.ensures c.put_entries.ensures c.put_zeros-2.ensures
    ∙ ap acl_sector_bytes c.entries-entries.ensures.value
