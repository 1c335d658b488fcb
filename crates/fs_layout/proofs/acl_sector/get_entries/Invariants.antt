use Rattle.std.proofs.Common.{◌≡◌, take}
use Rattle.fs_layout.specs.AclSector.{acl_entries_at}
use Rattle.fs_layout.proofs.acl_sector.get_entries.Given as goal

abbrev pub invariant-loop-i : goal.invariant-loop-i
invariant-loop-i l = take l.i l.to ≡ acl_entries_at l.from l.at l.i
