use Rattle.std.proofs.Common.{◌≡◌, take}
use Rattle.fs_layout.specs.Bytes.{splice}
use Rattle.fs_layout.specs.AclSector.{entries_bytes}
use Rattle.fs_layout.proofs.acl_sector.put_entries.Given as goal

abbrev pub invariant-loop-i : goal.invariant-loop-i
invariant-loop-i l = l.to ≡ splice l.initial.to l.at (entries_bytes (take l.i l.entries))
