use Rattle.std.proofs.Common.{append_assoc}
use Rattle.fs_program.proofs.disks.print_kinds.Goals as goal

pub returns : goal.returns
returns g c = simp append_assoc c.write.ensures.bytes
