use Rattle.std.proofs.Common.{arith}
use Rattle.fs_layout.proofs.Writes.{part_is_splice}
use Rattle.fs_layout.proofs.SlotLaw.{length-slot_bytes}
use Rattle.fs_layout.proofs.slot.Slot.write_in.Goals as goal
use Rattle.fs_layout.specs.Version.{slot_size}
use Rattle.fs_layout.specs.Directories.{slot_bytes}

pub returns : goal.returns
returns c =
    let version = c.args.version in
    part_is_splice c.args.to.now _ (slot_bytes version c.args.self.now) c.args.at _ (slot_size version)
    (length-slot_bytes version c.args.self.now c.requires.short) c.put.ensures (omega (arith, c.slot_size.ensures))
