use Rattle.std.proofs.Common.{arith}
use Rattle.fs_layout.specs.Version.{slot_size}
use Rattle.fs_layout.proofs.Codecs.{reads_part}
use Rattle.fs_layout.proofs.SlotLaw.{slot_codec}
use Rattle.fs_layout.proofs.slot.Slot.read_in.Goals as goal

pub returns : goal.returns
returns c =
    let read = reads_part (slot_size c.args.version) (slot_codec c.args.version) c.args.from.now c.args.at _ c.get.result (omega (arith, c.slot_size.ensures)) (omega arith) c.fits-from c.get.ensures in
    record { found = read.found; only = read.only; first_fault = read.first_fault }
