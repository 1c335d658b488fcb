use Rattle.std.proofs.Common.{arith, length}
use Rattle.fs_layout.proofs.SlotLaw.{length-slot_bytes}
use Rattle.fs_layout.proofs.SlotSizes.{slots_most}
use Rattle.fs_layout.proofs.ImageSlots.{length-slots}
use Rattle.fs_layout.proofs.laws.names_fit_their_slots.Goals as goal

pub returns : goal.returns
returns c = λ version. record {
  slot = λ x fits. length-slot_bytes version x fits.short;
  slots = λ slots fit few. omega (arith, length-slots version slots fit, slots_most version (length slots) few);
}
