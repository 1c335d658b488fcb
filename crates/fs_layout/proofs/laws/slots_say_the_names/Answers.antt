use Rattle.fs_layout.proofs.ReadNames.{are_names_of, are_read}
use Rattle.fs_layout.proofs.OneSlots.{names_same}
use Rattle.fs_layout.proofs.KeptParts.{HasNames-kept}
use Rattle.fs_layout.proofs.laws.slots_say_the_names.Goals as goal

pub returns : goal.returns
returns c = record { slots = are_names_of; one = names_same; read = are_read; stay = λ version old new v names keeps h. HasNames-kept keeps h }
