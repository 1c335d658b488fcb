use Rattle.bit_alloc.specs.Bits.{HasFullWords}
use Rattle.bit_alloc.proofs.bits.first_clear.Given as goal

abbrev pub invariant-loop-k : goal.invariant-loop-k
invariant-loop-k l = HasFullWords l.sector l.k
