use Rattle.std.proofs.Common.{◌*◌}
use Rattle.bit_alloc.specs.Bits.{HasFullWords}
use Rattle.bit_alloc.proofs.bits.full_words.Given as goal

abbrev pub invariant-loop-k : goal.invariant-loop-k
invariant-loop-k l = HasFullWords l.sector (8 * l.k)
