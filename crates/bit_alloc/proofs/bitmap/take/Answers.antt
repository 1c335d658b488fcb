use Rattle.std.proofs.Common.{arith}
use Rattle.bit_alloc.proofs.Passing.{no_fault_of}
use Rattle.bit_alloc.proofs.Taking.{takes_first, puts_first}
use Rattle.bit_alloc.proofs.bitmap.take.Goals as goal

pub returns-clause-taken : goal.returns-clause-taken
returns-clause-taken g c = takes_first (omega (arith, c.in_ok-take_next.ensures.more)) (omega (arith, c.in_ok-take_next.ensures.within)) c.in_ok-take_next.ensures.taken

pub returns-clause-puts : goal.returns-clause-puts
returns-clause-puts g c = puts_first (omega (arith, c.in_ok-take_next.ensures.more)) (omega (arith, c.in_ok-take_next.ensures.within)) c.in_ok-take_next.ensures.puts

pub returns-clause-cause : goal.returns-clause-cause
returns-clause-cause g c = no_fault_of c.in_ok-take_next.ensures.puts.store
