use Rattle.std.proofs.Common.{arith, sym}
use Rattle.open_files.specs.Tables.{without_descriptor}
use Rattle.open_files.proofs.Numbered.{of_open, open_unchanged, open_changed, opened_here, still_table}
use Rattle.open_files.proofs.procs.Procs.close.Goals as goal

pub overflow_sub-pid : goal.overflow_sub-pid
overflow_sub-pid c = omega (arith, of_open c.self.inside.slab.slots c.args.self.now c.self.view_is c.args.pid c.args.fd c.requires.open)

pub returns-in_default : goal.returns-in_default
returns-in_default c = record { closed = open_unchanged c.self.inside.slab.slots c.args.self.now c.self.view_is c.args.pid c.args.fd c.requires.open (λ p. without_descriptor p c.args.fd) (sym c.in_default.ensures.value) }

pub close-requires : goal.close-requires
close-requires c = opened_here c.self.inside.slab.slots c.args.self.now c.self.view_is c.args.pid c.args.fd c.requires.open c.in-Some.process.now (sym c.in-Some.ensures.value)

pub invariant_of-self-2 : goal.invariant_of-self-2
invariant_of-self-2 c = still_table c.self.inside.slab.slots c.args.self.now c.self.view_is c.args.pid c.args.fd c.requires.open c.in-Some.process.now c.close.new.self c.self.invariant (sym c.in-Some.ensures.value) c.close.ensures.kept

pub returns : goal.returns
returns c = record { closed = open_changed c.self.inside.slab.slots c.args.self.now c.self.view_is c.args.pid c.args.fd c.requires.open c.in-Some.process.now c.close.new.self (λ p. without_descriptor p c.args.fd) (sym c.in-Some.ensures.value) c.close.ensures.closed }
