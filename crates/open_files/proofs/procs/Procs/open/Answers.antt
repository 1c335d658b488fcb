use Rattle.std.proofs.Common.{◌≢◌, arith, ap, sym}
use Rattle.std.specs.Prelude.{is_some}
use Rattle.fs_model.specs.Processes.{with_descriptor}
use Rattle.open_files.proofs.Numbered.{positive, unchanged, changed, set_is_table}
use Rattle.open_files.proofs.procs.Procs.open.Goals as goal

pub overflow_sub-pid : goal.overflow_sub-pid
overflow_sub-pid c =
    let some : c.args.pid ≢ 0 = positive c.self.inside.slab.slots c.args.self.now c.self.view_is c.args.pid (ap is_some c.requires.unused.is_there) in
    omega (arith, some)

pub returns-in_default : goal.returns-in_default
returns-in_default c =
    let some : c.args.pid ≢ 0 = positive c.self.inside.slab.slots c.args.self.now c.self.view_is c.args.pid (ap is_some c.requires.unused.is_there) in
    record { opened = unchanged c.self.inside.slab.slots c.args.self.now c.self.view_is c.args.pid (λ p. with_descriptor p c.args.fd c.args.descriptor) some (sym c.in_default.ensures.value) }

pub invariant_of-self-2 : goal.invariant_of-self-2
invariant_of-self-2 c =
    let some : c.args.pid ≢ 0 = positive c.self.inside.slab.slots c.args.self.now c.self.view_is c.args.pid (ap is_some c.requires.unused.is_there) in
    set_is_table c.self.inside.slab.slots c.args.pid c.in-Some.process.now c.open.new.self c.self.invariant some (sym c.in-Some.ensures.value)
    c.open.ensures.kept

pub returns : goal.returns
returns c =
    let some : c.args.pid ≢ 0 = positive c.self.inside.slab.slots c.args.self.now c.self.view_is c.args.pid (ap is_some c.requires.unused.is_there) in
    record { opened = changed c.self.inside.slab.slots c.args.self.now c.self.view_is c.args.pid c.in-Some.process.now c.open.new.self (λ p. with_descriptor p c.args.fd c.args.descriptor) some (sym c.in-Some.ensures.value) c.open.ensures.put }
