use Rattle.std.proofs.Common.{◌≢◌, arith, sym}
use Rattle.open_files.proofs.Numbered.{positive, unchanged, changed, set_is_table}
use Rattle.open_files.proofs.procs.Procs.stand_at.Goals as goal

pub overflow_sub-pid : goal.overflow_sub-pid
overflow_sub-pid c =
    let some : c.args.pid ≢ 0 = positive c.self.inside.slab.slots c.args.self.now c.self.view_is c.args.pid (c.requires.found) in
    omega (arith, some)

pub returns-in_default : goal.returns-in_default
returns-in_default c =
    let some : c.args.pid ≢ 0 = positive c.self.inside.slab.slots c.args.self.now c.self.view_is c.args.pid (c.requires.found) in
    record { set = unchanged c.self.inside.slab.slots c.args.self.now c.self.view_is c.args.pid (λ p. record p { cwd = c.args.dir_ino }) some (sym c.in_default.ensures.value) }

pub invariant_of-self-2 : goal.invariant_of-self-2
invariant_of-self-2 c =
    let some : c.args.pid ≢ 0 = positive c.self.inside.slab.slots c.args.self.now c.self.view_is c.args.pid (c.requires.found) in
    set_is_table c.self.inside.slab.slots c.args.pid c.in-Some.process.now c.stand_at.new.self c.self.invariant some (sym c.in-Some.ensures.value)
    c.stand_at.ensures.kept

pub returns : goal.returns
returns c =
    let some : c.args.pid ≢ 0 = positive c.self.inside.slab.slots c.args.self.now c.self.view_is c.args.pid (c.requires.found) in
    record { set = changed c.self.inside.slab.slots c.args.self.now c.self.view_is c.args.pid c.in-Some.process.now c.stand_at.new.self (λ p. record p { cwd = c.args.dir_ino }) some (sym c.in-Some.ensures.value) c.stand_at.ensures.set }
