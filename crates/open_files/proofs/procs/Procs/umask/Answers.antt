use Rattle.std.proofs.Common.{◌%◌, ap, sym, ◌∙◌, Ok}
use Rattle.open_files.proofs.Numbered.{zero_absent, at_number, without_process, of_this_process, unchanged, unchanged_at_zero, changed, set_is_table}
use Rattle.open_files.proofs.procs.Procs.umask.Goals as goal

pub returns-then-pid-eq0-clause-answer : goal.returns-then-pid-eq0-clause-answer
returns-then-pid-eq0-clause-answer c =
    without_process c.args.self.now c.args.pid (λ p. Ok p.umask) (zero_absent c.self.inside.slab.slots c.args.self.now c.self.view_is c.args.pid c.if-pid-eq0.true)

pub returns-then-pid-eq0-clause-set : goal.returns-then-pid-eq0-clause-set
returns-then-pid-eq0-clause-set c =
    unchanged_at_zero c.self.inside.slab.slots c.args.self.now c.self.view_is c.args.pid (λ p. record p { umask = c.args.mask % 512 }) c.if-pid-eq0.true

pub returns-in_default-clause-answer : goal.returns-in_default-clause-answer
returns-in_default-clause-answer c =
    without_process c.args.self.now c.args.pid (λ p. Ok p.umask)
    (at_number c.self.inside.slab.slots c.args.self.now c.self.view_is c.args.pid (λ e. c.if-pid-eq0.false e) ∙ sym c.in_default.ensures.value)

pub returns-in_default-clause-set : goal.returns-in_default-clause-set
returns-in_default-clause-set c =
    unchanged c.self.inside.slab.slots c.args.self.now c.self.view_is c.args.pid (λ p. record p { umask = c.args.mask % 512 })
    (λ e. c.if-pid-eq0.false e) (sym c.in_default.ensures.value)

pub invariant_of-self-2 : goal.invariant_of-self-2
invariant_of-self-2 c =
    set_is_table c.self.inside.slab.slots c.args.pid c.in-Some.process.now c.set_umask.new.self c.self.invariant
    (λ e. c.if-pid-eq0.false e) (sym c.in-Some.ensures.value) c.set_umask.ensures.kept

pub returns-clause-answer : goal.returns-clause-answer
returns-clause-answer c =
    ap Ok c.set_umask.ensures.old ∙ of_this_process c.args.self.now c.args.pid (λ p. Ok p.umask) c.in-Some.process.now
    (at_number c.self.inside.slab.slots c.args.self.now c.self.view_is c.args.pid (λ e. c.if-pid-eq0.false e) ∙ sym c.in-Some.ensures.value)

pub returns-clause-set : goal.returns-clause-set
returns-clause-set c =
    changed c.self.inside.slab.slots c.args.self.now c.self.view_is c.args.pid c.in-Some.process.now c.set_umask.new.self
    (λ p. record p { umask = c.args.mask % 512 }) (λ e. c.if-pid-eq0.false e) (sym c.in-Some.ensures.value) c.set_umask.ensures.set
