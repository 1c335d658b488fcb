use Rattle.std.proofs.Common.{sym, ◌∙◌, Ok}
use Rattle.open_files.proofs.Numbered.{zero_absent, at_number, without_process, of_this_process, nothing_gone, gone, emptied_is_table}
use Rattle.open_files.proofs.procs.Procs.exit.Goals as goal

pub returns-then-pid-eq0-clause-answer : goal.returns-then-pid-eq0-clause-answer
returns-then-pid-eq0-clause-answer c =
    without_process c.args.self.now c.args.pid (λ _. Ok tt) (zero_absent c.self.inside.slab.slots c.args.self.now c.self.view_is c.args.pid c.if-pid-eq0.true)

pub returns-then-pid-eq0-clause-gone : goal.returns-then-pid-eq0-clause-gone
returns-then-pid-eq0-clause-gone c =
    c.self.view_is ∙ nothing_gone c.self.inside.slab.slots c.args.self.now c.self.view_is c.args.pid
    (zero_absent c.self.inside.slab.slots c.args.self.now c.self.view_is c.args.pid c.if-pid-eq0.true)

pub returns-in_default-clause-answer : goal.returns-in_default-clause-answer
returns-in_default-clause-answer c =
    without_process c.args.self.now c.args.pid (λ _. Ok tt)
    (at_number c.self.inside.slab.slots c.args.self.now c.self.view_is c.args.pid (λ e. c.if-pid-eq0.false e) ∙ sym c.in_default.ensures.value)

pub returns-in_default-clause-gone : goal.returns-in_default-clause-gone
returns-in_default-clause-gone c =
    gone c.self.inside.slab.slots c.args.self.now c.self.view_is c.try_remove.new.self.slots c.args.pid (λ e. c.if-pid-eq0.false e)
    (record { here = c.try_remove.ensures.updates.changed; others = c.try_remove.ensures.updates.others })

pub invariant_of-self-2 : goal.invariant_of-self-2
invariant_of-self-2 c =
    emptied_is_table c.self.inside.slab.slots c.args.self.now c.self.view_is c.try_remove.new.self.slots c.args.pid c.self.invariant
    (λ e. c.if-pid-eq0.false e) (record { here = c.try_remove.ensures.updates.changed; others = c.try_remove.ensures.updates.others })

pub returns-clause-answer : goal.returns-clause-answer
returns-clause-answer c =
    of_this_process c.args.self.now c.args.pid (λ _. Ok tt) c.in-Some._process
    (at_number c.self.inside.slab.slots c.args.self.now c.self.view_is c.args.pid (λ e. c.if-pid-eq0.false e) ∙ sym c.in-Some.ensures.value)

pub returns-clause-gone : goal.returns-clause-gone
returns-clause-gone c =
    gone c.self.inside.slab.slots c.args.self.now c.self.view_is c.try_remove.new.self.slots c.args.pid (λ e. c.if-pid-eq0.false e)
    (record { here = c.try_remove.ensures.updates.changed; others = c.try_remove.ensures.updates.others })
