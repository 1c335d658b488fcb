use Rattle.std.proofs.Common.{sym, ◌∙◌}
use Rattle.open_files.proofs.Numbered.{zero_absent, at_number}
use Rattle.open_files.proofs.procs.Procs.find.Goals as goal

pub returns-then-pid-eq0-clause-found : goal.returns-then-pid-eq0-clause-found
returns-then-pid-eq0-clause-found c = sym (zero_absent c.self.inside.slab.slots c.args.self.now c.self.view_is c.args.pid c.if-pid-eq0.true)

pub returns-else-pid-eq0-clause-found : goal.returns-else-pid-eq0-clause-found
returns-else-pid-eq0-clause-found c =
    c.get.ensures ∙ sym (at_number c.self.inside.slab.slots c.args.self.now c.self.view_is c.args.pid (λ e. c.if-pid-eq0.false e))
