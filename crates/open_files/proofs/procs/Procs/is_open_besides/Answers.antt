use Rattle.std.proofs.Common.{sym}
use Rattle.open_files.specs.Tables.{without_descriptor}
use Rattle.open_files.proofs.Numbered.{open_besides}
use Rattle.open_files.proofs.OpenSlots.{besides_before, besides_after}
use Rattle.open_files.proofs.procs.Procs.is_open_besides.Goals as goal

pub returns-then-has_open_besides : goal.returns-then-has_open_besides
returns-then-has_open_besides c =
    besides_before _ _ _ c.has_open_besides.result c.has_open_besides.ensures c.if-has_open_besides.true
    (sym (open_besides c.args.self.now c.args.pid c.in-Some.process.now (λ p. without_descriptor p c.args.fd) c.args.ino c.find.ensures.table
    (sym c.in-Some.ensures.found)))

pub returns-else-has_open_besides : goal.returns-else-has_open_besides
returns-else-has_open_besides c =
    besides_after _ _ _ c.has_open_besides.result c.is_open_by_others.result c.has_open_besides.ensures c.if-has_open_besides.false
    c.is_open_by_others.ensures
    (sym (open_besides c.args.self.now c.args.pid c.in-Some.process.now (λ p. without_descriptor p c.args.fd) c.args.ino c.find.ensures.table
    (sym c.in-Some.ensures.found)))
