use Rattle.std.proofs.Common.{◌≡◌, ◌==◌}
use Rattle.std.specs.List.{list_any}
use Rattle.open_files.proofs.procs.Procs.is_current.Given as goal

-- the answer is that of the processes that are left
abbrev pub invariant-loop-process : goal.invariant-loop-process
invariant-loop-process l =
    (goal.iterator-loop-process).can_next l.process-iterator ×
    (goal.iterator-loop-process).is_finite l.process-iterator ×
    (list_any (λ e. e.1.cwd == l.ino) l.process-iterator ≡ list_any (λ p. p.1.cwd == l.ino) l.self)
