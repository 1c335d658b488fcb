use Rattle.std.proofs.Common.{◌≡◌, ◌==◌}
use Rattle.std.specs.List.{list_any}
use Rattle.fs_model.specs.Processes.{is_open}
use Rattle.open_files.proofs.procs.Procs.is_open.Given as goal

-- the answer is that of the processes that are left
abbrev pub invariant-loop-process : goal.invariant-loop-process
invariant-loop-process l =
    (goal.iterator-loop-process).can_next l.process-iterator ×
    (goal.iterator-loop-process).is_finite l.process-iterator ×
    (list_any (λ e. list_any (λ d. d.1.ino == l.ino) e.1.descriptors) l.process-iterator ≡ is_open l.self l.ino)
