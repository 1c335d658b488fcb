use Rattle.std.proofs.Common.{◌≡◌, ◌==◌, not, ◌&&◌}
use Rattle.std.specs.List.{list_any}
use Rattle.std.specs.Ordering.{nat_cmp}
use Rattle.fs_layout.specs.Maps.{without}
use Rattle.fs_model.specs.Processes.{is_open}
use Rattle.open_files.proofs.procs.Procs.is_open_by_others.Given as goal

-- the answer is that of the processes that are left
abbrev pub invariant-loop-key : goal.invariant-loop-key
invariant-loop-key l =
    (goal.iterator-loop-key).can_next l.key-iterator ×
    (goal.iterator-loop-key).is_finite l.key-iterator ×
    (list_any (λ e. not (e.0 == l.own) && list_any (λ d. d.1.ino == l.ino) e.1.descriptors) l.key-iterator ≡ is_open (without nat_cmp l.self l.pid) l.ino)
