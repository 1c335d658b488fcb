use Rattle.std.proofs.Common.{◌≡◌, ◌-◌, ◌≤◌}
use Rattle.fs_shell.specs.Scripts.{script_limit, bytes_left}
use Rattle.fs_shell.proofs.Sessions.{Running}
use Rattle.fs_shell.proofs.runner.run_lines.Given as goal

abbrev pub invariant-loop-fs : goal.invariant-loop-fs
invariant-loop-fs g l = record {
  running : Running g.D.Disk.state (g.R.Read.remaining l.initial.reader.inner) (bytes_left l.pending (g.R.Read.remaining l.reader.inner))
      (g.W.Write.contents l.initial.writer.inner) (g.W.Write.contents l.writer.inner) l.pending.given l.count l.initial.fs l.fs;
  lines : l.count.lines ≤ l.pending.given;
  faults : l.count.faults ≤ l.count.lines;
  limit : l.pending.given ≤ script_limit;
  reader_is_same : l.reader.failed ≡ l.initial.reader.failed;
  writer_is_same : l.writer.failed ≡ l.initial.writer.failed;
}

abbrev pub decreases-loop-fs : goal.decreases-loop-fs
decreases-loop-fs g l = script_limit - l.pending.given
