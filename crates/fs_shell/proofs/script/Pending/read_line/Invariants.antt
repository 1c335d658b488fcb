use Rattle.std.proofs.Common.{◌≡◌, ◌-◌}
use Rattle.fs_shell.specs.Scripts.{script_limit, bytes_left}
use Rattle.fs_shell.proofs.Reading.{IsReading}
use Rattle.fs_shell.proofs.script.Pending.read_line.Given as goal

abbrev pub invariant-loop-self : goal.invariant-loop-self
invariant-loop-self g l = record {
  reading : IsReading (bytes_left l.initial.self (g.R.Read.remaining l.initial.reader.inner)) (bytes_left l.self (g.R.Read.remaining l.reader.inner))
      l.initial.self.given l.self.given l.line.items;
  reader_is_same : l.reader.failed ≡ l.initial.reader.failed;
}

abbrev pub decreases-loop-self : goal.decreases-loop-self
decreases-loop-self g l = script_limit - l.self.given
