use Rattle.call_parts.specs.BothTables.{both}
use Rattle.file_calls.proofs.Endings.{IsLeaving}
use Rattle.file_calls.proofs.process.leave_all.Given as goal

abbrev pub invariant-loop-fd : goal.invariant-loop-fd
invariant-loop-fd g l = IsLeaving l.geometry (g.S.Sectors.state l.initial.s) (g.S.Sectors.state l.s) (both l.procs l.openings.0) l.pid l.fd
