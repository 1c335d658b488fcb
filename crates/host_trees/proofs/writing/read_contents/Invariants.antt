use Rattle.fs_model.specs.Reading.{IsReading}
use Rattle.host_trees.specs.Copies.{Asks}
use Rattle.host_trees.proofs.writing.read_contents.Given as goal

abbrev pub invariant-loop : goal.invariant-loop
invariant-loop g l = Asks g.M.FileSystem.Serves IsReading l.initial.asker.machine l.asker.machine l.initial.asker.is_whole l.asker.is_whole
