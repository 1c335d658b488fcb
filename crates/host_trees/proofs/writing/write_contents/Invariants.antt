use Rattle.host_trees.specs.Copies.{Asks, IsMaking}
use Rattle.host_trees.proofs.writing.write_contents.Given as goal

abbrev pub invariant-loop : goal.invariant-loop
invariant-loop g l = Asks g.M.FileSystem.Serves IsMaking l.initial.asker.machine l.asker.machine l.initial.asker.is_whole l.asker.is_whole
