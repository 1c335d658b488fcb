use Rattle.host_trees.specs.Copies.{AsksTelling, IsMaking}
use Rattle.host_trees.proofs.packing.names_of.Given as goal

abbrev pub invariant-loop-entry : goal.invariant-loop-entry
invariant-loop-entry g l =
    AsksTelling g.M.FileSystem.Serves IsMaking l.initial.asker.machine l.asker.machine l.initial.asker.is_whole l.asker.is_whole l.initial.err l.err
