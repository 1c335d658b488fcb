use Rattle.host_trees.specs.Copies.{AsksTelling, IsMaking}
use Rattle.host_trees.proofs.packing.pack_directories.Given as goal

abbrev pub invariant-loop : goal.invariant-loop
invariant-loop g l =
    AsksTelling g.M.FileSystem.Serves IsMaking l.initial.asker.machine l.asker.machine l.initial.asker.is_whole l.asker.is_whole l.initial.err l.err
