use Rattle.host_trees.specs.Copies.{AsksTelling, IsMaking}
use Rattle.host_trees.proofs.packing.pack_names.Given as goal

abbrev pub invariant-loop-name : goal.invariant-loop-name
invariant-loop-name g l =
    AsksTelling g.M.FileSystem.Serves IsMaking l.initial.asker.machine l.asker.machine l.initial.asker.is_whole l.asker.is_whole l.initial.err l.err
