use Rattle.fs_model.specs.Reading.{IsReading}
use Rattle.host_trees.specs.Copies.{AsksTelling}
use Rattle.host_trees.proofs.unpacking.unpack_names.Given as goal

abbrev pub invariant-loop-named : goal.invariant-loop-named
invariant-loop-named g l =
    AsksTelling g.M.FileSystem.Serves IsReading l.initial.asker.machine l.asker.machine l.initial.asker.is_whole l.asker.is_whole l.initial.err l.err
