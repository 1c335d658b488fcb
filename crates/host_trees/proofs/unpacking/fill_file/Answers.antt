use Rattle.host_trees.proofs.Asking.{asks_then}
use Rattle.host_trees.proofs.unpacking.fill_file.Goals as goal

pub returns-in_err-stamps : goal.returns-in_err-stamps
returns-in_err-stamps g c = asks_then c.read_file.ensures c.stamps_of.ensures

pub returns-in_err-finish_file : goal.returns-in_err-finish_file
returns-in_err-finish_file g c = asks_then c.read_file.ensures c.stamps_of.ensures

pub returns : goal.returns
returns g c = asks_then c.read_file.ensures c.stamps_of.ensures
