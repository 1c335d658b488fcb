use Rattle.fs_check.proofs.DistinctNames.{apart_if_sorted}
use Rattle.fs_check.proofs.slots.are_names_apart.Goals as goal

pub returns : goal.returns
returns c =
    apart_if_sorted c.args.slots.now c.sort_by_name.new.slots c.are_neighbours_apart.result c.sort_by_name.ensures.permutation c.sort_by_name.ensures.sorted
    c.are_neighbours_apart.ensures
