use Rattle.std.proofs.Common.{rules}
use Rattle.std.proofs.lemmas.List.Sorted.{answers_always}
use Rattle.fs_check.specs.Naming.{is_below}
use Rattle.fs_check.proofs.DistinctNames.{names_rank}
use Rattle.fs_check.proofs.slots.sort_by_name.Goals as goal

pub returns-clause-sorted : goal.returns-clause-sorted
returns-clause-sorted c = c.sort_unstable_by.ensures.sorted is_below names_rank (answers_always _ _ _ (λ f a r q k. search rules))
