use Rattle.std.proofs.Common.{rules}
use Rattle.std.specs.Ordering.{is_lt}
use Rattle.std.proofs.lemmas.Cmp.{nat_list_cmp_total}
use Rattle.std.proofs.lemmas.List.Sorted.{ranks_by, answers_always}
use Rattle.fs_layout.specs.Maps.{name_cmp}
use Rattle.fs_layout.specs.Directories.{NamedInode}
use Rattle.dir_core.proofs.Entries.{sorted_entries}
use Rattle.dir_core.proofs.names.sort_by_name.Goals as goal

pub returns : goal.returns
returns c =
    sorted_entries c.args.slots.now c.sort_unstable_by.new.self c.sort_unstable_by.ensures.permutation c.requires
    (c.sort_unstable_by.ensures.sorted (λ x y. is_lt (name_cmp x.name y.name)) (ranks_by nat_list_cmp_total (λ (x : NamedInode). x.name))
    (answers_always _ _ _ (λ f a r q k. search rules)))
