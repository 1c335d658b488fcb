use Rattle.std.proofs.Common.{rules, ◌<◌, ◌^◌}
use Rattle.std.proofs.lemmas.List.Sorted.{answers_always, All-permutation}
use Rattle.posix_acl.specs.Entries.{tag_number}
use Rattle.posix_acl.proofs.Ordering.{FitsAll, ordered_from_sort}
use Rattle.posix_acl.proofs.validity.sorted.Goals as goal

all_fit : (c : goal.In_ok-sort_by_key) → FitsAll c.sort_by_key.new.self.items
all_fit c = All-permutation (λ e. e.id < 2 ^ 32) _ _ c.in_ok-sort_by_key.ensures.permutation c.in_ok-sorted.ensures.fit

pub returns-clause-fit : goal.returns-clause-fit
returns-clause-fit c = all_fit c

pub returns-clause-order : goal.returns-clause-order
returns-clause-order c =
    ordered_from_sort _ (all_fit c)
    (c.in_ok-sort_by_key.ensures.sorted (λ e. (tag_number e.tag, e.id)) (answers_always _ _ _ (λ f a r q k. search rules)))
