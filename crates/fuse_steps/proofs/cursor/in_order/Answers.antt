use Rattle.std.proofs.Common.{rules, List, ℕ, ap, ◌∙◌}
use Rattle.std.specs.Ordering.{is_lt}
use Rattle.std.proofs.lemmas.List.MinMax.{ranks_by}
use Rattle.std.proofs.lemmas.List.Sorted.{IsPermutation-trans, answers_always}
use Rattle.fs_model.specs.declared.listing.Named.{Named}
use Rattle.fuse_plans.specs.ListingOrder.{compare_listed, in_order}
use Rattle.fuse_steps.proofs.Cursors.{compare_total, compare_anti}
use Rattle.fuse_steps.proofs.Sorted.{ordered-from_sort}
use Rattle.fuse_steps.proofs.cursor.in_order.Goals as goal

abbrev pair : Named → List ℕ × ℕ
pair n = (n.name, n.ino)

pub returns : goal.returns
returns c =
    let sort = c.sort_unstable_by.ensures in
    let brought = c.sort_by_cached_key-brought.ensures.permutation in
    c.new.ensures
    ∙ ordered-from_sort pair compare_listed compare_total compare_anti c.into_names-names.result.items c.sort_unstable_by.new.self.items
    (IsPermutation-trans _ _ _ brought sort.permutation)
    (sort.sorted (λ a b. is_lt (compare_listed (pair a) (pair b))) (ranks_by compare_total pair) (answers_always _ _ _ (λ f a r q called. search rules)))
    ∙ ap in_order c.into_names-names.ensures
