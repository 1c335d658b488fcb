use Rattle.std.proofs.Common.{◌-◌, ℕ, ap, ◌∙◌, List, Option}
use Rattle.free_counts.specs.Known.{count_known}
use Rattle.free_counts.proofs.Known.{none_known, none_alone}
use Rattle.free_counts.proofs.FreeCounts.new.Goals as goal

pub returns : goal.returns
returns c = λ n.
    let p = c.args.geometry in
    ap (λ (l : List (Option ℕ)). count_known (record { first = p.inode_bitmap; counts = l }) n)
    (c.in_ok-vec.ensures.items_if_clones_equal (none_alone _ (λ k is. is))) ∙ none_known p.inode_bitmap (p.table - p.inode_bitmap) n
