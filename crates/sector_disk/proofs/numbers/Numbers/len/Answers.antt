use Rattle.std.proofs.Common.{ℕ, List, ap, length, sym, ◌∙◌}
use Rattle.sector_disk.proofs.Sparse.{numbers_len}
use Rattle.sector_disk.proofs.numbers.Numbers.len.Goals as goal

pub returns : goal.returns
returns c =
    let i = c.self.inside in
    sym (numbers_len i.count i.blocks.items i.stored.items) ∙ ap (λ (l : List ℕ). length l) c.self.view_is
