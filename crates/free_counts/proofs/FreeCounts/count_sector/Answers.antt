use Rattle.std.proofs.Common.{ℕ, ap, ◌∙◌, arith, Some, List}
use Rattle.bit_alloc.specs.Bits.{clear_below}
use Rattle.bit_alloc.proofs.Maps.{counted_at_most}
use Rattle.free_counts.proofs.Known.{tells_set}
use Rattle.free_counts.proofs.FreeCounts.count_sector.Goals as goal

pub overflow_cast-count : goal.overflow_cast-count
overflow_cast-count g c =
    let sector : List ℕ = c.get.new.to in
    omega (arith, c.count_clear-count.ensures, counted_at_most (λ _. sector) 0 4096)

pub returns-clause-count : goal.returns-clause-count
returns-clause-count g c =
    let sector : List ℕ = c.get.new.to in
    c.count_clear-count.ensures
    ∙ ap (λ (s : List ℕ). clear_below (λ _. s) 0 4096) c.in_ok-get.ensures.content

pub returns-clause-told : goal.returns-clause-told
returns-clause-told g c =
    let sector : List ℕ = c.get.new.to in
    tells_set (g.S.Sectors.state c.args.s.now).header (g.S.Sectors.state c.args.s.now).sectors c.args.self.now c.set.new.self c.args.n (Some c.count_clear-count.result)
    (c.count_clear-count.ensures
    ∙ ap (λ (s : List ℕ). clear_below (λ _. s) 0 4096) c.in_ok-get.ensures.content) c.set.ensures.here c.set.ensures.others c.requires.told
