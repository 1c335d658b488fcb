use Rattle.std.proofs.Common.{List, ℕ, subst, ◌∙◌, arith}
use Rattle.block_map.specs.Steps.{TakesSector}
use Rattle.bit_alloc.proofs.Passing.{through_try}
use Rattle.block_map.proofs.Rewritten.{filled, filled_whole}
use Rattle.block_map.proofs.steps.take_block.Goals as goal

pub returns-in_err-number-clause-full : goal.returns-in_err-number-clause-full
returns-in_err-number-clause-full g c = through_try _ c.from_residual.result c.in_err-number.field-0.0 c.from_residual.ensures c.in_err-number.ensures.full

pub returns-in-Some-clause-taken : goal.returns-in-Some-clause-taken
returns-in-Some-clause-taken g c =
    let old = g.S.Sectors.state c.args.s.now in
    let new = g.S.Sectors.state c.take_sector.new.s in
    let chunk = c.in-Some.ensures.cases in
    let e = chunk.same ∙ filled_whole c.args.at c.args.bytes.now chunk.long (omega (arith, chunk.long, c.requires.fits)) in
    subst (λ (x : List ℕ). TakesSector c.args.geometry x old new c.in_ok-number.number) e c.in_ok-number.ensures.taken

pub returns-clause-taken : goal.returns-clause-taken
returns-clause-taken g c =
    let old = g.S.Sectors.state c.args.s.now in
    let new = g.S.Sectors.state c.take_sector-2.new.s in
    subst (λ (x : List ℕ). TakesSector c.args.geometry x old new c.in_ok-number-2.number) (filled c.args.at c.copy_from_slice.ensures.after (omega arith)) c.in_ok-number-2.ensures.taken
