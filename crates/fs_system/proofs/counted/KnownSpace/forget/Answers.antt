use Rattle.std.proofs.Common.{◌≡◌, ◌∙◌, length, refl, sym, arith, eqb-true}
use Rattle.fs_system.proofs.Remembered.{knows_same, knows_apart}
use Rattle.fs_system.proofs.counted.KnownSpace.forget.Goals as goal

pub returns-then-is_empty : goal.returns-then-is_empty
returns-then-is_empty c = λ size before now super same knows.
    let none : length c.args.sectors.now ≡ 0 = eqb-true (length c.args.sectors.now) 0 (sym c.is_empty.ensures ∙ c.if-is_empty.true) in
    knows_same size size before now c.args.self.now refl (λ n part. same n (λ (k, within, is). omega (arith, within, none))) knows

pub returns : goal.returns
returns c = λ size before now super same knows.
    knows_apart size before now c.args.sectors.now c.args.self.now c.forget.new.self super same c.forget.ensures.here c.forget.ensures.others knows
