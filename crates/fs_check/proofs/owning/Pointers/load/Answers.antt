use Rattle.std.proofs.Common.{◌-◌, sym, ap, arith, refl, ◌∙◌}
use Rattle.fs_check.specs.Checks.{meaning}
use Rattle.fs_check.proofs.AtHand.{at_hand_more}
use Rattle.fs_check.proofs.owning.Pointers.load.Goals as goal

pub returns-then-self-at-clause-content : goal.returns-then-self-at-clause-content
returns-then-self-at-clause-content g c =
    let is = c.if-self-at.true in
    c.requires.at_hand (c.args.level - 1) (λ none. c.requires.some (sym is ∙ none)) ∙ ap (meaning (g.D.Disk.state c.args.disk.now)) is

pub returns-clause-at_hand : goal.returns-clause-at_hand
returns-clause-at_hand g c =
    at_hand_more (meaning (g.D.Disk.state c.args.disk.now)) c.args.self.now _ (c.args.level - 1) c.args.s c.read_recovered.new.to c.requires.at_hand
    (omega (arith, c.requires.lowest, c.requires.highest)) (omega (arith, c.requires.lowest, c.requires.highest)) refl refl c.in_ok-read_recovered.ensures.content
