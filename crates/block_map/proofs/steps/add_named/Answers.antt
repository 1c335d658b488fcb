use Rattle.std.proofs.Common.{refl, sym, ◌∙◌}
use Rattle.fs_layout.specs.Bytes.{zeros}
use Rattle.block_map.proofs.AddedPointers.{sector_there, first_named, named_at_hand, sets_named}
use Rattle.block_map.proofs.Rewritten.{was_full}
use Rattle.block_map.proofs.steps.add_named.Goals as goal

pub returns-then-blocks-level-ne0-clause-added : goal.returns-then-blocks-level-ne0-clause-added
returns-then-blocks-level-ne0-clause-added g c =
    sector_there c.requires.may (λ e. c.if-blocks-level-ne0.true
    (sym (first_named (g.S.Sectors.state c.args.s.now).sectors c.args.blocks.now.inode c.args.level c.requires.level.0 c.requires.level.1) ∙ e))

pub returns-in_err-number-clause-full : goal.returns-in_err-number-clause-full
returns-in_err-number-clause-full g c = λ is.
    let e = c.from_residual.ensures in (
      first_named _ c.args.blocks.now.inode c.args.level c.requires.level.0 c.requires.level.1 ∙ c.if-blocks-level-ne0.false,
      c.in_err-number.ensures.full (was_full c.from_residual.result c.in_err-number.field-0.0 e.0 e.1 is),
    )

pub returns-clause-added : goal.returns-clause-added
unfolding zeros
returns-clause-added g c =
    sets_named c.requires.may refl c.in_ok-number.ensures.taken.taken c.in_ok-number.ensures.taken.free c.in_ok-number.ensures.taken.tables c.in_ok-number.ensures.taken.puts c.in_ok-number.ensures.taken.has
    c.args.level c.requires.level.0 c.requires.level.1 c.if-blocks-level-ne0.false c.requires.inside c.was_taken.ensures.inode

pub returns-clause-at_hand : goal.returns-clause-at_hand
unfolding zeros
returns-clause-at_hand g c =
    named_at_hand c.requires.may refl c.in_ok-number.ensures.taken.taken c.in_ok-number.ensures.taken.free c.in_ok-number.ensures.taken.tables c.in_ok-number.ensures.taken.puts c.in_ok-number.ensures.taken.has
    c.args.level c.requires.level.0 c.requires.level.1 c.if-blocks-level-ne0.false refl c.requires.at_hand refl c.was_taken.ensures
