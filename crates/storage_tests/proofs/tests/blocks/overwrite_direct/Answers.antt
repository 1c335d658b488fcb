use Rattle.std.proofs.Common.{◌/◌, sym, ◌∙◌, arith}
use Rattle.fs_layout.proofs.Pointers.{pointer_direct}
use Rattle.storage_tests.proofs.tests.blocks.overwrite_direct.Goals as goal

pub overwrite-requires-clause-no_hole : goal.overwrite-requires-clause-no_hole
overwrite-requires-clause-no_hole g c = λ none.
    c.if-inode-offset-eq0.false (sym (pointer_direct (g.S.Sectors.state c.args.s.now).sectors c.args.inode.now (c.args.offset / 512) (omega (arith, c.if-offset-ge6144.false))) ∙ none)
