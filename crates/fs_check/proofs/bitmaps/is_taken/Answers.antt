use Rattle.std.proofs.Common.{ap, ◌∙◌}
use Rattle.fs_layout.specs.Bytes.{u16_of}
use Rattle.fs_check.proofs.BitTests.{taken_there}
use Rattle.fs_check.proofs.bitmaps.is_taken.Goals as goal

pub returns-else-geometry-ino : goal.returns-else-geometry-ino
returns-else-geometry-ino c = λ m there.
    let field = c.kind_field.ensures ∙ ap (u16_of c.args.table.now) c.inode_offset.ensures.value in
    taken_there c.args.geometry m c.args.ino c.args.table.now c.kind_field.result c.if-geometry-ino.false.0 c.if-geometry-ino.false.1 field there
