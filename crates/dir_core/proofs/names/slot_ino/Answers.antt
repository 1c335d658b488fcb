use Rattle.std.proofs.Common.{◌-◌, ap, ◌∙◌, arith, drop}
use Rattle.std.proofs.lemmas.List.{take_all, length-drop}
use Rattle.byteorder.specs.Endian.{little_number}
use Rattle.fs_layout.specs.Bytes.{u32_of}
use Rattle.dir_core.proofs.Pieces.{inode_there}
use Rattle.dir_core.proofs.names.slot_ino.Goals as goal

pub returns : goal.returns
unfolding u32_of
returns c = λ version x is.
    let block = c.args.block.now in
    let rest = drop c.args.at block in
    c.read_u32.ensures
    ∙ ap (little_number 4) (take_all (512 - c.args.at) rest (omega (arith, length-drop c.args.at block)))
    ∙ inode_there block c.args.at x is
