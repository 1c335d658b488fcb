use Rattle.std.proofs.Common.{arith}
use Rattle.fs_layout.specs.declared.inode.TheConstants.{INODE_SIZE}
use Rattle.fs_layout.proofs.Codecs.{part}
use Rattle.fs_layout.proofs.InPlace.{valid_fields}
use Rattle.fs_layout.proofs.inode.Inode.read_valid.Goals as goal

pub returns : goal.returns
returns c = λ v valid.
    valid_fields v (part c.args.from.now c.args.at _ INODE_SIZE (omega arith)) c.u16_at.ensures c.of_number.ensures c.unwrap_or-kind.ensures c.fields.ensures valid
