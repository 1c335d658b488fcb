use Rattle.std.proofs.Common.{refl}
use Rattle.std.proofs.lemmas.Result.{err_from_is_err_and}
use Rattle.fs_model.specs.Rules.{InodeBits, Inodes}
use Rattle.fs_check.proofs.Carrying.{first_error, second_passed, both_obeyed}
use Rattle.fs_check.proofs.checking.check_tables.Goals as goal

pub returns-in_err-inode_bits-clause-passed : goal.returns-in_err-inode_bits-clause-passed
returns-in_err-inode_bits-clause-passed g c =
    first_error (g.D.Disk.state c.args.disk.now) (g.D.Disk.state c.inode_bits.new.disk) InodeBits 3 refl c.requires.opened c.requires.before _
    c.from_residual.result (err_from_is_err_and c.from_residual.result c.from_residual.ensures.1) c.in_err-inode_bits.ensures.passed

pub returns-clause-passed : goal.returns-clause-passed
returns-clause-passed g c =
    second_passed (g.D.Disk.state c.args.disk.now) (g.D.Disk.state c.inode_bits.new.disk) (g.D.Disk.state c.read_inodes.new.disk) InodeBits Inodes 3 refl refl c.requires.opened
    c.requires.before c.in_ok-inode_bits.ensures.passed.reads c.in_ok-inode_bits.ensures.each c.read_inodes.result c.read_inodes.ensures.passed

pub returns-clause-before : goal.returns-clause-before
returns-clause-before g c =
    both_obeyed (g.D.Disk.state c.args.disk.now) (g.D.Disk.state c.inode_bits.new.disk) (g.D.Disk.state c.read_inodes.new.disk) InodeBits Inodes 3 refl refl c.requires.opened
    c.requires.before c.in_ok-inode_bits.ensures.passed.reads c.in_ok-inode_bits.ensures.each c.read_inodes.result c.read_inodes.ensures.each
