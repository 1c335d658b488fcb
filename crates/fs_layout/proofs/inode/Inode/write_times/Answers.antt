use Rattle.std.proofs.Common.{arith}
use Rattle.fs_layout.proofs.InPlace.{times_put}
use Rattle.fs_layout.proofs.inode.Inode.write_times.Goals as goal

pub returns : goal.returns
returns c = λ v differs there.
    times_put c.args.to.now _ _ _ c.args.at v c.args.self.now (omega arith) (omega arith) (omega arith) (omega arith) c.put_u64.ensures c.put_u64-2.ensures c.put_u64-3.ensures differs there
