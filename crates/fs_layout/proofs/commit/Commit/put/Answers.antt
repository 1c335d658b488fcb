use Rattle.std.proofs.Common.{refl}
use Rattle.fs_layout.proofs.CommitLaw.{written}
use Rattle.fs_layout.proofs.commit.Commit.put.Goals as goal

pub returns : goal.returns
returns c =
    written c.args.to.now c.put_u32.new.to c.put_u32-2.new.to c.put_u32s.new.to c.put_zeros.new.to _ c.first_targets-first.result.now c.args.area _
    c.requires.len refl c.first_targets-first.ensures.first
    c.put_u32.ensures c.put_u32-2.ensures c.put_u32s.ensures c.put_zeros.ensures
