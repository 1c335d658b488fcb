use Rattle.std.proofs.Common.{ap}
use Rattle.fs_layout.specs.declared.inode.Inode.{Inode}
use Rattle.inode_table.proofs.StoredAcls.{acl_in_data, data_mapped, told_by_mode}
use Rattle.inode_table.proofs.inodes.load_acl.Goals as goal

pub returns-in-Ok-clause-found : goal.returns-in-Ok-clause-found
returns-in-Ok-clause-found g c = λ a has.
    told_by_mode (g.S.Sectors.state c.args.s.now).sectors c.args.inode.now a c.in-Ok.acl has c.if-inode-eq0.true c.in-Ok.ensures.ok

pub read_acl-requires-clause-within : goal.read_acl-requires-clause-within
read_acl-requires-clause-within g c =
    let there = c.requires.there in
    let mapped = data_mapped c.requires.sound (acl_in_data c.requires.sound there.1 (ap (λ (u : Inode). u.acl) there.2) c.if-inode-eq0.false) in
    (mapped.0, mapped.1)
