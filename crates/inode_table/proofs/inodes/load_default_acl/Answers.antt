use Rattle.std.proofs.Common.{ap}
use Rattle.fs_layout.specs.declared.inode.Inode.{Inode}
use Rattle.inode_table.proofs.StoredAcls.{default_acl_in_data, data_mapped}
use Rattle.inode_table.proofs.inodes.load_default_acl.Goals as goal

pub read_acl-requires-clause-within : goal.read_acl-requires-clause-within
read_acl-requires-clause-within g c =
    let there = c.requires.there in
    let mapped = data_mapped c.requires.sound (default_acl_in_data c.requires.sound there.1 (ap (λ (u : Inode). u.default_acl) there.2) c.if-inode-eq0.false) in
    (mapped.0, mapped.1)
