use Rattle.std.proofs.Common.{rules}
use Rattle.fs_layout.specs.Images.{inode_at}
use Rattle.file_calls.proofs.Moded.{attributes_of}
use Rattle.file_calls.proofs.attributes.give_acl.Goals as goal

pub save_acl-requires-clause-attributes : goal.save_acl-requires-clause-attributes
save_acl-requires-clause-attributes g c =
    let old = g.S.Sectors.state c.args.s.now in
    attributes_of (inode_at c.args.geometry old.sectors c.args.ino) c.args.inode.now c.requires.inode

pub returns-in-Ok : goal.returns-in-Ok
returns-in-Ok g c =
    let e = c.in-Ok.ensures in
    record { store = e.store; sound = e.sound; taken = e.touches.puts.room; made = search rules; fault = tt }
