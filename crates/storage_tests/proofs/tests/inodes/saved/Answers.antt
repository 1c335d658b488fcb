use Rattle.std.proofs.Common.{arith}
use Rattle.storage_tests.proofs.Lives.{empty_after}
use Rattle.inode_table.proofs.Saved.{attributes_sound, attributes_keep_bytes}
use Rattle.inode_table.proofs.Sound.{room_left}
use Rattle.storage_tests.proofs.tests.inodes.saved.Goals as goal

pub write_inode-requires-clause-room : goal.write_inode-requires-clause-room
write_inode-requires-clause-room g c = λ none. room_left c.args.geometry 2 (g.S.Sectors.state c.load_file.new.s.inner) c.in_ok-inode.ensures.spare (omega arith)

pub save-requires-clause-spare : goal.save-requires-clause-spare
save-requires-clause-spare g c = omega (arith, c.in_ok-inode.ensures.spare)

pub returns-in_ok-write_inode-in-Inode-clause-sound : goal.returns-in_ok-write_inode-in-Inode-clause-sound
returns-in_ok-write_inode-in-Inode-clause-sound g c =
    let read = c.in_ok-inode.ensures in
    let now = c.in_ok-write_inode-in-Inode.ensures in
    attributes_sound c.args.geometry c.args.ino c.in_ok-inode.inode (g.S.Sectors.state c.load_file.new.s.inner) (g.S.Sectors.state c.write_inode.new.s.inner)
    read.sound c.requires.below read.attributes read.fits now.saved now.store

pub returns-in_ok-write_inode-in-Inode-clause-empty : goal.returns-in_ok-write_inode-in-Inode-clause-empty
returns-in_ok-write_inode-in-Inode-clause-empty g c =
    let p = c.args.geometry in
    let n = c.args.ino in
    let mid = g.S.Sectors.state c.load_file.new.s.inner in
    let new = g.S.Sectors.state c.write_inode.new.s.inner in
    let read = c.in_ok-inode.ensures in
    empty_after p n (g.S.Sectors.state c.args.s.now.inner) mid new read.same
    (attributes_keep_bytes p n c.in_ok-inode.inode mid new read.sound c.requires.below read.attributes read.fits c.in_ok-write_inode-in-Inode.ensures.saved)

pub returns-in_ok-save-in-Attributes-clause-empty : goal.returns-in_ok-save-in-Attributes-clause-empty
returns-in_ok-save-in-Attributes-clause-empty g c =
    empty_after c.args.geometry c.args.ino (g.S.Sectors.state c.args.s.now.inner) (g.S.Sectors.state c.load_file.new.s.inner) (g.S.Sectors.state c.save.new.s.inner)
    c.in_ok-inode.ensures.same c.in_ok-save-in-Attributes.ensures.bytes

pub returns-in_ok-save_acl-in-Access-clause-empty : goal.returns-in_ok-save_acl-in-Access-clause-empty
returns-in_ok-save_acl-in-Access-clause-empty g c =
    empty_after c.args.geometry c.args.ino (g.S.Sectors.state c.args.s.now.inner) (g.S.Sectors.state c.load_file.new.s.inner) (g.S.Sectors.state c.save_acl.new.s.inner)
    c.in_ok-inode.ensures.same c.in_ok-save_acl-in-Access.ensures.bytes

pub returns-in_ok-save_default_acl-in-Default-clause-empty : goal.returns-in_ok-save_default_acl-in-Default-clause-empty
returns-in_ok-save_default_acl-in-Default-clause-empty g c =
    empty_after c.args.geometry c.args.ino (g.S.Sectors.state c.args.s.now.inner) (g.S.Sectors.state c.load_file.new.s.inner) (g.S.Sectors.state c.save_default_acl.new.s.inner)
    c.in_ok-inode.ensures.same c.in_ok-save_default_acl-in-Default.ensures.bytes
