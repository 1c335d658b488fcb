use Rattle.std.proofs.Common.{arith, rules}
use Rattle.inode_table.proofs.Sound.{room_left}
use Rattle.inode_table.proofs.Saved.{HasSaved, has_saved}
use Rattle.inode_table.proofs.inodes.save.Goals as goal

pub write_inode-requires-clause-room : goal.write_inode-requires-clause-room
write_inode-requires-clause-room g c = λ none. room_left c.args.geometry 1 (g.S.Sectors.state c.args.s.now) c.requires.spare (omega arith)

is_saved : (g : _) (c : goal.In_ok-write_inode g) → HasSaved c.args.geometry c.args.ino c.args.inode.now (g.S.Sectors.state c.args.s.now) (g.S.Sectors.state c.write_inode.new.s)
is_saved g c =
    let now = c.in_ok-write_inode.ensures in
    has_saved c.args.geometry c.args.ino c.args.inode.now (g.S.Sectors.state c.args.s.now) (g.S.Sectors.state c.write_inode.new.s)
    c.requires.sound c.requires.below c.requires.attributes c.requires.fits now.saved now.puts

pub returns : goal.returns
returns g c =
    let s = is_saved g c in search rules
