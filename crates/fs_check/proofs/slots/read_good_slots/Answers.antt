use Rattle.std.proofs.Common.{rules}
use Rattle.fs_check.specs.Naming.{AreSlots}
use Rattle.fs_check.specs.Checks.{meaning}
use Rattle.fs_check.proofs.DirectorySlots.{are_good, not_good}
use Rattle.fs_check.proofs.slots.read_good_slots.Goals as goal

pub returns-clause-slots : goal.returns-clause-slots
returns-clause-slots g c =
    let m = meaning (g.D.Disk.state c.args.disk.now) in
    let are : AreSlots c.args.opened.now.geometry.version m c.args.inode.now c.in-Some.slots.items = search rules in (
      are_good c.args.opened.now.geometry m c.args.inode.now c.args.inodes.now c.in-Some.slots.items c.requires.table are c.are_usable.result c.deref.result.now
          c.deref.ensures.value c.if-not-are_usable.false c.are_usable.ensures,
      are,
    )

pub returns-then-not-are_usable-clause-slots : goal.returns-then-not-are_usable-clause-slots
returns-then-not-are_usable-clause-slots g c =
    let m = meaning (g.D.Disk.state c.args.disk.now) in
    let are : AreSlots c.args.opened.now.geometry.version m c.args.inode.now c.in-Some.slots.items = search rules in
    not_good c.args.opened.now.geometry m c.args.inode.now c.args.inodes.now c.in-Some.slots.items c.requires.table are c.are_usable.result c.deref.result.now
    c.deref.ensures.value c.if-not-are_usable.true c.are_usable.ensures
