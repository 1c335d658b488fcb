use Rattle.sector_disk.proofs.Following.{memory_in, memory_follows}
use Rattle.sector_disk.proofs.file_disk.FileDiskDisk.forget.Goals as goal

pub invariant_of-self : goal.invariant_of-self
invariant_of-self g c = record {
  room = c.args.self.now.room;
  in_disk = memory_in c.forget.new.self c.args.self.now.waiting.items c.deref_mut.ensures.value c.forget.ensures.same c.args.self.now.in_disk;
  follows = memory_follows c.forget.new.self c.args.self.now.waiting.items c.args.self.now.all_wait (g.F.DiskFile.held c.args.self.now.file) c.deref_mut.ensures.value c.forget.ensures.same c.args.self.now.follows;
}
