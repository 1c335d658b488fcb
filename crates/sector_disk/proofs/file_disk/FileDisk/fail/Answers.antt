use Rattle.std.proofs.Common.{◌∙◌, ap, length}
use Rattle.sector_disk.specs.Record.{Past}
use Rattle.sector_disk.specs.declared.memory.MemDisk.{MemDisk}
use Rattle.sector_disk.proofs.Following.{stays_in, follows_counted}
use Rattle.sector_disk.proofs.file_disk.FileDisk.fail.Goals as goal

pub invariant_of-self : goal.invariant_of-self
invariant_of-self g c =
    let disk = c.args.self.now in
    let old = disk.memory.value in
    let new = c.fail.new.self in
    let same = c.fail.ensures.history ∙ ap (λ (m : MemDisk). m.history) c.deref_mut.ensures.value in
    record {
      room = disk.room;
      in_disk = stays_in disk.waiting.items (length old.history.start) (length new.history.start) (ap (λ (p : Past). length p.start) same) disk.in_disk;
      follows = follows_counted old.history new.history old.failures new.failures disk.waiting.items disk.all_wait (g.F.DiskFile.held disk.file) same disk.follows;
    }
