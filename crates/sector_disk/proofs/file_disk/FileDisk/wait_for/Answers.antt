use Rattle.std.proofs.Common.{◌<◌, length, sym, subst}
use Rattle.std.specs.Result.{is_ok}
use Rattle.sector_disk.specs.Record.{recorded_state}
use Rattle.sector_disk.specs.declared.memory.MemDisk.{MemDisk}
use Rattle.sector_disk.proofs.Following.{pushed_in, pushed_more, follows_more}
use Rattle.sector_disk.proofs.file_disk.FileDisk.wait_for.Goals as goal

pub invariant_of-self : goal.invariant_of-self
invariant_of-self g c =
    let disk = c.make_room.new.self in
    let memory = disk.memory.value in
    let new = c.push.new.self.items in
    let ok = is_ok c.push.result in
    let below = subst (λ (m : MemDisk). c.args.n < length m.history.start) (sym c.in_ok-make_room.ensures) c.requires in
    record {
      room = disk.room;
      in_disk = pushed_in (length memory.history.start) c.args.n disk.waiting.items new ok c.push.ensures.items disk.in_disk below;
      follows = follows_more (recorded_state memory.history memory.failures) disk.waiting.items new disk.all_wait (g.F.DiskFile.held disk.file) (pushed_more c.args.n disk.waiting.items new ok c.push.ensures.items) disk.follows;
    }
