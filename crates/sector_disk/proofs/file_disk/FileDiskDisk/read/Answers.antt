use Rattle.std.proofs.Common.{◌≡◌, ◌-◌, ◌^◌, subst}
use Rattle.std.specs.Prelude.{IsErr, OnOk}
use Rattle.sector_disk.specs.Disk.{IsSame, sector}
use Rattle.sector_disk.specs.Record.{recorded_state}
use Rattle.sector_disk.specs.declared.memory.MemDisk.{MemDisk}
use Rattle.sector_disk.proofs.Following.{memory_in, memory_follows}
use Rattle.sector_disk.proofs.file_disk.FileDiskDisk.read.Goals as goal

pub returns-clause-content : goal.returns-clause-content
returns-clause-content g c =
    subst (λ (disk : MemDisk). OnOk c.read.result (c.read.new.to ≡ sector (recorded_state disk.history disk.failures).seen c.args.n))
    c.deref_mut.ensures.value c.read.ensures.content

pub invariant_of-self : goal.invariant_of-self
invariant_of-self g c = record {
  room = c.args.self.now.room;
  in_disk = memory_in c.read.new.self c.args.self.now.waiting.items c.deref_mut.ensures.value c.read.ensures.same c.args.self.now.in_disk;
  follows = memory_follows c.read.new.self c.args.self.now.waiting.items c.args.self.now.all_wait (g.F.DiskFile.held c.args.self.now.file) c.deref_mut.ensures.value c.read.ensures.same c.args.self.now.follows;
}

pub returns-clause-same : goal.returns-clause-same
returns-clause-same g c =
    let new = recorded_state c.read.new.self.history c.read.new.self.failures in
    subst (λ (was : MemDisk). IsSame (recorded_state was.history was.failures) new) c.deref_mut.ensures.value
    c.read.ensures.same

pub returns-clause-worn : goal.returns-clause-worn
returns-clause-worn g c =
    subst (λ (was : MemDisk). was.failures ≡ 2 ^ 64 - 1 → IsErr c.read.result) c.deref_mut.ensures.value
    c.read.ensures.worn
