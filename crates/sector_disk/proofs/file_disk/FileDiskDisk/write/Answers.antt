use Rattle.std.proofs.Common.{◌∙◌, length, sym, subst, ◌≡◌, ◌-◌, ◌^◌}
use Rattle.sector_disk.specs.Disk.{ChangesOnly, Elapses, HasCause, HasWriteCause, IsWritten}
use Rattle.sector_disk.specs.Record.{recorded_state}
use Rattle.sector_disk.specs.declared.memory.MemDisk.{MemDisk}
use Rattle.sector_disk.proofs.Following.{stays_in, follows_write}
use Rattle.sector_disk.proofs.Recorded.{recorded}
use Rattle.std.proofs.lemmas.Result.{IfOk-from_err}
use Rattle.std.specs.Prelude.{IsErr, OnOk}
use Rattle.sector_disk.proofs.Refused.{changes_none, refused_disk}
use Rattle.sector_disk.proofs.file_disk.FileDiskDisk.write.Goals as goal

pub invariant_of-self : goal.invariant_of-self
invariant_of-self g c =
    let disk = c.wait_to_have.new.self in
    let old = disk.memory.value in
    let new = c.write.new.self in
    let waits = recorded c.wait_to_have.result (sym c.is_err.ensures.value ∙ c.if-is_err.false) c.wait_to_have.ensures.waits in
    let changes = subst (λ (was : MemDisk). ChangesOnly (recorded_state was.history was.failures) (recorded_state new.history new.failures) c.args.n c.args.from.now) c.deref_mut.ensures.value c.write.ensures.changes in
    record {
      room = disk.room;
      in_disk = stays_in disk.waiting.items (length old.history.start) (length new.history.start) changes.size disk.in_disk;
      follows =
          follows_write (recorded_state old.history old.failures) (recorded_state new.history new.failures) c.args.n c.args.from.now disk.waiting.items disk.all_wait (g.F.DiskFile.held disk.file)
          changes waits disk.follows;
    }

pub returns-then-is_err : goal.returns-then-is_err
returns-then-is_err g c =
    let err = c.fail.ensures.result in
    let here = refused_disk c.args.self.now.memory.value c.wait_to_have.new.self.memory.value c.fail.new.self.memory.value c.fail.result c.wait_to_have.ensures.memory c.fail.ensures.history c.fail.ensures.counted err in
    record { written = IfOk-from_err c.fail.result _ err; changes = changes_none here.same; time = here.time; cause = here.cause; told = here.told; worn = λ worn. err }

pub returns : goal.returns
returns g c =
    let r = c.write.result in
    let new = recorded_state c.write.new.self.history c.write.new.self.failures in
    let same = c.deref_mut.ensures.value ∙ c.wait_to_have.ensures.memory in
    let passed = c.write.ensures in
    record {
      written = subst (λ (was : MemDisk). OnOk r (IsWritten (recorded_state was.history was.failures) new c.args.n c.args.from.now)) same passed.written;
      changes = subst (λ (was : MemDisk). ChangesOnly (recorded_state was.history was.failures) new c.args.n c.args.from.now) same passed.changes;
      time = subst (λ (was : MemDisk). Elapses (recorded_state was.history was.failures) new) same passed.time;
      cause = subst (λ (was : MemDisk). HasCause (recorded_state was.history was.failures) new r) same passed.cause;
      told = subst (λ (was : MemDisk). HasWriteCause (recorded_state was.history was.failures) new r) same passed.told;
      worn = subst (λ (was : MemDisk). was.failures ≡ 2 ^ 64 - 1 → IsErr r) same passed.worn;
    }
