use Rattle.std.proofs.Common.{[], ◌∙◌, Bool, List, ℕ, length, sym, subst, ◌≡◌, ◌-◌, ◌^◌}
use Rattle.sector_disk.specs.Disk.{IsNarrowed, Elapses, HasCause, HasWriteCause, IsSame}
use Rattle.sector_disk.specs.Record.{recorded_state}
use Rattle.sector_disk.specs.Replay.{seen_is_image}
use Rattle.sector_disk.specs.Files.{KeepsKnown}
use Rattle.sector_disk.specs.declared.memory.MemDisk.{MemDisk}
use Rattle.sector_disk.proofs.Following.{stays_in, follows_failed, follows_synced}
use Rattle.sector_disk.proofs.Recorded.{recorded}
use Rattle.std.proofs.lemmas.Result.{IfOk-from_err}
use Rattle.std.specs.Prelude.{IsErr, OnErr}
use Rattle.sector_disk.proofs.Refused.{on_err, refused_disk}
use Rattle.sector_disk.proofs.file_disk.FileDiskDisk.sync.Goals as goal

pub invariant_of-self : goal.invariant_of-self
invariant_of-self g c =
    let disk = c.flush.new.self in
    let memory = disk.memory.value in
    record {
      room = disk.room;
      in_disk = disk.in_disk;
      follows = follows_failed (recorded_state memory.history memory.failures) disk.waiting.items disk.all_wait (g.F.DiskFile.held disk.file) (g.F.DiskFile.held c.sync.new.self) c.sync.ensures.narrowed disk.follows;
    }

-- nothing waits any more, and the file is synced
pub invariant_of-self-2 : goal.invariant_of-self-2
invariant_of-self-2 g c =
    let disk = c.flush.new.self in
    let old = disk.memory.value in
    let new = c.sync-2.new.self in
    let file = g.F.DiskFile.held disk.file in
    let flushed = sym c.is_err.ensures.value ∙ c.if-is_err.false in
    let none = recorded c.flush.result flushed c.flush.ensures.none in
    let all = recorded c.flush.result flushed c.flush.ensures.all in
    let follows = subst (λ (b : Bool). KeepsKnown (recorded_state old.history old.failures) [] b file) all (subst (λ (l : List ℕ). KeepsKnown (recorded_state old.history old.failures) l disk.all_wait file) none disk.follows) in
    let changes = subst (λ (was : MemDisk). IsNarrowed (recorded_state was.history was.failures) (recorded_state new.history new.failures)) c.deref_mut.ensures.value c.sync-2.ensures.changes in
    let synced = recorded c.sync.result (sym c.is_err-2.ensures.value ∙ c.if-is_err-2.false) c.sync.ensures.stable in
    record {
      room = disk.room;
      in_disk = stays_in disk.waiting.items (length old.history.start) (length new.history.start) changes.size disk.in_disk;
      follows =
          follows_synced (recorded_state old.history old.failures) (recorded_state new.history new.failures) disk.waiting.items disk.all_wait file (g.F.DiskFile.held c.sync.new.self)
          (seen_is_image old.history old.failures) (seen_is_image new.history new.failures) changes.seen synced follows;
    }

pub returns-then-is_err : goal.returns-then-is_err
returns-then-is_err g c =
    let err = c.fail.ensures.result in
    let here = refused_disk c.args.self.now.memory.value c.flush.new.self.memory.value c.fail.new.self.memory.value c.fail.result c.flush.ensures.memory c.fail.ensures.history c.fail.ensures.counted err in
    record { stable = IfOk-from_err c.fail.result _ err; changes = here.same.narrowed; failed = on_err c.fail.result here.same; time = here.time; cause = here.cause; told = here.told; worn = λ worn. err }

pub returns-then-is_err-2 : goal.returns-then-is_err-2
returns-then-is_err-2 g c =
    let err = c.fail-then-is_err-2.ensures.result in
    let here = refused_disk c.args.self.now.memory.value c.flush.new.self.memory.value c.fail-then-is_err-2.new.self.memory.value c.fail-then-is_err-2.result c.flush.ensures.memory c.fail-then-is_err-2.ensures.history c.fail-then-is_err-2.ensures.counted err in
    record { stable = IfOk-from_err c.fail-then-is_err-2.result _ err; changes = here.same.narrowed; failed = on_err c.fail-then-is_err-2.result here.same; time = here.time; cause = here.cause; told = here.told; worn = λ worn. err }

pub returns : goal.returns
returns g c =
    let r = c.sync-2.result in
    let new = recorded_state c.sync-2.new.self.history c.sync-2.new.self.failures in
    let same = c.deref_mut.ensures.value ∙ c.flush.ensures.memory in
    let passed = c.sync-2.ensures in
    record {
      stable = passed.stable;
      changes = subst (λ (was : MemDisk). IsNarrowed (recorded_state was.history was.failures) new) same passed.changes;
      failed = subst (λ (was : MemDisk). OnErr r (IsSame (recorded_state was.history was.failures) new)) same passed.failed;
      time = subst (λ (was : MemDisk). Elapses (recorded_state was.history was.failures) new) same passed.time;
      cause = subst (λ (was : MemDisk). HasCause (recorded_state was.history was.failures) new r) same passed.cause;
      told = subst (λ (was : MemDisk). HasWriteCause (recorded_state was.history was.failures) new r) same passed.told;
      worn = subst (λ (was : MemDisk). was.failures ≡ 2 ^ 64 - 1 → IsErr r) same passed.worn;
    }
