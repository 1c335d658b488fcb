use Rattle.std.proofs.Common.{[], ◌<◌, ℕ, List, false, length, sym, subst, ◌∙◌, arith}
use Rattle.std.specs.Prelude.{All}
use Rattle.std.proofs.lemmas.List.Elements.{All-nil}
use Rattle.std.proofs.lemmas.List.Sorted.{All-permutation}
use Rattle.std.proofs.lemmas.List.{with_items_is}
use Rattle.sector_disk.specs.Disk.{Image}
use Rattle.sector_disk.specs.Record.{recorded_state}
use Rattle.sector_disk.specs.Files.{KeepsKnown}
use Rattle.sector_disk.specs.declared.memory.MemDisk.{MemDisk}
use Rattle.sector_disk.proofs.Following.{sorted_more}
use Rattle.sector_disk.proofs.file_disk.FileDisk.flush.Goals as goal

pub write_out-requires-clause-in_disk : goal.write_out-requires-clause-in_disk
write_out-requires-clause-in_disk g c =
    let disk = c.args.self.now in
    subst (λ (m : MemDisk). All (λ n. n < length m.history.start) c.deref-2.result.now) (sym c.deref.ensures)
    (subst (λ (l : List ℕ). All (λ n. n < length disk.memory.value.history.start) l) (sym c.deref-2.ensures.value)
    (All-permutation (λ n. n < length disk.memory.value.history.start) disk.waiting.items c.sort_unstable.new.self.items c.sort_unstable.ensures.permutation disk.in_disk))

pub write_out-requires-clause-follows : goal.write_out-requires-clause-follows
write_out-requires-clause-follows g c =
    let disk = c.args.self.now in
    let file = g.F.DiskFile.held disk.file in
    let memory = disk.memory.value in
    subst (λ (m : MemDisk). KeepsKnown (recorded_state m.history m.failures) c.deref-2.result.now disk.all_wait file) (sym c.deref.ensures)
    (subst (λ (l : List ℕ). KeepsKnown (recorded_state memory.history memory.failures) l disk.all_wait file) (sym c.deref-2.ensures.value)
    (sorted_more (recorded_state memory.history memory.failures) disk.waiting.items c.sort_unstable.new.self.items disk.all_wait file c.sort_unstable.ensures.permutation disk.follows))

pub invariant_of-self : goal.invariant_of-self
invariant_of-self g c =
    let disk = c.args.self.now in
    let file = g.F.DiskFile.held c.write_out.new.file in
    let memory = disk.memory.value in
    let size = c.write_out.auto.buffer ∙ c.deref_mut.ensures.len in
    record {
      room = subst (λ (l : Image). 0 < length l) (sym (with_items_is disk.buffer c.write_out.new.buffer size)) (let some = disk.room in let len = disk.buffer.ok.0 in omega (arith, some, size, len));
      in_disk = All-permutation (λ n. n < length memory.history.start) disk.waiting.items c.sort_unstable.new.self.items c.sort_unstable.ensures.permutation disk.in_disk;
      follows =
          subst (λ (l : List ℕ). KeepsKnown (recorded_state memory.history memory.failures) l disk.all_wait file) c.deref-2.ensures.value
          (subst (λ (m : MemDisk). KeepsKnown (recorded_state m.history m.failures) c.deref-2.result.now disk.all_wait file) c.deref.ensures c.write_out.ensures.follows);
    }

pub invariant_of-self-2 : goal.invariant_of-self-2
invariant_of-self-2 g c =
    let disk = c.args.self.now in
    let memory = disk.memory.value in
    let file = g.F.DiskFile.held c.write_out.new.file in
    let size = c.write_out.auto.buffer ∙ c.deref_mut.ensures.len in
    record {
      room = subst (λ (l : Image). 0 < length l) (sym {A = Image} (with_items_is disk.buffer c.write_out.new.buffer size)) (let some = disk.room in let len = disk.buffer.ok.0 in omega (arith, some, size, len));
      in_disk = subst (λ (l : List ℕ). All (λ n. n < length memory.history.start) l) (sym {A = List ℕ} c.clear.ensures.items) (All-nil (λ n. n < length memory.history.start));
      follows =
          subst (λ (l : List ℕ). KeepsKnown (recorded_state memory.history memory.failures) l false file) (sym {A = List ℕ} c.clear.ensures.items)
          (subst (λ (m : MemDisk). KeepsKnown (recorded_state m.history m.failures) [] false file) c.deref.ensures c.in_ok-write_out.ensures.done);
    }
