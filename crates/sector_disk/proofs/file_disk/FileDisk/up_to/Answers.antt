use Rattle.std.proofs.Common.{[], ◌<◌, ℕ, List, false, length, sym, subst, ◌∙◌, arith}
use Rattle.std.specs.Prelude.{All}
use Rattle.std.proofs.lemmas.List.Elements.{All-nil}
use Rattle.std.proofs.lemmas.List.{with_items_is}
use Rattle.sector_disk.specs.Disk.{Image}
use Rattle.sector_disk.specs.Record.{recorded_state}
use Rattle.sector_disk.specs.Files.{KeepsKnown}
use Rattle.sector_disk.specs.declared.memory.MemDisk.{MemDisk}
use Rattle.sector_disk.proofs.file_disk.FileDisk.up_to.Goals as goal

pub invariant_of-result : goal.invariant_of-result
invariant_of-result g c =
    let disk = c.in_ok-memory.memory.value in
    let file = g.F.DiskFile.held c.load.new.file in
    let buffer = c.in_ok-buffer.buffer in
    let size = c.load.auto.buffer ∙ c.deref_mut.ensures.len in
    record {
      room = subst (λ (l : Image). 0 < length l) (sym (with_items_is buffer c.load.new.buffer size)) (let some = c.in_ok-buffer.ensures in let len = buffer.ok.0 in omega (arith, some, size, len));
      in_disk = subst (λ (l : List ℕ). All (λ n. n < length disk.history.start) l) (sym c.in_ok-waiting.ensures.items) (All-nil (λ n. n < length disk.history.start));
      follows =
          subst (λ (l : List ℕ). KeepsKnown (recorded_state disk.history disk.failures) l false file) (sym c.in_ok-waiting.ensures.items)
          (subst (λ (m : MemDisk). KeepsKnown (recorded_state m.history m.failures) [] false file) (sym c.in_ok-memory.ensures) c.in_ok-load.ensures.follows);
    }
