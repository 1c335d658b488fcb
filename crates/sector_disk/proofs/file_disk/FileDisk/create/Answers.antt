use Rattle.std.proofs.Common.{◌≡◌, ◌<◌, ℕ, List, false, length, sym, subst, replicate}
use Rattle.std.specs.Prelude.{All}
use Rattle.std.proofs.lemmas.List.Elements.{All-nil}
use Rattle.sector_disk.specs.Disk.{IsFresh}
use Rattle.sector_disk.specs.Record.{recorded_state}
use Rattle.sector_disk.specs.Replay.{seen_is_image}
use Rattle.sector_disk.specs.declared.memory.MemDisk.{MemDisk}
use Rattle.sector_disk.proofs.Following.{follows_stable}
use Rattle.sector_disk.proofs.file_disk.FileDisk.create.Goals as goal

pub returns : goal.returns
returns g c =
    subst (λ (disk : MemDisk). IsFresh (recorded_state disk.history disk.failures) (replicate c.args.sectors (replicate 512 0)))
    (sym c.in_ok-memory.ensures) c.in_ok-new.ensures

pub invariant_of-result : goal.invariant_of-result
invariant_of-result g c =
    let disk = c.in_ok-memory.memory.value in
    record {
      room = c.in_ok-buffer.ensures;
      in_disk = subst (λ (l : List ℕ). All (λ n. n < length disk.history.start) l) (sym c.in_ok-waiting.ensures.items) (All-nil (λ n. n < length disk.history.start));
      follows =
          follows_stable (recorded_state disk.history disk.failures) (replicate c.args.sectors (replicate 512 0)) c.in_ok-waiting.waiting.items false (g.F.DiskFile.held c.in_ok-file.file)
          (seen_is_image disk.history disk.failures)
          (subst (λ (disk : MemDisk). (recorded_state disk.history disk.failures).seen ≡ replicate c.args.sectors (replicate 512 0)) (sym c.in_ok-memory.ensures) c.in_ok-new.ensures.seen)
          c.in_ok-file.ensures;
    }
