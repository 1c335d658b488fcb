use Rattle.std.proofs.Common.{length, ap, sym, subst, ◌∙◌, arith}
use Rattle.sector_disk.specs.Disk.{ForgetsPast}
use Rattle.sector_disk.specs.Record.{Past, recorded_state}
use Rattle.sector_disk.specs.Whole.{AreWhole}
use Rattle.sector_disk.specs.Forgotten.{length-since_sync, forgets_past, whole_since_sync}
use Rattle.sector_disk.proofs.memory.MemDiskDisk.forget.Goals as goal

pub invariant_of-self : goal.invariant_of-self
invariant_of-self c =
    let disk = c.args.self.now in
    let size = ap (λ (p : Past). length p.start) c.forget.ensures ∙ length-since_sync disk.history in
    record {
      small = let small = disk.small in omega (arith, size, small);
      counted = disk.counted;
      whole = subst AreWhole (sym c.forget.ensures) (whole_since_sync disk.history disk.whole);
    }

pub returns : goal.returns
returns c =
    let disk = c.args.self.now in
    subst (λ (p : Past). ForgetsPast (recorded_state disk.history disk.failures) (recorded_state p disk.failures)) (sym c.forget.ensures) (forgets_past disk.history disk.failures)
