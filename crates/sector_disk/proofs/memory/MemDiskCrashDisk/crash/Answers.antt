use Rattle.std.proofs.Common.{subst, sym, arith}
use Rattle.sector_disk.specs.Whole.{AreWhole, whole_stopped}
use Rattle.sector_disk.proofs.memory.MemDiskCrashDisk.crash.Goals as goal

pub invariant_of-self : goal.invariant_of-self
invariant_of-self c =
    let disk = c.args.self.now in
    let left = c.stop.ensures.image in
    record {
      small = let size = left.size in let small = disk.small in omega (arith, size, small);
      counted = disk.counted;
      whole = subst (λ (events : _). AreWhole (record { start = c.stop.new.self.start; events = events })) (sym c.stop.ensures.events)
          (whole_stopped disk.history c.stop.new.self.start disk.whole left);
    }
