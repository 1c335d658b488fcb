use Rattle.std.proofs.Common.{◌∙◌, arith}
use Rattle.std.proofs.lemmas.Result.{on_err_weaker}
use Rattle.sector_disk.proofs.Passing.{cause, narrowed, same, time, told, unmoved, untouched}
use Rattle.sector_disk.proofs.faulty.FaultyDiskDisk.sync.Goals as goal

pub returns-in_err-pass_write-clause-changes : goal.returns-in_err-pass_write-clause-changes
returns-in_err-pass_write-clause-changes g c =
    (untouched g.D.Disk.state c.args.self.now c.pass_write.new.self c.pass_write.ensures.disk).narrowed

pub returns-in_err-pass_write-clause-time : goal.returns-in_err-pass_write-clause-time
returns-in_err-pass_write-clause-time g c =
    unmoved g.D.Disk.state c.args.self.now c.pass_write.new.self c.pass_write.ensures.disk

pub returns : goal.returns
returns g c =
    let state = g.D.Disk.state in
    let here = c.self.view_is ∙ c.in_ok-pass_write.ensures.failures in
    record {
      stable = c.sync.ensures.stable;
      changes = narrowed state here c.sync.ensures.changes;
      failed = on_err_weaker c.sync.result (λ is. same state here is) c.sync.ensures.failed;
      time = time state here c.sync.ensures.time;
      cause = cause state here c.sync.ensures.cause;
      told = told state here c.sync.ensures.told;
      worn = λ worn. absurd (omega (arith, worn, c.in_ok-pass_write.ensures.worn));
    }
