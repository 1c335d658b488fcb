use Rattle.std.proofs.Common.{◌∙◌, arith}
use Rattle.std.proofs.lemmas.Result.{on_ok_weaker}
use Rattle.sector_disk.proofs.Passing.{cause, changes, time, told, written, unmoved, untouched, sized}
use Rattle.sector_disk.proofs.Refused.{changes_none}
use Rattle.sector_disk.proofs.faulty.FaultyDiskDisk.write.Goals as goal

pub write-requires : goal.write-requires
write-requires g c = sized g.D.Disk.state (c.self.view_is ∙ c.in_ok-pass_write.ensures.failures) c.requires

pub returns : goal.returns
returns g c =
    let state = g.D.Disk.state in
    let here = c.self.view_is ∙ c.in_ok-pass_write.ensures.failures in
    record {
      written = on_ok_weaker c.write.result (λ is. written state here is) c.write.ensures.written;
      changes = changes state here c.write.ensures.changes;
      time = time state here c.write.ensures.time;
      cause = cause state here c.write.ensures.cause;
      told = told state here c.write.ensures.told;
      worn = λ worn. absurd (omega (arith, worn, c.in_ok-pass_write.ensures.worn));
    }

pub returns-in_err-pass_write-clause-changes : goal.returns-in_err-pass_write-clause-changes
returns-in_err-pass_write-clause-changes g c =
    changes_none (untouched g.D.Disk.state c.args.self.now c.pass_write.new.self c.pass_write.ensures.disk)

pub returns-in_err-pass_write-clause-time : goal.returns-in_err-pass_write-clause-time
returns-in_err-pass_write-clause-time g c =
    unmoved g.D.Disk.state c.args.self.now c.pass_write.new.self c.pass_write.ensures.disk
