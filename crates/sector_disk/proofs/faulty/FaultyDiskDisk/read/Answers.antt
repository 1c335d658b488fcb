use Rattle.std.proofs.Common.{◌≡◌, ◌∙◌, arith, rules, subst}
use Rattle.std.specs.Prelude.{OnOk}
use Rattle.sector_disk.specs.Disk.{sector}
use Rattle.sector_disk.specs.Faults.{faulty_state}
use Rattle.sector_disk.proofs.Passing.{cause, same, time, unmoved, untouched, sized}
use Rattle.sector_disk.proofs.faulty.FaultyDiskDisk.read.Goals as goal

pub returns : goal.returns
returns g c =
    let state = g.D.Disk.state in
    let here = c.self.view_is ∙ c.in_ok-pass_read.ensures.failures in
    record {
      content = subst (λ faulty. OnOk c.read.result (c.read.new.to ≡ sector (faulty_state state faulty).seen c.args.n)) here c.read.ensures.content;
      same = same state here c.read.ensures.same;
      time = time state here c.read.ensures.time;
      cause = cause state here c.read.ensures.cause;
      quiet = search rules;
      worn = λ worn. absurd (omega (arith, worn, c.in_ok-pass_read.ensures.worn));
    }

pub returns-in_err-pass_read-clause-time : goal.returns-in_err-pass_read-clause-time
returns-in_err-pass_read-clause-time g c =
    unmoved g.D.Disk.state c.args.self.now c.pass_read.new.self c.pass_read.ensures.disk

pub read-requires : goal.read-requires
read-requires g c = sized g.D.Disk.state (c.self.view_is ∙ c.in_ok-pass_read.ensures.failures) c.requires

pub returns-in_err-pass_read-clause-same : goal.returns-in_err-pass_read-clause-same
returns-in_err-pass_read-clause-same g c =
    untouched g.D.Disk.state c.args.self.now c.pass_read.new.self c.pass_read.ensures.disk
