use Rattle.std.proofs.Common.{subst}
use Rattle.fs_system.specs.Seen.{IsOn}
use Rattle.fs_system.proofs.Forgetting.{store_stays}
use Rattle.fs_system.proofs.base.Base.arm.Goals as goal

pub returns-in-Running-clause-stays : goal.returns-in-Running-clause-stays
returns-in-Running-clause-stays g c = λ p time processes s r.
    store_stays g.D.Disk.state c.in-Running.store c.arm.new.self c.arm.ensures.map c.arm.ensures.disk.unchanged p time processes s
    (subst (λ b. IsOn g.D.Disk.state p time processes b s) c.in-Running.is r)
