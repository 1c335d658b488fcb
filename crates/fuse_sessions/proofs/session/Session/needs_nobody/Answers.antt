use Rattle.std.specs.Prelude.{Bool, not}
use Rattle.std.proofs.Common.{refl, sym, subst}
use Rattle.fuse_plans.specs.Plans.{CarriesOut}
use Rattle.fuse_plans.specs.Nobody.{needs_nobody}
use Rattle.fuse_plans.proofs.NeedsNobody.{decided_at_once}
use Rattle.fuse_sessions.proofs.session.Session.needs_nobody.Goals as goal

pub returns-in_default : goal.returns-in_default
returns-in_default g c =
    let s = c.args.self.now in
    let operation = c.args.operation.now in
    record {
      decided = subst (λ (b : Bool). CarriesOut g.M.Machine.Serves (needs_nobody c.args.node operation s.server.server) s.machine s.machine (not b))
          (sym c.needs_caller.ensures) (decided_at_once c.args.node operation s.server.server s.machine c.in_default.not-Lookup c.in_default.not-ReadDirPlus);
      kept = refl;
    }
