use Rattle.call_parts.specs.BothTables.{both}
use Rattle.std.proofs.Common.{refl, sym, subst, ◌∙◌}
use Rattle.fs_cred.specs.Credentials.{IsCredential}
use Rattle.fs_model.specs.declared.event.Event.TheVariants.{Spawn}
use Rattle.fs_system.proofs.Methods.{halted_happens, spawn_returns, spawn_system}
use Rattle.fs_system.proofs.fs.Fs.spawn.Goals as goal

pub returns-then-is_halted-clause-does : goal.returns-then-is_halted-clause-does
returns-then-is_halted-clause-does g c =
    halted_happens g.D.Disk.state g.met.D.Disk.only_now c.args.self.now (Spawn c.args.cred) (sym c.is_halted.ensures ∙ c.if-is_halted.true) refl

pub invariant_of-self : goal.invariant_of-self
invariant_of-self g c =
    let given = c.spawn.ensures in
    spawn_system g.D.Disk.state g.met.D.Disk.only_now c.self.inside.base c.self.inside.geometry (both c.self.inside.procs c.self.inside.openings.0) c.self.inside.time c.args.self.now c.self.view_is
    (sym c.is_halted.ensures ∙ c.if-is_halted.false) c.args.cred (subst IsCredential c.cred.view_is c.cred.invariant) c.spawn.new.self c.spawn.result
    given.number given.added given.full given.refused given.same c.self.invariant

pub returns-clause-does : goal.returns-clause-does
returns-clause-does g c =
    let given = c.spawn.ensures in
    spawn_returns g.D.Disk.state g.met.D.Disk.only_now c.self.inside.base c.self.inside.geometry (both c.self.inside.procs c.self.inside.openings.0) c.self.inside.time c.args.self.now c.self.view_is
    (sym c.is_halted.ensures ∙ c.if-is_halted.false) c.args.cred (subst IsCredential c.cred.view_is c.cred.invariant) c.spawn.new.self c.spawn.result
    given.number given.added given.full given.refused given.same
