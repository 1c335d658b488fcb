use Rattle.call_parts.specs.BothTables.{both}
use Rattle.std.proofs.Common.{sym, refl, ◌∙◌}
use Rattle.fs_model.specs.declared.event.Event.TheVariants.{Clock}
use Rattle.fs_system.proofs.Methods.{halted_happens, time_returns, time_system}
use Rattle.fs_system.proofs.fs.Fs.tell_time.Goals as goal

pub returns-then-is_halted-clause-does : goal.returns-then-is_halted-clause-does
returns-then-is_halted-clause-does g c =
    halted_happens g.D.Disk.state g.met.D.Disk.only_now c.args.self.now (Clock c.args.now) (sym c.is_halted.ensures ∙ c.if-is_halted.true) refl

pub invariant_of-self : goal.invariant_of-self
invariant_of-self g c =
    time_system g.D.Disk.state g.met.D.Disk.only_now c.self.inside.base c.self.inside.geometry (both c.self.inside.procs c.self.inside.openings.0) c.self.inside.time c.args.self.now c.self.view_is
    (sym c.is_halted.ensures ∙ c.if-is_halted.false) c.args.now c.ranges.now.fits c.self.invariant

pub returns-clause-does : goal.returns-clause-does
returns-clause-does g c =
    time_returns g.D.Disk.state g.met.D.Disk.only_now c.self.inside.base c.self.inside.geometry (both c.self.inside.procs c.self.inside.openings.0) c.self.inside.time c.args.self.now c.self.view_is
    (sym c.is_halted.ensures ∙ c.if-is_halted.false) c.args.now c.ranges.now.fits
