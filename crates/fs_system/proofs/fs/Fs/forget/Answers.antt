use Rattle.call_parts.specs.BothTables.{both}
use Rattle.fs_system.proofs.Forgetting.{forgot_system, forgot_state, forgot_past}
use Rattle.fs_system.proofs.fs.Fs.forget.Goals as goal

pub invariant_of-self : goal.invariant_of-self
invariant_of-self g c =
    forgot_system g.D.Disk.state c.self.inside.base c.forget_past.new.self c.self.inside.geometry (both c.self.inside.procs c.self.inside.openings.0) c.self.inside.time c.forget_past.ensures.past.same c.forget_past.ensures.stays c.self.invariant

pub returns-clause-state : goal.returns-clause-state
returns-clause-state g c =
    forgot_state g.D.Disk.state c.self.inside.base c.forget_past.new.self c.self.inside.geometry (both c.self.inside.procs c.self.inside.openings.0) c.self.inside.time c.forget_past.ensures.past.same c.forget_past.ensures.stays c.args.self.now c.self.view_is

pub returns-clause-past : goal.returns-clause-past
returns-clause-past g c =
    forgot_past g.D.Disk.state c.self.inside.base c.forget_past.new.self c.self.inside.geometry (both c.self.inside.procs c.self.inside.openings.0) c.self.inside.time c.forget_past.ensures.past.same c.forget_past.ensures.stays c.args.self.now c.self.view_is c.forget_past.ensures.past
