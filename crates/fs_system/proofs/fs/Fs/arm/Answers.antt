use Rattle.call_parts.specs.BothTables.{both}
use Rattle.std.proofs.Common.{ap, ◌∙◌}
use Rattle.fs_system.specs.Seen.{System, disk_in}
use Rattle.fs_system.proofs.Forgetting.{forgot_system, forgot_state, forgot_same}
use Rattle.fs_system.proofs.fs.Fs.arm.Goals as goal

pub invariant_of-self : goal.invariant_of-self
invariant_of-self g c =
    forgot_system g.D.Disk.state c.self.inside.base c.arm.new.self c.self.inside.geometry (both c.self.inside.procs c.self.inside.openings.0) c.self.inside.time c.arm.ensures.same c.arm.ensures.stays c.self.invariant

pub returns-clause-state : goal.returns-clause-state
returns-clause-state g c =
    forgot_state g.D.Disk.state c.self.inside.base c.arm.new.self c.self.inside.geometry (both c.self.inside.procs c.self.inside.openings.0) c.self.inside.time c.arm.ensures.same c.arm.ensures.stays c.args.self.now c.self.view_is

pub returns-clause-same : goal.returns-clause-same
returns-clause-same g c =
    forgot_same g.D.Disk.state c.self.inside.base c.arm.new.self c.self.inside.geometry (both c.self.inside.procs c.self.inside.openings.0) c.self.inside.time c.arm.ensures.same c.arm.ensures.stays c.args.self.now c.self.view_is

pub returns-clause-failures : goal.returns-clause-failures
returns-clause-failures g c = c.arm.ensures.failures ∙ ap (λ (x : System g.row.D.Denot). (disk_in g.D.Disk.state x.base).failures) c.self.view_is

pub returns-clause-armed : goal.returns-clause-armed
returns-clause-armed g c = c.arm.ensures.armed
