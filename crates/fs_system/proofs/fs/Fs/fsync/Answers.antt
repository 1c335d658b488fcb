use Rattle.call_parts.specs.BothTables.{both}
use Rattle.std.proofs.Common.{refl, sym, ◌∙◌}
use Rattle.fs_model.specs.declared.event.Event.TheVariants.{Fsync}
use Rattle.fs_system.specs.Replies.{finished}
use Rattle.fs_system.proofs.Methods.{halted_happens, fsync_unopened, fsync_flushed}
use Rattle.fs_system.proofs.fs.Fs.fsync.Goals as goal

pub returns-then-is_halted-clause-does : goal.returns-then-is_halted-clause-does
returns-then-is_halted-clause-does g c =
    halted_happens g.D.Disk.state g.met.D.Disk.only_now c.args.self.now (Fsync c.args.pid c.args.fd) (sym c.is_halted.ensures ∙ c.if-is_halted.true) refl

pub returns-in-Err-clause-does : goal.returns-in-Err-clause-does
returns-in-Err-clause-does g c =
    fsync_unopened g.D.Disk.state g.met.D.Disk.only_now c.self.inside.base c.self.inside.geometry (both c.self.inside.procs c.self.inside.openings.0) c.self.inside.time c.args.self.now c.self.view_is
    (sym c.is_halted.ensures ∙ c.if-is_halted.false) c.args.pid c.args.fd c.in-Err.errno (sym c.get.ensures.answer ∙ c.in-Err.is)

pub returns-in-Ok-clause-does : goal.returns-in-Ok-clause-does
returns-in-Ok-clause-does g c =
    fsync_flushed g.D.Disk.state g.met.D.Disk.only_now c.self.inside.base c.self.inside.geometry (both c.self.inside.procs c.self.inside.openings.0) c.self.inside.time c.args.self.now c.self.view_is
    (sym c.is_halted.ensures ∙ c.if-is_halted.false) c.args.pid c.args.fd c.in-Ok.field-0 (sym c.get.ensures.answer ∙ c.in-Ok.is) c.flush.new.self
    (finished c.flush.result) (c.flush.ensures.flushes (Fsync c.args.pid c.args.fd))
