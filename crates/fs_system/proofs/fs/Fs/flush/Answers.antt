use Rattle.call_parts.specs.BothTables.{both}
use Rattle.std.proofs.Common.{sym, ◌∙◌}
use Rattle.fs_cred.specs.declared.errno.Errno.TheVariants.{EIO}
use Rattle.fs_cred.specs.declared.refusal.Refusal.TheVariants.{Failed}
use Rattle.fs_model.specs.declared.reply.Reply.TheVariants.{Done, Refused}
use Rattle.fs_system.proofs.Methods.{halted_flushes, store_there, flush_returns, flush_system, break_returns, break_system, system_put, flushes_put}
use Rattle.fs_system.proofs.fs.Fs.flush.Goals as goal

pub returns-then-is_halted-clause-flushes : goal.returns-then-is_halted-clause-flushes
returns-then-is_halted-clause-flushes g c = λ e.
    halted_flushes g.D.Disk.state g.met.D.Disk.only_now c.args.self.now e (sym c.is_halted.ensures ∙ c.if-is_halted.true)

pub take-requires : goal.take-requires
take-requires g c =
    store_there g.D.Disk.state g.met.D.Disk.only_now c.self.inside.base c.self.inside.geometry (both c.self.inside.procs c.self.inside.openings.0) c.self.inside.time c.args.self.now c.self.view_is
    (sym c.is_halted.ensures ∙ c.if-is_halted.false) c.self.invariant

pub invariant_of-self : goal.invariant_of-self
invariant_of-self g c =
    system_put g.D.Disk.state c.self.inside.geometry (both c.self.inside.procs c.self.inside.openings.0) c.self.inside.time c.put.ensures
    (flush_system g.D.Disk.state g.met.D.Disk.only_now c.self.inside.base c.self.inside.geometry (both c.self.inside.procs c.self.inside.openings.0) c.self.inside.time c.args.self.now c.self.view_is c.take.result
    c.take.ensures c.in-Ok.store (g.met.D.Disk.counts_now c.in-Ok.store.disk) c.in-Ok.ensures.map c.in-Ok.ensures.images c.self.invariant)

pub invariant_of-self-in-Err : goal.invariant_of-self-in-Err
invariant_of-self-in-Err g c =
    system_put g.D.Disk.state c.self.inside.geometry (both c.self.inside.procs c.self.inside.openings.0) c.self.inside.time c.put-in-Err.ensures
    (break_system g.D.Disk.state g.met.D.Disk.only_now c.self.inside.base c.self.inside.geometry (both c.self.inside.procs c.self.inside.openings.0) c.self.inside.time c.args.self.now c.self.view_is c.take.result
    c.take.ensures c.in-Err.broken (g.met.D.Disk.counts_now c.in-Err.broken) c.in-Err.ensures.images c.self.invariant)

pub returns-in-Ok-clause-flushes : goal.returns-in-Ok-clause-flushes
returns-in-Ok-clause-flushes g c = λ e.
    flushes_put g.D.Disk.state c.self.inside.geometry (both c.self.inside.procs c.self.inside.openings.0) c.self.inside.time c.put.ensures c.args.self.now e Done
    (flush_returns g.D.Disk.state g.met.D.Disk.only_now c.self.inside.base c.self.inside.geometry (both c.self.inside.procs c.self.inside.openings.0) c.self.inside.time c.args.self.now c.self.view_is c.take.result
    c.take.ensures c.in-Ok.store c.in-Ok.ensures.map c.in-Ok.ensures.images c.in-Ok.ensures.lasting c.in-Ok.ensures.cause.later
    c.in-Ok.ensures.told.quiet e)

pub returns-in-Err-clause-flushes : goal.returns-in-Err-clause-flushes
returns-in-Err-clause-flushes g c = λ e.
    flushes_put g.D.Disk.state c.self.inside.geometry (both c.self.inside.procs c.self.inside.openings.0) c.self.inside.time c.put-in-Err.ensures c.args.self.now e (Refused (Failed EIO))
    (break_returns g.D.Disk.state g.met.D.Disk.only_now c.self.inside.base c.self.inside.geometry (both c.self.inside.procs c.self.inside.openings.0) c.self.inside.time c.args.self.now c.self.view_is c.take.result
    c.take.ensures c.in-Err.broken c.in-Err.ensures.images c.in-Err.ensures.cause.later c.in-Err.ensures.cause.fault c.in-Err.ensures.told.fault e)
