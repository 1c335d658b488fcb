use Rattle.call_parts.specs.BothTables.{both}
use Rattle.std.proofs.Common.{sym, refl, ◌∙◌}
use Rattle.sector_txn.specs.Stores.{disk_after}
use Rattle.fs_model.specs.declared.event.Event.TheVariants.{Call as Calls}
use Rattle.fs_system.proofs.Methods.{halted_replies, may_take, taken_runs, event_happens, event_system}
use Rattle.fs_system.proofs.fs.Fs.call.Goals as goal

pub returns-then-is_halted-clause-does : goal.returns-then-is_halted-clause-does
returns-then-is_halted-clause-does g c =
    halted_replies g.D.Disk.state g.met.D.Disk.only_now c.args.self.now (Calls c.args.pid c.args.call.now) (sym c.is_halted.ensures ∙ c.if-is_halted.true) refl
    c.failed.result c.failed.ensures

pub take-store-requires : goal.take-store-requires
take-store-requires g c = may_take g.met.D.Disk.only_now c.self.invariant c.self.view_is (sym c.is_halted.ensures ∙ c.if-is_halted.false)

pub perform_kept-reply-requires : goal.perform_kept-reply-requires
perform_kept-reply-requires g c = record { running = taken_runs g.met.D.Disk.only_now c.self.invariant c.self.view_is c.take-store.ensures }

pub invariant_of-self : goal.invariant_of-self
invariant_of-self g c = event_system g.met.D.Disk.only_now c.self.invariant c.self.view_is c.take-store.ensures (Calls c.args.pid c.args.call.now) c.perform_kept-reply.result.0
    c.perform_kept-reply.result.1 (both c.perform_kept-reply.new.procs c.perform_kept-reply.new.openings.0) c.put.ensures c.perform_kept-reply.ensures.does (g.met.D.Disk.counts_now (disk_after c.perform_kept-reply.result.1))

pub returns-clause-does : goal.returns-clause-does
returns-clause-does g c = event_happens g.met.D.Disk.only_now c.self.invariant c.self.view_is c.take-store.ensures (Calls c.args.pid c.args.call.now) c.perform_kept-reply.result.0
    c.perform_kept-reply.result.1 (both c.perform_kept-reply.new.procs c.perform_kept-reply.new.openings.0) c.put.ensures c.perform_kept-reply.ensures.does
