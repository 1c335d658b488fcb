use Rattle.call_parts.specs.BothTables.{both}
use Rattle.std.proofs.Common.{sym, refl, ◌∙◌}
use Rattle.sector_txn.specs.Stores.{disk_after}
use Rattle.fs_model.specs.declared.event.Event.TheVariants.{CallBy}
use Rattle.fs_system.specs.Asked.{handle_call}
use Rattle.fs_system.proofs.Methods.{halted_replies, may_take, taken_runs, event_happens, event_system}
use Rattle.fs_system.proofs.fs.Fs.perform_by.Goals as goal

pub returns-then-is_halted-clause-does : goal.returns-then-is_halted-clause-does
returns-then-is_halted-clause-does g c =
    halted_replies g.D.Disk.state g.met.D.Disk.only_now c.args.self.now (CallBy c.args.handle (handle_call c.args.asked)) (sym c.is_halted.ensures ∙ c.if-is_halted.true) refl
    c.failed.result c.failed.ensures

pub take-store-requires : goal.take-store-requires
take-store-requires g c = may_take g.met.D.Disk.only_now c.self.invariant c.self.view_is (sym c.is_halted.ensures ∙ c.if-is_halted.false)

pub perform_by_handle_kept-reply-requires : goal.perform_by_handle_kept-reply-requires
perform_by_handle_kept-reply-requires g c = record { running = taken_runs g.met.D.Disk.only_now c.self.invariant c.self.view_is c.take-store.ensures }

pub invariant_of-self : goal.invariant_of-self
invariant_of-self g c = event_system g.met.D.Disk.only_now c.self.invariant c.self.view_is c.take-store.ensures (CallBy c.args.handle (handle_call c.args.asked)) c.perform_by_handle_kept-reply.result.0
    c.perform_by_handle_kept-reply.result.1 (both c.perform_by_handle_kept-reply.new.procs c.perform_by_handle_kept-reply.new.openings.0) c.put.ensures c.perform_by_handle_kept-reply.ensures.does (g.met.D.Disk.counts_now (disk_after c.perform_by_handle_kept-reply.result.1))

pub returns-clause-does : goal.returns-clause-does
returns-clause-does g c = event_happens g.met.D.Disk.only_now c.self.invariant c.self.view_is c.take-store.ensures (CallBy c.args.handle (handle_call c.args.asked)) c.perform_by_handle_kept-reply.result.0
    c.perform_by_handle_kept-reply.result.1 (both c.perform_by_handle_kept-reply.new.procs c.perform_by_handle_kept-reply.new.openings.0) c.put.ensures c.perform_by_handle_kept-reply.ensures.does
