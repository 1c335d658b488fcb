use Rattle.call_parts.specs.BothTables.{both}
use Rattle.fs_model.specs.declared.reply.Reply.TheVariants.{Refused}
use Rattle.call_parts.specs.Callers.{ByHandle}
use Rattle.fs_model.specs.declared.event.Event.TheVariants.{CallBy}
use Rattle.call_parts.specs.Performing.{IsRefused}
use Rattle.fs_system.specs.Asked.{handle_call}
use Rattle.fs_system.proofs.Endings.{performs_event, call_unstable, refused_steps, why_failed}
use Rattle.fs_system.proofs.Kept.{begins, kept_does, broken_does, refused_does}
use Rattle.fs_system.proofs.stored.perform_by_handle_kept.Goals as goal

pub perform_by_handle-requires : goal.perform_by_handle-requires
perform_by_handle-requires g c = record {
  ready = begins g.D.Disk.state c.args.site.geometry c.args.store (both c.args.procs.now c.args.openings.now.0) c.begin-txn.result.0 c.begin-txn.ensures.disk c.begin-txn.ensures.map c.begin-txn.ensures.before
      c.requires.running.0 c.requires.running.1 c.begin-txn.ensures.header c.begin-txn.ensures.room;
}

pub returns-in-Ok-keep : goal.returns-in-Ok-keep
returns-in-Ok-keep g c = record {
  does = λ s r told. kept_does g.D.Disk.state c.args.site.geometry c.args.store (both c.args.procs.now c.args.openings.now.0) c.begin-txn.result.0 c.begin-txn.ensures.disk c.begin-txn.ensures.map c.begin-txn.ensures.before
      c.perform_by_handle.new.s c.in-Ok.ensures.store s r (g.met.D.Disk.only_now c.args.store.disk) c.in-Ok.ensures.super (both c.perform_by_handle.new.procs c.perform_by_handle.new.openings.0) (CallBy c.args.handle (handle_call c.args.asked)) c.in-Ok.reply
      (λ at. performs_event (ByHandle c.args.handle (handle_call c.args.asked)) at told c.asked_is_in_range.ensures (c.in-Ok.ensures.each s at)) c.in-Ok-keep.store
      c.in-Ok-keep.ensures.map c.in-Ok-keep.ensures.images c.in-Ok-keep.ensures.cause.later c.in-Ok-keep.ensures.told.quiet;
}

pub returns-in-Err-keep : goal.returns-in-Err-keep
returns-in-Err-keep g c = record {
  does = λ s r told.
      let broke = c.in-Err-keep.ensures in
      broken_does g.D.Disk.state c.args.site.geometry c.args.store (both c.args.procs.now c.args.openings.now.0) c.begin-txn.result.0 c.begin-txn.ensures.disk c.begin-txn.ensures.map c.begin-txn.ensures.before
      c.perform_by_handle.new.s c.in-Ok.ensures.store s r (g.met.D.Disk.only_now c.args.store.disk) c.in-Ok.ensures.super (both c.perform_by_handle.new.procs c.perform_by_handle.new.openings.0) (CallBy c.args.handle (handle_call c.args.asked)) c.in-Ok.reply
      (λ at. performs_event (ByHandle c.args.handle (handle_call c.args.asked)) at told c.asked_is_in_range.ensures (c.in-Ok.ensures.each s at)) c.in-Err-keep.broken
      broke.images broke.cause.later broke.cause.fault broke.told.fault c.failed.result c.failed.ensures;
}

pub returns-in-Err : goal.returns-in-Err
returns-in-Err g c = record {
  does = λ s r told.
      let call = (handle_call c.args.asked) in
      let why = c.in-Err.refusal in
      refused_does g.D.Disk.state c.args.site.geometry c.args.store (both c.args.procs.now c.args.openings.now.0) c.begin-txn.result.0 c.begin-txn.ensures.disk c.begin-txn.ensures.map c.begin-txn.ensures.before
      c.perform_by_handle.new.s c.in-Err.ensures.store c.drop_delta.result c.drop_delta.ensures.disk c.drop_delta.ensures.map s r (both c.perform_by_handle.new.procs c.perform_by_handle.new.openings.0) c.in-Err.ensures.table
      (g.met.D.Disk.only_now c.args.store.disk) (λ old new. IsRefused old new s (ByHandle c.args.handle call) why) (c.in-Err.ensures.each s) (CallBy c.args.handle call) (Refused why)
      (λ old new. refused_steps old new s (ByHandle c.args.handle call) why) (call_unstable (ByHandle c.args.handle call) (Refused why)) (λ old new. why_failed old new s (ByHandle c.args.handle call) why);
}

pub keep-requires : goal.keep-requires
keep-requires g c = record { known = c.begin-txn.ensures.known c.perform_by_handle.new.s c.in-Ok.ensures.store }

pub drop_delta-requires : goal.drop_delta-requires
drop_delta-requires g c = record { known = c.begin-txn.ensures.known c.perform_by_handle.new.s c.in-Err.ensures.store }
