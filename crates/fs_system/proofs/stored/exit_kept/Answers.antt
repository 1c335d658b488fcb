use Rattle.call_parts.specs.BothTables.{both}
use Rattle.std.proofs.Common.{refl, subst}
use Rattle.fs_cred.specs.declared.refusal.Refusal.{Refusal}
use Rattle.fs_cred.specs.declared.refusal.Refusal.TheVariants.{Failed}
use Rattle.fs_model.specs.declared.event.Event.TheVariants.{Exit}
use Rattle.fs_model.specs.declared.reply.Reply.TheVariants.{Done, Refused}
use Rattle.file_calls.specs.Exiting.{IsNotExited}
use Rattle.fs_system.proofs.Endings.{exit_performed, exit_refused_steps, why_exit_failed, exit_errno}
use Rattle.fs_system.proofs.Kept.{begins, state_begun, kept_does, broken_does, refused_does}
use Rattle.fs_system.proofs.stored.exit_kept.Goals as goal

pub exit-requires : goal.exit-requires
exit-requires g c = record {
  ready = begins g.D.Disk.state c.args.geometry c.args.store (both c.args.procs.now c.args.openings.now.0) c.begin-txn.result.0 c.begin-txn.ensures.disk c.begin-txn.ensures.map c.begin-txn.ensures.before
      c.requires.running.0 c.requires.running.1 c.begin-txn.ensures.header c.begin-txn.ensures.room;
}

pub unreachable-requires : goal.unreachable-requires
unreachable-requires g c =
    let some = c.requires.running in
    let at = state_begun g.D.Disk.state c.args.geometry c.args.store (both c.args.procs.now c.args.openings.now.0) c.begin-txn.result.0 c.begin-txn.ensures.disk c.begin-txn.ensures.map c.begin-txn.ensures.before some.0 some.1 in
    let failed = (exit_errno (g.D.Disk.state c.begin-txn.result.0.disk) (g.D.Disk.state c.exit.new.s.disk) some.0 c.args.pid _
    (c.in-Err-Denied.ensures.each some.0 at)).1 in cc

pub returns-in-Ok-keep : goal.returns-in-Ok-keep
returns-in-Ok-keep g c = record {
  does = λ s r. kept_does g.D.Disk.state c.args.geometry c.args.store (both c.args.procs.now c.args.openings.now.0) c.begin-txn.result.0 c.begin-txn.ensures.disk c.begin-txn.ensures.map c.begin-txn.ensures.before
      c.exit.new.s c.in-Ok.ensures.store s r (g.met.D.Disk.only_now c.args.store.disk) c.in-Ok.ensures.super (both c.exit.new.procs c.args.openings.now.0) (Exit c.args.pid) Done
      (λ at. exit_performed at (c.in-Ok.ensures.each s at)) c.in-Ok-keep.store
      c.in-Ok-keep.ensures.map c.in-Ok-keep.ensures.images c.in-Ok-keep.ensures.cause.later c.in-Ok-keep.ensures.told.quiet;
}

pub returns-in-Err : goal.returns-in-Err
returns-in-Err g c = record {
  does = λ s r.
      let broke = c.in-Err.ensures in
      broken_does g.D.Disk.state c.args.geometry c.args.store (both c.args.procs.now c.args.openings.now.0) c.begin-txn.result.0 c.begin-txn.ensures.disk c.begin-txn.ensures.map c.begin-txn.ensures.before
      c.exit.new.s c.in-Ok.ensures.store s r (g.met.D.Disk.only_now c.args.store.disk) c.in-Ok.ensures.super (both c.exit.new.procs c.args.openings.now.0) (Exit c.args.pid) Done
      (λ at. exit_performed at (c.in-Ok.ensures.each s at)) c.in-Err.broken broke.images broke.cause.later broke.cause.fault broke.told.fault _ refl;
}

pub returns-in-Err-Failed : goal.returns-in-Err-Failed
returns-in-Err-Failed g c = record {
  does = λ s r.
      let pid = c.args.pid in
      let why = Failed c.in-Err-Failed.errno in
      let said = c.in-Err-Failed.ensures in
      refused_does g.D.Disk.state c.args.geometry c.args.store (both c.args.procs.now c.args.openings.now.0) c.begin-txn.result.0 c.begin-txn.ensures.disk c.begin-txn.ensures.map c.begin-txn.ensures.before
      c.exit.new.s said.store c.drop_delta.result c.drop_delta.ensures.disk c.drop_delta.ensures.map s r (both c.exit.new.procs c.args.openings.now.0) said.table
      (g.met.D.Disk.only_now c.args.store.disk) (λ old new. IsNotExited old new s pid why)
      (λ at. subst (λ (q : Refusal). IsNotExited (g.D.Disk.state c.begin-txn.result.0.disk) (g.D.Disk.state c.exit.new.s.disk) s pid q) c.in-Err-Failed.field-0-is (said.each s at))
      (Exit pid) (Refused why) (λ old new. exit_refused_steps old new s pid why) refl (λ old new. why_exit_failed old new s pid why);
}

pub keep-requires : goal.keep-requires
keep-requires g c = record { known = c.begin-txn.ensures.known c.exit.new.s c.in-Ok.ensures.store }

pub drop_delta-requires : goal.drop_delta-requires
drop_delta-requires g c = record { known = c.begin-txn.ensures.known c.exit.new.s c.in-Err-Failed.ensures.store }
