use Rattle.call_parts.specs.BothTables.{both}
use Rattle.std.proofs.Common.{refl, arith}
use Rattle.fs_cred.specs.declared.refusal.Refusal.TheVariants.{Failed}
use Rattle.fs_model.specs.declared.event.Event.TheVariants.{Stamp}
use Rattle.fs_model.specs.declared.reply.Reply.TheVariants.{Stamped, Refused}
use Rattle.fs_system.specs.Stamping.{IsNotStamped}
use Rattle.fs_system.proofs.Kept.{begins, kept_does, broken_does, refused_does}
use Rattle.fs_system.proofs.Stamped.{stamp_performed, stamp_refused_steps, why_not_stamped}
use Rattle.fs_system.proofs.stored.stamp_kept.Goals as goal

pub stamp-requires : goal.stamp-requires
stamp-requires g c =
    let ready =
    begins g.D.Disk.state c.args.geometry c.args.store (both c.args.procs.now c.args.openings.now.0) c.begin-txn.result.0 c.begin-txn.ensures.disk c.begin-txn.ensures.map c.begin-txn.ensures.before
    c.requires.running.0 c.requires.running.1 c.begin-txn.ensures.header c.begin-txn.ensures.room in
    record { sound = ready.sound; counts = c.times_are_in_range.ensures; spare = (let spare = ready.spare in omega (arith, spare)) }

pub returns-in-Ok-keep : goal.returns-in-Ok-keep
returns-in-Ok-keep g c = record {
  does = λ s r. kept_does g.D.Disk.state c.args.geometry c.args.store (both c.args.procs.now c.args.openings.now.0) c.begin-txn.result.0 c.begin-txn.ensures.disk c.begin-txn.ensures.map c.begin-txn.ensures.before
      c.stamp.new.s c.in-Ok.ensures.store s r (g.met.D.Disk.only_now c.args.store.disk) c.in-Ok.ensures.superblock (both c.args.procs.now c.args.openings.now.0)
      (Stamp c.args.ino c.args.atime c.args.mtime c.args.ctime) (Stamped c.in-Ok.stamps) (λ at. stamp_performed at c.times_are_in_range.ensures (c.in-Ok.ensures.each (both c.args.procs.now c.args.openings.now.0) s at))
      c.in-Ok-keep.store c.in-Ok-keep.ensures.map c.in-Ok-keep.ensures.images c.in-Ok-keep.ensures.cause.later c.in-Ok-keep.ensures.told.quiet;
}

pub returns-in-Err-keep : goal.returns-in-Err-keep
returns-in-Err-keep g c = record {
  does = λ s r.
      let broke = c.in-Err-keep.ensures in
      broken_does g.D.Disk.state c.args.geometry c.args.store (both c.args.procs.now c.args.openings.now.0) c.begin-txn.result.0 c.begin-txn.ensures.disk c.begin-txn.ensures.map c.begin-txn.ensures.before
      c.stamp.new.s c.in-Ok.ensures.store s r (g.met.D.Disk.only_now c.args.store.disk) c.in-Ok.ensures.superblock (both c.args.procs.now c.args.openings.now.0)
      (Stamp c.args.ino c.args.atime c.args.mtime c.args.ctime) (Stamped c.in-Ok.stamps) (λ at. stamp_performed at c.times_are_in_range.ensures (c.in-Ok.ensures.each (both c.args.procs.now c.args.openings.now.0) s at))
      c.in-Err-keep.broken broke.images broke.cause.later broke.cause.fault broke.told.fault _ refl;
}

pub returns-in-Err : goal.returns-in-Err
returns-in-Err g c = record {
  does = λ s r.
      let why = c.in-Err.errno in
      refused_does g.D.Disk.state c.args.geometry c.args.store (both c.args.procs.now c.args.openings.now.0) c.begin-txn.result.0 c.begin-txn.ensures.disk c.begin-txn.ensures.map c.begin-txn.ensures.before
      c.stamp.new.s c.in-Err.ensures.store c.drop_delta.result c.drop_delta.ensures.disk c.drop_delta.ensures.map s r (both c.args.procs.now c.args.openings.now.0) refl
      (g.met.D.Disk.only_now c.args.store.disk) (λ old new. IsNotStamped old new s c.args.ino c.args.atime c.args.mtime c.args.ctime why) (c.in-Err.ensures.each (both c.args.procs.now c.args.openings.now.0) s)
      (Stamp c.args.ino c.args.atime c.args.mtime c.args.ctime) (Refused (Failed why))
      (λ old new. stamp_refused_steps old new s c.args.ino c.args.atime c.args.mtime c.args.ctime why) refl (λ old new. why_not_stamped old new s c.args.ino c.args.atime c.args.mtime c.args.ctime why);
}

pub keep-requires : goal.keep-requires
keep-requires g c = record { known = c.begin-txn.ensures.known c.stamp.new.s c.in-Ok.ensures.store }

pub drop_delta-requires : goal.drop_delta-requires
drop_delta-requires g c = record { known = c.begin-txn.ensures.known c.stamp.new.s c.in-Err.ensures.store }
