use Rattle.fuse_plans.specs.AttributePlans.{set_stamps, set_stamps_if}
use Rattle.fuse_sessions.proofs.Doings.{gives, keeps-last, of-result, on-machine, reads, same-work, then-fails, then-ok}
use Rattle.fuse_state.specs.declared.settings.Settings.{Settings}
use Rattle.std.proofs.Common.{ap, refl}
use Rattle.std.specs.Prelude.{Bool}
use Rattle.fuse_requests.proofs.attributes.set_stamps.Goals as goal

pub returns-then-not-keeps_times : goal.returns-then-not-keeps_times
unfolding set_stamps
returns-then-not-keeps_times g c =
    reads _ _ (ap (λ (k : Settings). k.keeps_times) c.settings-keeps_times.ensures)
    (same-work (ap (λ (b : Bool). set_stamps_if b c.args.now c.args.ino c.args.changes.now) c.if-not-keeps_times.true)
    (keeps-last _ refl c.note_times.ensures.kept))

pub returns-in_err-_stamps : goal.returns-in_err-_stamps
unfolding set_stamps
returns-in_err-_stamps g c =
    reads _ _ (ap (λ (k : Settings). k.keeps_times) c.settings-keeps_times.ensures)
    (same-work (ap (λ (b : Bool). set_stamps_if b c.args.now c.args.ino c.args.changes.now) c.if-not-keeps_times.false)
    (then-ok _ (on-machine (rw (c.stamp_set-atime.ensures, c.stamp_set-mtime.ensures, c.stamp_of.ensures) at c.ask_stamp-reply.ensures))
    (then-fails _ c.from_residual.ensures (of-result c.in_err-_stamps.ensures))))

pub returns : goal.returns
unfolding set_stamps
returns g c =
    reads _ _ (ap (λ (k : Settings). k.keeps_times) c.settings-keeps_times.ensures)
    (same-work (ap (λ (b : Bool). set_stamps_if b c.args.now c.args.ino c.args.changes.now) c.if-not-keeps_times.false)
    (then-ok _ (on-machine (rw (c.stamp_set-atime.ensures, c.stamp_set-mtime.ensures, c.stamp_of.ensures) at c.ask_stamp-reply.ensures))
    (then-ok _ (of-result c.in_ok-_stamps.ensures) (gives _ _))))
