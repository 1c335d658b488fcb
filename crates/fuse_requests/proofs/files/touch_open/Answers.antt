use Rattle.fuse_plans.specs.FilePlans.{touch_open, touch_open_if}
use Rattle.fuse_requests.proofs.Chains.{then-through, through-fails}
use Rattle.fuse_sessions.proofs.Doings.{gives, keeps-last, on-machine, reads, same-work}
use Rattle.fuse_state.specs.declared.settings.Settings.{Settings}
use Rattle.std.proofs.Common.{ap, refl}
use Rattle.std.specs.Prelude.{Bool}
use Rattle.fuse_requests.proofs.files.touch_open.Goals as goal

pub returns-then-settings : goal.returns-then-settings
unfolding touch_open
returns-then-settings g c =
    reads _ _ (ap (λ (k : Settings). k.keeps_times) c.settings.ensures)
    (same-work (ap (λ (b : Bool). touch_open_if b c.args.now c.args.handle) c.if-settings.true) (gives _ _))

pub returns-in_err-status : goal.returns-in_err-status
unfolding touch_open
returns-in_err-status g c =
    reads _ _ (ap (λ (k : Settings). k.keeps_times) c.settings.ensures)
    (same-work (ap (λ (b : Bool). touch_open_if b c.args.now c.args.handle) c.if-settings.false)
    (through-fails _ _ c.from_residual.ensures (on-machine c.obtain_by_once.ensures) refl c.in_err-status.ensures))

pub returns : goal.returns
unfolding touch_open
returns g c =
    reads _ _ (ap (λ (k : Settings). k.keeps_times) c.settings.ensures)
    (same-work (ap (λ (b : Bool). touch_open_if b c.args.now c.args.handle) c.if-settings.false)
    (then-through _ _ (on-machine c.obtain_by_once.ensures) c.in_ok-status.ensures (keeps-last _ refl c.touch.ensures.kept)))
