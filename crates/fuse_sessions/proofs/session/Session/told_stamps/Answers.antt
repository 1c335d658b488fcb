use Rattle.std.proofs.Common.{ap}
use Rattle.fuse_state.specs.declared.settings.Settings.{Settings}
use Rattle.fuse_plans.specs.Times.{told_stamps}
use Rattle.fuse_sessions.proofs.Doings.{on-machine, reads}
use Rattle.fuse_sessions.proofs.session.Session.told_stamps.Goals as goal

pub returns-clause-did : goal.returns-clause-did
unfolding told_stamps
returns-clause-did g c = reads _ _ (ap (λ (k : Settings). k.keeps_times) c.settings-keeps_times.ensures) (on-machine c.told_stamps.ensures)
