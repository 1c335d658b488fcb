use Rattle.std.proofs.Common.{ap}
use Rattle.fuse_state.specs.declared.settings.Settings.{Settings}
use Rattle.fuse_plans.specs.Times.{tell_time}
use Rattle.fuse_sessions.proofs.Doings.{on-machine, reads}
use Rattle.fuse_sessions.proofs.session.Session.tell_time.Goals as goal

pub returns-clause-did : goal.returns-clause-did
unfolding tell_time
returns-clause-did g c = reads _ _ (ap (λ (k : Settings). k.keeps_times) c.settings-keeps_times.ensures) (on-machine c.tell_time.ensures)
