use Rattle.redo_journal.proofs.Causes.{cause_as, cause_at_err, cause_at_ok, told_as, told_at_err, told_at_ok}
use Rattle.sector_txn.proofs.cached.CachedJournal.close.Goals as goal

pub returns-in-Ok-clause-same : goal.returns-in-Ok-clause-same
returns-in-Ok-clause-same g c = rw (c.into_disk.ensures.disk, ← c.self.view_is) c.in-Ok.ensures.same

pub returns-in-Ok-clause-idle : goal.returns-in-Ok-clause-idle
returns-in-Ok-clause-idle g c = rw c.into_disk.ensures.disk c.in-Ok.ensures.idle

pub returns-in-Ok-clause-lasting : goal.returns-in-Ok-clause-lasting
returns-in-Ok-clause-lasting g c = c.into_disk.ensures.ready

pub returns-in-Ok-clause-any_moment : goal.returns-in-Ok-clause-any_moment
returns-in-Ok-clause-any_moment g c = rw (c.into_disk.ensures.disk, ← c.self.view_is) c.in-Ok.ensures.any_moment

pub returns-in-Ok-clause-size : goal.returns-in-Ok-clause-size
returns-in-Ok-clause-size g c = rw (c.into_disk.ensures.disk, ← c.self.view_is) c.in-Ok.ensures.size

pub returns-in-Ok-clause-cause : goal.returns-in-Ok-clause-cause
returns-in-Ok-clause-cause g c = rw (c.into_disk.ensures.disk, ← c.self.view_is) (cause_at_ok c.in-Ok.ensures.cause)

pub returns-in-Ok-clause-told : goal.returns-in-Ok-clause-told
returns-in-Ok-clause-told g c = rw (c.into_disk.ensures.disk, ← c.self.view_is) (told_at_ok c.in-Ok.ensures.told)

pub returns-clause-any_moment : goal.returns-clause-any_moment
returns-clause-any_moment g c = rw (← c.self.view_is) c.in-Err.ensures.any_moment

pub returns-clause-size : goal.returns-clause-size
returns-clause-size g c = rw (← c.self.view_is) c.in-Err.ensures.size

pub returns-clause-cause : goal.returns-clause-cause
returns-clause-cause g c = cause_as g.D.Disk.state c.self.view_is (cause_at_err c.in-Err.ensures.cause)

pub returns-clause-told : goal.returns-clause-told
returns-clause-told g c = told_as g.D.Disk.state c.self.view_is (told_at_err c.in-Err.ensures.told)
