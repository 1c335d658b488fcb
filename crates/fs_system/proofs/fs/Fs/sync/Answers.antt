use Rattle.std.proofs.Common.{refl}
use Rattle.fs_model.specs.declared.event.Event.TheVariants.{Sync}
use Rattle.fs_system.proofs.Acting.{sync_firm}
use Rattle.fs_system.proofs.fs.Fs.sync.Goals as goal

pub returns-clause-does : goal.returns-clause-does
returns-clause-does g c = λ s r. c.flush.ensures.flushes Sync refl s r (sync_firm s)
