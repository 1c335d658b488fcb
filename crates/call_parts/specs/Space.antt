-- What is answered where space is asked for.
--     AsksForSpace        so many are wanted of so many that are free; nothing changes
use Rattle.std.specs.Prelude.{◌≡◌, ◌<◌, ◌⊎◌, ℕ, nat_lt, Result, IfErr}
use Rattle.fs_cred.specs.declared.errno.Errno.TheVariants.{ENOSPC}
use Rattle.fs_cred.specs.declared.refusal.Refusal.{Refusal}
use Rattle.fs_cred.specs.declared.refusal.Refusal.TheVariants.{Failed}
use Rattle.sector_txn.specs.Sectors.{TxnState, IsUnchanged}
use Rattle.fs_model.specs.Demands.{refuse}
use Rattle.path_walk.specs.Answers.{FailsToRead, IsAnswered}
use Rattle.call_parts.specs.Telling.{checked}

pub record AsksForSpace (wanted free : ℕ) (old new : TxnState) (result : Result (Unit {0}) Refusal) : Type 0 where
  pub each : IsAnswered old.disk new.disk (checked (refuse ENOSPC (nat_lt free wanted))) result
  pub fault : IfErr result (λ e. ((e ≡ Failed ENOSPC) × (free < wanted)) ⊎ FailsToRead old.disk new.disk e)
  pub same : IsUnchanged old new
