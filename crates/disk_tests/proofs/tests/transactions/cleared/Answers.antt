use Rattle.std.proofs.Common.{[], ◌∷◌, arith}
use Rattle.sector_txn.specs.Stores.{txn_state}
use Rattle.sector_txn.proofs.TransactionRuns.{lacking_at_most}
use Rattle.disk_tests.proofs.tests.transactions.cleared.Goals as goal

pub clear_all-requires-clause-room : goal.clear_all-requires-clause-room
clear_all-requires-clause-room g c = omega (arith, c.begin-txn.ensures.room, lacking_at_most (txn_state g.D.Disk.state c.begin-txn.result) (200 ∷ 202 ∷ 200 ∷ []))
