use Rattle.std.proofs.Common.{◌<◌, subst, sym}
use Rattle.redo_journal.specs.Meaning.{IsMapped}
use Rattle.redo_journal.specs.States.{header_at}
use Rattle.redo_journal.proofs.Causes.{cause_of_none}
use Rattle.sector_txn.proofs.Commits.{still_all}
use Rattle.sector_txn.proofs.store.TxnSectors.get.Goals as goal

pub invariant_of-self : goal.invariant_of-self
invariant_of-self g c = still_all c.read.ensures.read.unchanged c.self.invariant

pub read-requires : goal.read-requires
read-requires g c =
    let state = g.D.Disk.state in
    record { part = subst (λ txn. IsMapped (header_at (state txn.disk).seen) c.args.n) (sym c.self.view_is) c.requires.part; on_disk = subst (λ txn. c.args.n < (state txn.disk).size) (sym c.self.view_is) c.requires.on_disk }

pub returns-in-Some-clause-cause : goal.returns-in-Some-clause-cause
returns-in-Some-clause-cause g c = cause_of_none

pub returns-in-Some-get-clause-cause : goal.returns-in-Some-get-clause-cause
returns-in-Some-get-clause-cause g c = cause_of_none
