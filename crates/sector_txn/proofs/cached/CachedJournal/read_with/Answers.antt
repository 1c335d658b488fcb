use Rattle.std.proofs.Common.{◌<◌, subst, sym}
use Rattle.std.proofs.lemmas.Result.{IfOk-from_err}
use Rattle.redo_journal.specs.Meaning.{IsMapped}
use Rattle.redo_journal.specs.States.{header_at}
use Rattle.sector_txn.proofs.ReadCalls.{read_at_ok, read_nothing, read_on}
use Rattle.sector_txn.proofs.cached.CachedJournal.read_with.Goals as goal

pub returns-in-Some-clause-read : goal.returns-in-Some-clause-read
returns-in-Some-clause-read g c = read_nothing

pub returns-in-Some-find-clause-read : goal.returns-in-Some-find-clause-read
returns-in-Some-find-clause-read g c = read_nothing

pub returns-in_err-read_new : goal.returns-in_err-read_new
returns-in_err-read_new g c =
    let r = c.from_residual.result in
    let err = c.from_residual.ensures.0 in
    record { content = IfOk-from_err r _ err; read = read_on r err c.in_err-read_new.ensures.read }

pub returns-clause-read : goal.returns-clause-read
returns-clause-read g c = read_at_ok c.in_ok-read_new.ensures.read

pub find-requires : goal.find-requires
find-requires g c =
    let state = g.D.Disk.state in
    record { part = subst (λ d. IsMapped (header_at (state d).seen) c.args.n) (sym c.self.view_is) c.requires.part; on_disk = subst (λ d. c.args.n < (state d).size) (sym c.self.view_is) c.requires.on_disk }

pub read_new-requires : goal.read_new-requires
read_new-requires g c = record { part = c.requires.part; on_disk = c.requires.on_disk }
