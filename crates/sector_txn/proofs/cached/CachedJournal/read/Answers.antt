use Rattle.std.proofs.Common.{◌∙◌, ◌<◌, ap, refl, subst, sym}
use Rattle.std.proofs.lemmas.Result.{IfOk-from_err}
use Rattle.redo_journal.specs.Meaning.{IsMapped, data_of}
use Rattle.redo_journal.specs.States.{header_at}
use Rattle.sector_txn.proofs.ReadCalls.{read_as, read_nothing, read_on}
use Rattle.sector_txn.proofs.cached.CachedJournal.read.Goals as goal

pub returns-in-Some : goal.returns-in-Some
returns-in-Some g c = record { content = c.in-Some.ensures ∙ ap (λ d. data_of (g.D.Disk.state d) c.args.n) c.self.view_is; read = read_nothing }

pub returns-then-get : goal.returns-then-get
returns-then-get g c =
    let state = g.D.Disk.state in
    let mapped = subst (λ d. IsMapped (header_at (state d).seen) c.args.n) (sym c.self.view_is) c.requires.part in
    record {
      content = c.self.invariant.0 (c.args.n, c.get.new.to) (c.if-get.ensures.found refl) mapped ∙ ap (λ d. data_of (state d) c.args.n) c.self.view_is;
      read = read_as state c.self.view_is read_nothing;
    }

pub returns-in_err-read_new : goal.returns-in_err-read_new
returns-in_err-read_new g c =
    let r = c.from_residual.result in
    let err = c.from_residual.ensures.0 in
    record { content = IfOk-from_err r _ err; read = read_on r err (read_as g.D.Disk.state c.self.view_is c.in_err-read_new.ensures.read) }

pub returns : goal.returns
returns g c = record {
  content = c.in_ok-read_new.ensures.content ∙ ap (λ d. data_of (g.D.Disk.state d) c.args.n) c.self.view_is;
  read = read_as g.D.Disk.state c.self.view_is c.in_ok-read_new.ensures.read;
}

pub find-requires : goal.find-requires
find-requires g c =
    let state = g.D.Disk.state in
    record { part = subst (λ d. IsMapped (header_at (state d).seen) c.args.n) (sym c.self.view_is) c.requires.part; on_disk = subst (λ d. c.args.n < (state d).size) (sym c.self.view_is) c.requires.on_disk }

pub read_new-requires : goal.read_new-requires
read_new-requires g c =
    let state = g.D.Disk.state in
    record { part = subst (λ d. IsMapped (header_at (state d).seen) c.args.n) (sym c.self.view_is) c.requires.part; on_disk = subst (λ d. c.args.n < (state d).size) (sym c.self.view_is) c.requires.on_disk }

pub invariant_of-self : goal.invariant_of-self
invariant_of-self g c = (λ pair has part. c.self.invariant.0 pair (c.get.ensures.kept pair has) part, c.self.invariant.1)
