use Rattle.std.proofs.Common.{◌∙◌, ap, sym, subst, Contains}
use Rattle.std.specs.Prelude.{IfSome}
use Rattle.sector_txn.specs.Clean.{pairs_of}
use Rattle.sector_txn.proofs.Pairs.{looked_up}
use Rattle.sector_txn.proofs.clean.CleanSectors.find.Goals as goal

pub returns-in-Some : goal.returns-in-Some
returns-in-Some c =
    let view = ap (λ cache. cache.entries) c.deref.ensures ∙ ap pairs_of (sym c.in-Some.is) ∙ c.self.view_is in
    subst (λ l. IfSome c.peek.result (λ content. Contains l (c.args.n, content.now))) view (looked_up c.args.n c.deref.result.now.entries c.peek.result c.peek.ensures)
