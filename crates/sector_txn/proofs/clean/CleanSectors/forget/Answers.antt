use Rattle.std.proofs.Common.{◌∙◌, eqb, Contains, ap, sym, subst}
use Rattle.std.specs.List.{IsDistinct}
use Rattle.std.specs.Map.{keys_of}
use Rattle.lru.proofs.CallerLemmas.{Contains-remove_entry}
use Rattle.sector_txn.specs.Clean.{pairs_of}
use Rattle.sector_txn.proofs.Pairs.{removed_gone}
use Rattle.sector_txn.proofs.clean.CleanSectors.forget.Goals as goal

pub returns-then-len-gt0-clause-kept : goal.returns-then-len-gt0-clause-kept
returns-then-len-gt0-clause-kept c = λ pair has.
    subst (λ l. Contains l pair) (ap (λ cache. cache.entries) c.deref_mut.ensures.value ∙ ap pairs_of (sym c.in-Some.is) ∙ c.self.view_is)
    (Contains-remove_entry (eqb c.args.n) c.deref_mut.result.now.entries pair (subst (λ l. Contains l pair) (ap (λ cache. cache.entries) c.pop.ensures.entries) has))

pub returns-then-len-gt0-clause-gone : goal.returns-then-len-gt0-clause-gone
returns-then-len-gt0-clause-gone c = λ content has.
    removed_gone c.args.n c.deref_mut.result.now.entries (subst (λ cache. IsDistinct eqb (keys_of cache.entries)) (c.deref.ensures ∙ sym c.deref_mut.ensures.value) c.len.ensures.valid.0) content (subst (λ l. Contains l (c.args.n, content)) (ap (λ cache. cache.entries) c.pop.ensures.entries) has)
