use Rattle.std.proofs.Common.{◌∙◌, ℕ, eqb, Contains, ap, sym, subst}
use Rattle.std.proofs.lemmas.Bool.{eqb-true}
use Rattle.lru.proofs.CallerLemmas.{Contains-lookup, Contains-promoted}
use Rattle.sector_txn.specs.Clean.{pairs_of}
use Rattle.sector_txn.proofs.clean.CleanSectors.get.Goals as goal
use Rattle.sector_txn.proofs.clean.CleanSectors.get.Goals.{in_default-via-in-None-1, in_default-via-in-Some+in-None-1}

pub returns-clause-found : goal.returns-clause-found
returns-clause-found c = λ _.
    let content = c.in-Some-get.content.now in
    let found = Contains-lookup (eqb c.args.n) c.deref_mut.result.now.entries content (sym c.in-Some-get.ensures.value) in
    subst (λ l. Contains l (c.args.n, content)) (ap (λ cache. cache.entries) c.deref_mut.ensures.value ∙ ap pairs_of (sym c.in-Some.is) ∙ c.self.view_is)
    (subst (λ (k : ℕ). Contains c.deref_mut.result.now.entries (k, content)) (sym (eqb-true c.args.n found.0 found.2)) found.1)

pub returns-clause-kept : goal.returns-clause-kept
returns-clause-kept c = λ pair has.
    subst (λ l. Contains l pair) (ap (λ cache. cache.entries) c.deref_mut.ensures.value ∙ ap pairs_of (sym c.in-Some.is) ∙ c.self.view_is)
    (Contains-promoted (eqb c.args.n) c.deref_mut.result.now.entries pair (subst (λ l. Contains l pair) (ap (λ cache. cache.entries) c.get.follows.holds-at-none) has))

pub returns-2-clause-kept : goal.returns-2-clause-kept
returns-2-clause-kept c = λ pair has. elim c.in_default.branch [
  | in_default-via-in-None-1 w ↦ subst (λ l. Contains l pair) (w.self-is ∙ c.self.view_is) has
  | in_default-via-in-Some+in-None-1 w ↦
      subst (λ l. Contains l pair) (ap (λ cache. cache.entries) w.deref_mut.ensures.value ∙ ap pairs_of (sym w.in-Some.is) ∙ c.self.view_is)
      (Contains-promoted (eqb c.args.n) w.deref_mut.result.now.entries pair (subst (λ l. Contains l pair) (w.self-is ∙ ap (λ cache. cache.entries) w.get.follows.holds-at-none) has))
]
