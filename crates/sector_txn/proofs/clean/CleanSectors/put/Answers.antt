use Rattle.std.proofs.Common.{◌≡◌, ◌∙◌, Contains, ◌⊎◌, inl, ap, sym, subst}
use Rattle.sector_txn.specs.Clean.{pairs_of}
use Rattle.sector_txn.proofs.Pairs.{put_kept}
use Rattle.sector_txn.proofs.clean.CleanSectors.put.Goals as goal
use Rattle.sector_txn.proofs.clean.CleanSectors.put.Goals.{in-Some, in_default}

pub returns : goal.returns
returns c = λ pair has. elim c.match-self.branch [
  | in-Some w ↦
      subst (λ l. Contains l pair ⊎ (pair ≡ (c.args.n, c.args.content.now))) (ap (λ cache. cache.entries) w.deref_mut.ensures.value ∙ ap pairs_of (sym w.in-Some.is) ∙ c.self.view_is)
      (put_kept w.put.result w.deref_mut.result.now w.put.new.self c.args.n c.args.content.now w.put.ensures.entries w.put.ensures.err pair (subst (λ inside. Contains (pairs_of inside.cache) pair) w.self-inside-is has))
  | in_default w ↦ inl (subst (λ l. Contains l pair) (ap (λ inside. pairs_of inside.cache) w.self-inside-is ∙ c.self.view_is) has)
]
