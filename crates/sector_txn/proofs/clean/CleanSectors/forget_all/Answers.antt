use Rattle.std.proofs.Common.{◌∙◌, ℕ, Contains, get_or, arith, ap, sym, subst, inl, inr}
use Rattle.std.proofs.lemmas.Bool.{cases_eq}
use Rattle.std.proofs.lemmas.List.{get_or_default}
use Rattle.sector_txn.proofs.clean.CleanSectors.forget_all.Goals as goal

pub loop-n-preserved : goal.loop-n-preserved
loop-n-preserved c =
    let so_far = c.loop-n.invariant in
    let at = c.loop-n.n-index in
    record {
      kept = λ pair has. so_far.kept pair (c.forget.ensures.kept pair has);
      gone = λ pair k low has is. elim (cases_eq k at) [
        | inl last ↦ c.forget.ensures.gone pair.1 (subst (λ (n : ℕ). Contains c.forget.new.self (n, pair.1)) (is ∙ ap (λ j. get_or c.args.sectors.now j 0) last) has)
        | inr other ↦ so_far.gone pair k (omega (arith, low, other)) (c.forget.ensures.kept pair has) is
      ];
    }

pub returns-clause-kept : goal.returns-clause-kept
returns-clause-kept c = c.loop-n.invariant.kept

pub returns-clause-gone : goal.returns-clause-gone
returns-clause-gone c = λ pair has (k, lt, is).
    c.loop-n.invariant.gone pair k (omega (arith, lt, c.loop-n-test.false)) has (sym (get_or_default c.args.sectors.now k 0 pair.0 lt ∙ is))
