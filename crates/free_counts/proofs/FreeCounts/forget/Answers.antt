use Rattle.std.proofs.Common.{◌∙◌, Contains, get_or, arith, ap, sym, subst, inl, inr}
use Rattle.std.proofs.lemmas.Bool.{cases_eq}
use Rattle.std.proofs.lemmas.List.{get_or_default}
use Rattle.std.proofs.lemmas.List.Elements.{Contains-get_or}
use Rattle.free_counts.specs.Known.{count_known}
use Rattle.free_counts.proofs.FreeCounts.forget.Goals as goal

pub loop-n-preserved : goal.loop-n-preserved
loop-n-preserved c =
    let so_far = c.loop-n.invariant in
    let at = c.loop-n.n-index in
    let ns = c.args.sectors.now in
    record {
      here = λ k low. elim (cases_eq (get_or ns k 0) (get_or ns at 0)) [
        | inl is ↦ ap (count_known c.set.new.self) is ∙ elim c.set.ensures.here [
          | inl none ↦ none
          | inr none ↦ none
        ]
        | inr other ↦ c.set.ensures.others (get_or ns k 0) other ∙ so_far.here k (elim (cases_eq k at) [
          | inl last ↦ absurd (other (ap (λ j. get_or ns j 0) last))
          | inr before ↦ omega (arith, low, before)
        ])
      ];
      others = λ n apart.
          c.set.ensures.others n (λ is. apart (subst (Contains ns) (sym is) (Contains-get_or ns at 0 c.loop-n-test.true))) ∙ so_far.others n apart;
    }

pub returns-clause-here : goal.returns-clause-here
returns-clause-here c = λ n (k, lt, is).
    ap (count_known c.loop-n.self) (sym (get_or_default c.args.sectors.now k 0 n lt ∙ is)) ∙ c.loop-n.invariant.here k (omega (arith, lt, c.loop-n-test.false))

pub returns-clause-others : goal.returns-clause-others
returns-clause-others c = c.loop-n.invariant.others
