use Rattle.std.proofs.Common.{◌≡◌, suc, ◌-◌, sym, ap, ◌∙◌, get_or, arith, inl, inr}
use Rattle.std.proofs.lemmas.Bool.{cases_lt}
use Rattle.posix_acl.specs.Order.{same_name}
use Rattle.posix_acl.proofs.Ordering.{blank}
use Rattle.posix_acl.proofs.Repeats.{no_repeat, repeat_found}
use Rattle.posix_acl.proofs.validity.repeats_a_name.Goals as goal

pub returns-then-has_name_of : goal.returns-then-has_name_of
returns-then-has_name_of c =
    let here : suc (c.loop-next.next - 1) ≡ c.loop-next.next = omega arith in
    sym (repeat_found c.args.sorted.now (c.loop-next.next - 1) blank (omega arith)
    (ap (λ k. same_name (get_or c.args.sorted.now (c.loop-next.next - 1) blank) (get_or c.args.sorted.now k blank)) here ∙ sym c.has_name_of.ensures ∙ c.if-has_name_of.true))

pub loop-next-preserved : goal.loop-next-preserved
loop-next-preserved c = λ k below.
    elim (cases_lt (suc k) c.loop-next.next) [
      | inl before ↦ c.loop-next.invariant k before
      | inr here ↦
          let last : suc k ≡ c.loop-next.next = omega arith in
          let first : k ≡ c.loop-next.next - 1 = omega arith in
          rw last (rw first (sym c.has_name_of.ensures ∙ c.if-has_name_of.false))
    ]

pub returns : goal.returns
returns c = sym (no_repeat c.args.sorted.now c.requires.order c.requires.fit (λ k below. c.loop-next.invariant k (omega arith)))
