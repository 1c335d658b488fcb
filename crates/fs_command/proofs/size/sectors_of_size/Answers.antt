use Rattle.std.proofs.Common.{◌≤◌, ◌*◌, ℕ, sym, subst, arith}
use Rattle.fs_command.proofs.Splits.{size_is}
use Rattle.fs_command.proofs.size.sectors_of_size.Goals as goal

pub returns-in_default-clause-none : goal.returns-in_default-clause-none
returns-in_default-clause-none c sectors size =
    let is = size_is c.args.text.now c.parts-unit.result.0.now c.parts-unit.result.1 sectors c.parts-unit.ensures.only size in
    c.in_default.ensures.value.0 (is.0, omega (arith, is.3))

pub returns-in_default-checked_mul-clause-none : goal.returns-in_default-checked_mul-clause-none
returns-in_default-checked_mul-clause-none c sectors size =
    let is = size_is c.args.text.now c.parts-unit.result.0.now c.parts-unit.result.1 sectors c.parts-unit.ensures.only size in
    let number_is = c.in-Ok.ensures.value.0.1 in
    let most = subst (λ (n : ℕ). n * c.parts-unit.result.1 ≤ 8589934592) (sym number_is) is.2 in
    c.in_default-checked_mul.ensures (omega (arith, most))

pub returns-then-bytes-lt-LEAST_BYTES-clause-none : goal.returns-then-bytes-lt-LEAST_BYTES-clause-none
returns-then-bytes-lt-LEAST_BYTES-clause-none c sectors size =
    let is = size_is c.args.text.now c.parts-unit.result.0.now c.parts-unit.result.1 sectors c.parts-unit.ensures.only size in
    let number_is = c.in-Ok.ensures.value.0.1 in
    let least = subst (λ (n : ℕ). 524288 ≤ n * c.parts-unit.result.1) (sym number_is) is.1 in
    omega (arith, least, c.in-Some.ensures.1, c.if-bytes-lt-LEAST_BYTES.true)

pub returns-then-bytes-gt-MOST_BYTES-clause-none : goal.returns-then-bytes-gt-MOST_BYTES-clause-none
returns-then-bytes-gt-MOST_BYTES-clause-none c sectors size =
    let is = size_is c.args.text.now c.parts-unit.result.0.now c.parts-unit.result.1 sectors c.parts-unit.ensures.only size in
    let number_is = c.in-Ok.ensures.value.0.1 in
    let most = subst (λ (n : ℕ). n * c.parts-unit.result.1 ≤ 8589934592) (sym number_is) is.2 in
    omega (arith, most, c.in-Some.ensures.1, c.if-bytes-gt-MOST_BYTES.true)
