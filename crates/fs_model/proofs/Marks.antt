-- The bits of inodes 0 and 1 in the inode bitmap.
use Rattle.std.specs.Prelude.{◌≡◌, ℕ, zero, suc, ◌||◌, nat_lt, nat_eq, Bool, true, false}
use Rattle.std.proofs.Common.{refl, sym, ap, arith, ◌∙◌}
use Rattle.std.proofs.lemmas.Bool.Decides.{nat_tests}

-- the two are said to be taken, or the first alone, where the second is in use
pub marks : (n : ℕ) (b c : Bool) → (n ≡ 1 → c ≡ true) → (nat_lt n 2 || b || c) ≡ (nat_eq n 0 || b || c)
marks zero b c top = refl
marks (suc zero) true c top = refl
marks (suc zero) false c top = sym (top refl)
marks (suc (suc n)) b c top =
    let not_low : nat_lt (suc (suc n)) 2 ≡ false = grind (arith, nat_tests) in
    let not_none : nat_eq (suc (suc n)) 0 ≡ false = grind (arith, nat_tests) in
    ap (λ a. a || b || c) not_low ∙ sym (ap (λ a. a || b || c) not_none)
