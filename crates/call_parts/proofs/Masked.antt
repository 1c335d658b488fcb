-- The permission bits of a mode, one digit at a time.
use Rattle.std.specs.Prelude.{◌≡◌, ℕ, ◌+◌, ◌*◌, ◌/◌, ◌%◌, ◌<◌, [], None}
use Rattle.std.proofs.Common.{refl, ap, arith, ◌∙◌}
use Rattle.posix_acl.specs.declared.entry.Perms.{Perms}
use Rattle.posix_acl.specs.AccessList.{AccessList, minimal}
use Rattle.posix_acl.specs.Entries.{perms_of, digit_of}
use Rattle.posix_acl.proofs.Laws.{perms_injective, digit_back}
use Rattle.fs_model.specs.Births.{without_perms, masked_acl}

-- the lowest digit alone counts
low_digit : (k d : ℕ) → d < 8 → perms_of (8 * k + d) ≡ perms_of d
low_digit k d small =
    let four : (8 * k + d) / 4 % 2 ≡ d / 4 % 2 = omega (arith, small) in
    let two : (8 * k + d) / 2 % 2 ≡ d / 2 % 2 = omega (arith, small) in
    let one : (8 * k + d) % 2 ≡ d % 2 = omega (arith, small) in
    rw (four, two, one) refl

abbrev three_perms : Perms → Perms → Perms → AccessList
three_perms owner group other = record { owner = owner; users = []; group = group; groups = []; mask = None; other = other }

digits_back : (p : Perms) → digit_of p < 8 → perms_of (digit_of p) ≡ p
digits_back p small = perms_injective (perms_of (digit_of p)) p (digit_back (digit_of p) small)

pub three_digits : (owner group other : Perms) (mode a b c : ℕ) → a ≡ digit_of owner → b ≡ digit_of group → c ≡ digit_of other → a < 8 → b < 8 → c < 8
    → mode ≡ 64 * a + 8 * b + c → minimal mode ≡ record { owner = owner; users = []; group = group; groups = []; mask = None; other = other }
three_digits owner group other mode a b c is_a is_b is_c small_a small_b small_c is =
    let high : mode / 64 ≡ a = omega (arith, is, small_a, small_b, small_c) in
    let middle : mode / 8 ≡ 8 * a + b = omega (arith, is, small_a, small_b, small_c) in
    let low : mode ≡ 8 * (8 * a + b) + c = omega (arith, is) in
    let first : perms_of (mode / 64) ≡ owner =
    ap perms_of (high ∙ is_a) ∙ digits_back owner (omega (arith, is_a, small_a)) in
    let second : perms_of (mode / 8) ≡ group =
    ap perms_of middle ∙ low_digit a b small_b ∙ ap perms_of is_b ∙ digits_back group (omega (arith, is_b, small_b)) in
    let third : perms_of mode ≡ other =
    ap perms_of low ∙ low_digit (8 * a + b) c small_c ∙ ap perms_of is_c ∙ digits_back other (omega (arith, is_c, small_c)) in
    ap (λ (p : Perms). three_perms p (perms_of (mode / 8)) (perms_of mode)) first
    ∙ ap (λ (p : Perms). three_perms owner p (perms_of mode)) second
    ∙ ap (three_perms owner group) third

digit_without : (digit lacks : ℕ) (p q r : Perms) → p ≡ without_perms q r → q ≡ perms_of digit → r ≡ perms_of lacks → p ≡ without_perms (perms_of digit) (perms_of lacks)
digit_without digit lacks p q r is has no_more = is ∙ ap (λ (x : Perms). without_perms x r) has ∙ ap (without_perms (perms_of digit)) no_more

-- the bits of a mode that the umask leaves
pub masked_is : (mode umask bits : ℕ) (owner group other q1 r1 q2 r2 q3 r3 : Perms) → minimal bits ≡ record { owner = owner; users = []; group = group; groups = []; mask = None; other = other }
    → owner ≡ without_perms q1 r1 → q1 ≡ perms_of (mode / 64) → r1 ≡ perms_of (umask / 64)
    → group ≡ without_perms q2 r2 → q2 ≡ perms_of (mode / 8) → r2 ≡ perms_of (umask / 8)
    → other ≡ without_perms q3 r3 → q3 ≡ perms_of mode → r3 ≡ perms_of umask
    → minimal bits ≡ masked_acl mode umask
masked_is mode umask bits owner group other q1 r1 q2 r2 q3 r3 is o1 o2 o3 g1 g2 g3 t1 t2 t3 =
    is
    ∙ ap (λ (p : Perms). three_perms p group other) (digit_without (mode / 64) (umask / 64) owner q1 r1 o1 o2 o3)
    ∙ ap (λ (p : Perms). three_perms (without_perms (perms_of (mode / 64)) (perms_of (umask / 64))) p other) (digit_without (mode / 8) (umask / 8) group q2 r2 g1 g2 g3)
    ∙ ap (three_perms (without_perms (perms_of (mode / 64)) (perms_of (umask / 64))) (without_perms (perms_of (mode / 8)) (perms_of (umask / 8)))) (digit_without mode umask other q3 r3 t1 t2 t3)
