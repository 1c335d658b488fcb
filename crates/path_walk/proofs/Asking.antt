-- What is asked of a path, and of a directory.
use Rattle.std.specs.Prelude.{◌≡◌, ℕ, suc, ◌<◌, nat_lt, nat_eq, Bool, false, not, ◌==◌, ◌&&◌, List, [], ◌∷◌, length, get_or, ◌-◌, Ok}
use Rattle.std.proofs.Common.{refl, sym, ap, arith, ◌∙◌}
use Rattle.std.proofs.lemmas.Bool.Decides.{nat_tests}
use Rattle.std.specs.List.{list_any}
use Rattle.fs_cred.specs.declared.errno.Errno.TheVariants.{ENOENT, EINVAL, ENAMETOOLONG}
use Rattle.fs_model.specs.Demands.{refuse, first_of}
use Rattle.fs_model.specs.Limits.{path_limit}
use Rattle.fs_model.specs.Parts.{is_empty, path_checks, begins_with_slash, ends_with_slash}
use Rattle.path_walk.specs.Answers.{refused_or}

pub empty_is : (path : List ℕ) → is_empty path ≡ nat_eq (length path) 0
empty_is [] = refl
empty_is (b ∷ path) = let e : nat_eq (length (b ∷ path)) 0 ≡ false = grind (arith, nat_tests) in sym e

-- the checks, by what each test gives
pub checked : (path : List ℕ) (a b c : Bool) → is_empty path ≡ a → list_any (λ b. b == 0) path ≡ b → nat_lt path_limit (length path) ≡ c
    → refused_or {A = Unit {0}} (first_of (path_checks path)) (Ok tt) ≡ refused_or (first_of (refuse ENOENT a ∷ refuse EINVAL b ∷ refuse ENAMETOOLONG c ∷ [])) (Ok tt)
checked path a b c x y z = rw (x, y, z) refl

-- ---- slashes
pub begins_is : (path : List ℕ) → begins_with_slash path ≡ (not (nat_eq (length path) 0) && (get_or path 0 0 == 47))
begins_is [] = refl
begins_is (b ∷ path) = let e : nat_eq (length (b ∷ path)) 0 ≡ false = grind (arith, nat_tests) in ap (λ (t : Bool). not t && (b == 47)) (sym e)

pub ends_is : (path : List ℕ) → 0 < length path → ends_with_slash path ≡ (get_or path (length path - 1) 0 == 47)
ends_is [] some = absurd (omega (arith, some))
ends_is (b ∷ []) some = refl
ends_is (a ∷ b ∷ path) some =
    ends_is (b ∷ path) (omega arith)
    ∙ ap (λ (n : ℕ). get_or (a ∷ b ∷ path) n 0 == 47) (let e : suc (length (b ∷ path) - 1) ≡ length (a ∷ b ∷ path) - 1 = omega arith in e)
