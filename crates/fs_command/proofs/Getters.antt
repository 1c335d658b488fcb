-- What the getters of matches give, by the rows.
use Rattle.std.specs.Prelude.{◌≡◌, ◌⊎◌, ◌^◌, ◌<◌, ℕ, Bool, true, false, codes, List, Option, Some, None, Result, Ok, Err, IsSome, option_map, unwrap_or}
use Rattle.std.proofs.Common.{◌∙◌, sym, refl, ap, subst, arith, inl, inr}
use Rattle.std.specs.Borrow.{Bor}
use Rattle.std.specs.Str.Parse.{ParsesUnsigned, digits_value, without_leading_plus}
use Rattle.clap.specs.Words.{ReadsOne, Text, first_of, first_value, one_of, one_text, rows_of}
use Rattle.clap.specs.Takes.{is_given}
use Rattle.clap.specs.Values.{bool_text}
use Rattle.clap.specs.declared.parser.matches.Found.{Found}
use Rattle.clap.proofs.WalkLemmas.{first_value-rows, one_text-rows}
use Rattle.fs_command.specs.Words.{IsFlag, IsGiven, IsNumberGiven, IsNumberFor, IsNumberIfAny, IsNumberIfGiven, IsNumberOr}

is_some_of : {X : Type 0} (r : Option X) (x : X) → r ≡ Some x → IsSome r
is_some_of r x h = rw h refl

text_some : (r : Option (Bor Text)) (text : Text) → option_map (λ s. s.now) r ≡ Some text → IsSome r
text_some (Some x) text h = refl
text_some None text h = cc

-- `get_str`
pub text_is_some : (f : Found) (id : Text) (r : Option (Bor Text)) → option_map (λ s. s.now) r ≡ first_value f id → IsGiven id (rows_of f) → IsSome r
text_is_some f id r got given = text_some r given.0 (got ∙ first_value-rows f id ∙ given.1)

pub text_is : (f : Found) (id : Text) (r : Option (Bor Text)) → option_map (λ s. s.now) r ≡ first_value f id
    → first_of id (rows_of f) ≡ option_map (λ s. s.now) r
text_is f id r got = sym (got ∙ first_value-rows f id)

-- `get_one` of a number that fits
module _ {E : Type 0} (G : List ℕ → Result ℕ E → Type 0) (only : (u : List ℕ) (x : Result ℕ E) → G u x → ParsesUnsigned 32 10 u x) where
  one_number : (least most : ℕ) (o : Option Text) (r : Option ℕ) → ((t : Text) → o ≡ Some t → ReadsOne G t r) → most < 2 ^ 32
      → (n : ℕ) → IsNumberFor least most o n → r ≡ Some n
  one_number least most None r reads fits n is = absurd is
  one_number least most (Some t) (Some v) reads fits n is =
      let parsed = only t (Ok v) (reads t refl) in
      ap Some (parsed.1 ∙ sym is.1)
  one_number least most (Some t) None reads fits n is =
      let read = reads t refl in
      let small : digits_value 10 (without_leading_plus t) < 2 ^ 32 = omega (arith, is.1, is.3, fits) in
      absurd (only t (Err read.0) read.1 (is.0, small))

  pub number_is_some : (least most : ℕ) (f : Found) (id : Text) (r : Option ℕ) → ((t : Text) → one_text f id ≡ Some t → ReadsOne G t r)
      → most < 2 ^ 32 → IsNumberGiven least most id (rows_of f) → IsSome r
  number_is_some least most f id r reads fits is =
      is_some_of r is.0 (one_number least most (one_of id (rows_of f)) r (λ t e. reads t (one_text-rows f id ∙ e)) fits is.0 is.1)

  pub number_is : (least most : ℕ) (f : Found) (id : Text) (r : Option ℕ) (v : ℕ) → ((t : Text) → one_text f id ≡ Some t → ReadsOne G t r)
      → most < 2 ^ 32 → IsNumberGiven least most id (rows_of f) → r ≡ Some v → IsNumberFor least most (one_of id (rows_of f)) v
  number_is least most f id r v reads fits is got =
      let n_is = one_number least most (one_of id (rows_of f)) r (λ t e. reads t (one_text-rows f id ∙ e)) fits is.0 is.1 in
      subst (λ (m : ℕ). IsNumberFor least most (one_of id (rows_of f)) m) (ap (λ (o : Option ℕ). unwrap_or o 0) (sym n_is ∙ got)) is.1

  -- and of one that may be given
  pub number_or_is : (usual least most : ℕ) (f : Found) (id : Text) (r : Option ℕ) (v : ℕ) → (one_text f id ≡ None → r ≡ None)
      → ((t : Text) → one_text f id ≡ Some t → ReadsOne G t r) → most < 2 ^ 32 → IsNumberIfGiven least most id (rows_of f)
      → v ≡ unwrap_or r usual → IsNumberOr usual least most (one_of id (rows_of f)) v
  number_or_is usual least most f id r v none reads fits is got = go (one_of id (rows_of f)) refl
    where
      go : (o : Option Text) → one_of id (rows_of f) ≡ o → IsNumberOr usual least most o v
      go None e = got ∙ ap (λ x. unwrap_or x usual) (none (one_text-rows f id ∙ e))
      go (Some t) e =
          let given = is t e in
          let number : IsNumberFor least most (Some t) given.0 = subst (λ (o : Option Text). IsNumberFor least most o given.0) e given.1 in
          let n_is = one_number least most (Some t) r (λ u h. reads u (one_text-rows f id ∙ e ∙ h)) fits given.0 number in
          subst (λ (m : ℕ). IsNumberFor least most (Some t) m) (sym (got ∙ ap (λ (x : Option ℕ). unwrap_or x usual) n_is)) number

  pub number_if_any : (least most : ℕ) (f : Found) (id : Text) (r : Option ℕ) → (one_text f id ≡ None → r ≡ None)
      → ((t : Text) → one_text f id ≡ Some t → ReadsOne G t r) → most < 2 ^ 32 → IsNumberIfGiven least most id (rows_of f)
      → IsNumberIfAny least most (one_of id (rows_of f)) r
  number_if_any least most f id r none reads fits is = go (one_of id (rows_of f)) refl
    where
      go : (o : Option Text) → one_of id (rows_of f) ≡ o → IsNumberIfAny least most o r
      go None e = none (one_text-rows f id ∙ e)
      go (Some t) e =
          let given = is t e in
          let number : IsNumberFor least most (Some t) given.0 = subst (λ (o : Option Text). IsNumberFor least most o given.0) e given.1 in
          let n_is = one_number least most (Some t) r (λ u h. reads u (one_text-rows f id ∙ e ∙ h)) fits given.0 number in
          subst (λ (x : Option ℕ). IsNumberIfAny least most (Some t) x) (sym n_is) number

-- `get_flag`
pub flag_is : (f : Found) (id : Text) (r : Bool) → (one_text f id ≡ None → r ≡ false) → (one_text f id ≡ Some (codes "true") → r ≡ true)
    → (one_text f id ≡ Some (codes "false") → r ≡ false) → IsFlag id (rows_of f) → is_given id (rows_of f) ≡ r
flag_is f id r none used unused flag = go (is_given id (rows_of f)) flag
  where
    go : (b : Bool) → (one_of id (rows_of f) ≡ Some (bool_text b)) ⊎ ((one_of id (rows_of f) ≡ None) × (b ≡ false)) → b ≡ r
    go true (inl e) = sym (used (one_text-rows f id ∙ e))
    go false (inl e) = sym (unused (one_text-rows f id ∙ e))
    go b (inr e) = e.1 ∙ sym (none (one_text-rows f id ∙ e.0))
