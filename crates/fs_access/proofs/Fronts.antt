-- The front of a path, one piece after another.
use Rattle.std.specs.Prelude.{◌≡◌, ℕ, zero, suc, ◌+◌, ◌-◌, not, List, [], ◌∷◌, ◌++◌, length, take}
use Rattle.std.proofs.Common.{refl, sym, ap, ap₂, ◌∙◌, arith, rules}
use Rattle.std.proofs.lemmas.Grind.{flat_map-append}
use Rattle.std.proofs.lemmas.List.Elements.{filter-append}
use Rattle.std.proofs.lemmas.List.{length-append}
use Rattle.fs_model.specs.Parts.{is_empty, slash}
use Rattle.fs_access.specs.Components.{behind_slashes, components_in}

-- what is taken of two lists in a row
take_row : {A : Type 0} (n : ℕ) (xs ys : List A) → take n (xs ++ ys) ≡ take n xs ++ take (n - length xs) ys
take_row zero [] ys = refl
take_row (suc n) [] ys =
    let e : suc n ≡ suc n - 0 = omega arith in
    ap (λ k. take k ys) e
take_row zero (x ∷ xs) ys =
    let e : 0 ≡ 0 - length (x ∷ xs) = omega arith in
    ap (λ k. take k ys) e
take_row (suc n) (x ∷ xs) ys =
    let e : n - length xs ≡ suc n - length (x ∷ xs) = omega arith in
    ap (λ zs. x ∷ zs) (take_row n xs ys ∙ ap (λ k. take n xs ++ take k ys) e)

-- what was taken of the pieces so far
pub record IsFront (count : ℕ) (pieces : List (List ℕ)) (prefix : List ℕ) (left : ℕ) : Type 0 where
  pub prefix_is : prefix ≡ behind_slashes (take count (components_in pieces))
  pub left_is : left ≡ count - length (components_in pieces)

pub front_begins : (count : ℕ) → IsFront count [] [] count
front_begins count = record { prefix_is = search rules; left_is = omega arith }

pub front_goes_on : (count : ℕ) (pieces : List (List ℕ)) (piece : List ℕ) (old new : List ℕ) (left now : ℕ) → IsFront count pieces old left
    → new ≡ old ++ behind_slashes (take left (components_in (piece ∷ []))) → now ≡ left - length (components_in (piece ∷ []))
    → IsFront count (pieces ++ piece ∷ []) new now
front_goes_on count pieces piece old new left now front added fewer =
    let parts : components_in (pieces ++ piece ∷ []) ≡ components_in pieces ++ components_in (piece ∷ []) =
    filter-append (λ p. not (is_empty p)) pieces (piece ∷ []) in
    record {
      prefix_is = added
          ∙ ap₂ (λ a n. a ++ behind_slashes (take n (components_in (piece ∷ [])))) front.prefix_is front.left_is
          ∙ sym (flat_map-append (λ name. slash ∷ name) (take count (components_in pieces)) (take (count - length (components_in pieces)) (components_in (piece ∷ []))))
          ∙ ap behind_slashes (sym (take_row count (components_in pieces) (components_in (piece ∷ []))))
          ∙ ap (λ names. behind_slashes (take count names)) (sym parts);
      left_is =
          let size : length (components_in (pieces ++ piece ∷ [])) ≡ length (components_in pieces) + length (components_in (piece ∷ [])) =
          ap length parts ∙ length-append (components_in pieces) (components_in (piece ∷ [])) in
          omega (arith, fewer, front.left_is, size);
    }
