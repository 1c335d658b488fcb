-- Items written one after the other.
use Rattle.std.proofs.Common.{◌≡◌, ℕ, ◌+◌, ◌<◌, List, [], ◌∷◌, ◌++◌, length, get_or, take, sym, ap, ◌∙◌, append_assoc}
use Rattle.std.specs.List.{flat_map}
use Rattle.std.proofs.lemmas.List.{append-nil, take_more}
use Rattle.std.proofs.lemmas.List.Concat.{flat_map-append}

pub one_more : {X : Type 0} (f : X → List ℕ) (old : List ℕ) (xs : List X) (t u : List ℕ) (i : ℕ) (d : X) → i < length xs
    → t ≡ old ++ flat_map f (take i xs) → u ≡ t ++ f (get_or xs i d) → u ≡ old ++ flat_map f (take (i + 1) xs)
one_more f old xs t u i d within so_far now =
    let more : flat_map f (take (i + 1) xs) ≡ flat_map f (take i xs) ++ f (get_or xs i d) =
    ap (flat_map f) (take_more xs i d within) ∙ flat_map-append f (take i xs) (get_or xs i d ∷ [])
    ∙ ap (λ (r : List ℕ). flat_map f (take i xs) ++ r) (append-nil (f (get_or xs i d))) in
    now ∙ ap (λ (r : List ℕ). r ++ f (get_or xs i d)) so_far ∙ append_assoc old (flat_map f (take i xs)) (f (get_or xs i d))
    ∙ ap (λ (r : List ℕ). old ++ r) (sym more)
