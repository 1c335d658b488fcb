-- How many are a user's, of what is counted.
use Rattle.std.specs.Prelude.{◌≡◌, ◌==◌, ℕ, suc, Bool, true, false, cond, List, [], ◌∷◌, map, length, refl}
use Rattle.std.proofs.Common.{ap}
use Rattle.std.specs.List.{filter}
use Rattle.fuse_state.specs.Shares.{count_of}

module _ {X : Type 0} (user : X → ℕ) (uid : ℕ) where
  pub counted_of : (xs : List X) → length (filter (λ x. user x == uid) xs) ≡ count_of (map user xs) uid
  counted_of [] = refl
  counted_of (x ∷ xs) = go (user x == uid) (counted_of xs)
    where
      go : (b : Bool) → length (filter (λ y. user y == uid) xs) ≡ count_of (map user xs) uid
          → length (cond b (x ∷ filter (λ y. user y == uid) xs) (filter (λ y. user y == uid) xs))
          ≡ length (cond b (user x ∷ filter (λ u. u == uid) (map user xs)) (filter (λ u. u == uid) (map user xs)))
      go true rest = ap suc rest
      go false rest = rest
