-- A cache without one of its sectors, and with one more.
use Rattle.std.proofs.Common.{◌≡◌, ℕ, false, List, [], ◌∷◌, eqb, refl, sym, ◌∙◌, ap, subst, Contains, ◌⊎◌, inl, inr, Bor}
use Rattle.std.proofs.lemmas.Bool.{cases_Bool, cond-true, cond-false, eq-eqb, ne_eqb, eqb-true, true≢false}
use Rattle.std.proofs.lemmas.Map.Keys.{IsDistinct-head, IsDistinct-tail}
use Rattle.std.specs.List.{IsDistinct, AllByRecursion}
use Rattle.std.specs.Map.{keys_of, lookup, remove_entry}
use Rattle.std.specs.Prelude.{Result, Ok, Err, OnOk, OnErr, Option, Some, None, IfSome, option_copied}
use Rattle.lru.specs.LruCache.{LruCache, lru_cache, put_entries}
use Rattle.lru.proofs.CallerLemmas.{Contains-lookup, Contains-put_entries, IsPut}
use Rattle.lru.proofs.Splits.{Contains-cons, Contains-head, Contains-nil, Contains-tail}
use Rattle.fs_layout.specs.Bytes.{SectorMap}
use Rattle.redo_journal.specs.Batch.{Entry, targets, with_batch}

-- no entry has a key from which all differ
none_among : (n : ℕ) (es : List (ℕ × List ℕ)) (content : List ℕ) → AllByRecursion (λ y. eqb n y ≡ false) (keys_of es) → Contains es (n, content) → ⊥
none_among n [] content apart has = Contains-nil (n, content) has
none_among n (e ∷ es) content apart has = elim (Contains-cons e es (n, content) has) [
  | inl same ↦ true≢false (sym (eq-eqb n e.0 (sym (ap (λ (p : ℕ × List ℕ). p.0) same))) ∙ apart.0)
  | inr later ↦ none_among n es content apart.1 later
]

-- a sector that is taken out isn't there any more
pub removed_gone : (n : ℕ) (es : List (ℕ × List ℕ)) → IsDistinct eqb (keys_of es) → (content : List ℕ) → Contains (remove_entry (eqb n) es) (n, content) → ⊥
removed_gone n [] apart content has = Contains-nil (n, content) has
removed_gone n (e ∷ es) apart content has = elim (cases_Bool (eqb n e.0)) [
  | inl here ↦
      none_among n es content (subst (λ (m : ℕ). AllByRecursion (λ y. eqb m y ≡ false) (keys_of es)) (sym (eqb-true n e.0 here)) (IsDistinct-head eqb e.0 (keys_of es) apart))
      (subst (λ l. Contains l (n, content)) (cond-true (eqb n e.0) es (e ∷ remove_entry (eqb n) es) here) has)
  | inr other ↦ elim (Contains-cons e (remove_entry (eqb n) es) (n, content) (subst (λ l. Contains l (n, content)) (cond-false (eqb n e.0) es (e ∷ remove_entry (eqb n) es) other) has)) [
    | inl same ↦ true≢false (sym (eq-eqb n e.0 (sym (ap (λ (p : ℕ × List ℕ). p.0) same))) ∙ other)
    | inr later ↦ removed_gone n es (IsDistinct-tail eqb e.0 (keys_of es) apart) content later
  ]
]

-- a sector that is found is there
pub looked_up : (n : ℕ) (es : List (ℕ × List ℕ)) (found : Option (Bor (List ℕ))) → option_copied found ≡ lookup (eqb n) es → IfSome found (λ content. Contains es (n, content.now))
looked_up n es None e = tt
looked_up n es (Some content) e =
    let there = Contains-lookup (eqb n) es content.now (sym e) in
    subst (λ (k : ℕ). Contains es (k, content.now)) (sym (eqb-true n there.0 there.2)) there.1

put_is : (cache : LruCache ℕ (List ℕ)) (n : ℕ) (content : List ℕ) (pair : ℕ × List ℕ) → IsPut eqb cache n content pair → pair ≡ (n, content)
put_is cache n content pair (same, inl key) = λ i. (key i, same i)
put_is cache n content pair (same, inr (was, has, passes)) = let key : pair.0 ≡ n = sym (eqb-true n pair.0 passes) in λ i. (key i, same i)

-- what a cache has after a put, which may have found no memory
pub put_kept : {T E : Type 0} (r : Result T E) (cache new : LruCache ℕ (List ℕ)) (n : ℕ) (content : List ℕ) → OnOk r (new ≡ lru_cache (put_entries eqb cache n content) cache.cap) → OnErr r (new ≡ cache)
    → (pair : ℕ × List ℕ) → Contains new.entries pair → Contains cache.entries pair ⊎ (pair ≡ (n, content))
put_kept (Ok x) cache new n content is _ pair has = elim (Contains-put_entries eqb cache n content pair (subst (λ l. Contains l pair) (ap (λ c. c.entries) is) has)) [
  | inl was ↦ inl was
  | inr put ↦ inr (put_is cache n content pair put)
]
put_kept (Err e) cache new n content _ same pair has = inl (subst (λ l. Contains l pair) (ap (λ c. c.entries) same) has)

-- a sector that no entry is for has its content from before
pub with_batch_apart : (entries : List Entry) (sectors : SectorMap) (n : ℕ) → (Contains (targets entries) n → ⊥) → with_batch entries sectors n ≡ sectors n
with_batch_apart [] sectors n apart = refl
with_batch_apart (e ∷ entries) sectors n apart =
    cond-false (eqb n e.0) e.1 (with_batch entries sectors n) (ne_eqb n e.0 (λ is. apart (subst (Contains (e.0 ∷ targets entries)) (sym is) (Contains-head e.0 (targets entries)))))
    ∙ with_batch_apart entries sectors n (λ has. apart (Contains-tail e.0 (targets entries) n has))
