-- Marks of sectors, where one more is set, and what a sector without a mark is.
use Rattle.std.proofs.Common.{◌≡◌, ℕ, zero, suc, ◌%◌, Bool, true, false, List, [], ◌∷◌, ◌++◌, length, get_or, set, eqb, arith, refl, sym, ◌∙◌, ap, subst, inl, inr, get_or-set_other}
use Rattle.std.specs.Prelude.{All}
use Rattle.std.specs.List.{list_any}
use Rattle.std.proofs.lemmas.Bool.{cases_Bool, cases_eq, cond_both, eqb-true, true≢false}
use Rattle.std.proofs.lemmas.List.Elements.{All-append}
use Rattle.std.proofs.lemmas.List.Folds.{list_any_none}
use Rattle.std.proofs.lemmas.Grind.{get_or-set_at}
use Rattle.indexmap.specs.IndexSet.{insert_key}
use Rattle.redo_journal.specs.declared.batch.TheConstants.{MARKS}
use Rattle.redo_journal.specs.Marks.{has_mark, AreMarked}

-- a sector without a mark isn't there
pub unmarked_absent : (ns : List ℕ) (marks : List Bool) (n : ℕ) → AreMarked ns marks → has_mark marks n ≡ false → list_any (eqb n) ns ≡ false
unmarked_absent ns marks n marked none = list_any_none (eqb n) ns (λ k d lt.
    elim (cases_Bool (eqb n (get_or ns k d))) [
      | inl same ↦
          let is : n ≡ get_or ns k d = eqb-true n (get_or ns k d) same in
          absurd (true≢false (sym (marked k d lt) ∙ ap (has_mark marks) (sym is) ∙ none))
      | inr other ↦ other
    ])

-- a mark stays where another one is set
mark_stays : (marks : List Bool) (n m : ℕ) → length marks ≡ MARKS → has_mark marks m ≡ true → has_mark (set marks (n % MARKS) true) m ≡ true
mark_stays marks n m len has = elim (cases_eq (m % MARKS) (n % MARKS)) [
  | inl same ↦ get_or-set_at marks (n % MARKS) (m % MARKS) true false same (omega (arith, len))
  | inr other ↦ get_or-set_other marks (n % MARKS) (m % MARKS) true false other ∙ has
]

mark_set : (marks : List Bool) (n : ℕ) → length marks ≡ MARKS → has_mark (set marks (n % MARKS) true) n ≡ true
mark_set marks n len = get_or-set_at marks (n % MARKS) (n % MARKS) true false refl (omega (arith, len))

-- one more sector, and its mark
alone : (P : ℕ → Type 0) (n : ℕ) → P n → All P (n ∷ [])
alone P n h zero d lt = h
alone P n h (suc k) d lt = absurd (omega (arith, lt))

pub marked_put : (ns new : List ℕ) (marks : List Bool) (n : ℕ) → length marks ≡ MARKS → new ≡ insert_key eqb ns n → AreMarked ns marks → AreMarked new (set marks (n % MARKS) true)
marked_put ns new marks n len keys marked =
    let after = set marks (n % MARKS) true in
    let IsMarked : ℕ → Type 0 = λ m. has_mark after m ≡ true in
    let kept : All IsMarked ns = λ k d lt. mark_stays marks n (get_or ns k d) len (marked k d lt) in
    subst (All IsMarked) (sym keys)
    (cond_both (list_any (eqb n) ns) ns (ns ++ n ∷ []) (All IsMarked) (λ _. kept) (λ _. All-append IsMarked ns (n ∷ []) kept (alone IsMarked n (mark_set marks n len))))
