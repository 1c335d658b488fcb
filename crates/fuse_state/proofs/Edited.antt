-- What an edit at the place of a key makes of a map.
use Rattle.std.specs.Prelude.{◌≡◌, ℕ, zero, suc, Bool, true, false, not, cond, if◌then◌else◌, List, [], ◌∷◌, get_or, refl}
use Rattle.std.proofs.Common.{sym, ap, subst, ◌∙◌, set, arith}
use Rattle.std.specs.Bool.{passes}
use Rattle.std.specs.declared.cmp.Ordering.{Ordering}
use Rattle.std.specs.declared.cmp.Ordering.TheVariants.{Less, Equal, Greater}
use Rattle.std.specs.Cmp.{IsTotalOrder, tied_itself}
use Rattle.std.specs.Ordering.{is_eq, eq_by_cmp}
use Rattle.std.specs.FinMap.Entries.{by_order, is_sorted-where_key}
use Rattle.std.specs.List.{insert, remove}
use Rattle.fs_layout.specs.Maps.{with_entry, without, IsMap}
use Rattle.fs_layout.proofs.FirstEntries.{left, right}
use Rattle.fs_layout.proofs.MapLaws.{from_T}
use Rattle.fuse_state.specs.Tables.{IsAt, IsGap}
use Rattle.fuse_state.proofs.Searched.{LacksKey, lacks_later, first_is_lower, later, above_all, ties}

module _ {K X : Type 0} {R : K → K → Ordering} (o : IsTotalOrder R) where
  -- the first entry where a key is set
  put_before : (f : K × X) (m : List (K × X)) (k : K) (x : X) → R k f.0 ≡ Less → with_entry R (f ∷ m) k x ≡ (k, x) ∷ f ∷ m
  put_before f m k x lt = ap (λ r. by_order r ((k, x) ∷ f ∷ m) ((f.0, x) ∷ m) (f ∷ with_entry R m k x)) lt

  put_here : (f : K × X) (m : List (K × X)) (k : K) (x : X) → k ≡ f.0 → with_entry R (f ∷ m) k x ≡ (k, x) ∷ m
  put_here f m k x same =
      ap (λ r. by_order r ((k, x) ∷ f ∷ m) ((f.0, x) ∷ m) (f ∷ with_entry R m k x)) (subst (λ q. R k q ≡ Equal) same (tied_itself o k))
      ∙ ap (λ q. (q, x) ∷ m) (sym same)

  put_behind : (f : K × X) (m : List (K × X)) (k : K) (x : X) → R k f.0 ≡ Greater → with_entry R (f ∷ m) k x ≡ f ∷ with_entry R m k x
  put_behind f m k x gt = ap (λ r. by_order r ((k, x) ∷ f ∷ m) ((f.0, x) ∷ m) (f ∷ with_entry R m k x)) gt

  pub put_at : (m : List (K × X)) (k : K) (i : ℕ) (x : X) → IsMap R m → IsAt m k i → set m i (k, x) ≡ with_entry R m k x
  put_at [] k i x h at = absurd (omega (arith, at.within))
  put_at (f ∷ m) k zero x h at = sym (put_here f m k x (sym (at.is f)))
  put_at (f ∷ m) k (suc i) x h at =
      ap (λ rest. f ∷ rest) (put_at m k i x (right _ _ h) (later o f m k i at)) ∙ sym (put_behind f m k x (first_is_lower o f m k i h at))

  gap_later : (f : K × X) (m : List (K × X)) (k : K) (i : ℕ) → IsGap R (f ∷ m) k (suc i) → IsGap R m k i
  gap_later f m k i gap = record {
    within = omega (arith, gap.within);
    lower = λ j e lt. gap.lower (suc j) e (omega arith);
    higher = λ j e le within. gap.higher (suc j) e (omega arith) (omega arith);
  }

  put_in_gap : (m : List (K × X)) (k : K) (i : ℕ) (x : X) → IsGap R m k i → insert m i (k, x) ≡ with_entry R m k x
  put_in_gap [] k zero x gap = refl
  put_in_gap [] k (suc i) x gap = refl
  put_in_gap (f ∷ m) k zero x gap = sym (put_before f m k x (gap.higher zero f (omega arith) (omega arith)))
  put_in_gap (f ∷ m) k (suc i) x gap =
      ap (λ rest. f ∷ rest) (put_in_gap m k i x (gap_later f m k i gap)) ∙ sym (put_behind f m k x (gap.lower zero f (omega arith)))

  -- an insertion that succeeds
  pub inserted : (m now : List (K × X)) (k : K) (i : ℕ) (x : X) (b : Bool) → IsGap R m k i
      → b ≡ true → now ≡ (if b then insert m i (k, x) else m) → now ≡ with_entry R m k x
  inserted m now k i x b gap succeeds is = is ∙ ap (λ t. cond t (insert m i (k, x)) m) succeeds ∙ put_in_gap m k i x gap

  -- ---- without a key

  pub without-IsMap : (m : List (K × X)) (k : K) → IsMap R m → IsMap R (without R m k)
  without-IsMap m k h = from_T _ (is_sorted-where_key R (λ q. not (eq_by_cmp R k q)) m (passes _ h))

  goes : (f : K × X) (m : List (K × X)) (k : K) → k ≡ f.0 → without R (f ∷ m) k ≡ without R m k
  goes f m k same = ap (λ b. cond (not b) (f ∷ without R m k) (without R m k)) (ties o k f.0 same)

  stays : (f : K × X) (m : List (K × X)) (k : K) → is_eq (R k f.0) ≡ false → without R (f ∷ m) k ≡ f ∷ without R m k
  stays f m k other = ap (λ b. cond (not b) (f ∷ without R m k) (without R m k)) other

  pub without_lacking : (m : List (K × X)) (k : K) → LacksKey o m k → m ≡ without R m k
  without_lacking [] k lacks = refl
  without_lacking (f ∷ m) k lacks =
      ap (λ rest. f ∷ rest) (without_lacking m k (lacks_later o f m k lacks)) ∙ sym (stays f m k (lacks zero f (omega arith)))

  lacks_behind : (f : K × X) (m : List (K × X)) (k : K) → IsMap R (f ∷ m) → k ≡ f.0 → LacksKey o m k
  lacks_behind f m k h same j e within =
      ap is_eq (subst (λ q. R q (get_or m j e).0 ≡ Less) (sym same) (above_all o f.0 m (left _ _ h) j e within))

  pub remove_at : (m : List (K × X)) (k : K) (i : ℕ) → IsMap R m → IsAt m k i → remove m i ≡ without R m k
  remove_at [] k i h at = absurd (omega (arith, at.within))
  remove_at (f ∷ m) k zero h at =
      let same : k ≡ f.0 = sym (at.is f) in
      without_lacking m k (lacks_behind f m k h same) ∙ sym (goes f m k same)
  remove_at (f ∷ m) k (suc i) h at =
      ap (λ rest. f ∷ rest) (remove_at m k i (right _ _ h) (later o f m k i at))
      ∙ sym (stays f m k (ap is_eq (first_is_lower o f m k i h at)))
