-- What a finite map has, with one entry set or removed.
use Rattle.std.specs.Prelude.{◌≡◌, ◌≢◌, ℕ, ◌+◌, Bool, true, false, not, cond, List, length, Some, None, is_some}
use Rattle.std.proofs.Common.{refl, sym, ap, arith, ◌∙◌}
use Rattle.std.specs.Bool.{passes}
use Rattle.std.specs.declared.cmp.Ordering.{Ordering}
use Rattle.std.specs.declared.cmp.Ordering.TheVariants.{Less, Equal, Greater}
use Rattle.std.specs.Ordering.{nat_cmp, eq_by_cmp, is_eq}
use Rattle.std.specs.Cmp.{IsTotalOrder, tied_itself}
use Rattle.std.proofs.lemmas.Cmp.{nat_cmp_total, nat_list_cmp_total}
use Rattle.std.specs.FinMap.{nat_cmp-IsAntisymmetric, slice_cmp-IsAntisymmetric}
use Rattle.std.specs.FinMap.Entries.{find-put, length-put, is_sorted-put, is_sorted-where_key, find-where_key, length_without, same_entries}
use Rattle.fs_layout.specs.Maps.{name_cmp, get, without}
use Rattle.fs_layout.specs.Laws.{HaveEntries}
use Rattle.fs_layout.proofs.MapLaws.{from_T}

is_equal : (o : Ordering) → is_eq o ≡ true → o ≡ Equal
is_equal Less e = absurd cc
is_equal Equal e = refl
is_equal Greater e = absurd cc

module _ {K : Type 0} (R : K → K → Ordering) (total : IsTotalOrder R) (same : (a b : K) → R a b ≡ Equal → a ≡ b) where
  itself : (k : K) → eq_by_cmp R k k ≡ true
  itself k = ap is_eq (tied_itself total k)

  other : (q k : K) → q ≢ k → eq_by_cmp R q k ≡ false
  other q k ne = go (eq_by_cmp R q k) refl
    where
      go : (b : Bool) → eq_by_cmp R q k ≡ b → b ≡ false
      go true e = absurd (ne (same q k (is_equal (R q k) e)))
      go false e = refl

  get_without : {X : Type 0} (m : List (K × X)) (k q : K) → get R (without R m k) q ≡ cond (not (eq_by_cmp R k q)) (get R m q) None
  get_without m k q = find-where_key R (λ x. not (eq_by_cmp R k x)) q (λ x e. ap (λ z. not (eq_by_cmp R k z)) (sym (same q x e))) m

  pub have_entries : (X : Type 0) → HaveEntries X R
  have_entries X = record {
    here = λ m k x. find-put R total k k x m ∙ ap (λ b. cond b (Some x) (get R m k)) (itself k);
    others = λ m k q x ne. find-put R total q k x m ∙ ap (λ b. cond b (Some x) (get R m q)) (other q k ne);
    gone = λ m k. get_without m k k ∙ ap (λ b. cond (not b) (get R m k) None) (itself k);
    left = λ m k q ne. get_without m k q ∙ ap (λ b. cond (not b) (get R m q) None) (other k q (λ e. ne (sym e)));
    with_is = λ m k x is. from_T _ (is_sorted-put R total k x m (passes _ is));
    without_is = λ m k is. from_T _ (is_sorted-where_key R (λ x. not (eq_by_cmp R k x)) m (passes _ is));
    more = λ m k x is none. length-put R total k x m (passes _ is) ∙ ap (λ o. cond (is_some o) (length m) (length m + 1)) none;
    fewer = λ m k x is some.
        let all : 1 + length (without R m k) ≡ length m =
        ap (λ o. cond (is_some o) 1 0 + length (without R m k)) (sym some) ∙ length_without R total k m (passes _ is) in
        omega (arith, all);
    one = λ m n is_m is_n each. same_entries R total same m n (passes _ is_m) (passes _ is_n) each;
  }

pub names_have_entries : HaveEntries ℕ name_cmp
names_have_entries = have_entries name_cmp nat_list_cmp_total (slice_cmp-IsAntisymmetric nat_cmp-IsAntisymmetric) ℕ

pub numbers_have_entries : HaveEntries ℕ nat_cmp
numbers_have_entries = have_entries nat_cmp nat_cmp_total nat_cmp-IsAntisymmetric ℕ
