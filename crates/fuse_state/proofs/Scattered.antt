-- Entries in no order, and the map that has them by rising keys.
--     rising-IsMap, get-rising        it is a map, and has what is looked up among the entries
--     put-rising, without-rising, same-rising        entries that differ in one key, and in none
--     on_ok        what holds of a success, where there is one
use Rattle.std.specs.Prelude.{◌≡◌, ℕ, nat_eq, Bool, false, true, not, cond, List, [], ◌∷◌, refl, Option, None, Some, Result, Ok, Err, IsOk, OnOk}
use Rattle.std.proofs.Common.{sym, ap, ◌∙◌}
use Rattle.std.specs.Cmp.{unsigned_tied, nat_eq_equiv}
use Rattle.std.proofs.lemmas.Cmp.{nat_cmp_total}
use Rattle.std.specs.FinMap.{nat_cmp-IsAntisymmetric}
use Rattle.std.specs.FinMap.Entries.{find-where_key}
use Rattle.std.specs.Ordering.{nat_cmp, eq_by_cmp}
use Rattle.std.specs.Map.{lookup}
use Rattle.fs_layout.specs.Maps.{get, with_entry, without, IsMap}
use Rattle.fs_layout.proofs.MapLaws.{get-with_entry, with_entry-IsMap, same_map}
use Rattle.fuse_state.specs.Tables.{rising}
use Rattle.fuse_state.proofs.Edited.{without-IsMap}

pub on_ok : {T E P : Type 0} (r : Result T E) → IsOk r → OnOk r P → P
on_ok (Ok x) is holds = holds
on_ok (Err e) is holds = absurd (let no : false ≡ true = is in cc)

module _ {X : Type 0} where
  turned_cond : (b : Bool) (x : Option X) → cond (not b) x None ≡ cond b None x
  turned_cond true x = refl
  turned_cond false x = refl

  -- what a map has without a key
  get-without : (m : List (ℕ × X)) (k q : ℕ) → get nat_cmp (without nat_cmp m k) q ≡ cond (eq_by_cmp nat_cmp k q) None (get nat_cmp m q)
  get-without m k q =
      find-where_key nat_cmp (λ x. not (eq_by_cmp nat_cmp k x)) q (λ x is. ap (λ y. not (eq_by_cmp nat_cmp k y)) (sym (nat_cmp-IsAntisymmetric q x is))) m
      ∙ turned_cond (eq_by_cmp nat_cmp k q) (get nat_cmp m q)

  pub rising-IsMap : (es : List (ℕ × X)) → IsMap nat_cmp (rising es)
  rising-IsMap [] = refl
  rising-IsMap (e ∷ es) = with_entry-IsMap (rising es) e.0 e.1 (rising-IsMap es)

  pub get-rising : (es : List (ℕ × X)) (q : ℕ) → get nat_cmp (rising es) q ≡ lookup (nat_eq q) es
  get-rising [] q = refl
  get-rising (e ∷ es) q = get-with_entry (rising es) e.0 e.1 q ∙ (λ i. cond (unsigned_tied q e.0 i) (Some e.1) (get-rising es q i))

  pub put-rising : (es fs : List (ℕ × X)) (k : ℕ) (x : X) → ((q : ℕ) → lookup (nat_eq q) fs ≡ cond (nat_eq k q) (Some x) (lookup (nat_eq q) es))
      → rising fs ≡ with_entry nat_cmp (rising es) k x
  put-rising es fs k x is =
      same_map (rising fs) (with_entry nat_cmp (rising es) k x) (rising-IsMap fs) (with_entry-IsMap (rising es) k x (rising-IsMap es))
      (λ q. get-rising fs q ∙ is q
      ∙ sym (get-with_entry (rising es) k x q ∙ (λ i. cond ((unsigned_tied q k ∙ nat_eq_equiv.symm q k) i) (Some x) (get-rising es q i))))

  pub without-rising : (es fs : List (ℕ × X)) (k : ℕ) → ((q : ℕ) → lookup (nat_eq q) fs ≡ cond (nat_eq k q) None (lookup (nat_eq q) es))
      → rising fs ≡ without nat_cmp (rising es) k
  without-rising es fs k is =
      same_map (rising fs) (without nat_cmp (rising es) k) (rising-IsMap fs) (without-IsMap nat_cmp_total (rising es) k (rising-IsMap es))
      (λ q. get-rising fs q ∙ is q
      ∙ sym (get-without (rising es) k q ∙ (λ i. cond (unsigned_tied k q i) None (get-rising es q i))))

  pub same-rising : (es fs : List (ℕ × X)) → ((q : ℕ) → lookup (nat_eq q) fs ≡ lookup (nat_eq q) es) → rising fs ≡ rising es
  same-rising es fs is = same_map (rising fs) (rising es) (rising-IsMap fs) (rising-IsMap es) (λ q. get-rising fs q ∙ is q ∙ sym (get-rising es q))
