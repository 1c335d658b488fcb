-- The names in one directory, with one more or one less.
use Rattle.std.specs.Prelude.{◌≡◌, ◌≢◌, ℕ, ◌+◌, ◌≤◌, ◌==◌, Bool, true, false, not, cond, List, [], ◌∷◌, length, Option, None, Some, is_some, count_by}
use Rattle.std.proofs.Common.{refl, sym, ap, arith, ◌∙◌}
use Rattle.std.proofs.lemmas.Bool.Decides.{nat_tests}
use Rattle.std.proofs.lemmas.Cmp.{nat_list_cmp_total}
use Rattle.std.proofs.lemmas.List.Sums.{sum_by-cons}
use Rattle.std.specs.Bool.{passes}
use Rattle.std.specs.declared.cmp.Ordering.{Ordering}
use Rattle.std.specs.declared.cmp.Ordering.TheVariants.{Less, Equal, Greater}
use Rattle.std.specs.Ordering.{eq_by_cmp, is_eq, is_lt}
use Rattle.std.specs.Cmp.{tied_itself}
use Rattle.std.specs.FinMap.{nat_cmp-IsAntisymmetric, slice_cmp-IsAntisymmetric}
use Rattle.std.specs.FinMap.Entries.{find-put, length-put, is_sorted-put, is_sorted-where_key, find-where_key, by_order, below_all, length_without, same_entries}
use Rattle.fs_layout.specs.Maps.{name_cmp, get, with_entry, without, IsMap}
use Rattle.fs_layout.proofs.FirstEntries.{left, right}
use Rattle.fs_layout.proofs.MapLaws.{from_T}

abbrev pub Names : Type 0
Names = List (List ℕ × ℕ)

-- how many of the names lead to x
abbrev pub leading : ℕ → Names → ℕ
leading x names = count_by (λ e. e.1 == x) names

abbrev pub once_if : ℕ → ℕ → ℕ
once_if n x = cond (n == x) 1 0

same_name : (a b : List ℕ) → name_cmp a b ≡ Equal → a ≡ b
same_name a b e = slice_cmp-IsAntisymmetric nat_cmp-IsAntisymmetric a b e

is_equal : (o : Ordering) → is_eq o ≡ true → o ≡ Equal
is_equal Less e = absurd cc
is_equal Equal e = refl
is_equal Greater e = absurd cc

pub tied_names : (a b : List ℕ) → eq_by_cmp name_cmp a b ≡ true → a ≡ b
tied_names a b e = same_name a b (is_equal (name_cmp a b) e)

name_itself : (a : List ℕ) → eq_by_cmp name_cmp a a ≡ true
name_itself a = ap is_eq (tied_itself nat_list_cmp_total a)

-- ---- looking up

pub get-with_name : (names : Names) (name : List ℕ) (n : ℕ) (q : List ℕ)
    → get name_cmp (with_entry name_cmp names name n) q ≡ cond (eq_by_cmp name_cmp q name) (Some n) (get name_cmp names q)
get-with_name names name n q = find-put name_cmp nat_list_cmp_total q name n names

pub with_name-IsMap : (names : Names) (name : List ℕ) (n : ℕ) → IsMap name_cmp names → IsMap name_cmp (with_entry name_cmp names name n)
with_name-IsMap names name n m = from_T _ (is_sorted-put name_cmp nat_list_cmp_total name n names (passes _ m))

pub without_name-IsMap : (names : Names) (name : List ℕ) → IsMap name_cmp names → IsMap name_cmp (without name_cmp names name)
without_name-IsMap names name m = from_T _ (is_sorted-where_key name_cmp (λ q. not (eq_by_cmp name_cmp name q)) names (passes _ m))

pub get-without_name : (names : Names) (name q : List ℕ)
    → get name_cmp (without name_cmp names name) q ≡ cond (not (eq_by_cmp name_cmp name q)) (get name_cmp names q) None
get-without_name names name q =
    find-where_key name_cmp (λ k. not (eq_by_cmp name_cmp name k)) q
    (λ k e. ap (λ z. not (eq_by_cmp name_cmp name z)) (sym (same_name q k e))) names

pub length-with_name : (names : Names) (name : List ℕ) (n : ℕ) → IsMap name_cmp names → get name_cmp names name ≡ None
    → length (with_entry name_cmp names name n) ≡ length names + 1
length-with_name names name n m none =
    length-put name_cmp nat_list_cmp_total name n names (passes _ m) ∙ ap (λ o. cond (is_some o) (length names) (length names + 1)) none

pub length-without_name : (names : Names) (name : List ℕ) (n : ℕ) → IsMap name_cmp names → get name_cmp names name ≡ Some n
    → 1 + length (without name_cmp names name) ≡ length names
length-without_name names name n m here =
    ap (λ o. cond (is_some o) 1 0 + length (without name_cmp names name)) (sym here) ∙ length_without name_cmp nat_list_cmp_total name names (passes _ m)

-- ---- a first entry

behind : (e : List ℕ × ℕ) (names : Names) → below_all name_cmp e.0 names ≡ true → get name_cmp names e.0 ≡ None
behind e [] h = refl
behind e (f ∷ names) h = go (name_cmp e.0 f.0) (left _ _ h) (behind e names (right _ _ h))
  where
    go : (o : Ordering) → is_lt o ≡ true → get name_cmp names e.0 ≡ None → cond (is_eq o) (Some f.1) (get name_cmp names e.0) ≡ None
    go Less l rest = rest
    go Equal l rest = absurd cc
    go Greater l rest = absurd cc

-- the first name stands nowhere else
not_behind : (e : List ℕ × ℕ) (names : Names) (name : List ℕ) (n : ℕ) → IsMap name_cmp (e ∷ names) → get name_cmp names name ≡ Some n
    → eq_by_cmp name_cmp name e.0 ≡ false
not_behind e names name n m at = go (eq_by_cmp name_cmp name e.0) refl
  where
    go : (b : Bool) → eq_by_cmp name_cmp name e.0 ≡ b → b ≡ false
    go false t = refl
    go true t =
        let same : name ≡ e.0 = tied_names name e.0 t in
        let none : get name_cmp names name ≡ None = ap (get name_cmp names) same ∙ behind e names (left _ _ m) in
        absurd cc

-- ---- how many lead to a number

leading-cons : (x : ℕ) (e : List ℕ × ℕ) (names : Names) → leading x (e ∷ names) ≡ once_if e.1 x + leading x names
leading-cons x e names = sum_by-cons (λ q. cond (q.1 == x) 1 0) e names

pub leading-with_name : (names : Names) (name : List ℕ) (n x : ℕ) → get name_cmp names name ≡ None
    → leading x (with_entry name_cmp names name n) ≡ leading x names + once_if n x
leading-with_name [] name n x none = let k = leading-cons x (name, n) [] in omega (arith, k)
leading-with_name (e ∷ names) name n x none = go (name_cmp name e.0) none (λ h. leading-with_name names name n x h)
  where
    go : (o : Ordering) → cond (is_eq o) (Some e.1) (get name_cmp names name) ≡ None
        → (get name_cmp names name ≡ None → leading x (with_entry name_cmp names name n) ≡ leading x names + once_if n x)
        → leading x (by_order o ((name, n) ∷ e ∷ names) ((e.0, n) ∷ names) (e ∷ with_entry name_cmp names name n)) ≡ leading x (e ∷ names) + once_if n x
    go Less h rest = let k = leading-cons x (name, n) (e ∷ names) in omega (arith, k)
    go Equal h rest = absurd cc
    go Greater h rest =
        let k = leading-cons x e (with_entry name_cmp names name n) in
        let l = leading-cons x e names in
        let r = rest h in
        omega (arith, k, l, r)

without_absent : (names : Names) (name : List ℕ) → get name_cmp names name ≡ None → without name_cmp names name ≡ names
without_absent [] name none = refl
without_absent (e ∷ names) name none = go (eq_by_cmp name_cmp name e.0) none (λ h. without_absent names name h)
  where
    go : (b : Bool) → cond b (Some e.1) (get name_cmp names name) ≡ None → (get name_cmp names name ≡ None → without name_cmp names name ≡ names)
        → cond (not b) (e ∷ without name_cmp names name) (without name_cmp names name) ≡ e ∷ names
    go true h rest = absurd cc
    go false h rest = ap (λ r. e ∷ r) (rest h)

pub leading-without_name : (names : Names) (name : List ℕ) (n x : ℕ) → IsMap name_cmp names → get name_cmp names name ≡ Some n
    → leading x (without name_cmp names name) + once_if n x ≡ leading x names
leading-without_name [] name n x m here = absurd cc
leading-without_name (e ∷ names) name n x m here =
    go (eq_by_cmp name_cmp name e.0) refl here (λ h. leading-without_name names name n x (right _ _ m) h)
  where
    go : (b : Bool) → eq_by_cmp name_cmp name e.0 ≡ b → cond b (Some e.1) (get name_cmp names name) ≡ Some n
        → (get name_cmp names name ≡ Some n → leading x (without name_cmp names name) + once_if n x ≡ leading x names)
        → leading x (cond (not b) (e ∷ without name_cmp names name) (without name_cmp names name)) + once_if n x ≡ leading x (e ∷ names)
    go true t h rest =
        let same : name ≡ e.0 = tied_names name e.0 t in
        let none : get name_cmp names name ≡ None = ap (get name_cmp names) same ∙ behind e names (left _ _ m) in
        let left_over : leading x (without name_cmp names name) ≡ leading x names = ap (leading x) (without_absent names name none) in
        let it : e.1 ≡ n = cc in
        let here : once_if e.1 x ≡ once_if n x = ap (λ k. once_if k x) it in
        let l = leading-cons x e names in
        omega (arith, left_over, here, l)
    go false t h rest =
        let k = leading-cons x e (without name_cmp names name) in
        let l = leading-cons x e names in
        let r = rest h in
        omega (arith, k, l, r)

pub once_same : (n x : ℕ) → n ≡ x → once_if n x ≡ 1
once_same n x e = let t : (n == x) ≡ true = grind (arith, nat_tests) in ap (λ b. cond b 1 0) t

pub once_other : (n x : ℕ) → n ≢ x → once_if n x ≡ 0
once_other n x e = let t : (n == x) ≡ false = grind (arith, nat_tests) in ap (λ b. cond b 1 0) t

-- what has a name is led to
pub leading_if : (names : Names) (name : List ℕ) (n : ℕ) → IsMap name_cmp names → get name_cmp names name ≡ Some n → 1 ≤ leading n names
leading_if names name n m here =
    let k = leading-without_name names name n n m here in let one = once_same n n refl in omega (arith, k, one)

-- and what is led to has a name
pub record HasName (names : Names) (n : ℕ) : Type 0 where
  pub name : List ℕ
  pub leads : get name_cmp names name ≡ Some n

pub name_if : (names : Names) (n : ℕ) → IsMap name_cmp names → 1 ≤ leading n names → HasName names n
name_if [] n m some = absurd (omega (arith, some))
name_if (e ∷ names) n m some = go (e.1 == n) refl (λ h. name_if names n (right _ _ m) h)
  where
    go : (b : Bool) → (e.1 == n) ≡ b → (1 ≤ leading n names → HasName names n) → HasName (e ∷ names) n
    go true t rest =
        let it : e.1 ≡ n = grind (arith, nat_tests) in
        record { name = e.0; leads = ap (λ b. cond b (Some e.1) (get name_cmp names e.0)) (name_itself e.0) ∙ ap Some it }
    go false t rest =
        let k = leading-cons n e names in
        let other : once_if e.1 n ≡ 0 = ap (λ b. cond b 1 0) t in
        let below = rest (omega (arith, k, other, some)) in
        record {
          name = below.name;
          leads = ap (λ b. cond b (Some e.1) (get name_cmp names below.name)) (not_behind e names below.name n m below.leads) ∙ below.leads;
        }

-- ---- all names

-- two directories that have the same at each name have the same names
pub same_names : (m n : Names) → IsMap name_cmp m → IsMap name_cmp n → ((q : List ℕ) → get name_cmp m q ≡ get name_cmp n q) → m ≡ n
same_names m n h i same = same_entries name_cmp nat_list_cmp_total (slice_cmp-IsAntisymmetric nat_cmp-IsAntisymmetric) m n (passes _ h) (passes _ i) same

pub length-set_name : (names : Names) (name : List ℕ) (n k : ℕ) → IsMap name_cmp names → get name_cmp names name ≡ Some k
    → length (with_entry name_cmp names name n) ≡ length names
length-set_name names name n k m here =
    length-put name_cmp nat_list_cmp_total name n names (passes _ m) ∙ ap (λ o. cond (is_some o) (length names) (length names + 1)) here

-- what a name led to loses it
abbrev pub lost_of : Option ℕ → ℕ → ℕ
lost_of None x = 0
lost_of (Some m) x = once_if m x

-- a name that is given to n, whatever it led to
pub leading-set_name : (names : Names) (name : List ℕ) (n x : ℕ) (o : Option ℕ) → IsMap name_cmp names → get name_cmp names name ≡ o
    → leading x (with_entry name_cmp names name n) + lost_of o x ≡ leading x names + once_if n x
leading-set_name names name n x None m at = let all = leading-with_name names name n x at in omega (arith, all)
leading-set_name names name n x (Some k) m at =
    let less = leading-without_name names name k x m at in
    let gone : get name_cmp (without name_cmp names name) name ≡ None =
    get-without_name names name name ∙ ap (λ b. cond (not b) (get name_cmp names name) None) (name_itself name) in
    let more = leading-with_name (without name_cmp names name) name n x gone in
    let same : leading x (with_entry name_cmp names name n) ≡ leading x (with_entry name_cmp (without name_cmp names name) name n) =
    ap (leading x) (same_names (with_entry name_cmp names name n) (with_entry name_cmp (without name_cmp names name) name n)
    (with_name-IsMap names name n m) (with_name-IsMap (without name_cmp names name) name n (without_name-IsMap names name m)) (at_each)) in
    omega (arith, less, more, same)
  where
    at_each : (q : List ℕ) → get name_cmp (with_entry name_cmp names name n) q ≡ get name_cmp (with_entry name_cmp (without name_cmp names name) name n) q
    at_each q =
        get-with_name names name n q ∙ go (eq_by_cmp name_cmp q name) refl
        ∙ sym (get-with_name (without name_cmp names name) name n q)
      where
        other : (b : Bool) → eq_by_cmp name_cmp q name ≡ false → eq_by_cmp name_cmp name q ≡ b → b ≡ false
        other false f e = refl
        other true f e =
            let same : name ≡ q = tied_names name q e in
            let t : eq_by_cmp name_cmp q name ≡ true = ap (λ z. eq_by_cmp name_cmp z name) (sym same) ∙ name_itself name in
            absurd cc

        go : (b : Bool) → eq_by_cmp name_cmp q name ≡ b
            → cond b (Some n) (get name_cmp names q) ≡ cond b (Some n) (get name_cmp (without name_cmp names name) q)
        go true e = refl
        go false e =
            sym (get-without_name names name q ∙ ap (λ b. cond (not b) (get name_cmp names q) None) (other (eq_by_cmp name_cmp name q) e refl))
