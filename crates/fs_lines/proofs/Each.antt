-- Reading one after another.
use Rattle.std.proofs.Common.{◌≡◌, ℕ, ◌<◌, suc, List, [], ◌∷◌, ◌++◌, length, map, take, drop, get_or, Option, Some, Result, Ok, Err, refl, sym, ap, ◌∙◌}
use Rattle.std.specs.Iterator.{Yields}
use Rattle.std.proofs.lemmas.Iterator.{YieldsList}
use Rattle.std.proofs.lemmas.Iterator.Consumers.{YieldsList-so_far, YieldsList-turn}
use Rattle.std.proofs.lemmas.List.{map-append}
use Rattle.std.proofs.Math.Seq.{split_at}
use Rattle.fs_lines.specs.declared.line.LineFault.{LineFault}
use Rattle.fs_lines.specs.Lines.{◌>>=◌, each}

-- the first is read, and then the others
pub record Splits {A B : Type 0} (read : A → Result B LineFault) (x : A) (xs : List A) (ys : List B) : Type 0 where
  pub front : B
  pub rest : List B
  pub first_read : read x ≡ Ok front
  pub rest_read : each read xs ≡ Ok rest
  pub same : ys ≡ front ∷ rest

joined : {A B : Type 0} (read : A → Result B LineFault) (x : A) (xs : List A) (ys : List B) (r : Result B LineFault) (rs : Result (List B) LineFault)
    → read x ≡ r → each read xs ≡ rs → (r >>= λ y. rs >>= λ zs. Ok (y ∷ zs)) ≡ Ok ys → Splits read x xs ys
joined read x xs ys (Ok y) (Ok zs) first rest same = record { front = y; rest = zs; first_read = first; rest_read = rest; same = cc }
joined read x xs ys (Ok y) (Err fault) first rest same = absurd (cc)
joined read x xs ys (Err fault) rs first rest same = absurd (cc)

pub each_split : {A B : Type 0} (read : A → Result B LineFault) (x : A) (xs : List A) (ys : List B) → each read (x ∷ xs) ≡ Ok ys → Splits read x xs ys
each_split read x xs ys all = joined read x xs ys (read x) (each read xs) refl refl all

-- one more is read
pub each_more : {A B : Type 0} (read : A → Result B LineFault) (xs : List A) (ys : List B) (x : A) (y : B)
    → each read xs ≡ Ok ys → read x ≡ Ok y → each read (xs ++ x ∷ []) ≡ Ok (ys ++ y ∷ [])
each_more read [] ys x y front last = let none : ys ≡ [] = cc in rw (last, none) refl
each_more read (z ∷ zs) ys x y front last =
    let parts = each_split read z zs ys front in
    let rest = each_more read zs parts.rest x y parts.rest_read last in
    rw (parts.first_read, rest) (ap (λ l. Ok (l ++ y ∷ [])) (sym parts.same))

-- one that can't be read
pub each_fault : {A B : Type 0} (read : A → Result B LineFault) (xs : List A) (ys : List B) (x : A) (back : List A) (fault : LineFault)
    → each read xs ≡ Ok ys → read x ≡ Err fault → each read (xs ++ x ∷ back) ≡ Err fault
each_fault read [] ys x back fault front last = rw last refl
each_fault read (z ∷ zs) ys x back fault front last =
    let parts = each_split read z zs ys front in
    let rest = each_fault read zs parts.rest x back fault parts.rest_read last in
    rw (parts.first_read, rest) refl

-- the fault in the middle of a list
pub fault_at : {A B : Type 0} (read : A → Result B LineFault) (all : List A) (n : ℕ) (d : A) (ys : List B) (fault : LineFault)
    → each read (take n all) ≡ Ok ys → n < length all → read (get_or all n d) ≡ Err fault → each read all ≡ Err fault
fault_at read all n d ys fault front below bad =
    ap (each read) (split_at all n d below) ∙ each_fault read (take n all) ys (get_or all n d) (drop (suc n) all) fault front bad

-- each of a vector that grows
pub each_push_plain : {A B X : Type 0} (read : A → Result B LineFault) (see : X → A) (xs : List X) (ys new : List B) (x : X) (y : B)
    → new ≡ ys ++ y ∷ [] → each read (map see xs) ≡ Ok ys → read (see x) ≡ Ok y
    → each read (map see (xs ++ x ∷ [])) ≡ Ok new
each_push_plain read see xs ys new x y pushed front last =
    rw (pushed, map-append see xs (x ∷ [])) (each_more read (map see xs) ys (see x) y front last)

-- Where a list yields one more, what it yielded before is its front, and this one stands behind that.
pub yields_next : {S A B : Type 0} {steps : S → Option A → S → Type 0} {v : A → B} {s : S} {all : List B} → YieldsList steps v s all
    → (xs : List A) (t : S) → Yields steps s xs t → (r : Option A) (u : S) (x : A) → r ≡ Some x → steps t r u
    → (map v xs ≡ take (length xs) all) × (length xs < length all) × (v x ≡ get_or all (length xs) (v x))
yields_next all xs t before r u x is step =
    let turn = YieldsList-turn all xs t before r u x is step in
    (YieldsList-so_far all xs t before, turn.0, turn.1)
