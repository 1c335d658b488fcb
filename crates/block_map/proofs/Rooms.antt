-- Room, shared by sectors more.
use Rattle.std.proofs.Common.{◌≡◌, ℕ, zero, suc, ◌+◌, ◌≤◌, ◌<◌, Bool, true, false, cond, List, [], ◌∷◌, ◌++◌, refl, sym, ap, ◌∙◌, arith, inl, inr}
use Rattle.std.proofs.lemmas.Bool.{true≢false, cases_eq}
use Rattle.fs_layout.specs.declared.inode.Inode.{Inode}
use Rattle.fs_layout.specs.declared.geometry.Geometry.{Geometry}
use Rattle.fs_layout.specs.Bytes.{SectorMap}
use Rattle.fs_layout.specs.Images.{number_on}
use Rattle.sector_txn.specs.Sectors.{TxnState, PutsOnly, lacking}
use Rattle.sector_txn.proofs.TransactionRuns.{lacking_less, store_joined}
use Rattle.bit_alloc.specs.Room.{bitmaps, HasSpare}
use Rattle.block_map.specs.Steps.{numbers_on}

-- the room that one sector needs
abbrev unless : Bool → ℕ
unless true = 0
unless false = 1

unput : TxnState → ℕ → ℕ
unput txn u = unless (txn.has_put u)

cons : (b : Bool) (x : ℕ) → cond b x (x + 1) ≡ unless b + x
cons true x = omega arith
cons false x = omega arith

lacking-cons : (txn : TxnState) (u : ℕ) (ns : List ℕ) → lacking txn (u ∷ ns) ≡ unput txn u + lacking txn ns
unfolding unput
lacking-cons txn u ns = cons (txn.has_put u) (lacking txn ns)

one_at_most : (b : Bool) → unless b ≤ 1
one_at_most true = omega arith
one_at_most false = omega arith

unput_few : (txn : TxnState) (u : ℕ) → unput txn u ≤ 1
unfolding unput
unput_few txn u = one_at_most (txn.has_put u)

none_unput : (b : Bool) → b ≡ true → unless b ≡ 0
none_unput true e = refl
none_unput false e = absurd (true≢false (sym e))

put_needs_none : (txn : TxnState) (u : ℕ) → txn.has_put u ≡ true → unput txn u ≡ 0
unfolding unput
put_needs_none txn u has = none_unput (txn.has_put u) has

some_unput : (b : Bool) → b ≡ false → unless b ≡ 1
some_unput true e = absurd (true≢false e)
some_unput false e = refl

needs_one : (txn : TxnState) (u : ℕ) → txn.has_put u ≡ false → unput txn u ≡ 1
unfolding unput
needs_one txn u none = some_unput (txn.has_put u) none

-- one that wasn't put needs room
pub lacking_unput : (txn : TxnState) (u : ℕ) (ns : List ℕ) → txn.has_put u ≡ false → 1 ≤ lacking txn (u ∷ ns)
lacking_unput txn u ns none = let e = lacking-cons txn u ns in let z = needs_one txn u none in omega (arith, e, z)

-- one that was put needs none
pub lacking_put : (txn : TxnState) (u : ℕ) (ns : List ℕ) → txn.has_put u ≡ true → lacking txn (u ∷ ns) ≡ lacking txn ns
lacking_put txn u ns has = let e = lacking-cons txn u ns in let z = put_needs_none txn u has in omega (arith, e, z)

falls : (b c : Bool) → (b ≡ true → c ≡ true) → unless c ≤ unless b
falls true true kept = omega arith
falls true false kept = absurd (true≢false (sym (kept refl)))
falls false c kept = one_at_most c

pub lacking-append : (txn : TxnState) (xs ns : List ℕ) → lacking txn (xs ++ ns) ≡ lacking txn xs + lacking txn ns
lacking-append txn [] ns = omega arith
lacking-append txn (x ∷ xs) ns =
    let rest = lacking-append txn xs ns in
    let a = lacking-cons txn x (xs ++ ns) in
    let b = lacking-cons txn x xs in
    omega (arith, rest, a, b)

-- a sector more lacks no fewer, and one more at most
pub lacking_beside : (txn : TxnState) (u : ℕ) (ns : List ℕ) → (lacking txn ns ≤ lacking txn (u ∷ ns)) × (lacking txn (u ∷ ns) ≤ lacking txn ns + 1)
lacking_beside txn u ns = let e = lacking-cons txn u ns in let few = unput_few txn u in (omega (arith, e), omega (arith, e, few))

-- so many sectors lack so many at most
pub lacking_few : (txn : TxnState) (image : SectorMap) (v : Inode) (level first count : ℕ) → lacking txn (numbers_on image v level first count) ≤ count
lacking_few txn image v level first zero = omega arith
lacking_few txn image v level first (suc count) =
    let rest = lacking_few txn image v level (first + 1) count in
    let one = (lacking_beside txn (number_on image v level first) (numbers_on image v level (first + 1) count)).1 in
    omega (arith, rest, one)

-- a number more
pub lacking_more : (txn : TxnState) (image : SectorMap) (v : Inode) (level first count : ℕ)
    → lacking txn (numbers_on image v level first (count + 1)) ≡ lacking txn (numbers_on image v level first count) + lacking txn (number_on image v level (first + count) ∷ [])
lacking_more txn image v level first zero =
    let e : first + 0 ≡ first = omega arith in
    let one : lacking txn (numbers_on image v level first (0 + 1)) ≡ lacking txn (number_on image v level first ∷ []) = refl in
    let none : lacking txn (numbers_on image v level first 0) ≡ 0 = refl in
    let here : lacking txn (number_on image v level (first + 0) ∷ []) ≡ lacking txn (number_on image v level first ∷ []) =
    ap (λ (i : ℕ). lacking txn (number_on image v level i ∷ [])) e in
    omega (arith, one, none, here)
lacking_more txn image v level first (suc count) =
    let rest = lacking_more txn image v level (first + 1) count in
    let e : first + 1 + count ≡ first + suc count = omega arith in
    let last : lacking txn (number_on image v level (first + 1 + count) ∷ []) ≡ lacking txn (number_on image v level (first + suc count) ∷ []) =
    ap (λ (i : ℕ). lacking txn (number_on image v level i ∷ [])) e in
    let next : suc count + 1 ≡ suc (count + 1) = omega arith in
    let all : lacking txn (numbers_on image v level first (suc count + 1)) ≡ lacking txn (numbers_on image v level first (suc (count + 1))) =
    ap (λ (n : ℕ). lacking txn (numbers_on image v level first n)) next in
    let a = lacking-cons txn (number_on image v level first) (numbers_on image v level (first + 1) (count + 1)) in
    let b = lacking-cons txn (number_on image v level first) (numbers_on image v level (first + 1) count) in
    omega (arith, rest, last, all, a, b)

module _ (old new : TxnState) (kept : (n : ℕ) → old.has_put n ≡ true → new.has_put n ≡ true) where
  unput_falls : (u : ℕ) → unput new u ≤ unput old u
  unfolding unput
  unput_falls u = falls (old.has_put u) (new.has_put u) (kept u)

  -- numbers lack as many less as one of them does
  falls_with : (image : SectorMap) (v : Inode) (level first count i : ℕ) → first ≤ i → i < first + count
      → lacking new (numbers_on image v level first count) + unput old (number_on image v level i)
      ≤ lacking old (numbers_on image v level first count) + unput new (number_on image v level i)
  falls_with image v level first zero i from to = absurd (omega (arith, from, to))
  falls_with image v level first (suc count) i from to =
      let a = lacking-cons new (number_on image v level first) (numbers_on image v level (first + 1) count) in
      let b = lacking-cons old (number_on image v level first) (numbers_on image v level (first + 1) count) in
      elim (cases_eq i first) [
        | inl e ↦
            let rest = lacking_less old new kept (numbers_on image v level (first + 1) count) in
            let c = ap (λ (j : ℕ). unput old (number_on image v level j)) e in
            let d = ap (λ (j : ℕ). unput new (number_on image v level j)) e in
            omega (arith, rest, a, b, c, d)
        | inr ne ↦
            let rest = falls_with image v level (first + 1) count i (omega (arith, from, ne)) (omega (arith, to)) in
            let one = unput_falls (number_on image v level first) in
            omega (arith, rest, a, b, one)
      ]

-- a run that may share others, which lack as many less
puts_sharing : {R : ℕ → Type 0} {ns ms : List ℕ} {more : ℕ} {old new : TxnState} → PutsOnly R ns more old new → lacking new ms + lacking old ns ≤ lacking old ms + lacking new ns
    → PutsOnly R ms more old new
puts_sharing puts less = record {
  store = puts.store;
  others = puts.others;
  delta = puts.delta;
  kept = puts.kept;
  room = let r = puts.room in omega (arith, r, less);
}

-- sectors more
pub puts_before : {R : ℕ → Type 0} {ns : List ℕ} {more : ℕ} {old new : TxnState} → PutsOnly R ns more old new → (xs : List ℕ) → PutsOnly R (xs ++ ns) more old new
puts_before {ns = ns} {old = old} {new} puts xs =
    let f = lacking_less old new puts.kept xs in
    let a = lacking-append new xs ns in
    let b = lacking-append old xs ns in
    puts_sharing puts (omega (arith, f, a, b))

pub puts_beside : {R : ℕ → Type 0} {ns : List ℕ} {more : ℕ} {old new : TxnState} → PutsOnly R ns more old new → (u : ℕ) → PutsOnly R (u ∷ ns) more old new
puts_beside puts u = puts_before puts (u ∷ [])

-- several numbers in place of one of them
pub puts_among : {R : ℕ → Type 0} {ns : List ℕ} {more : ℕ} {old new : TxnState} (image : SectorMap) (v : Inode) (level first count i : ℕ) → first ≤ i → i < first + count
    → PutsOnly R (number_on image v level i ∷ ns) more old new → PutsOnly R (numbers_on image v level first count ++ ns) more old new
puts_among {ns = ns} {old = old} {new} image v level first count i from to puts =
    let f = falls_with old new puts.kept image v level first count i from to in
    let a = lacking-append new (numbers_on image v level first count) ns in
    let b = lacking-append old (numbers_on image v level first count) ns in
    let c = lacking-cons new (number_on image v level i) ns in
    let d = lacking-cons old (number_on image v level i) ns in
    puts_sharing puts (omega (arith, f, a, b, c, d))

-- one of several numbers needs no more room than they
pub lacks_among : (txn : TxnState) (image : SectorMap) (v : Inode) (level first count i : ℕ) → first ≤ i → i < first + count
    → (ns : List ℕ) → lacking txn (number_on image v level i ∷ ns) ≤ lacking txn (numbers_on image v level first count ++ ns)
lacks_among txn image v level first zero i from to ns = absurd (omega (arith, from, to))
lacks_among txn image v level first (suc count) i from to ns =
    let a = lacking-cons txn (number_on image v level first) (numbers_on image v level (first + 1) count ++ ns) in
    let u = lacking-cons txn (number_on image v level i) ns in
    elim (cases_eq i first) [
      | inl e ↦
          let c = ap (λ (j : ℕ). unput txn (number_on image v level j)) e in
          let b = lacking-append txn (numbers_on image v level (first + 1) count) ns in
          omega (arith, a, u, b, c)
      | inr ne ↦
          let rest = lacks_among txn image v level (first + 1) count i (omega (arith, from, ne)) (omega (arith, to)) ns in
          omega (arith, rest, a)
    ]

-- nor do they where one more is put with them
pub room_among : (old new : TxnState) → ((n : ℕ) → old.has_put n ≡ true → new.has_put n ≡ true) → (image : SectorMap) (v : Inode) (level first count i : ℕ) → first ≤ i → i < first + count
    → (x : ℕ) (ns : List ℕ) → lacking new (x ∷ (numbers_on image v level first count ++ ns)) + lacking old (number_on image v level i ∷ ns)
    ≤ lacking old (numbers_on image v level first count ++ ns) + lacking new (x ∷ (number_on image v level i ∷ ns))
room_among old new kept image v level first count i from to x ns =
    let f = falls_with old new kept image v level first count i from to in
    let a = lacking-cons new x (numbers_on image v level first count ++ ns) in
    let b = lacking-append new (numbers_on image v level first count) ns in
    let c = lacking-append old (numbers_on image v level first count) ns in
    let d = lacking-cons new x (number_on image v level i ∷ ns) in
    let e = lacking-cons new (number_on image v level i) ns in
    let g = lacking-cons old (number_on image v level i) ns in
    omega (arith, f, a, b, c, d, e, g)

-- ---- room for several steps
pub spare_one : (p : Geometry) (txn : TxnState) (more : ℕ) → HasSpare p (1 + more) txn → HasSpare p 1 txn
spare_one p txn more spare = omega (arith, spare)

pub spare_none : (p : Geometry) (txn : TxnState) (more : ℕ) → HasSpare p more txn → HasSpare p 0 txn
spare_none p txn more spare = omega (arith, spare)

pub spare_but_one : (p : Geometry) (txn : TxnState) (more : ℕ) → HasSpare p (more + 1) txn → HasSpare p more txn
spare_but_one p txn more spare = omega (arith, spare)

-- after the first one
pub spare_after_one : (p : Geometry) {R : ℕ → Type 0} {old new : TxnState} (more : ℕ) → HasSpare p (1 + more) old → PutsOnly R (bitmaps p) 1 old new → HasSpare p more new
spare_after_one p more spare puts = let room = puts.room in omega (arith, spare, room)

-- for the last one
pub spare_last : (p : Geometry) {R : ℕ → Type 0} {old new : TxnState} (more : ℕ) → HasSpare p (more + 1) old → PutsOnly R (bitmaps p) more old new → 0 < new.room
spare_last p more spare puts = let room = puts.room in omega (arith, spare, room)

-- one change after another, where what they take is counted over other sectors
pub changes_counted : {R : ℕ → Type 0} {first then shared : List ℕ} {few some more : ℕ} {old mid new : TxnState} → PutsOnly R first few old mid
    → PutsOnly R then some mid new → old.room + lacking new shared ≤ new.room + lacking old shared + more → PutsOnly R shared more old new
changes_counted x y room = record {
  store = store_joined x.store y.store;
  others = λ n out. y.others n out ∙ x.others n out;
  delta = λ n has. elim (y.delta n has) [ inl was ↦ x.delta n was | inr here ↦ inr here ];
  kept = λ n has. y.kept n (x.kept n has);
  room = room;
}
