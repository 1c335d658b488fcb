-- How a run of reads and puts goes on, one line of a proof for each call.
use Rattle.std.proofs.Common.{◌≡◌, inl, inr, ⊎_elim, ℕ, zero, suc, ◌+◌, ◌≤◌, ◌<◌, Bool, true, false, cond, List, [], ◌∷◌, length, get_or, arith, refl, sym, ◌∙◌, ap, subst}
use Rattle.std.proofs.lemmas.Bool.{cases_eq, cases_Bool, cond_both, cond-true, cond-false, true≢false}
use Rattle.std.proofs.lemmas.Result.{on_err_weaker}
use Rattle.std.specs.Prelude.{Result, Contains}
use Rattle.sector_disk.specs.Disk.{DiskState, HasCause}
use Rattle.sector_disk.proofs.Moments.{reads_nothing, reads_joined, failed_later}
use Rattle.sector_txn.specs.Sectors.{TxnState, SameStore, IsUnchanged, IsPut, lacking, PutsOnly}

-- ---- the store below

pub store_same : {txn : TxnState} → SameStore txn txn
store_same = record { before = λ n. refl; header = refl; reads = reads_nothing }

-- one run after another
pub store_joined : {old mid new : TxnState} → SameStore old mid → SameStore mid new → SameStore old new
store_joined first second = record {
  before = λ n. second.before n ∙ first.before n;
  header = second.header ∙ first.header;
  reads = reads_joined first.reads second.reads;
}

-- a fault of a later call is one of the whole run
pub cause_later : {T E : Type 0} {old mid : TxnState} {new : DiskState} {result : Result T E} → SameStore old mid → HasCause mid.disk new result → HasCause old.disk new result
cause_later {old = old} {mid = mid} {new = new} {result = result} first cause = record {
  later = omega (arith, first.reads.failures, cause.later);
  fault = on_err_weaker result (λ failed. failed_later old.disk mid.disk new first.reads.failures failed) cause.fault;
}

-- ---- the room that sectors need

-- what was put stays put
pub still_put : {n : ℕ} {content : List ℕ} {old new : TxnState} → IsPut n content old new → (m : ℕ) → old.has_put m ≡ true → new.has_put m ≡ true
still_put {n} {content} {old} {new} put m has = elim (cases_eq m n) [
  | inl is ↦ ap new.has_put is ∙ put.has
  | inr other ↦ put.others m other ∙ has
]

counted_le : (a b : Bool) (x y : ℕ) → (b ≡ true → a ≡ true) → x ≤ y → cond a x (x + 1) ≤ cond b y (y + 1)
counted_le true true x y still le = le
counted_le true false x y still le = omega (arith, le)
counted_le false true x y still le = absurd (true≢false (sym (still refl)))
counted_le false false x y still le = omega (arith, le)

-- no more of them lack later on
pub lacking_less : (old new : TxnState) → ((m : ℕ) → old.has_put m ≡ true → new.has_put m ≡ true) → (ns : List ℕ) → lacking new ns ≤ lacking old ns
lacking_less old new still [] = omega arith
lacking_less old new still (m ∷ ns) = counted_le (new.has_put m) (old.has_put m) (lacking new ns) (lacking old ns) (still m) (lacking_less old new still ns)

counted_more : (b : Bool) (x : ℕ) → cond b (x + 1) (x + 1 + 1) ≡ cond b x (x + 1) + 1
counted_more true x = refl
counted_more false x = refl

-- one fewer once one of them is put for the first time
lacking_fewer : (old new : TxnState) (n : ℕ) → ((m : ℕ) → old.has_put m ≡ true → new.has_put m ≡ true) → new.has_put n ≡ true → old.has_put n ≡ false
    → (ns : List ℕ) (k : ℕ) → k < length ns → get_or ns k n ≡ n → lacking new ns + 1 ≤ lacking old ns
lacking_fewer old new n still has none [] k lt is = absurd (omega (arith, lt))
lacking_fewer old new n still has none (m ∷ ns) zero lt is =
    let now = cond-true (new.has_put m) (lacking new ns) (lacking new ns + 1) (ap new.has_put is ∙ has) in
    let was = cond-false (old.has_put m) (lacking old ns) (lacking old ns + 1) (ap old.has_put is ∙ none) in
    omega (arith, now, was, lacking_less old new still ns)
lacking_fewer old new n still has none (m ∷ ns) (suc k) lt is =
    let rest = lacking_fewer old new n still has none ns k (omega (arith, lt)) is in
    let step = counted_le (new.has_put m) (old.has_put m) (lacking new ns + 1) (lacking old ns) (still m) rest in
    omega (arith, step, counted_more (new.has_put m) (lacking new ns))

lacking_some : (txn : TxnState) (ns : List ℕ) (n k : ℕ) → k < length ns → get_or ns k n ≡ n → txn.has_put n ≡ false → 1 ≤ lacking txn ns
lacking_some txn [] n k lt is none = absurd (omega (arith, lt))
lacking_some txn (m ∷ ns) n zero lt is none =
    let here = cond-false (txn.has_put m) (lacking txn ns) (lacking txn ns + 1) (ap txn.has_put is ∙ none) in
    omega (arith, here)
lacking_some txn (m ∷ ns) n (suc k) lt is none =
    let rest = lacking_some txn ns n k (omega (arith, lt)) is none in
    cond_both (txn.has_put m) (lacking txn ns) (lacking txn ns + 1) (λ (l : ℕ). 1 ≤ l) (λ _. rest) (λ _. omega (arith, rest))

-- no more than there are
pub lacking_at_most : (txn : TxnState) (ns : List ℕ) → lacking txn ns ≤ length ns
lacking_at_most txn [] = omega arith
lacking_at_most txn (n ∷ ns) =
    let rest = lacking_at_most txn ns in
    cond_both (txn.has_put n) (lacking txn ns) (lacking txn ns + 1) (λ (k : ℕ). k ≤ suc (length ns)) (λ _. omega (arith, rest)) (λ _. omega (arith, rest))

-- there is room for one of them
pub room_for : (txn : TxnState) (ns : List ℕ) (n : ℕ) → Contains ns n → lacking txn ns ≤ txn.room → txn.has_put n ≡ false → 0 < txn.room
room_for txn ns n (k, lt, is) enough none = omega (arith, enough, lacking_some txn ns n k lt is none)

-- ---- the sectors that change

-- before the first call
pub changes_nothing : {R : ℕ → Type 0} (shared : List ℕ) {txn : TxnState} → PutsOnly R shared 0 txn txn
changes_nothing shared = record {
  store = store_same;
  others = λ n out. refl;
  delta = λ n has. inl has;
  kept = λ n has. has;
  room = omega arith;
}

-- a call more that changes nothing
pub changes_read : {R : ℕ → Type 0} {shared : List ℕ} {more : ℕ} {old mid new : TxnState} → PutsOnly R shared more old mid → IsUnchanged mid new → PutsOnly R shared more old new
changes_read {R} {shared} {more} {old} {mid} {new} so_far same = record {
  store = store_joined so_far.store same.store;
  others = λ n out. same.sectors n ∙ so_far.others n out;
  delta = λ n has. so_far.delta n (sym (same.delta n) ∙ has);
  kept = λ n has. same.delta n ∙ so_far.kept n has;
  room = omega (arith, so_far.room, same.room, lacking_less mid new (λ m has. same.delta m ∙ has) shared);
}

-- a put more
pub changes_put : {R : ℕ → Type 0} {shared : List ℕ} {more n : ℕ} {content : List ℕ} {old mid new : TxnState} → PutsOnly R shared more old mid → IsPut n content mid new → R n → PutsOnly R shared (more + 1) old new
changes_put {R} {shared} {more} {n} {content} {old} {mid} {new} so_far put allowed = record {
  store = store_joined so_far.store put.store;
  others = λ m out. put.sectors.others m (λ is. out (subst R (sym is) allowed)) ∙ so_far.others m out;
  delta = λ m has. elim (cases_eq m n) [
    | inl is ↦ inr (subst R (sym is) allowed)
    | inr other ↦ so_far.delta m (sym (put.others m other) ∙ has)
  ];
  kept = λ m has. still_put put m (so_far.kept m has);
  room = elim (cases_Bool (mid.has_put n)) [
    | inl has ↦ omega (arith, so_far.room, put.again has, lacking_less mid new (still_put put) shared)
    | inr none ↦ omega (arith, so_far.room, put.first none, lacking_less mid new (still_put put) shared)
  ];
}

-- a put more of a sector of `shared`
pub changes_put_shared : {R : ℕ → Type 0} {shared : List ℕ} {more n : ℕ} {content : List ℕ} {old mid new : TxnState} → PutsOnly R shared more old mid → IsPut n content mid new → R n → Contains shared n → PutsOnly R shared more old new
changes_put_shared {R} {shared} {more} {n} {content} {old} {mid} {new} so_far put allowed (k, lt, is) =
    let all = changes_put so_far put allowed in
    record {
      store = all.store;
      others = all.others;
      delta = all.delta;
      kept = all.kept;
      room = elim (cases_Bool (mid.has_put n)) [
        | inl has ↦ omega (arith, so_far.room, put.again has, lacking_less mid new (still_put put) shared)
        | inr none ↦ omega (arith, so_far.room, put.first none, lacking_fewer mid new n (still_put put) put.has none shared k lt is)
      ];
    }

-- one run after another
pub changes_joined : {R : ℕ → Type 0} {shared : List ℕ} {first_more then_more : ℕ} {old mid new : TxnState} → PutsOnly R shared first_more old mid → PutsOnly R shared then_more mid new → PutsOnly R shared (first_more + then_more) old new
changes_joined first then = record {
  store = store_joined first.store then.store;
  others = λ n out. then.others n out ∙ first.others n out;
  delta = λ n has. ⊎_elim (λ was. first.delta n was) (λ here. inr here) (then.delta n has);
  kept = λ n has. then.kept n (first.kept n has);
  room = omega (arith, first.room, then.room);
}

-- for a caller that asks for less
pub changes_weaker : {R Q : ℕ → Type 0} {shared : List ℕ} {fewer more : ℕ} {old new : TxnState} → ((n : ℕ) → R n → Q n) → fewer ≤ more → PutsOnly R shared fewer old new → PutsOnly Q shared more old new
changes_weaker implies at_most run = record {
  store = run.store;
  others = λ n out. run.others n (λ has. out (implies n has));
  delta = λ n has. ⊎_elim (λ was. inl was) (λ here. inr (implies n here)) (run.delta n has);
  kept = run.kept;
  room = omega (arith, run.room, at_most);
}

-- for a caller that shares sectors
pub changes_beside : {R : ℕ → Type 0} {more : ℕ} {old new : TxnState} → PutsOnly R [] more old new → (shared : List ℕ) → PutsOnly R shared more old new
changes_beside {R} {more} {old} {new} run shared = record {
  store = run.store;
  others = run.others;
  delta = run.delta;
  kept = run.kept;
  room = omega (arith, run.room, lacking_less old new run.kept shared);
}
