-- A call that a disk over another passes on to it, where neither has counted a failure before: `below` is what the disk
-- over it is then, and `new` the disk below afterwards.
use Rattle.std.proofs.Common.{◌≡◌, inl, inr, ⊎_elim, ℕ, ◌+◌, ◌-◌, ◌^◌, List, ap, arith, refl, subst, sym}
use Rattle.std.proofs.Common.{[], ◌≢◌, ◌⊎◌, ◌<◌, Fits, w64}
use Rattle.std.proofs.lemmas.Bool.{cases_lt}
use Rattle.std.proofs.lemmas.Result.{on_err_weaker, on_ok_weaker}
use Rattle.std.specs.Prelude.{Result, Ok, Err, min}
use Rattle.sector_disk.specs.Disk.{Image}
use Rattle.sector_disk.specs.Record.{Past, recorded_state}
use Rattle.sector_disk.specs.Disk.{DiskState, IsSame, ForgetsPast, IsWritten, ChangesOnly, IsNarrowed, Elapses, HasFailed, HasFailedToWrite, HasCause, HasWriteCause}
use Rattle.sector_disk.specs.Faults.{Faulty, faulty_state, with_failures}

-- the disk over it, once the disk below has changed
abbrev pub passed : {D : Type 0} → Faulty D → D → Faulty D
passed below new = record below { disk = new }

-- ---- what a call does to the disk below, it does to the disk over it
pub same : {D : Type 0} (state : D → DiskState) {old below : Faulty D} {new : D} → below ≡ old → IsSame (state below.disk) (state new)
    → IsSame (faulty_state state old) (faulty_state state (passed below new))
same state {old} {below} {new} here is = subst (λ faulty. IsSame (faulty_state state faulty) (faulty_state state (passed below new))) here (record {
  narrowed = record { size = is.narrowed.size; seen = is.narrowed.seen; nothing_else = is.narrowed.nothing_else };
  kept = is.kept;
})

pub forgets : {D : Type 0} (state : D → DiskState) {old below : Faulty D} {new : D} → below ≡ old → ForgetsPast (state below.disk) (state new)
    → ForgetsPast (faulty_state state old) (faulty_state state (passed below new))
forgets state {old} {below} {new} here is = subst (λ faulty. ForgetsPast (faulty_state state faulty) (faulty_state state (passed below new))) here (record {
  same = same state {old = below} {below = below} refl is.same;
  failures = ap (λ n. min (n + (below.failed_reads + below.failed_writes)) (2 ^ 64 - 1)) is.failures;
  failed_writes = ap (λ n. n + below.failed_writes) is.failed_writes;
  nothing_earlier = λ t image left. let now = is.nothing_earlier t image left in record { size = now.size; each = now.each };
})

pub narrowed : {D : Type 0} (state : D → DiskState) {old below : Faulty D} {new : D} → below ≡ old → IsNarrowed (state below.disk) (state new)
    → IsNarrowed (faulty_state state old) (faulty_state state (passed below new))
narrowed state {old} {below} {new} here is = subst (λ faulty. IsNarrowed (faulty_state state faulty) (faulty_state state (passed below new))) here
    (record { size = is.size; seen = is.seen; nothing_else = is.nothing_else })

pub written : {D : Type 0} (state : D → DiskState) {old below : Faulty D} {new : D} {n : ℕ} {content : List ℕ} → below ≡ old → IsWritten (state below.disk) (state new) n content
    → IsWritten (faulty_state state old) (faulty_state state (passed below new)) n content
written state {old} {below} {new} {n} {content} here is = subst (λ faulty. IsWritten (faulty_state state faulty) (faulty_state state (passed below new)) n content) here
    (record { seen = is.seen; may_hold = is.may_hold })

pub changes : {D : Type 0} (state : D → DiskState) {old below : Faulty D} {new : D} {n : ℕ} {content : List ℕ} → below ≡ old → ChangesOnly (state below.disk) (state new) n content
    → ChangesOnly (faulty_state state old) (faulty_state state (passed below new)) n content
changes state {old} {below} {new} {n} {content} here is = subst (λ faulty. ChangesOnly (faulty_state state faulty) (faulty_state state (passed below new)) n content) here
    (record { size = is.size; seen = is.seen; nothing_else = is.nothing_else; kept = is.kept })

pub time : {D : Type 0} (state : D → DiskState) {old below : Faulty D} {new : D} → below ≡ old → Elapses (state below.disk) (state new)
    → Elapses (faulty_state state old) (faulty_state state (passed below new))
time state {old} {below} {new} here is = subst (λ faulty. Elapses (faulty_state state faulty) (faulty_state state (passed below new))) here (record {
  later = is.later;
  nothing_else = λ t image le left. ⊎_elim (λ was. inl was) (λ now. inr (record { size = now.size; each = now.each })) (is.nothing_else t image le left);
  keeps = is.keeps;
})

-- ---- faults
failed : (old new : DiskState) (f w : ℕ) → HasFailed old new → HasFailed (with_failures old f w) (with_failures new f w)
failed old new f w has = elim (cases_lt (new.failures + (f + w)) (2 ^ 64 - 1)) [
  | inl below ↦ ⊎_elim (λ more. inl (omega (arith, more, below))) (λ worn. absurd (omega (arith, worn, below))) has
  | inr past ↦ inr (omega (arith, past))
]

pub cause : {D T E : Type 0} (state : D → DiskState) {old below : Faulty D} {new : D} {result : Result T E} → below ≡ old → HasCause (state below.disk) (state new) result
    → HasCause (faulty_state state old) (faulty_state state (passed below new)) result
cause state {old} {below} {new} {result} here is = subst (λ faulty. HasCause (faulty_state state faulty) (faulty_state state (passed below new)) result) here (record {
  later = omega (arith, is.later);
  fault = on_err_weaker result (failed (state below.disk) (state new) below.failed_reads below.failed_writes) is.fault;
})

unwritten : (old new : DiskState) (f w : ℕ) → HasFailedToWrite old new → HasFailedToWrite (with_failures old f w) (with_failures new f w)
unwritten old new f w has = ⊎_elim (λ more. inl (omega (arith, more))) (λ worn. inr (omega (arith, worn))) has

pub told : {D T E : Type 0} (state : D → DiskState) {old below : Faulty D} {new : D} {result : Result T E} → below ≡ old → HasWriteCause (state below.disk) (state new) result
    → HasWriteCause (faulty_state state old) (faulty_state state (passed below new)) result
told state {old} {below} {new} {result} here is = subst (λ faulty. HasWriteCause (faulty_state state faulty) (faulty_state state (passed below new)) result) here (record {
  later = omega (arith, is.later);
  fault = on_err_weaker result (unwritten (state below.disk) (state new) below.failed_reads below.failed_writes) is.fault;
  quiet = on_ok_weaker result (ap (λ n. n + below.failed_writes)) is.quiet;
})

-- ---- a call that fails by itself, and one that passes
abbrev pub read_more : {D : Type 0} → Faulty D → Faulty D
read_more faulty = record faulty { failed_reads = faulty.failed_reads + 1 }

abbrev pub write_more : {D : Type 0} → Faulty D → Faulty D
write_more faulty = record faulty { failed_writes = faulty.failed_writes + 1 }

pub quiet : {D : Type 0} {old new : Faulty D} → new ≡ old → new.failed_writes ≡ old.failed_writes
quiet same = ap (λ (faulty : Faulty _). faulty.failed_writes) same

-- more failures can be counted
module _ {D : Type 0} (state : D → DiskState) {old below : Faulty D} {failures : ℕ} (here : below ≡ old)
    (is : failures ≡ (faulty_state state old).failures) (few : failures ≢ 2 ^ 64 - 1) where
  pub reads_fit : Fits w64 (below.failed_reads + 1)
  reads_fit = let same = ap (λ (faulty : Faulty D). faulty.failed_reads) here in omega (arith, same, is, few)

  pub writes_fit : Fits w64 (below.failed_writes + 1)
  writes_fit = let same = quiet here in omega (arith, same, is, few)

-- with one failure more the count has grown, or is full
grows : (few more : ℕ) → more ≡ few + 1
    → (min few (2 ^ 64 - 1) < min more (2 ^ 64 - 1)) ⊎ (min more (2 ^ 64 - 1) ≡ 2 ^ 64 - 1)
grows few more is = elim (cases_lt few (2 ^ 64 - 1)) [
  | inl below ↦ inl (omega (arith, below, is))
  | inr full ↦ inr (omega (arith, full, is))
]

-- all its failures, were they counted further
abbrev full : {D : Type 0} → (D → DiskState) → Faulty D → ℕ
full state faulty = (state faulty.disk).failures + (faulty.failed_reads + faulty.failed_writes)

abbrev caused : {D T E : Type 0} → (D → DiskState) → Faulty D → Faulty D → Result T E → Type 0
caused state old new result = HasCause (faulty_state state old) (faulty_state state new) result

abbrev told_of : {D T E : Type 0} → (D → DiskState) → Faulty D → Faulty D → Result T E → Type 0
told_of state old new result = HasWriteCause (faulty_state state old) (faulty_state state new) result

module _ {D T E : Type 0} (state : D → DiskState) {old : Faulty D} where
  module _ {below : Faulty D} {error : E} (here : below ≡ old) where
    pub read_failed : caused {T = T} state old (read_more below) (Err error)
    read_failed = rw (← here) (record {
      later = omega arith;
      fault = grows (full state below) _ (omega arith);
    })

    pub write_failed : caused {T = T} state old (write_more below) (Err error)
    write_failed = rw (← here) (record {
      later = omega arith;
      fault = grows (full state below) _ (omega arith);
    })

    pub write_told : told_of {T = T} state old (write_more below) (Err error)
    write_told = rw (← here) (record { later = omega arith; fault = inl (omega arith); quiet = tt })

  module _ {new : Faulty D} {value : T} (same : new ≡ old) where
    pub passes : caused {E = E} state old new (Ok value)
    passes = rw (← same) (record { later = omega arith; fault = tt })

    pub passes_told : told_of {E = E} state old new (Ok value)
    passes_told = rw (← same) (record { later = omega arith; fault = tt; quiet = refl })

-- ---- a call that doesn't reach the disk below
module _ {D : Type 0} (state : D → DiskState) (old new : Faulty D) (disk : new.disk ≡ old.disk) where
  abbrev with_disk : D → DiskState
  with_disk d = with_failures (state d) new.failed_reads new.failed_writes

  pub untouched : IsSame (faulty_state state old) (faulty_state state new)
  untouched =
      subst (λ d. IsSame (faulty_state state old) (with_disk d)) (sym disk)
      (record {
        narrowed = record { size = refl; seen = refl; nothing_else = λ n content holds. holds };
        kept = λ n content holds. holds;
      })

  pub unmoved : Elapses (faulty_state state old) (faulty_state state new)
  unmoved =
      subst (λ d. Elapses (faulty_state state old) (with_disk d)) (sym disk)
      (record {
        later = omega arith;
        nothing_else = λ t image le left. inl left;
        keeps = λ t image le left. left;
      })

pub sized : {D : Type 0} {n : ℕ} (state : D → DiskState) {old below : Faulty D} → below ≡ old
    → n < (faulty_state state old).size → n < (state below.disk).size
sized {D} {n} state here fits = subst (λ (faulty : Faulty D). n < (state faulty.disk).size) (sym here) fits

-- of a file of which nothing has been written
abbrev unwritten_past : Image → Past
unwritten_past image = record { start = image; events = [] }

abbrev image_disk : Image → ℕ → ℕ → Faulty Past
image_disk image reads writes =
    record { disk = unwritten_past image; call = 0; failed_reads = reads; failed_writes = writes }

abbrev past_state : Past → DiskState
past_state past = recorded_state past 0

abbrev pub image_state : Image → ℕ → ℕ → DiskState
image_state image reads writes = faulty_state past_state (image_disk image reads writes)

module _ (old : Image) (r w : ℕ) (new : Image) (s v : ℕ) (same : new ≡ old) where
  pub image_untouched : IsSame (image_state old r w) (image_state new s v)
  image_untouched = untouched past_state (image_disk old r w) (image_disk new s v) (ap unwritten_past same)

  pub image_unmoved : Elapses (image_state old r w) (image_state new s v)
  image_unmoved = unmoved past_state (image_disk old r w) (image_disk new s v) (ap unwritten_past same)
