-- What a check has read stays so while it reads on.
use Rattle.std.specs.Prelude.{◌≡◌, ℕ, ◌+◌, ◌≤◌, List, Result, Ok, Err, OnOk, IfOk, IsErrAnd}
use Rattle.std.proofs.Common.{sym, ap, arith, ◌∙◌, subst, inl, inr}
use Rattle.std.proofs.lemmas.Result.{err_from_is_err_and}
use Rattle.fs_layout.specs.declared.inode.Inode.{Inode}
use Rattle.fs_layout.specs.declared.geometry.Geometry.{Geometry}
use Rattle.fs_layout.specs.Images.{number_on}
use Rattle.fs_layout.specs.Recovered.{recovered}
use Rattle.sector_disk.specs.Disk.{DiskState, Image, IsImage, IsSame, Elapses, OnlyReads, HasFailed, sector}
use Rattle.sector_disk.proofs.Moments.{reads_nothing, reads_more, reads_joined}
use Rattle.fs_layout.specs.Commit.{IsCommit, named_area}
use Rattle.fs_model.specs.Rules.{IsGeometryOf, ImageRule, rule_number, ObeysEach, ObeysBefore, IsLeastFailure, IsFinding, fails}
use Rattle.fs_check.specs.declared.faults.CheckFault.{CheckFault}
use Rattle.fs_check.specs.declared.faults.CheckFault.TheVariants.{Found, DiskFault, OutOfMemory}
use Rattle.fs_check.specs.declared.owning.Pointers.{Pointers}
use Rattle.fs_check.specs.declared.marks.Marks.{Marks}
use Rattle.fs_check.specs.Counts.{times_reached, AreInDataArea, IsMarked, AreMarks, AddsOwners}
use Rattle.fs_check.specs.Owning.{AreAtHand, HasAboveInData, OwnsData}
use Rattle.fs_check.specs.Checks.{meaning, BeginsWith, AreInodes, AreTested, IsReason, Passed, IsNone, IsLeast, IsFirst, IsFailureOf}
use Rattle.fs_model.proofs.Findings.{next_obeyed}

-- facts of one state hold of the other
same_of : (P : ℕ → Image → Type 0) {old new : DiskState} → OnlyReads old new → P old.size old.seen → P new.size new.seen
same_of P {old} {new} reads x = subst (P new.size) (sym reads.narrowed.seen) (subst (λ n. P n old.seen) (sym reads.narrowed.size) x)

pub back_of : (P : ℕ → Image → Type 0) {old new : DiskState} → OnlyReads old new → P new.size new.seen → P old.size old.seen
back_of P {old} {new} reads x = subst (P old.size) reads.narrowed.seen (subst (λ n. P n new.seen) reads.narrowed.size x)

module _ {old mid : DiskState} (reads : OnlyReads old mid) where
  pub meaning_same : meaning mid ≡ meaning old
  meaning_same = ap (λ n. recovered n (sector mid.seen)) reads.narrowed.size ∙ ap (λ (i : Image). recovered old.size (sector i)) reads.narrowed.seen

  pub opened_still : {p : Geometry} {area : ℕ} {targets : List ℕ} → BeginsWith old p area targets → BeginsWith mid p area targets
  opened_still {p} {area} {targets} x = record {
    geometry = same_of (λ n i. IsGeometryOf n (sector i) p) reads x.geometry;
    log = same_of (λ n i. area ≡ named_area (sector i)) reads x.log;
    commit = same_of (λ n i. IsCommit n (sector i) targets) reads x.commit;
  }

  pub table_still : {p : Geometry} {inodes : List Inode} → AreInodes p (meaning old) inodes → AreInodes p (meaning mid) inodes
  table_still {p} {inodes} x = subst (λ m. AreInodes p m inodes) (sym meaning_same) x

  -- what is at hand, and what is known of numbers
  pub hand_still : (q : Pointers) → AreAtHand (meaning old) q → AreAtHand (meaning mid) q
  hand_still q x = subst (λ m. AreAtHand m q) (sym meaning_same) x

  pub hand_back : (q : Pointers) → AreAtHand (meaning mid) q → AreAtHand (meaning old) q
  hand_back q x = subst (λ m. AreAtHand m q) meaning_same x

  -- the marks of so many owners
  pub marks_still : (p : Geometry) (counts : ℕ → ℕ) (marks : Marks) → IsMarked p (meaning old) counts marks → AreMarks p (meaning mid) marks
  marks_still p counts marks x = (counts, subst (λ m. IsMarked p m counts marks) (sym meaning_same) x)

  pub reached_back : (p : Geometry) (level q : ℕ) → AreInDataArea p (times_reached (meaning mid) level q) → AreInDataArea p (times_reached (meaning old) level q)
  reached_back p level q x = subst (λ m. AreInDataArea p (times_reached m level q)) meaning_same x

  pub adds_back : (p : Geometry) (level q : ℕ) (marks then : Marks) → AddsOwners p (meaning mid) (times_reached (meaning mid) level q) marks then
      → AddsOwners p (meaning old) (times_reached (meaning old) level q) marks then
  adds_back p level q marks then x = subst (λ m. AddsOwners p m (times_reached m level q) marks then) meaning_same x

  pub owns_still : (p : Geometry) (v : Inode) → OwnsData p (meaning old) v → OwnsData p (meaning mid) v
  owns_still p v x = subst (λ m. OwnsData p m v) (sym meaning_same) x

  pub above_still : (p : Geometry) (v : Inode) (level : ℕ) → HasAboveInData p (meaning old) v level → HasAboveInData p (meaning mid) v level
  above_still p v level x = subst (λ m. HasAboveInData p m v level) (sym meaning_same) x

  pub number_back : (v : Inode) (level i s : ℕ) → s ≡ number_on (meaning mid) v level i → s ≡ number_on (meaning old) v level i
  number_back v level i s x = x ∙ ap (λ m. number_on m v level i) meaning_same

  pub content_back : (s : ℕ) (content : List ℕ) → content ≡ meaning mid s → content ≡ meaning old s
  content_back s content x = x ∙ ap (λ m. m s) meaning_same

  pub each_back : (p : Geometry) (r : ImageRule) → ObeysEach p (meaning mid) r → ObeysEach p (meaning old) r
  each_back p r x = subst (λ m. ObeysEach p m r) meaning_same x

  failed_back : (new : DiskState) → HasFailed mid new → HasFailed old new
  failed_back new (inl lt) = let later = reads.failures in inl (omega (arith, lt, later))
  failed_back new (inr e) = inr e

  -- why a later part ends the check is why the whole does
  pub reason_back : (new : DiskState) (e : CheckFault) → IsReason IsFirst mid new e → IsReason IsFirst old new e
  reason_back new (Found f) x = back_of (λ n i. IsFinding n (sector i) f.rule f.at) reads x
  reason_back new DiskFault x = failed_back new x
  reason_back new OutOfMemory x = tt

-- a rule whose predecessors hold: its finding is the first
pub first_if : {old : DiskState} {p : Geometry} {area : ℕ} {targets : List ℕ} (new : DiskState) (r : ImageRule) (e : CheckFault) → BeginsWith old p area targets
    → ObeysBefore p (meaning old) (rule_number r) → IsReason (IsLeast p r) old new e → IsReason IsFirst old new e
first_if {old} {p} {targets = targets} new r (Found f) opened before x =
    subst (λ k. IsFinding old.size (sector old.seen) k f.at) (sym x.0) (fails p r f.at opened.geometry (record { targets = targets; is = opened.commit }) before x.1)
first_if new r DiskFault opened before x = x
first_if new r OutOfMemory opened before x = tt

-- the failure of a rule that was found in tables
pub failed_of : {T : Type 0} (old mid new : DiskState) {p : Geometry} {area : ℕ} {targets : List ℕ} → OnlyReads old mid → OnlyReads mid new → BeginsWith old p area targets
    → (e y : CheckFault) (q : Result T CheckFault) → q ≡ Err y → y ≡ e → IsFailureOf p (meaning mid) e → Passed IsFirst old new q
failed_of {T} old mid new {p} {targets = targets} reads then opened e y q at same x =
    subst (λ z. Passed {T = T} IsFirst old new z) (sym (at ∙ ap (λ z. Err z) same)) (record { reads = reads_joined reads then; reason = go e x })
  where
    go : (e : CheckFault) → IsFailureOf p (meaning mid) e → IsReason IsFirst old new e
    go (Found f) x =
        let now = opened_still reads opened in
        back_of (λ n i. IsFinding n (sector i) f.rule f.at) reads
        (subst (λ k. IsFinding mid.size (sector mid.seen) k f.at) (sym x.number) (fails p x.of f.at now.geometry (record { targets = targets; is = now.commit }) x.before x.least))
    go DiskFault x = absurd x
    go OutOfMemory x = tt

-- one read
pub reads_once : {old new : DiskState} → IsSame old new → Elapses old new → old.failures ≤ new.failures → new.failed_writes ≡ old.failed_writes
    → ((t : ℕ) (image : Image) → t ≤ old.moment → IsImage old image → old.left_since t image) → OnlyReads old new
reads_once same time later quiet counts = reads_more reads_nothing same time later quiet counts

-- ---- one part after the other

pub before_still : {old mid : DiskState} {p : Geometry} {k : ℕ} → OnlyReads old mid → ObeysBefore p (meaning old) k → ObeysBefore p (meaning mid) k
before_still {p = p} {k} reads x = subst (λ m. ObeysBefore p m k) (sym (meaning_same reads)) x

pub tested_still : {old mid : DiskState} {p : Geometry} {k : ℕ} {inodes : List Inode} → OnlyReads old mid → AreTested p (meaning old) k inodes
    → AreTested p (meaning mid) k inodes
tested_still {p = p} {k} {inodes} reads x = subst (λ m. AreTested p m k inodes) (sym (meaning_same reads)) x

pub before_back : {old mid : DiskState} {p : Geometry} {k : ℕ} → OnlyReads old mid → ObeysBefore p (meaning mid) k → ObeysBefore p (meaning old) k
before_back {p = p} {k} reads x = subst (λ m. ObeysBefore p m k) (meaning_same reads) x

pub next_before : (old mid : DiskState) {p : Geometry} (r : ImageRule) (k : ℕ) → rule_number r ≡ k → OnlyReads old mid → ObeysBefore p (meaning old) k
    → ObeysEach p (meaning mid) r → ObeysBefore p (meaning old) (k + 1)
next_before old mid {p} r k is reads before each = next_obeyed p (meaning old) r k is before (each_back reads p r each)

passed_err : {T U : Type 0} (I J : DiskState → ℕ → ℕ → Type 0) (old mid new : DiskState) → OnlyReads old mid
    → ((x : CheckFault) → IsReason I mid new x → IsReason J old new x) → (e y : CheckFault) (r : Result U CheckFault) → r ≡ Err y → y ≡ e
    → Passed {T = T} I mid new (Err e) → Passed {T = U} J old new r
passed_err {T} {U} I J old mid new reads back e y r is same x =
    subst (λ q. Passed {T = U} J old new q) (sym (is ∙ ap (λ z. Err z) same)) (record { reads = reads_joined reads x.reads; reason = back e x.reason })

passed_on : {T : Type 0} (I J : DiskState → ℕ → ℕ → Type 0) (old mid new : DiskState) → OnlyReads old mid
    → ((x : CheckFault) → IsReason I mid new x → IsReason J old new x) → (r : Result T CheckFault) → Passed I mid new r → Passed J old new r
passed_on I J old mid new reads back (Ok v) x = record { reads = reads_joined reads x.reads; reason = tt }
passed_on I J old mid new reads back (Err e) x = record { reads = reads_joined reads x.reads; reason = back e x.reason }

reason_of_rule : {old mid : DiskState} {p : Geometry} {area : ℕ} {targets : List ℕ} (new : DiskState) (r : ImageRule) (k : ℕ) → rule_number r ≡ k → OnlyReads old mid
    → BeginsWith old p area targets → ObeysBefore p (meaning old) k → (x : CheckFault) → IsReason (IsLeast p r) mid new x → IsReason IsFirst old new x
reason_of_rule {mid = mid} {p} new r k is reads opened before x h =
    reason_back reads new x (first_if new r x (opened_still reads opened) (subst (λ q. ObeysBefore p (meaning mid) q) (sym is) (before_still reads before)) h)

-- a rule's part, and the error of one
pub rule_error : {T U : Type 0} (old mid new : DiskState) {p : Geometry} {area : ℕ} {targets : List ℕ} (r : ImageRule) (k : ℕ) → rule_number r ≡ k → OnlyReads old mid
    → BeginsWith old p area targets
    → ObeysBefore p (meaning old) k → (e : CheckFault) (q : Result U CheckFault) → (y : CheckFault) × (q ≡ Err y) × (y ≡ e)
    → Passed {T = T} (IsLeast p r) mid new (Err e) → Passed IsFirst old new q
rule_error old mid new {p} r k is reads opened before e q at x =
    passed_err (IsLeast p r) IsFirst old mid new reads (reason_of_rule new r k is reads opened before) e at.0 q at.1 at.2 x

-- a rule's first part, and its error
pub first_error : {T U : Type 0} (old new : DiskState) {p : Geometry} {area : ℕ} {targets : List ℕ} (r : ImageRule) (k : ℕ) → rule_number r ≡ k → BeginsWith old p area targets
    → ObeysBefore p (meaning old) k → (e : CheckFault) (q : Result U CheckFault) → (y : CheckFault) × (q ≡ Err y) × (y ≡ e)
    → Passed {T = T} (IsLeast p r) old new (Err e) → Passed IsFirst old new q
first_error old new r k is opened before e q at x = rule_error old old new r k is reads_nothing opened before e q at x

pub rule_passed : {T : Type 0} (old mid new : DiskState) {p : Geometry} {area : ℕ} {targets : List ℕ} (r : ImageRule) (k : ℕ) → rule_number r ≡ k → OnlyReads old mid
    → BeginsWith old p area targets → ObeysBefore p (meaning old) k → (q : Result T CheckFault) → Passed (IsLeast p r) mid new q → Passed IsFirst old new q
rule_passed old mid new {p} r k is reads opened before q x =
    passed_on (IsLeast p r) IsFirst old mid new reads (reason_of_rule new r k is reads opened before) q x

pub on_ok : {T E P Q : Type 0} (r : Result T E) → OnOk r P → (P → Q) → OnOk r Q
on_ok (Ok x) p f = f p
on_ok (Err e) p f = tt

-- two rules, one after the other
module _ {T : Type 0} (old mid new : DiskState) {p : Geometry} {area : ℕ} {targets : List ℕ} (r q : ImageRule) (k : ℕ) (is : rule_number r ≡ k) (then : rule_number q ≡ k + 1)
    (opened : BeginsWith old p area targets) (before : ObeysBefore p (meaning old) k) (reads : OnlyReads old mid) (each : ObeysEach p (meaning old) r)
    (x : Result T CheckFault) where
  first_obeyed : ObeysBefore p (meaning old) (k + 1)
  first_obeyed = next_before old old r k is reads_nothing before each

  pub second_passed : Passed (IsLeast p q) mid new x → Passed IsFirst old new x
  second_passed passed = rule_passed old mid new q (k + 1) then reads opened first_obeyed x passed

  pub both_obeyed : OnOk x (ObeysEach p (meaning mid) q) → OnOk x (ObeysBefore p (meaning old) (k + 1 + 1))
  both_obeyed second = on_ok x second (λ so. next_before old mid q (k + 1) then reads first_obeyed so)

-- a part of several rules
pub part_error : {T U : Type 0} {e : CheckFault} {old mid new : DiskState} → OnlyReads old mid → (r : Result U CheckFault) → IsErrAnd r (λ y. y ≡ e)
    → Passed {T = T} IsFirst mid new (Err e) → Passed IsFirst old new r
part_error {e = e} {old} {mid} {new} reads r told x =
    let q = err_from_is_err_and r told in passed_err IsFirst IsFirst old mid new reads (reason_back reads new) e q.0 r q.1 q.2 x

pub part_passed : {T : Type 0} (old mid new : DiskState) → OnlyReads old mid → (q : Result T CheckFault) → Passed IsFirst mid new q → Passed IsFirst old new q
part_passed old mid new reads q x = passed_on IsFirst IsFirst old mid new reads (reason_back reads new) q x

pub if_ok : {T E : Type 0} {P Q : T → Type 0} (r : Result T E) → IfOk r P → ((x : T) → P x → Q x) → IfOk r Q
if_ok (Ok x) p f = f x p
if_ok (Err e) p f = tt

-- ---- what is told of no rule
-- the disk failed at a later read, or there was no memory for it
pub read_error : {T U : Type 0} {I : DiskState → ℕ → ℕ → Type 0} {e : CheckFault} {old mid new : DiskState} → OnlyReads old mid
    → (r : Result U CheckFault) → IsErrAnd r (λ y. y ≡ e) → Passed {T = T} IsNone mid new (Err e) → Passed I old new r
read_error {T} {U} {I} {e} {old} {mid} {new} reads r told x =
    let q = err_from_is_err_and r told in passed_err {T = T} {U = U} IsNone I old mid new reads because e q.0 r q.1 q.2 x
  where
    because : (y : CheckFault) → IsReason IsNone mid new y → IsReason I old new y
    because (Found f) h = absurd h
    because DiskFault h = failed_back reads new h
    because OutOfMemory h = tt

-- a later part of one rule
pub least_error : {T U : Type 0} {p : Geometry} {rule : ImageRule} {e : CheckFault} {old mid new : DiskState} → OnlyReads old mid
    → (r : Result U CheckFault) → IsErrAnd r (λ y. y ≡ e) → Passed {T = T} (IsLeast p rule) mid new (Err e) → Passed (IsLeast p rule) old new r
least_error {T} {U} {p} {rule} {e} {old} {mid} {new} reads r told x =
    let q = err_from_is_err_and r told in
    passed_err {T = T} {U = U} (IsLeast p rule) (IsLeast p rule) old mid new reads because e q.0 r q.1 q.2 x
  where
    because : (y : CheckFault) → IsReason (IsLeast p rule) mid new y → IsReason (IsLeast p rule) old new y
    because (Found f) h = (h.0, subst (λ m. IsLeastFailure p m rule f.at) (meaning_same reads) h.1)
    because DiskFault h = failed_back reads new h
    because OutOfMemory h = tt

-- the part that ended the check tells of the same rule
pub same_error : {T U : Type 0} {I : DiskState → ℕ → ℕ → Type 0} {e : CheckFault} {old new : DiskState} → (r : Result U CheckFault) → IsErrAnd r (λ y. y ≡ e)
    → Passed {T = T} I old new (Err e) → Passed I old new r
same_error {T} {U} {I} {e} {old} {new} r told x =
    let q = err_from_is_err_and r told in passed_err {T = T} {U = U} I I old old new reads_nothing (λ y h. h) e q.0 r q.1 q.2 x

-- there was no memory for a table
pub memory_error : {U : Type 0} {I : DiskState → ℕ → ℕ → Type 0} {old new : DiskState} → OnlyReads old new → (r : Result U CheckFault)
    → IsErrAnd r (λ y. y ≡ OutOfMemory) → Passed I old new r
memory_error reads (Ok x) told = absurd told
memory_error {I = I} {old} {new} reads (Err y) told = record { reads = reads; reason = subst (IsReason I old new) (sym told) tt }
