-- Rules that are tried on tables, one after the other.
use Rattle.std.specs.Prelude.{◌≡◌, ℕ, ◌+◌, List, Option, Some, None, Result, Ok, Err, MatchOption, MatchResult}
use Rattle.std.proofs.Common.{sym, ap, ◌∙◌, subst}
use Rattle.fs_layout.specs.declared.geometry.Geometry.{Geometry}
use Rattle.fs_layout.specs.Bytes.{SectorMap}
use Rattle.fs_model.specs.Rules.{ImageRule, rule_number, ObeysEach, ObeysBefore, IsLeastFailure}
use Rattle.fs_model.proofs.Findings.{next_obeyed}
use Rattle.fs_check.specs.declared.faults.CheckFault.{CheckFault}
use Rattle.fs_check.specs.declared.faults.CheckFault.TheVariants.{Found}
use Rattle.sector_disk.specs.Disk.{DiskState, OnlyReads}
use Rattle.sector_disk.proofs.Moments.{reads_nothing}
use Rattle.fs_check.specs.Checks.{meaning, BeginsWith, IsReason, Passed, IsLeast, IsFirst, IsFailureOf}
use Rattle.fs_check.proofs.Carrying.{next_before, rule_error}

-- the answer to the least number that fails rule k, if one does
abbrev IsAnswer : ℕ → Option ℕ → Result (Unit {0}) CheckFault → Type 0
IsAnswer k first result = MatchOption first (result ≡ Ok tt) (λ n. result ≡ Err (Found (record { rule = k; at = n })))

module _ (p : Geometry) (m : SectorMap) where
  -- one rule
  pub rule_found : (r : ImageRule) (k : ℕ) → rule_number r ≡ k → (first : Option ℕ) (result : Result (Unit {0}) CheckFault)
      → IsAnswer k first result
      → MatchOption first (ObeysEach p m r) (λ n. IsLeastFailure p m r n) → ObeysBefore p m k
      → MatchResult result (λ _. ObeysBefore p m (k + 1)) (IsFailureOf p m)
  rule_found r k is (Some n) result says least before =
      subst (λ q. MatchResult q (λ _. ObeysBefore p m (k + 1)) (IsFailureOf p m)) (sym says)
      (record { of = r; number = sym is; before = subst (ObeysBefore p m) (sym is) before; least = least })
  rule_found r k is None result says each before =
      subst (λ q. MatchResult q (λ _. ObeysBefore p m (k + 1)) (IsFailureOf p m)) (sym says) (next_obeyed p m r k is before each)

  -- where it ends the check
  pub tree_error : (k l : ℕ) (e y : CheckFault) (r q : Result (Unit {0}) CheckFault) → r ≡ Err e → q ≡ Err y → y ≡ e
      → MatchResult r (λ _. ObeysBefore p m k) (IsFailureOf p m) → MatchResult q (λ _. ObeysBefore p m l) (IsFailureOf p m)
  tree_error k l e y r q was is same x =
      subst (λ z. MatchResult z (λ _. ObeysBefore p m l) (IsFailureOf p m)) (sym (is ∙ ap (λ z. Err z) same))
      (subst (λ z. MatchResult z (λ _. ObeysBefore p m k) (IsFailureOf p m)) was x)

  -- where it goes on
  pub tree_next : (k : ℕ) (u : Unit {0}) (r : Result (Unit {0}) CheckFault) → r ≡ Ok u
      → MatchResult r (λ _. ObeysBefore p m k) (IsFailureOf p m) → ObeysBefore p m k
  tree_next k u r was x = subst (λ z. MatchResult z (λ _. ObeysBefore p m k) (IsFailureOf p m)) was x

-- one that holds of the image, and the next may be tried
pub image_next : (p : Geometry) (m : SectorMap) (r : ImageRule) (k : ℕ) → rule_number r ≡ k → (first : Option ℕ) (u : Unit {0})
    (result : Result (Unit {0}) CheckFault) → IsAnswer k first result → result ≡ Ok u
    → MatchOption first (ObeysEach p m r) (λ n. IsLeastFailure p m r n) → ObeysBefore p m k → ObeysBefore p m (k + 1)
image_next p m r k is first u result says was found before = tree_next p m (k + 1) u result was (rule_found p m r k is first result says found before)

-- ---- a rule whose least failure is known before it is tried

-- what is found of it is why the check ends
pub found_reason : (p : Geometry) (r : ImageRule) (k : ℕ) → rule_number r ≡ k → (old new : DiskState) (first : Option ℕ) (e : CheckFault)
    → IsAnswer k first (Err e)
    → MatchOption first (ObeysEach p (meaning old) r) (λ n. IsLeastFailure p (meaning old) r n) → IsReason (IsLeast p r) old new e
found_reason p r k is old new (Some n) e says least =
    subst (IsReason (IsLeast p r) old new) (let same : Found (record { rule = k; at = n }) ≡ e = cc in same) (sym is, least)
found_reason p r k is old new None e says each = absurd cc

-- nothing found
pub found_none : (p : Geometry) (m : SectorMap) (r : ImageRule) (k : ℕ) (first : Option ℕ)
    → IsAnswer k first (Ok tt)
    → MatchOption first (ObeysEach p m r) (λ n. IsLeastFailure p m r n) → ObeysEach p m r
found_none p m r k (Some n) says least = absurd cc
found_none p m r k None says each = each

-- two rules of one part, of which the second was tried along with the first
module _ (old new : DiskState) {p : Geometry} {area : ℕ} {targets : List ℕ} (r q : ImageRule) (k : ℕ) (is : rule_number r ≡ k) (then : rule_number q ≡ k + 1)
    (opened : BeginsWith old p area targets) (before : ObeysBefore p (meaning old) k) (reads : OnlyReads old new) (each : ObeysEach p (meaning old) r) (first : Option ℕ)
    (found : MatchOption first (ObeysEach p (meaning old) q) (λ n. IsLeastFailure p (meaning old) q n)) where
  before_second : ObeysBefore p (meaning old) (k + 1)
  before_second = next_before old old r k is reads_nothing before each

  pub found_error : {U : Type 0} (e : CheckFault) (x : Result U CheckFault) → (y : CheckFault) × (x ≡ Err y) × (y ≡ e) → IsAnswer (k + 1) first (Err e)
      → Passed IsFirst old new x
  found_error e x at says = rule_error {T = Unit {0}} old old new q (k + 1) then reads_nothing opened before_second e x at (record {
    reads = reads;
    reason = found_reason p q (k + 1) then old new first e says found;
  })

  pub both_before : IsAnswer (k + 1) first (Ok tt) → ObeysBefore p (meaning old) (k + 1 + 1)
  both_before says = next_before old old q (k + 1) then reads_nothing before_second (found_none p (meaning old) q (k + 1) first says found)
