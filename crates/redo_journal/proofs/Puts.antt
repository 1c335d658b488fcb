-- A put into a batch.
use Rattle.std.proofs.Common.{◌≡◌, ◌≢◌, ℕ, suc, ◌+◌, ◌≤◌, ◌<◌, Bool, true, false, cond, List, [], ◌∷◌, length, eqb, arith, refl, sym, ◌∙◌, ap, subst, inl, inr}
use Rattle.std.proofs.lemmas.Bool.{cases_Bool, cond_both, cond-true, cond-false, eq-eqb, ne_eqb, eqb-true, eqb-false}
use Rattle.std.proofs.lemmas.Bool.Decides.{nat_tests, Decides-eqb}
use Rattle.std.proofs.lemmas.List.Elements.{All-nil, All-cons, All-head, All-tail}
use Rattle.std.proofs.lemmas.Map.Made.{AllPairs-from_IsDistinct, IsDistinct-from_AllPairs}
use Rattle.std.specs.Prelude.{All}
use Rattle.std.specs.List.{AllByRecursion, IsDistinct}
use Rattle.fs_layout.specs.Bytes.{SectorMap}
use Rattle.redo_journal.specs.declared.batch.TheConstants.{MOST_SECTORS}
use Rattle.fs_layout.specs.InodeChanges.{Puts}
use Rattle.fs_layout.specs.Commit.{AreDistinct}
use Rattle.fs_layout.specs.Header.{log_end}
use Rattle.redo_journal.specs.Batch.{Entry, targets, put_entry, has_entry, with_batch, IsBatch, IsOnDisk}

-- ---- which other sectors have an entry
pub has_others : (entries : List Entry) (n m : ℕ) (content : List ℕ) → m ≢ n → has_entry (put_entry entries n content) m ≡ has_entry entries m
has_others [] n m content other = cond-false (eqb m n) true false (ne_eqb m n other)
has_others (e ∷ entries) n m content other =
    cond_both (eqb n e.0) ((n, content) ∷ entries) (e ∷ put_entry entries n content) (λ l. has_entry l m ≡ has_entry (e ∷ entries) m)
    (λ is.
    let not_e : m ≡ e.0 → ⊥ = λ same. other (same ∙ sym (eqb-true n e.0 is)) in
    cond-false (eqb m n) true (has_entry entries m) (ne_eqb m n other) ∙ sym (cond-false (eqb m e.0) true (has_entry entries m) (ne_eqb m e.0 not_e)))
    (λ _. ap (λ (b : Bool). cond (eqb m e.0) true b) (has_others entries n m content other))

-- ---- what stays true of the sectors
pub all_put : (P : ℕ → Type 0) (entries : List Entry) (n : ℕ) (content : List ℕ) → All P (targets entries) → P n → All P (targets (put_entry entries n content))
all_put P [] n content all here = All-cons P n [] here (All-nil P)
all_put P (e ∷ entries) n content all here =
    cond_both (eqb n e.0) ((n, content) ∷ entries) (e ∷ put_entry entries n content) (λ l. All P (targets l))
    (λ _. All-cons P n (targets entries) here (All-tail P e.0 (targets entries) all))
    (λ _. All-cons P e.0 (targets (put_entry entries n content)) (All-head P e.0 (targets entries) all) (all_put P entries n content (All-tail P e.0 (targets entries) all) here))

rest_put : (P : ℕ → Type 0) (entries : List Entry) (n : ℕ) (content : List ℕ) → AllByRecursion P (targets entries) → P n → AllByRecursion P (targets (put_entry entries n content))
rest_put P [] n content all here = (here, tt)
rest_put P (e ∷ entries) n content all here =
    cond_both (eqb n e.0) ((n, content) ∷ entries) (e ∷ put_entry entries n content) (λ l. AllByRecursion P (targets l)) (λ _. (here, all.1)) (λ _. (all.0, rest_put P entries n content all.1 here))

distinct_put : (entries : List Entry) (n : ℕ) (content : List ℕ) → IsDistinct eqb (targets entries) → IsDistinct eqb (targets (put_entry entries n content))
unfolding IsDistinct
distinct_put [] n content apart = (tt, tt)
distinct_put (e ∷ entries) n content apart =
    cond_both (eqb n e.0) ((n, content) ∷ entries) (e ∷ put_entry entries n content) (λ l. IsDistinct eqb (targets l))
    (λ is. (subst (λ (m : ℕ). AllByRecursion (λ y. eqb m y ≡ false) (targets entries)) (sym (eqb-true n e.0 is)) apart.0, apart.1))
    (λ no. (rest_put (λ y. eqb e.0 y ≡ false) entries n content apart.0 (ne_eqb e.0 n (λ is. eqb-false n e.0 no (sym is))), distinct_put entries n content apart.1))

apart_put : (entries : List Entry) (n : ℕ) (content : List ℕ) → AreDistinct (targets entries) → AreDistinct (targets (put_entry entries n content))
apart_put entries n content apart =
    AllPairs-from_IsDistinct Decides-eqb (targets (put_entry entries n content)) (distinct_put entries n content (IsDistinct-from_AllPairs Decides-eqb (targets entries) apart))

pub length-put : (es : List Entry) (n : ℕ) (content : List ℕ) → length (put_entry es n content) ≡ cond (has_entry es n) (length es) (length es + 1)
length-put [] n content = refl
length-put (e ∷ es) n content = elim (cases_Bool (eqb n e.0)) [
  | inl here ↦
      ap length (cond-true (eqb n e.0) ((n, content) ∷ es) (e ∷ put_entry es n content) here)
      ∙ sym (ap (λ (b : Bool). cond b (length (e ∷ es)) (length (e ∷ es) + 1)) (cond-true (eqb n e.0) true (has_entry es n) here))
  | inr there ↦
      ap length (cond-false (eqb n e.0) ((n, content) ∷ es) (e ∷ put_entry es n content) there)
      ∙ ap suc (length-put es n content)
      ∙ cond_both (has_entry es n) (length es) (length es + 1) (λ (k : ℕ). suc k ≡ cond (has_entry es n) (length (e ∷ es)) (length (e ∷ es) + 1))
      (λ has. sym (cond-true (has_entry es n) (length (e ∷ es)) (length (e ∷ es) + 1) has))
      (λ none. omega arith ∙ sym (cond-false (has_entry es n) (length (e ∷ es)) (length (e ∷ es) + 1) none))
      ∙ sym (ap (λ (b : Bool). cond b (length (e ∷ es)) (length (e ∷ es) + 1)) (cond-false (eqb n e.0) true (has_entry es n) there))
]

few_put : (most : ℕ) (es : List Entry) (n : ℕ) (content : List ℕ) → (has_entry es n ≡ false → length es < most) → length es ≤ most → length (put_entry es n content) ≤ most
few_put most es n content room few = elim (cases_Bool (has_entry es n)) [
  | inl has ↦ omega (arith, few, length-put es n content, cond-true (has_entry es n) (length es) (length es + 1) has)
  | inr none ↦ omega (arith, room none, length-put es n content, cond-false (has_entry es n) (length es) (length es + 1) none)
]

pub batch_put : (entries : List Entry) (n : ℕ) (content : List ℕ) → IsBatch entries → 128 ≤ n → (has_entry entries n ≡ false → length entries < MOST_SECTORS) → IsBatch (put_entry entries n content)
batch_put entries n content is high room = record {
  few = few_put MOST_SECTORS entries n content room is.few;
  high = all_put (λ m. 128 ≤ m) entries n content is.high high;
  apart = apart_put entries n content is.apart;
}

pub on_disk_put : (header size : ℕ) (entries : List Entry) (n : ℕ) (content : List ℕ) → log_end header ≤ n → n < size → IsOnDisk header size entries → IsOnDisk header size (put_entry entries n content)
on_disk_put header size entries n content high fits on_disk = all_put (λ m. (log_end header ≤ m) × (m < size)) entries n content on_disk (high, fits)

-- ---- a batch as a map
-- a put into a batch is a put into the map
same_key : (m n k : ℕ) (x y z : List ℕ) → n ≡ k → cond (eqb m n) x z ≡ cond (eqb m n) x (cond (eqb m k) y z)
same_key m n k x y z same = grind (arith, nat_tests)

pub other_key : (m n k : ℕ) (x y z : List ℕ) → (n ≡ k → ⊥) → cond (eqb m k) y (cond (eqb m n) x z) ≡ cond (eqb m n) x (cond (eqb m k) y z)
other_key m n k x y z other = grind (arith, nat_tests)

pub with_batch-put : (entries : List Entry) (n : ℕ) (content : List ℕ) (f : SectorMap) (m : ℕ) → with_batch (put_entry entries n content) f m ≡ cond (eqb m n) content (with_batch entries f m)
with_batch-put [] n content f m = refl
with_batch-put (e ∷ entries) n content f m =
    cond_both (eqb n e.0) ((n, content) ∷ entries) (e ∷ put_entry entries n content) (λ l. with_batch l f m ≡ cond (eqb m n) content (with_batch (e ∷ entries) f m))
    (λ is. same_key m n e.0 content e.1 (with_batch entries f m) (eqb-true n e.0 is))
    (λ no. ap (λ (x : List ℕ). cond (eqb m e.0) e.1 x) (with_batch-put entries n content f m) ∙ other_key m n e.0 content e.1 (with_batch entries f m) (eqb-false n e.0 no))

pub puts_put : (old new : List Entry) (n : ℕ) (content : List ℕ) → new ≡ put_entry old n content → (f : SectorMap) → Puts n content (with_batch old f) (with_batch new f)
puts_put old new n content put f = subst (λ (es : List Entry). Puts n content (with_batch old f) (with_batch es f)) (sym put) (record {
  here = with_batch-put old n content f n ∙ cond-true (eqb n n) content (with_batch old f n) (eq-eqb n n refl);
  others = λ m other. with_batch-put old n content f m ∙ cond-false (eqb m n) content (with_batch old f m) (ne_eqb m n other);
})
