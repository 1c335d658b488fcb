-- A put into a delta.
use Rattle.std.proofs.Common.{◌≡◌, ◌↔◌, ℕ, Bool, Contains, ◌||◌, eqb-true, sym, ◌+◌, ◌-◌, ◌≤◌, ◌<◌, true, false, cond, List, [], ◌∷◌, length, eqb, arith, refl, ◌∙◌, ap, inl, inr}
use Rattle.std.proofs.lemmas.Bool.{cases_Bool, cond_both, cond-true, cond-false, eq-eqb}
use Rattle.std.proofs.lemmas.Cmp.{nat_eq_equiv}
use Rattle.std.proofs.lemmas.Map.Views.{list_any-from_Contains, Contains-from_any}
use Rattle.std.specs.List.{list_any}
use Rattle.fs_layout.specs.Bytes.{SectorMap}
use Rattle.fs_layout.specs.InodeChanges.{Puts}
use Rattle.sector_disk.specs.Disk.{DiskState}
use Rattle.sector_disk.proofs.Moments.{reads_nothing}
use Rattle.redo_journal.specs.Batch.{Entry, has_entry, put_entry, targets, with_batch}
use Rattle.fs_layout.specs.Header.{max_delta}
use Rattle.redo_journal.specs.Meaning.{data_of}
use Rattle.redo_journal.specs.States.{header_at}
use Rattle.redo_journal.proofs.Puts.{has_others}
use Rattle.sector_txn.specs.Sectors.{IsPut}
use Rattle.sector_txn.specs.Stores.{txn_state, map_now, map_before}

-- ---- which sectors have an entry after a put
pub has_here : (entries : List Entry) (n : ℕ) (content : List ℕ) → has_entry (put_entry entries n content) n ≡ true
has_here [] n content = cond-true (eqb n n) true false (eq-eqb n n refl)
has_here (e ∷ entries) n content =
    cond_both (eqb n e.0) ((n, content) ∷ entries) (e ∷ put_entry entries n content) (λ l. has_entry l n ≡ true)
    (λ _. cond-true (eqb n n) true (has_entry entries n) (eq-eqb n n refl))
    (λ no. cond-false (eqb n e.0) true (has_entry (put_entry entries n content) n) no ∙ has_here entries n content)

-- which sectors have one
pub has_target : (entries : List Entry) (n : ℕ) → has_entry entries n ≡ list_any (eqb n) (targets entries)
has_target [] n = refl
has_target (e ∷ entries) n = elim (cases_Bool (eqb n e.0)) [
  | inl here ↦ cond-true (eqb n e.0) true (has_entry entries n) here ∙ sym (ap (λ (b : Bool). b || list_any (eqb n) (targets entries)) here)
  | inr other ↦
      cond-false (eqb n e.0) true (has_entry entries n) other ∙ has_target entries n
      ∙ sym (ap (λ (b : Bool). b || list_any (eqb n) (targets entries)) other)
]

pub has_in_targets : (entries : List Entry) (n : ℕ) → Contains (targets entries) n ↔ (has_entry entries n ≡ true)
has_in_targets entries n = (
  λ has. has_target entries n ∙ list_any-from_Contains nat_eq_equiv n (targets entries) has,
  λ has. Contains-from_any (λ x y same. eqb-true x y same) n (targets entries) (sym (has_target entries n) ∙ has),
)

-- there is no more than there is room for
pub few_after : (most n : ℕ) (old new : List Entry) → length old ≤ most → (has_entry old n ≡ false → 0 < most - length old) → length new ≡ cond (has_entry old n) (length old) (length old + 1) → length new ≤ most
few_after most n old new few room len = elim (cases_Bool (has_entry old n)) [
  | inl has ↦ omega (arith, len, few, cond-true (has_entry old n) (length old) (length old + 1) has)
  | inr none ↦ omega (arith, len, room none, cond-false (has_entry old n) (length old) (length old + 1) none)
]

-- ---- a put into a transaction
pub delta_put : {D : Type 0} (state : D → DiskState) (disk : D) (waiting old new : List Entry) (n : ℕ) (content : List ℕ) → length old ≤ max_delta (header_at (state disk).seen) → (has_entry old n ≡ false → 0 < max_delta (header_at (state disk).seen) - length old)
    → new ≡ put_entry old n content → ((f : SectorMap) → Puts n content (with_batch old f) (with_batch new f)) → length new ≡ cond (has_entry old n) (length old) (length old + 1)
    → IsPut n content (txn_state state (record { disk = disk; waiting = waiting; delta = old })) (txn_state state (record { disk = disk; waiting = waiting; delta = new }))
unfolding map_now map_before
delta_put {D} state disk waiting old new n content few room put map len =
    let sectors = with_batch waiting (data_of (state disk)) in
    record {
      store = record { before = λ m. refl; header = refl; reads = reads_nothing };
      sectors = map sectors;
      has = ap (λ (l : List Entry). has_entry l n) put ∙ has_here old n content;
      others = λ m other. ap (λ (l : List Entry). has_entry l m) put ∙ has_others old n m content other;
      first = λ none. let longer = len ∙ cond-false (has_entry old n) (length old) (length old + 1) none in omega (arith, longer, room none, few);
      again = λ has. ap (λ k. max_delta (header_at (state disk).seen) - k) (len ∙ cond-true (has_entry old n) (length old) (length old + 1) has);
    }
