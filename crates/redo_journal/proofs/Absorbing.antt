-- A batch that takes the sectors of another one.
use Rattle.std.proofs.Common.{◌≡◌, inl, inr, ℕ, zero, suc, ◌+◌, ◌≤◌, ◌<◌, true, false, not, cond, List, [], ◌∷◌, length, take, eqb, arith, refl, sym, ◌∙◌, ap, subst, add-one}
use Rattle.std.proofs.lemmas.Bool.{cases_Bool, cond-true, cond-false}
use Rattle.std.proofs.lemmas.List.{take_all}
use Rattle.std.proofs.lemmas.List.Sums.{count_by_more_no, count_by_more_yes, sum_by-take-le}
use Rattle.std.specs.List.{count_by}
use Rattle.fs_layout.specs.Bytes.{SectorMap}
use Rattle.fs_layout.specs.Header.{log_end}
use Rattle.redo_journal.specs.Batch.{Entry, IsBatch, IsOnDisk, added, targets, target_at, content_at, has_entry, put_entry, with_batch}
use Rattle.redo_journal.proofs.Puts.{has_others, length-put, on_disk_put, other_key, with_batch-put}
use Rattle.redo_journal.proofs.Entries.{length-targets, target_is, targets_apart}

-- ---- what the map says
pub with_more : (entries : List Entry) (i : ℕ) (f : SectorMap) (n : ℕ) → i < length entries → ((j : ℕ) → j < i → target_at entries j ≡ target_at entries i → ⊥)
    → with_batch (take (suc i) entries) f n ≡ cond (eqb n (target_at entries i)) (content_at entries i) (with_batch (take i entries) f n)
with_more [] i f n lt apart = absurd (omega (arith, lt))
with_more (e ∷ entries) zero f n lt apart = refl
with_more (e ∷ entries) (suc i) f n lt apart =
    ap (λ (l : List ℕ). cond (eqb n e.0) e.1 l) (with_more entries i f n (omega (arith, lt)) (λ j low. apart (suc j) (omega (arith, low))))
    ∙ other_key n (target_at entries i) e.0 (content_at entries i) e.1 (with_batch (take i entries) f n) (λ is. apart 0 (omega arith) (sym is))

-- one entry more
map_more : (old new start entries : List Entry) (i : ℕ) → IsBatch entries → i < length entries
    → new ≡ put_entry old (target_at entries i) (content_at entries i)
    → ((f : SectorMap) (n : ℕ) → with_batch old f n ≡ with_batch (take i entries) (with_batch start f) n)
    → (f : SectorMap) (n : ℕ) → with_batch new f n ≡ with_batch (take (i + 1) entries) (with_batch start f) n
map_more old new start entries i is lt put so_far f n =
    ap (λ (l : List Entry). with_batch l f n) put
    ∙ with_batch-put old (target_at entries i) (content_at entries i) f n
    ∙ ap (λ (l : List ℕ). cond (eqb n (target_at entries i)) (content_at entries i) l) (so_far f n)
    ∙ sym (with_more entries i (with_batch start f) n lt (λ j low. targets_apart entries is.apart j i low lt))
    ∙ ap (λ k. with_batch (take k entries) (with_batch start f) n) (sym (add-one i))

-- ---- which sectors have an entry
-- The sectors from the i-th on have an entry where they had one at first.
abbrev pub HasAsBefore : List Entry → List Entry → List Entry → ℕ → Type 0
HasAsBefore start now entries i = (j : ℕ) → i ≤ j → j < length entries → has_entry now (target_at entries j) ≡ has_entry start (target_at entries j)

pub has_more : (start old new entries : List Entry) (i : ℕ) (content : List ℕ) → IsBatch entries → HasAsBefore start old entries i → new ≡ put_entry old (target_at entries i) content → HasAsBefore start new entries (i + 1)
has_more start old new entries i content is so_far put j le lt =
    ap (λ (l : List Entry). has_entry l (target_at entries j)) put
    ∙ has_others old (target_at entries i) (target_at entries j) content (λ same. targets_apart entries is.apart i j (omega (arith, le)) lt (sym same))
    ∙ so_far j (omega (arith, le)) lt

-- ---- how many sectors there are
-- how many of the first i sectors were added
abbrev pub added_among : List Entry → List Entry → ℕ → ℕ
added_among start entries i = count_by (λ n. not (has_entry start n)) (take i (targets entries))

pub added_yes : (start entries : List Entry) (i : ℕ) → i < length entries → has_entry start (target_at entries i) ≡ false → added_among start entries (i + 1) ≡ added_among start entries i + 1
added_yes start entries i lt none =
    count_by_more_yes (λ n. not (has_entry start n)) (targets entries) i 0 (omega (arith, lt, length-targets entries)) (ap (λ n. not (has_entry start n)) (target_is entries i lt) ∙ ap not none)

pub added_no : (start entries : List Entry) (i : ℕ) → i < length entries → has_entry start (target_at entries i) ≡ true → added_among start entries (i + 1) ≡ added_among start entries i
added_no start entries i lt has =
    count_by_more_no (λ n. not (has_entry start n)) (targets entries) i 0 (omega (arith, lt, length-targets entries)) (ap (λ n. not (has_entry start n)) (target_is entries i lt) ∙ ap not has)

pub added_below : (start entries : List Entry) (i : ℕ) → added_among start entries i ≤ added start entries
added_below start entries i = sum_by-take-le (λ n. cond (not (has_entry start n)) 1 0) (targets entries) i

length_more : (start old new entries : List Entry) (i : ℕ) → i < length entries → HasAsBefore start old entries i → length old ≡ length start + added_among start entries i
    → length new ≡ cond (has_entry old (target_at entries i)) (length old) (length old + 1) → length new ≡ length start + added_among start entries (i + 1)
length_more start old new entries i lt has len put = elim (cases_Bool (has_entry old (target_at entries i))) [
  | inl there ↦ omega (arith, put, len, cond-true (has_entry old (target_at entries i)) (length old) (length old + 1) there, added_no start entries i lt (sym (has i (omega arith) lt) ∙ there))
  | inr none ↦ omega (arith, put, len, cond-false (has_entry old (target_at entries i)) (length old) (length old + 1) none, added_yes start entries i lt (sym (has i (omega arith) lt) ∙ none))
]

pub on_disk_at : (header size : ℕ) (entries : List Entry) (k : ℕ) → IsOnDisk header size entries → k < length entries → (log_end header ≤ target_at entries k) × (target_at entries k < size)
on_disk_at header size entries k on_disk lt =
    let fits = on_disk k 0 (omega (arith, lt, length-targets entries)) in
    let same = target_is entries k lt in
    (omega (arith, fits.0, same), omega (arith, fits.1, same))

-- ---- a batch that has taken the first i entries
pub record HasTaken (start now entries : List Entry) (i : ℕ) : Type 0 where
  pub has : HasAsBefore start now entries i
  pub len : length now ≡ length start + added_among start entries i
  pub map : (f : SectorMap) (n : ℕ) → with_batch now f n ≡ with_batch (take i entries) (with_batch start f) n
  pub on_disk : (header size : ℕ) → IsOnDisk header size start → IsOnDisk header size entries → IsOnDisk header size now

pub taken_more : (start old new entries : List Entry) (i : ℕ) → IsBatch entries → i < length entries → HasTaken start old entries i → new ≡ put_entry old (target_at entries i) (content_at entries i) → HasTaken start new entries (i + 1)
taken_more start old new entries i is lt so_far put =
    let n = target_at entries i in
    let content = content_at entries i in
    record {
      has = has_more start old new entries i content is so_far.has put;
      len = length_more start old new entries i lt so_far.has so_far.len (ap length put ∙ length-put old n content);
      map = map_more old new start entries i is lt put so_far.map;
      on_disk = λ header size first others.
          let at = on_disk_at header size entries i others lt in
          subst (IsOnDisk header size) (sym put) (on_disk_put header size old n content at.0 at.1 (so_far.on_disk header size first others));
    }

-- nothing is taken yet,
pub none_taken : (start entries : List Entry) → HasTaken start start entries 0
none_taken start entries = record { has = λ j le lt. refl; len = omega arith; map = λ f n. refl; on_disk = λ header size first others. first }

-- and all entries at the end
pub added_all : (start entries : List Entry) (i : ℕ) → i ≡ length entries → added_among start entries i ≡ added start entries
added_all start entries i all = ap (count_by (λ n. not (has_entry start n))) (take_all i (targets entries) (omega (arith, all, length-targets entries)))

pub map_all : (entries : List Entry) (i : ℕ) → i ≡ length entries → (f : SectorMap) (n : ℕ) → with_batch (take i entries) f n ≡ with_batch entries f n
map_all entries i all f n = ap (λ (l : List Entry). with_batch l f n) (take_all i entries (omega (arith, all)))

-- a sector that is added has room
pub room_left : (start old entries : List Entry) (i most : ℕ) → i < length entries → HasTaken start old entries i → length start + added start entries ≤ most → has_entry old (target_at entries i) ≡ false → length old < most
room_left start old entries i most lt so_far room none =
    omega (arith, so_far.len, room, added_yes start entries i lt (sym (so_far.has i (omega arith) lt) ∙ none), added_below start entries (i + 1))
