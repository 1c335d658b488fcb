-- The sectors of a batch's entries, and their contents.
use Rattle.std.proofs.Common.{◌≡◌, ℕ, ◌<◌, ◌≤◌, Bor, Iter, List, [], length, get_or, arith, sym, ◌∙◌, ap}
use Rattle.std.proofs.iter.Yields.{fronts}
use Rattle.std.proofs.lemmas.Iterator.{zips}
use Rattle.std.proofs.lemmas.List.{get_or-map, length-map}
use Rattle.std.proofs.lemmas.Slice.Zip.{zip_end, zip_turn}
use Rattle.std.specs.Iterator.{Yields}
use Rattle.std.specs.Iterator.Adapters.{zip_first, zip_second}
use Rattle.std.specs.Prelude.{Option, Some, None}
use Rattle.std.specs.Slice.Iter.{iter_rest}
use Rattle.std.specs.declared.iter.Zip.{Zip}
use Rattle.fs_layout.specs.Commit.{AreDistinct, AreTargets}
use Rattle.fs_layout.specs.Header.{log_end}
use Rattle.fs_layout.specs.declared.header.TheConstants.{LEAST_LOG_END}
use Rattle.fs_layout.proofs.RecoveryLaw.{contains_at}
use Rattle.redo_journal.specs.Batch.{Entry, IsBatch, targets, contents, target_at, content_at}
use Rattle.redo_journal.specs.States.{InTargets}

pub length-targets : (entries : List Entry) → length (targets entries) ≡ length entries
length-targets entries = length-map entries (λ e. e.0)

pub target_is : (entries : List Entry) (k : ℕ) → k < length entries → get_or (targets entries) k 0 ≡ target_at entries k
target_is entries k lt = get_or-map (λ (e : Entry). e.0) entries k (0, []) 0 lt

pub length-contents : (entries : List Entry) → length (contents entries) ≡ length entries
length-contents entries = length-map entries (λ e. e.1)

pub content_is : (entries : List Entry) (k : ℕ) → k < length entries → get_or (contents entries) k [] ≡ content_at entries k
content_is entries k lt = get_or-map (λ (e : Entry). e.1) entries k (0, []) [] lt

-- ---- a loop over a batch's sectors beside its contents, which has gone over xs
module _ {both s : Zip (Iter ℕ) (Iter (List ℕ))} {of_ns : Iter ℕ} {ns : List ℕ} (entries : List Entry) (bytes : List (List ℕ)) (xs : List (Bor ℕ × Bor (List ℕ))) (t u : Zip (Iter ℕ) (Iter (List ℕ))) (r : Option (Bor ℕ × Bor (List ℕ)))
    (from : s ≡ both) (left : zip_first both ≡ of_ns) (first : iter_rest of_ns ≡ ns) (of_sectors : ns ≡ targets entries) (second : iter_rest (zip_second both) ≡ bytes) (of_contents : bytes ≡ contents entries)
    (gone : Yields (zips fronts fronts) s xs t) (next : zips fronts fronts t r u) where
  sectors_left : iter_rest (zip_first s) ≡ targets entries
  sectors_left = ap (λ (z : Zip (Iter ℕ) (Iter (List ℕ))). iter_rest (zip_first z)) from ∙ ap iter_rest left ∙ first ∙ of_sectors

  contents_left : iter_rest (zip_second s) ≡ contents entries
  contents_left = ap (λ (z : Zip (Iter ℕ) (Iter (List ℕ))). iter_rest (zip_second z)) from ∙ second ∙ of_contents

  -- the entry of a turn
  pub entry_turn : (p : Bor ℕ × Bor (List ℕ)) → r ≡ Some p → (length xs < length entries) × (p.0.now ≡ target_at entries (length xs)) × (p.1.now ≡ content_at entries (length xs))
  entry_turn p is =
      let turn = zip_turn (targets entries) (contents entries) xs s t u r sectors_left contents_left gone p is next in
      let lt : length xs < length entries = omega (arith, turn.0, length-targets entries) in
      (lt, turn.2 0 ∙ target_is entries (length xs) lt, turn.3 [] ∙ content_is entries (length xs) lt)

  -- there was a turn for each
  pub entry_end : r ≡ None → length xs ≡ length entries
  entry_end is =
      let ended = zip_end (targets entries) (contents entries) xs s t u r sectors_left contents_left gone is next in
      omega (arith, ended, length-targets entries, length-contents entries)

-- ---- numbers that stand apart
pub apart_at : (ns : List ℕ) → AreDistinct ns → (i j : ℕ) → i < j → j < length ns → get_or ns i 0 ≡ get_or ns j 0 → ⊥
apart_at ns apart i j lt fits same = apart i j 0 lt fits same

pub targets_apart : (entries : List Entry) → AreDistinct (targets entries) → (i j : ℕ) → i < j → j < length entries → target_at entries i ≡ target_at entries j → ⊥
targets_apart entries apart i j lt fits same =
    apart_at (targets entries) apart i j lt (omega (arith, fits, length-targets entries))
    (target_is entries i (omega (arith, lt, fits)) ∙ same ∙ sym (target_is entries j fits))

-- ---- targets on a disk
pub high_at : (entries : List Entry) → IsBatch entries → (k : ℕ) → k < length entries → LEAST_LOG_END ≤ target_at entries k
high_at entries is k lt =
    let high = is.high k 0 (omega (arith, lt, length-targets entries)) in
    omega (arith, high, target_is entries k lt)

pub range_at : (header size : ℕ) (ns : List ℕ) → AreTargets header size ns → (k : ℕ) → k < length ns → (log_end header ≤ get_or ns k 0) × (get_or ns k 0 < size)
range_at header size ns valid k lt = valid.in_range k 0 lt

pub in_at : (ns : List ℕ) (k n : ℕ) (content : List ℕ) → k < length ns → n ≡ get_or ns k 0 → InTargets ns n content
in_at ns k n content lt is = contains_at ns k n lt (sym is)

pub in_targets : (entries : List Entry) (k n : ℕ) (content : List ℕ) → k < length entries → n ≡ target_at entries k → InTargets (targets entries) n content
in_targets entries k n content lt is = in_at (targets entries) k n content (omega (arith, lt, length-targets entries)) (is ∙ sym (target_is entries k lt))
