-- Two batches that take the sectors of a third.
use Rattle.std.proofs.Common.{◌≡◌, inl, inr, ℕ, zero, suc, ◌+◌, ◌≤◌, ◌<◌, true, false, cond, List, [], ◌∷◌, length, get_or, take, eqb, arith, refl, sym, ◌∙◌, ap, subst, add-one}
use Rattle.std.proofs.lemmas.Bool.{cases_Bool, cases_eq, cond-true, cond-false, eq-eqb, eqb-true, ne_eqb, true≢false}
use Rattle.std.proofs.lemmas.List.Elements.{All-head, All-tail}
use Rattle.std.specs.Prelude.{All}
use Rattle.fs_layout.specs.Bytes.{SectorMap}
use Rattle.sector_disk.specs.Disk.{DiskState}
use Rattle.redo_journal.specs.Batch.{Entry, IsBatch, IsOnDisk, added, targets, target_at, content_at, has_entry, put_entry, with_batch}
use Rattle.redo_journal.specs.States.{IsNoTarget, StandsIn}
use Rattle.redo_journal.proofs.Absorbing.{HasAsBefore, added_among, added_below, added_no, added_yes, has_more, on_disk_at, with_more}
use Rattle.redo_journal.proofs.Entries.{targets_apart}
use Rattle.redo_journal.proofs.Meaning.{with_batch_same}
use Rattle.redo_journal.proofs.Puts.{all_put, length-put, on_disk_put, with_batch-put}

-- ---- which sectors have an entry
-- a map where a batch has no entry
absent : (entries : List Entry) (f : SectorMap) (n : ℕ) → has_entry entries n ≡ false → with_batch entries f n ≡ f n
absent [] f n none = refl
absent (e ∷ entries) f n none = elim (cases_Bool (eqb n e.0)) [
  | inl here ↦ absurd (true≢false (sym (cond-true (eqb n e.0) true (has_entry entries n) here) ∙ none))
  | inr there ↦ cond-false (eqb n e.0) e.1 (with_batch entries f n) there ∙ absent entries f n (sym (cond-false (eqb n e.0) true (has_entry entries n) there) ∙ none)
]

-- what holds of all sectors holds of one that has an entry
pub all_has : (P : ℕ → Type 0) (entries : List Entry) (n : ℕ) → All P (targets entries) → has_entry entries n ≡ true → P n
all_has P [] n all has = absurd (true≢false (sym has))
all_has P (e ∷ entries) n all has = elim (cases_Bool (eqb n e.0)) [
  | inl here ↦ subst P (sym (eqb-true n e.0 here)) (All-head P e.0 (targets entries) all)
  | inr there ↦ all_has P entries n (All-tail P e.0 (targets entries) all) (sym (cond-false (eqb n e.0) true (has_entry entries n) there) ∙ has)
]

-- a sector at a place has an entry
has_at : (entries : List Entry) (k n : ℕ) → k < length (targets entries) → get_or (targets entries) k n ≡ n → has_entry entries n ≡ true
has_at [] k n lt is = absurd (omega (arith, lt))
has_at (e ∷ entries) zero n lt is = cond-true (eqb n e.0) true (has_entry entries n) (eq-eqb n e.0 (sym is))
has_at (e ∷ entries) (suc k) n lt is = elim (cases_Bool (eqb n e.0)) [
  | inl here ↦ cond-true (eqb n e.0) true (has_entry entries n) here
  | inr there ↦ cond-false (eqb n e.0) true (has_entry entries n) there ∙ has_at entries k n (omega (arith, lt)) is
]

-- what the last commit has no entry for is no target of the one that stands
pub no_target : (disk : DiskState) (last : List Entry) (n : ℕ) → StandsIn (targets last) disk → has_entry last n ≡ false → IsNoTarget disk n
no_target disk last n stands none ts commit among =
    let here = stands ts n commit among in
    true≢false (sym (has_at last here.0 n here.1 here.2) ∙ none)

-- ---- the first i entries are in one of both
pub record HaveShared (P Q : ℕ → Type 0) (placed_first logged_first entries placed logged : List Entry) (i : ℕ) : Type 0 where
  pub map : (f : SectorMap) (n : ℕ) → with_batch logged (with_batch placed f) n ≡ with_batch (take i entries) (with_batch logged_first (with_batch placed_first f)) n
  pub has : HasAsBefore logged_first logged entries i
  pub first : All P (targets placed)
  pub second : All Q (targets placed)
  pub places : length placed ≤ length placed_first + i
  pub few : length logged ≤ length logged_first + added_among logged_first entries i
  pub on_disk : (header size : ℕ) → IsOnDisk header size placed_first → IsOnDisk header size logged_first → IsOnDisk header size entries → IsOnDisk header size placed × IsOnDisk header size logged

pub none_shared : (P Q : ℕ → Type 0) (placed logged entries : List Entry) → All P (targets placed) → All Q (targets placed) → HaveShared P Q placed logged entries placed logged 0
none_shared P Q placed logged entries first second = record {
  map = λ f n. refl;
  has = λ j le lt. refl;
  first = first;
  second = second;
  places = omega arith;
  few = omega arith;
  on_disk = λ header size in_place in_log others. (in_place, in_log);
}

-- a sector that is logged anew has room
pub room_shared : (P Q : ℕ → Type 0) (placed_first logged_first entries placed logged : List Entry) (i most : ℕ) → i < length entries → HaveShared P Q placed_first logged_first entries placed logged i
    → length logged_first + added logged_first entries ≤ most → has_entry logged (target_at entries i) ≡ false → length logged < most
room_shared P Q placed_first logged_first entries placed logged i most lt so_far room none =
    omega (arith, so_far.few, room, added_yes logged_first entries i lt (sym (so_far.has i (omega arith) lt) ∙ none), added_below logged_first entries (i + 1))

module _ (P Q : ℕ → Type 0) (placed_first logged_first entries placed logged new : List Entry) (i : ℕ) (is : IsBatch entries) (lt : i < length entries)
    (so_far : HaveShared P Q placed_first logged_first entries placed logged i) where
  more : (f : SectorMap) (n : ℕ) → cond (eqb n (target_at entries i)) (content_at entries i) (with_batch (take i entries) f n) ≡ with_batch (take (i + 1) entries) f n
  more f n =
      sym (with_more entries i f n lt (λ j low. targets_apart entries is.apart j i low lt)) ∙ ap (λ k. with_batch (take k entries) f n) (sym (add-one i))

  -- the next one is placed
  pub shared_placed : new ≡ put_entry placed (target_at entries i) (content_at entries i) → has_entry logged (target_at entries i) ≡ false → P (target_at entries i) → Q (target_at entries i)
      → HaveShared P Q placed_first logged_first entries new logged (i + 1)
  shared_placed put unlogged p q =
      let t = target_at entries i in
      let content = content_at entries i in
      let before = λ (f : SectorMap). with_batch logged_first (with_batch placed_first f) in
      let with_new : (f : SectorMap) (n : ℕ) → with_batch new f n ≡ cond (eqb n t) content (with_batch placed f n) =
      λ f n. ap (λ (l : List Entry). with_batch l f n) put ∙ with_batch-put placed t content f n in
      record {
        map = λ f n. elim (cases_eq n t) [
          | inl here ↦
              absent logged (with_batch new f) n (ap (has_entry logged) here ∙ unlogged)
              ∙ with_new f n ∙ cond-true (eqb n t) content (with_batch placed f n) (eq-eqb n t here)
              ∙ sym (cond-true (eqb n t) content (with_batch (take i entries) (before f) n) (eq-eqb n t here)) ∙ more (before f) n
          | inr there ↦
              with_batch_same logged (with_batch new f) (with_batch placed f) n (with_new f n ∙ cond-false (eqb n t) content (with_batch placed f n) (ne_eqb n t there))
              ∙ so_far.map f n ∙ sym (cond-false (eqb n t) content (with_batch (take i entries) (before f) n) (ne_eqb n t there)) ∙ more (before f) n
        ];
        has = λ j le below. so_far.has j (omega (arith, le)) below;
        first = subst (λ (l : List Entry). All P (targets l)) (sym put) (all_put P placed t content so_far.first p);
        second = subst (λ (l : List Entry). All Q (targets l)) (sym put) (all_put Q placed t content so_far.second q);
        places = elim (cases_Bool (has_entry placed t)) [
          | inl there ↦ omega (arith, so_far.places, ap length put, length-put placed t content, cond-true (has_entry placed t) (length placed) (length placed + 1) there)
          | inr none ↦ omega (arith, so_far.places, ap length put, length-put placed t content, cond-false (has_entry placed t) (length placed) (length placed + 1) none)
        ];
        few = omega (arith, so_far.few, added_yes logged_first entries i lt (sym (so_far.has i (omega arith) lt) ∙ unlogged));
        on_disk = λ header size in_place in_log others.
            let at = on_disk_at header size entries i others lt in
            let both = so_far.on_disk header size in_place in_log others in
            (subst (IsOnDisk header size) (sym put) (on_disk_put header size placed t content at.0 at.1 both.0), both.1);
      }

  -- the next one is logged
  pub shared_logged : new ≡ put_entry logged (target_at entries i) (content_at entries i) → HaveShared P Q placed_first logged_first entries placed new (i + 1)
  shared_logged put =
      let t = target_at entries i in
      let content = content_at entries i in
      let before = λ (f : SectorMap). with_batch logged_first (with_batch placed_first f) in
      record {
        map = λ f n.
            ap (λ (l : List Entry). with_batch l (with_batch placed f) n) put ∙ with_batch-put logged t content (with_batch placed f) n
            ∙ ap (λ (l : List ℕ). cond (eqb n t) content l) (so_far.map f n) ∙ more (before f) n;
        has = has_more logged_first logged new entries i content is so_far.has put;
        first = so_far.first;
        second = so_far.second;
        places = omega (arith, so_far.places);
        few = elim (cases_Bool (has_entry logged t)) [
          | inl there ↦
              omega (arith, so_far.few, ap length put, length-put logged t content, cond-true (has_entry logged t) (length logged) (length logged + 1) there, added_no logged_first entries i lt (sym (so_far.has i (omega arith) lt) ∙ there))
          | inr none ↦
              omega (arith, so_far.few, ap length put, length-put logged t content, cond-false (has_entry logged t) (length logged) (length logged + 1) none, added_yes logged_first entries i lt (sym (so_far.has i (omega arith) lt) ∙ none))
        ];
        on_disk = λ header size in_place in_log others.
            let at = on_disk_at header size entries i others lt in
            let both = so_far.on_disk header size in_place in_log others in
            (both.0, subst (IsOnDisk header size) (sym put) (on_disk_put header size logged t content at.0 at.1 both.1));
      }
