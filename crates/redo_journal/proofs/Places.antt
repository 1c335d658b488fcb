-- A batch by its parts: sectors, and beside each its content.
use Rattle.std.proofs.Common.{◌≡◌, ℕ, zero, suc, ◌+◌, ◌≤◌, ◌<◌, ◌↔◌, ◌||◌, Bool, true, false, not, cond, List, [], ◌∷◌, ◌++◌, length, take, get_or, set, eqb, arith, length-append, refl, sym, ◌∙◌, ap, subst, inl, inr}
use Rattle.std.proofs.lemmas.Bool.{cases_Bool, cond_both, cond-true, cond-false, eqb-true, true≢false}
use Rattle.std.proofs.lemmas.List.{nil_from_length}
use Rattle.std.proofs.lemmas.List.Sums.{prefix_len-le-length}
use Rattle.std.specs.List.{zip, list_any, position_or_len}
use Rattle.indexmap.specs.IndexSet.{insert_key}
use Rattle.fs_layout.specs.Bytes.{SectorMap}
use Rattle.redo_journal.specs.Batch.{Entry, targets, contents, has_entry, put_entry, with_batch, with_content, HasPlaces, IsBatch}
use Rattle.redo_journal.proofs.Puts.{batch_put}

-- ---- the entries
pub length_entries : (ns : List ℕ) (bytes : List (List ℕ)) → length ns ≤ length bytes → length (zip ns bytes) ≡ length ns
length_entries [] bytes le = refl
length_entries (m ∷ ns) [] le = absurd (omega arith)
length_entries (m ∷ ns) (b ∷ bytes) le = ap suc (length_entries ns bytes (omega arith))

pub targets_entries : (ns : List ℕ) (bytes : List (List ℕ)) → length ns ≤ length bytes → targets (zip ns bytes) ≡ ns
targets_entries [] bytes le = refl
targets_entries (m ∷ ns) [] le = absurd (omega arith)
targets_entries (m ∷ ns) (b ∷ bytes) le = ap (λ (l : List ℕ). m ∷ l) (targets_entries ns bytes (omega arith))

pub contents_entries : (ns : List ℕ) (bytes : List (List ℕ)) → length ns ≤ length bytes → contents (zip ns bytes) ≡ take (length ns) bytes
contents_entries [] bytes le = refl
contents_entries (m ∷ ns) [] le = absurd (omega arith)
contents_entries (m ∷ ns) (b ∷ bytes) le = ap (λ (l : List (List ℕ)). b ∷ l) (contents_entries ns bytes (omega arith))

pub none_at_all : (ns : List ℕ) (bytes : List (List ℕ)) → length ns ≤ length bytes → (length ns ≡ 0) ↔ (zip ns bytes ≡ [])
none_at_all ns bytes le = (λ none. nil_from_length (zip ns bytes) (length_entries ns bytes le ∙ none), λ none. sym (length_entries ns bytes le) ∙ ap length none)

-- ---- what a look-up finds
pub has_is : (ns : List ℕ) (bytes : List (List ℕ)) (n : ℕ) → length ns ≤ length bytes → list_any (eqb n) ns ≡ has_entry (zip ns bytes) n
has_is [] bytes n le = refl
has_is (m ∷ ns) [] n le = absurd (omega arith)
has_is (m ∷ ns) (b ∷ bytes) n le = elim (cases_Bool (eqb n m)) [
  | inl here ↦ ap (λ (r : Bool). r || list_any (eqb n) ns) here ∙ sym (cond-true (eqb n m) true (has_entry (zip ns bytes) n) here)
  | inr other ↦ ap (λ (r : Bool). r || list_any (eqb n) ns) other ∙ has_is ns bytes n (omega arith) ∙ sym (cond-false (eqb n m) true (has_entry (zip ns bytes) n) other)
]

pub with_batch_at : (ns : List ℕ) (bytes : List (List ℕ)) (n at : ℕ) (d : List ℕ) (f : SectorMap) → length ns ≤ length bytes
    → (at < length ns) × (eqb n (get_or ns at 0) ≡ true) × ((k : ℕ) → k < at → eqb n (get_or ns k 0) ≡ false) → with_batch (zip ns bytes) f n ≡ get_or bytes at d
with_batch_at [] bytes n at d f le place = absurd (omega (arith, place.0))
with_batch_at (m ∷ ns) [] n at d f le place = absurd (omega arith)
with_batch_at (m ∷ ns) (b ∷ bytes) n zero d f le place = cond-true (eqb n m) b (with_batch (zip ns bytes) f n) place.1
with_batch_at (m ∷ ns) (b ∷ bytes) n (suc at) d f le place =
    cond-false (eqb n m) b (with_batch (zip ns bytes) f n) (place.2 0 (omega arith))
    ∙ with_batch_at ns bytes n at d f (omega arith) (omega (arith, place.0), place.1, λ k lt. place.2 (suc k) (omega (arith, lt)))

pub with_batch_none : (entries : List Entry) (n : ℕ) (f : SectorMap) → has_entry entries n ≡ false → with_batch entries f n ≡ f n
with_batch_none [] n f none = refl
with_batch_none (e ∷ entries) n f none = elim (cases_Bool (eqb n e.0)) [
  | inl here ↦ absurd (true≢false (sym (cond-true (eqb n e.0) true (has_entry entries n) here) ∙ none))
  | inr other ↦ cond-false (eqb n e.0) e.1 (with_batch entries f n) other ∙ with_batch_none entries n f (sym (cond-false (eqb n e.0) true (has_entry entries n) other) ∙ none)
]

-- ---- a content at a sector's place
cons_if : (q : Bool) (m : ℕ) (left right : List ℕ) → cond q (m ∷ left) (m ∷ right) ≡ m ∷ cond q left right
cons_if true m left right = refl
cons_if false m left right = refl

pub put_at_place : (ns : List ℕ) (bytes : List (List ℕ)) (n : ℕ) (content : List ℕ) → length ns ≤ length bytes
    → zip (insert_key eqb ns n) (with_content bytes (position_or_len (eqb n) ns) content) ≡ put_entry (zip ns bytes) n content
put_at_place [] [] n content le = refl
put_at_place [] (b ∷ bytes) n content le = refl
put_at_place (m ∷ ns) [] n content le = absurd (omega arith)
put_at_place (m ∷ ns) (b ∷ bytes) n content le =
    let rest = position_or_len (eqb n) ns in
    let by = λ (q : Bool). zip (cond (q || list_any (eqb n) ns) (m ∷ ns) (m ∷ ns ++ n ∷ [])) (with_content (b ∷ bytes) (cond (not q) (1 + rest) 0) content) in
    let put = put_entry (zip ns bytes) n content in
    elim (cases_Bool (eqb n m)) [
      | inl here ↦
          ap by here
          ∙ ap (λ (k : ℕ). (k, content) ∷ zip ns bytes) (sym (eqb-true n m here))
          ∙ sym (cond-true (eqb n m) ((n, content) ∷ zip ns bytes) ((m, b) ∷ put) here)
      | inr other ↦
          let next : 1 + rest ≡ suc rest = omega arith in
          ap by other
          ∙ (λ j. zip (cons_if (list_any (eqb n) ns) m ns (ns ++ n ∷ []) j) (with_content (b ∷ bytes) (next j) content))
          ∙ ap (λ (l : List Entry). (m, b) ∷ l) (put_at_place ns bytes n content (omega arith))
          ∙ sym (cond-false (eqb n m) ((n, content) ∷ zip ns bytes) ((m, b) ∷ put) other)
    ]

-- among the contents, and behind them
pub with_content_at : (bytes : List (List ℕ)) (at : ℕ) (content : List ℕ) → at < length bytes → set bytes at content ≡ with_content bytes at content
with_content_at [] at content lt = absurd (omega (arith, lt))
with_content_at (b ∷ bytes) zero content lt = refl
with_content_at (b ∷ bytes) (suc at) content lt = ap (λ (l : List (List ℕ)). b ∷ l) (with_content_at bytes at content (omega (arith, lt)))

pub with_content_end : (bytes : List (List ℕ)) (at : ℕ) (content : List ℕ) → at ≡ length bytes → bytes ++ content ∷ [] ≡ with_content bytes at content
with_content_end [] at content is = refl
with_content_end (b ∷ bytes) zero content is = absurd (omega (arith, is))
with_content_end (b ∷ bytes) (suc at) content is = ap (λ (l : List (List ℕ)). b ∷ l) (with_content_end bytes at content (omega (arith, is)))

-- each sector has a content then
fits_after : (ns : List ℕ) (bytes : List (List ℕ)) (n : ℕ) (content : List ℕ) → length ns ≤ length bytes → length (insert_key eqb ns n) ≤ length (with_content bytes (position_or_len (eqb n) ns) content)
fits_after [] [] n content le = omega arith
fits_after [] (b ∷ bytes) n content le = omega arith
fits_after (m ∷ ns) [] n content le = absurd (omega arith)
fits_after (m ∷ ns) (b ∷ bytes) n content le =
    let rest = position_or_len (eqb n) ns in
    let Fits = λ (q : Bool). length (cond (q || list_any (eqb n) ns) (m ∷ ns) (m ∷ ns ++ n ∷ [])) ≤ length (with_content (b ∷ bytes) (cond (not q) (1 + rest) 0) content) in
    elim (cases_Bool (eqb n m)) [
      | inl here ↦ subst Fits (sym here) (omega (arith, le))
      | inr other ↦
          let next : suc rest ≡ 1 + rest = omega arith in
          let more = fits_after ns bytes n content (omega arith) in
          subst Fits (sym other)
          (subst (λ (k : ℕ). length (cond (list_any (eqb n) ns) (m ∷ ns) (m ∷ ns ++ n ∷ [])) ≤ length (with_content (b ∷ bytes) k content)) next
          (subst (λ (l : List ℕ). length l ≤ suc (length (with_content bytes rest content))) (sym (cons_if (list_any (eqb n) ns) m ns (ns ++ n ∷ []))) (omega (arith, more))))
    ]

-- ---- the parts after a put
module _ (most : ℕ) (ns : List ℕ) (bytes : List (List ℕ)) (spare capacity n : ℕ) (entries : List Entry)
    (is : HasPlaces most ns bytes spare capacity) (same : zip ns bytes ≡ entries) (room : has_entry entries n ≡ false → length entries < most) where
  few_before : list_any (eqb n) ns ≡ false → length ns < most
  few_before none =
      let has : has_entry entries n ≡ false = ap (λ (es : List Entry). has_entry es n) (sym same) ∙ sym (has_is ns bytes n is.all) ∙ none in
      omega (arith, room has, ap length same, length_entries ns bytes is.all)

  -- a new sector finds room
  pub room_by_parts : list_any (eqb n) ns ≡ false → 0 < spare
  room_by_parts none = omega (arith, is.room, few_before none)

  -- the new parts
  module _ (new : List ℕ) (keys : new ≡ insert_key eqb ns n) where
    few_after : length new ≤ most
    few_after =
        subst (λ (l : List ℕ). length l ≤ most) (sym keys)
        (cond_both (list_any (eqb n) ns) ns (ns ++ n ∷ []) (λ l. length l ≤ most) (λ _. is.few) (λ none. omega (arith, few_before none, length-append ns (n ∷ []))))

    module _ (at : ℕ) (place : at ≡ position_or_len (eqb n) ns) where
      pub within_contents : at ≤ length bytes
      within_contents = omega (arith, place, prefix_len-le-length (λ m. not (eqb n m)) ns, is.all)

      pub room_for_content : at < length new → at < capacity
      room_for_content lt = omega (arith, lt, few_after, is.reserved)

      module _ (content : List ℕ) where
        pub put_by_parts : zip new (with_content bytes at content) ≡ put_entry entries n content
        put_by_parts =
            (λ j. zip (keys j) (with_content bytes (place j) content))
            ∙ put_at_place ns bytes n content is.all
            ∙ ap (λ (es : List Entry). put_entry es n content) same

        pub places_put : (left held : ℕ) → 128 ≤ n → length ns + spare ≤ length new + left → capacity ≤ held → HasPlaces most new (with_content bytes at content) left held
        places_put left held high keeps reserved = record {
          batch = subst IsBatch (sym put_by_parts) (batch_put entries n content (subst IsBatch same is.batch) high (λ none. omega (arith, room none, is.limit)));
          few = few_after;
          all = subst (λ (l : List ℕ). length l ≤ length (with_content bytes at content)) (sym keys)
              (subst (λ (k : ℕ). length (insert_key eqb ns n) ≤ length (with_content bytes k content)) (sym place) (fits_after ns bytes n content is.all));
          limit = is.limit;
          room = omega (arith, keeps, is.room);
          reserved = omega (arith, reserved, is.reserved);
        }
