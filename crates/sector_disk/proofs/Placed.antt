-- Sectors that are kept by places: what a change of the places and the contents shows.
use Rattle.std.proofs.Common.{◌≡◌, ◌≢◌, ◌⊎◌, inl, inr, ⊎_elim, ℕ, ◌+◌, ◌-◌, ◌<◌, ◌≤◌, List, [], ◌∷◌, ◌++◌, length, take, drop, refl, sym, ◌∙◌, ap, subst, arith, slice_set, get_or, replicate, length-set, length-append, length-take, length-drop, get_or-set_other}
use Rattle.std.proofs.lemmas.Bool.{cases_eq, cases_lt}
use Rattle.std.proofs.lemmas.Grind.{get_or-set_at, get_or_default_zero}
use Rattle.std.proofs.lemmas.List.{get_or_past, get_or_default, ext_get_or, get_or-take, get_or-drop, get_or_append_left, get_or-append_right, get_or-map, get_or-replicate, length-map, length-replicate}
use Rattle.std.proofs.Math.Seq.{take-append_seam}
use Rattle.std.specs.Prelude.{Result, slice_range, Bool, true, false, not, if◌then◌else◌}
use Rattle.std.specs.Result.{is_ok}
use Rattle.sector_disk.specs.Disk.{Image, sector, IsWholeSector}
use Rattle.sector_disk.specs.Whole.{AreSectors}
use Rattle.sector_disk.specs.Places.{sectors_at, KeptSectors, OwnsPlace, IsKept, IsOut, IsRunSet}
use Rattle.sector_disk.specs.Numbers.{IsRow}

pub sector_shown : (contents : Image) (places : List ℕ) (n : ℕ) → n < length places → sector (sectors_at contents places) n ≡ sector contents (get_or places n 0)
sector_shown contents places n below = get_or-map (sector contents) places n 0 [] below

-- what two that are the same show
pub shown_is : {some other : KeptSectors} → some ≡ other → some.shown ≡ other.shown
shown_is same = ap (λ (sectors : KeptSectors). sectors.shown) same

pub places_are : {some other : KeptSectors} → some ≡ other → some.places ≡ other.places
places_are same = ap (λ (sectors : KeptSectors). sectors.places) same

-- of the places before, which a contract sees
pub keeps_in : {shown : Image} {places : List ℕ} {sectors : KeptSectors} (later : List ℕ) → record { shown = shown; places = places } ≡ sectors → (n : ℕ)
    → ((k : ℕ) → k ≢ n → get_or places k 0 ≢ 0 → get_or later k 0 ≢ 0) → (k : ℕ) → k ≢ n → OwnsPlace sectors k → get_or later k 0 ≢ 0
keeps_in later is n keeps k other some = keeps k other (λ none. some (ap (λ (s : KeptSectors). get_or s.places k 0) (sym is) ∙ none))

pub keeps_all : {shown : Image} {places : List ℕ} {sectors : KeptSectors} (later : List ℕ) → record { shown = shown; places = places } ≡ sectors
    → ((k : ℕ) → get_or places k 0 ≢ 0 → get_or later k 0 ≢ 0) → (k : ℕ) → OwnsPlace sectors k → get_or later k 0 ≢ 0
keeps_all later is keeps k some = keeps k (λ none. some (ap (λ (s : KeptSectors). get_or s.places k 0) (sym is) ∙ none))

-- one sector shows another content
pub shown_set : (contents contents' : Image) (places places' : List ℕ) (n : ℕ) (content : List ℕ) → n < length places → length places' ≡ length places
    → sector contents' (get_or places' n 0) ≡ content
    → ((i : ℕ) → i < length places → i ≢ n → sector contents' (get_or places' i 0) ≡ sector contents (get_or places i 0))
    → sectors_at contents' places' ≡ slice_set (sectors_at contents places) n content
shown_set contents contents' places places' n content below size here others =
    ext_get_or [] (sectors_at contents' places') (slice_set (sectors_at contents places) n content) (length-map places' (sector contents') ∙ size ∙ sym (length-set (sectors_at contents places) n content ∙ length-map places (sector contents))) each
  where
    each : (i : ℕ) → i < length (sectors_at contents' places') → sector (sectors_at contents' places') i ≡ sector (slice_set (sectors_at contents places) n content) i
    each i fits =
        let new : i < length places' = omega (arith, fits, length-map places' (sector contents')) in
        let old : i < length places = omega (arith, new, size) in
        sector_shown contents' places' i new
        ∙ elim (cases_eq i n) [
          | inl same ↦
              ap (λ k. sector contents' (get_or places' k 0)) same ∙ here
              ∙ sym (get_or-set_at (sectors_at contents places) n i content [] same (omega (arith, below, length-map places (sector contents))))
          | inr other ↦ others i old other ∙ sym (get_or-set_other (sectors_at contents places) n i content [] other ∙ sector_shown contents places i old)
        ]

-- ---- one content less
-- the last element stands in the place of another, which is gone
pub record IsRemoved {X : Type 0} (at : ℕ) (old new : List X) : Type 0 where
  pub len : length new + 1 ≡ length old
  pub moved : (d : X) → at + 1 < length old → get_or new at d ≡ get_or old (length old - 1) d
  pub rest : (k : ℕ) (d : X) → k ≢ at → k + 1 < length old → get_or new k d ≡ get_or old k d

pub removed : {X : Type 0} (at was is : ℕ) (old new : List X) → was ≡ length old → is ≡ length new → is + 1 ≡ was
    → (((d : X) → at + 1 < was → get_or new at d ≡ get_or old (was - 1) d) × ((k : ℕ) (d : X) → k ≢ at → k + 1 < was → get_or new k d ≡ get_or old k d))
    → IsRemoved at old new
removed at was is old new old_len new_len len each = record {
  len = omega (arith, old_len, new_len, len);
  moved = λ d fits. each.0 d (omega (arith, fits, old_len)) ∙ ap (λ n. get_or old (n - 1) d) old_len;
  rest = λ k d other fits. each.1 k d other (omega (arith, fits, old_len));
}

-- The place `at` of sector n is free, and the last content, if that's another, stands there.
pub record IsCleared (n at last : ℕ) (old new : List ℕ) : Type 0 where
  pub size : length new ≡ length old
  pub here : get_or new n 0 ≡ 0
  pub others : (i : ℕ) → i < length old → i ≢ n
      → ((get_or old i 0 ≡ last) × (get_or new i 0 ≡ at) × (at < last)) ⊎ ((get_or old i 0 ≢ last) × (get_or new i 0 ≡ get_or old i 0))

-- no two sectors have a place
apart : (places : List ℕ) (contents : Image) (owners : List ℕ) (i n : ℕ) → IsKept places contents owners → i < length places → n < length places → get_or places n 0 ≢ 0
    → get_or places i 0 ≡ get_or places n 0 → i ≡ n
apart places contents owners i n kept below fits used same =
    sym (kept.owned i below (λ none. used (sym same ∙ none))) ∙ ap (λ k. get_or owners k 0) same ∙ kept.owned n fits used

pub cleared_last : (places : List ℕ) (contents : Image) (owners : List ℕ) (n at last : ℕ) → IsKept places contents owners → n < length places → at ≡ get_or places n 0 → at ≢ 0
    → at ≡ last → IsCleared n at last places (slice_set places n 0)
cleared_last places contents owners n at last kept below is used all = record {
  size = length-set places n 0;
  here = get_or-set_at places n n 0 0 refl below;
  others = λ i fits other. inr (
    (λ same. other (apart places contents owners i n kept fits below (λ none. used (is ∙ none)) (same ∙ sym all ∙ is))),
    get_or-set_other places n i 0 0 other,
  );
}

pub cleared_moved : (places : List ℕ) (contents : Image) (owners : List ℕ) (n at last moved : ℕ) → IsKept places contents owners → n < length places → at ≡ get_or places n 0 → at ≢ 0
    → last + 1 ≡ length contents → at < last → moved ≡ get_or owners last 0 → IsCleared n at last places (slice_set (slice_set places n 0) moved at)
cleared_moved places contents owners n at last moved kept below is used len early owner = record {
  size = length-set (slice_set places n 0) moved at ∙ length-set places n 0;
  here = get_or-set_other (slice_set places n 0) moved n at 0 (λ same. other_place (sym same)) ∙ get_or-set_at places n n 0 0 refl below;
  others = λ i fits other. elim (cases_eq i moved) [
    | inl same ↦ inl (ap (λ k. get_or places k 0) same ∙ stands, get_or-set_at (slice_set places n 0) moved i at 0 same (omega (arith, fits, same, length-set places n 0)), early)
    | inr apart ↦ inr (
      (λ last_is. apart (sym (kept.owned i fits (λ none. let zero = sym last_is ∙ none in omega (arith, zero, early))) ∙ ap (λ k. get_or owners k 0) last_is ∙ sym owner)),
      get_or-set_other (slice_set places n 0) moved i at 0 apart ∙ get_or-set_other places n i 0 0 other,
    )
  ];
}
  where
    stands : get_or places moved 0 ≡ last
    stands = ap (λ k. get_or places k 0) owner ∙ kept.owns last (omega (arith, len)) (omega (arith, early))

    other_place : moved ≢ n
    other_place same = let there = sym stands ∙ ap (λ k. get_or places k 0) same ∙ sym is in omega (arith, there, early)

pub cleared_kept : (places places' : List ℕ) (contents contents' : Image) (owners owners' : List ℕ) (n at last : ℕ) → IsKept places contents owners → n < length places → at ≡ get_or places n 0
    → at ≢ 0 → last + 1 ≡ length contents → IsRemoved at contents contents' → IsRemoved at owners owners' → IsCleared n at last places places' → IsKept places' contents' owners'
cleared_kept places places' contents contents' owners owners' n at last kept below is used len content owner cleared = record {
  some = omega (arith, len, at_fits, used, content.len);
  len = omega (arith, content.len, owner.len, kept.len);
  whole = λ k fits. elim (cases_eq k at) [
    | inl here ↦ subst IsWholeSector (sym (content_moved k here (below_last k fits))) (kept.whole last (omega (arith, len)))
    | inr other ↦ subst IsWholeSector (sym (content_stays k other (below_last k fits))) (kept.whole k (omega (arith, len, below_last k fits)))
  ];
  zeros = content_stays 0 (λ none. used (sym none)) (omega (arith, at_fits, used, len)) ∙ kept.zeros;
  placed = λ i fits. elim (cases_eq i n) [
    | inl same ↦ let zero = ap (λ j. get_or places' j 0) same ∙ cleared.here in omega (arith, zero, len, at_fits, used, content.len)
    | inr other ↦
        let old : i < length places = omega (arith, fits, cleared.size) in
        let was = kept.placed i old in
        ⊎_elim (λ there. let now = there.1 in let early = there.2 in omega (arith, now, early, len, content.len))
        (λ stays. let now = stays.1 in let apart = stays.0 in omega (arith, now, apart, was, len, content.len)) (cleared.others i old other)
  ];
  owned = λ i fits some. elim (cases_eq i n) [
    | inl same ↦ absurd (some (ap (λ j. get_or places' j 0) same ∙ cleared.here))
    | inr other ↦
        let old : i < length places = omega (arith, fits, cleared.size) in
        ⊎_elim
        (λ there.
        ap (λ k. get_or owners' k 0) there.1 ∙ owner_moved at refl there.2 ∙ ap (λ k. get_or owners k 0) (sym there.0)
        ∙ kept.owned i old (λ none. let zero = sym there.0 ∙ none in let early = there.2 in omega (arith, zero, early)))
        (λ stays.
        let here = kept.placed i old in
        let apart = stays.0 in
        ap (λ k. get_or owners' k 0) stays.1
        ∙ owner_stays (get_or places i 0) (λ same. other (unique i old (same ∙ is))) (omega (arith, here, apart, len))
        ∙ kept.owned i old (λ none. some (stays.1 ∙ none)))
        (cleared.others i old other)
  ];
  owner = λ k fits other. elim (cases_eq k at) [
    | inl here ↦ let bound = kept.owner last (omega (arith, len)) (omega (arith, below_last k fits)) in omega (arith, bound, owner_moved k here (below_last k fits), cleared.size)
    | inr apart ↦ let bound = kept.owner k (omega (arith, len, below_last k fits)) other in omega (arith, bound, owner_stays k apart (below_last k fits), cleared.size)
  ];
  owns = λ k fits other. elim (cases_eq k at) [
    | inl here ↦
        let early = below_last k fits in
        let bound = kept.owner last (omega (arith, len)) (omega (arith, early)) in
        let was = kept.owns last (omega (arith, len)) (omega (arith, early)) in
        ap (λ i. get_or places' i 0) (owner_moved k here early)
        ∙ ⊎_elim (λ there. there.1 ∙ sym here) (λ stays. absurd (stays.0 was))
        (cleared.others (get_or owners last 0) bound (λ same. let there = sym was ∙ ap (λ i. get_or places i 0) same ∙ sym is in omega (arith, there, here, early)))
    | inr apart ↦
        let early = below_last k fits in
        let bound = kept.owner k (omega (arith, len, early)) other in
        let was = kept.owns k (omega (arith, len, early)) other in
        ap (λ i. get_or places' i 0) (owner_stays k apart early)
        ∙ ⊎_elim (λ there. let wrong = sym was ∙ there.0 in absurd (omega (arith, wrong, early))) (λ stays. stays.1 ∙ was)
        (cleared.others (get_or owners k 0) bound (λ same. apart (sym was ∙ ap (λ i. get_or places i 0) same ∙ sym is)))
  ];
}
  where
    at_fits : at < length contents
    at_fits = let fits = kept.placed n below in omega (arith, fits, is)

    below_last : (k : ℕ) → k < length contents' → k < last
    below_last k fits = omega (arith, fits, len, content.len)

    last_is : length contents - 1 ≡ last
    last_is = omega (arith, len)

    content_moved : (k : ℕ) → k ≡ at → k < last → sector contents' k ≡ sector contents last
    content_moved k here early =
        ap (λ j. sector contents' j) here ∙ content.moved [] (omega (arith, here, early, len)) ∙ ap (λ j. sector contents j) last_is

    content_stays : (k : ℕ) → k ≢ at → k < last → sector contents' k ≡ sector contents k
    content_stays k other early = content.rest k [] other (omega (arith, early, len))

    owner_moved : (k : ℕ) → k ≡ at → k < last → get_or owners' k 0 ≡ get_or owners last 0
    owner_moved k here early =
        ap (λ j. get_or owners' j 0) here ∙ owner.moved 0 (omega (arith, here, early, len, kept.len)) ∙ ap (λ j. get_or owners j 0) (let same : length owners - 1 ≡ last = omega (arith, len, kept.len) in same)

    owner_stays : (k : ℕ) → k ≢ at → k < last → get_or owners' k 0 ≡ get_or owners k 0
    owner_stays k other early = owner.rest k 0 other (omega (arith, early, len, kept.len))

    unique : (i : ℕ) → i < length places → get_or places i 0 ≡ get_or places n 0 → i ≡ n
    unique i fits same = apart places contents owners i n kept fits below (λ none. used (is ∙ none)) same

pub cleared_shown : (places places' : List ℕ) (contents contents' : Image) (owners : List ℕ) (n at last : ℕ) → IsKept places contents owners → n < length places → at ≡ get_or places n 0
    → at ≢ 0 → last + 1 ≡ length contents → IsRemoved at contents contents' → IsCleared n at last places places' → sectors_at contents' places' ≡ slice_set (sectors_at contents places) n (replicate 512 0)
cleared_shown places places' contents contents' owners n at last kept below is used len content cleared =
    shown_set contents contents' places places' n (replicate 512 0) below cleared.size
    (ap (λ k. sector contents' k) cleared.here ∙ content.rest 0 [] (λ none. used (sym none)) (let fits = kept.placed n below in omega (arith, fits, is, used, len)) ∙ kept.zeros)
    (λ i fits other.
    ⊎_elim
    (λ there.
    ap (λ k. sector contents' k) there.1 ∙ content.moved [] (let early = there.2 in omega (arith, early, len)) ∙ ap (λ k. sector contents k) (let same : length contents - 1 ≡ last = omega (arith, len) in same)
    ∙ ap (λ k. sector contents k) (sym there.0))
    (λ stays.
    let here = kept.placed i fits in
    let apart_from = stays.0 in
    ap (λ k. sector contents' k) stays.1
    ∙ content.rest (get_or places i 0) [] (λ same. other (apart places contents owners i n kept fits below (λ none. used (is ∙ none)) (same ∙ is))) (omega (arith, here, apart_from, len)))
    (cleared.others i fits other))

-- each other sector that had a place has one
cleared_keeps : (n at last : ℕ) (old new : List ℕ) (k : ℕ) → at ≢ 0 → IsCleared n at last old new → k ≢ n → get_or old k 0 ≢ 0 → get_or new k 0 ≢ 0
cleared_keeps n at last old new k used cleared other some = elim (cases_lt k (length old)) [
  | inl fits ↦
      ⊎_elim (λ moved. λ none. used (sym moved.1 ∙ none)) (λ (stays : (get_or old k 0 ≢ last) × (get_or new k 0 ≡ get_or old k 0)). λ none. some (sym stays.1 ∙ none))
      (cleared.others k fits other)
  | inr past ↦ absurd (some (get_or_past old k 0 past))
]

-- a sector of zeros has zeros already
pub zeros_stay : (places : List ℕ) (contents : Image) (owners : List ℕ) (n : ℕ) → IsKept places contents owners → n < length places → get_or places n 0 ≡ 0
    → sectors_at contents places ≡ slice_set (sectors_at contents places) n (replicate 512 0)
zeros_stay places contents owners n kept below none =
    shown_set contents contents places places n (replicate 512 0) below refl (ap (λ k. sector contents k) none ∙ kept.zeros) (λ i fits other. refl)

-- ---- a content in place of another, or one more
replaced_shown : (places : List ℕ) (contents : Image) (owners : List ℕ) (n at : ℕ) (content : List ℕ) → IsKept places contents owners → n < length places → at ≡ get_or places n 0 → at ≢ 0
    → sectors_at (slice_set contents at content) places ≡ slice_set (sectors_at contents places) n content
replaced_shown places contents owners n at content kept below is used =
    shown_set contents (slice_set contents at content) places places n content below refl
    (get_or-set_at contents at (get_or places n 0) content [] (sym is) (let fits = kept.placed n below in omega (arith, fits, is)))
    (λ i fits other. get_or-set_other contents at (get_or places i 0) content [] (λ same. other (apart places contents owners i n kept fits below (λ none. used (is ∙ none)) (same ∙ is))))

-- one that has a place gets another content
replaced_kept : (places : List ℕ) (contents : Image) (owners : List ℕ) (at : ℕ) (content : List ℕ) → IsKept places contents owners → at ≢ 0 → IsWholeSector content
    → IsKept places (slice_set contents at content) owners
replaced_kept places contents owners at content kept used whole = record {
  some = let some = kept.some in omega (arith, some, size);
  len = kept.len ∙ sym size;
  whole = λ k fits. elim (cases_eq k at) [
    | inl here ↦ subst IsWholeSector (sym (get_or-set_at contents at k content [] here (omega (arith, fits, size, here)))) whole
    | inr other ↦ subst IsWholeSector (sym (get_or-set_other contents at k content [] other)) (kept.whole k (omega (arith, fits, size)))
  ];
  zeros = get_or-set_other contents at 0 content [] (λ none. used (sym none)) ∙ kept.zeros;
  placed = λ n fits. let was = kept.placed n fits in omega (arith, was, size);
  owned = kept.owned;
  owner = λ k fits other. kept.owner k (omega (arith, fits, size)) other;
  owns = λ k fits other. kept.owns k (omega (arith, fits, size)) other;
}
  where
    size : length (slice_set contents at content) ≡ length contents
    size = length-set contents at content

-- each sector that had a place has one, and so has this
added_keeps : (places : List ℕ) (n at : ℕ) → n < length places → at ≢ 0 → (k : ℕ) → get_or places k 0 ≢ 0 → get_or (slice_set places n at) k 0 ≢ 0
added_keeps places n at below used k some = elim (cases_eq k n) [
  | inl same ↦ λ none. used (sym (get_or-set_at places n k at 0 same below) ∙ none)
  | inr other ↦ λ none. some (sym (get_or-set_other places n k at 0 other) ∙ none)
]

added_kept : (places : List ℕ) (contents : Image) (owners : List ℕ) (n at : ℕ) (content : List ℕ) → IsKept places contents owners → n < length places → get_or places n 0 ≡ 0
    → at ≡ length contents → IsWholeSector content → IsKept (slice_set places n at) (contents ++ content ∷ []) (owners ++ n ∷ [])
added_kept places contents owners n at content kept below none end whole = record {
  some = omega (arith, more);
  len = omega (arith, kept.len, more, length-append owners (n ∷ []));
  whole = λ k fits. elim (cases_lt k (length contents)) [
    | inl old ↦ subst IsWholeSector (sym (get_or_append_left contents (content ∷ []) [] k old)) (kept.whole k old)
    | inr new ↦ subst IsWholeSector (sym (last_content k (omega (arith, fits, new, more)))) whole
  ];
  zeros = get_or_append_left contents (content ∷ []) [] 0 kept.some ∙ kept.zeros;
  placed = λ i fits. elim (cases_eq i n) [
    | inl same ↦ omega (arith, get_or-set_at places n i at 0 same below, end, more)
    | inr other ↦ let was = kept.placed i (omega (arith, fits, length-set places n at)) in omega (arith, was, get_or-set_other places n i at 0 other, more)
  ];
  owned = λ i fits some. elim (cases_eq i n) [
    | inl same ↦ ap (λ k. get_or (owners ++ n ∷ []) k 0) (get_or-set_at places n i at 0 same below) ∙ last_owner at (end ∙ sym kept.len) ∙ sym same
    | inr other ↦
        let old : i < length places = omega (arith, fits, length-set places n at) in
        let was = kept.placed i old in
        let stays = get_or-set_other places n i at 0 other in
        ap (λ k. get_or (owners ++ n ∷ []) k 0) stays ∙ get_or_append_left owners (n ∷ []) 0 (get_or places i 0) (omega (arith, was, kept.len)) ∙ kept.owned i old (λ zero. some (stays ∙ zero))
  ];
  owner = λ k fits other. elim (cases_lt k (length contents)) [
    | inl old ↦ let bound = kept.owner k old other in omega (arith, bound, get_or_append_left owners (n ∷ []) 0 k (omega (arith, old, kept.len)), length-set places n at)
    | inr new ↦ omega (arith, below, last_owner k (omega (arith, fits, new, more, kept.len)), length-set places n at)
  ];
  owns = λ k fits other. elim (cases_lt k (length contents)) [
    | inl old ↦
        let was = kept.owns k old other in
        ap (λ i. get_or (slice_set places n at) i 0) (get_or_append_left owners (n ∷ []) 0 k (omega (arith, old, kept.len)))
        ∙ get_or-set_other places n (get_or owners k 0) at 0 (λ same. other (sym was ∙ ap (λ i. get_or places i 0) same ∙ none)) ∙ was
    | inr new ↦
        let here : k ≡ length contents = omega (arith, fits, new, more) in
        ap (λ i. get_or (slice_set places n at) i 0) (last_owner k (here ∙ sym kept.len)) ∙ get_or-set_at places n n at 0 refl below ∙ end ∙ sym here
  ];
}
  where
    more : length (contents ++ content ∷ []) ≡ length contents + 1
    more = length-append contents (content ∷ [])

    last_content : (k : ℕ) → k ≡ length contents → sector (contents ++ content ∷ []) k ≡ content
    last_content k here = get_or-append_right contents (content ∷ []) (length contents) k [] refl (omega (arith, here)) ∙ ap (λ j. sector (content ∷ []) j) (let first : k - length contents ≡ 0 = omega (arith, here) in first)

    last_owner : (k : ℕ) → k ≡ length owners → get_or (owners ++ n ∷ []) k 0 ≡ n
    last_owner k here = get_or-append_right owners (n ∷ []) (length owners) k 0 refl (omega (arith, here)) ∙ ap (λ j. get_or (n ∷ []) j 0) (let first : k - length owners ≡ 0 = omega (arith, here) in first)

added_shown : (places : List ℕ) (contents : Image) (owners : List ℕ) (n at : ℕ) (content : List ℕ) → IsKept places contents owners → n < length places
    → at ≡ length contents → sectors_at (contents ++ content ∷ []) (slice_set places n at) ≡ slice_set (sectors_at contents places) n content
added_shown places contents owners n at content kept below end =
    shown_set contents (contents ++ content ∷ []) places (slice_set places n at) n content below (length-set places n at)
    (ap (λ k. sector (contents ++ content ∷ []) k) (get_or-set_at places n n at 0 refl below)
    ∙ get_or-append_right contents (content ∷ []) (length contents) at [] refl (omega (arith, end)) ∙ ap (λ j. sector (content ∷ []) j) (let first : at - length contents ≡ 0 = omega (arith, end) in first))
    (λ i fits other.
    ap (λ k. sector (contents ++ content ∷ []) k) (get_or-set_other places n i at 0 other) ∙ get_or_append_left contents (content ∷ []) [] (get_or places i 0) (kept.placed i fits))

-- ---- zeros alone
pub zeros_kept : (count : ℕ) → IsWholeSector (replicate 512 0) → IsKept (replicate count 0) (replicate 512 0 ∷ []) (0 ∷ [])
zeros_kept count whole = record {
  some = omega arith;
  len = refl;
  whole = λ k fits. subst (λ j. IsWholeSector (sector (replicate 512 0 ∷ []) j)) (let first : 0 ≡ k = omega (arith, fits) in first) whole;
  zeros = refl;
  placed = λ n fits. let zero = none n fits in omega (arith, zero);
  owned = λ n fits some. absurd (some (none n fits));
  owner = λ k fits other. absurd (other (omega (arith, fits)));
  owns = λ k fits other. absurd (other (omega (arith, fits)));
}
  where
    none : (n : ℕ) → n < length {A = ℕ} (replicate count 0) → get_or {A = ℕ} (replicate count 0) n 0 ≡ 0
    none n fits = get_or-replicate count n 0 0 (omega (arith, fits, length-replicate {A = ℕ} count 0))

pub zeros_shown : (count : ℕ) → sectors_at (replicate 512 0 ∷ []) (replicate count 0) ≡ replicate count (replicate 512 0)
zeros_shown count =
    ext_get_or [] (sectors_at (replicate 512 0 ∷ []) (replicate count 0)) (replicate count (replicate 512 0)) (size ∙ sym (length-replicate count (replicate 512 0)))
    (λ i fits.
    let below : i < count = omega (arith, fits, size) in
    sector_shown (replicate 512 0 ∷ []) (replicate count 0) i (omega (arith, below, length-replicate {A = ℕ} count 0)) ∙ ap (λ k. sector (replicate 512 0 ∷ []) k) (get_or-replicate count i 0 0 below)
    ∙ sym (get_or-replicate count i (replicate 512 0) [] below))
  where
    size : length (sectors_at (replicate 512 0 ∷ []) (replicate count 0)) ≡ count
    size = length-map (replicate count 0) (sector (replicate 512 0 ∷ [])) ∙ length-replicate {A = ℕ} count 0

-- ---- whole sectors
pub shown_whole : (places : List ℕ) (contents : Image) (owners : List ℕ) → IsKept places contents owners → AreSectors (sectors_at contents places)
shown_whole places contents owners kept n below =
    let fits : n < length places = omega (arith, below, length-map places (sector contents)) in
    subst IsWholeSector (sym (sector_shown contents places n fits)) (kept.whole (get_or places n 0) (kept.placed n fits))

-- ---- as a function has them
-- the place of a sector, as it's read
pub place_read : (places : List ℕ) (contents seen : Image) (n at : ℕ) → sectors_at contents places ≡ seen → n < length seen → at ≡ get_or places n 0 → (n < length places) × (at ≡ get_or places n 0)
place_read places contents seen n at is fits read =
    let below : n < length places = let size = ap (λ (i : Image). length i) is in omega (arith, fits, size, length-map places (sector contents)) in
    (below, read)

-- what is read of a sector isn't zeros only where it has a place
pub read_placed : (places : List ℕ) (contents : Image) (owners : List ℕ) (sectors : KeptSectors) (n at : ℕ) (read : List ℕ) → IsKept places contents owners
    → record { shown = sectors_at contents places; places = places } ≡ sectors → n < length sectors.shown → at ≡ get_or places n 0 → read ≡ get_or contents at read
    → read ≢ replicate 512 0 → OwnsPlace sectors n
read_placed places contents owners sectors n at read kept is fits place content used none =
    let zero : at ≡ 0 = place ∙ ap (λ l. get_or l n 0) (places_are is) ∙ none in
    used (content ∙ ap (λ k. get_or contents k read) zero ∙ get_or_default contents 0 read [] kept.some ∙ kept.zeros)

-- the place of a sector, as a contract sees it
pub place_seen : (places : List ℕ) (contents : Image) (sectors : KeptSectors) (n : ℕ) → record { shown = sectors_at contents places; places = places } ≡ sectors → n < length sectors.shown
    → (n < length places) × (get_or places n 0 ≡ get_or sectors.places n 0)
place_seen places contents sectors n is fits =
    (let size = ap (λ (i : Image). length i) (shown_is is) in omega (arith, fits, size, length-map places (sector contents)), ap (λ l. get_or l n 0) (places_are is))

-- A sector is there that has this place.
pub record HasPlace (places : List ℕ) (contents : Image) (owners : List ℕ) (sectors : KeptSectors) (n at : ℕ) : Type 0 where
  pub kept : IsKept places contents owners
  pub view : record { shown = sectors_at contents places; places = places } ≡ sectors
  pub below : n < length places
  pub is : at ≡ get_or places n 0
  pub used : at ≢ 0

pub has_place : {places : List ℕ} {contents : Image} {owners : List ℕ} (sectors : KeptSectors) (n at : ℕ) → IsKept places contents owners
    → record { shown = sectors_at contents places; places = places } ≡ sectors → n < length sectors.shown → OwnsPlace sectors n → at ≡ get_or places n 0
    → HasPlace places contents owners sectors n at
has_place {places} {contents} sectors n at kept view fits owns is =
    let seen = place_seen places contents sectors n view fits in
    record { kept = kept; view = view; below = seen.0; is = is; used = λ none. owns (sym seen.1 ∙ sym is ∙ none) }

pub put_kept : {places : List ℕ} {contents : Image} {owners : List ℕ} {sectors : KeptSectors} {n at : ℕ} (content : List ℕ) → HasPlace places contents owners sectors n at → IsWholeSector content
    → IsKept places (slice_set contents at content) owners
put_kept {places} {contents} {owners} {at = at} content has whole = replaced_kept places contents owners at content has.kept has.used whole

pub put_shown : {places : List ℕ} {contents : Image} {owners : List ℕ} {sectors : KeptSectors} {n at : ℕ} (content : List ℕ) → HasPlace places contents owners sectors n at
    → sectors_at (slice_set contents at content) places ≡ slice_set sectors.shown n content
put_shown {places} {contents} {owners} {n = n} {at = at} content has =
    replaced_shown places contents owners n at content has.kept has.below has.is has.used ∙ ap (λ (shown : Image). slice_set shown n content) (shown_is has.view)

-- what is known once a content is removed
pub record IsRemoval (places : List ℕ) (contents : Image) (owners : List ℕ) (n at : ℕ) (contents' : Image) (owners' : List ℕ) : Type 0 where
  pub kept : IsKept places contents owners
  pub below : n < length places
  pub is : at ≡ get_or places n 0
  pub used : at ≢ 0
  pub content : IsRemoved at contents contents'
  pub owner : IsRemoved at owners owners'

-- and where the last content stood elsewhere, or at the place itself
removal_moved : (places : List ℕ) (contents : Image) (owners : List ℕ) (n at moved : ℕ) (contents' : Image) (owners' : List ℕ) → IsRemoval places contents owners n at contents' owners'
    → at < length owners' → moved ≡ get_or owners' at moved → IsCleared n at (length contents - 1) places (slice_set (slice_set places n 0) moved at)
removal_moved places contents owners n at moved contents' owners' removal early read =
    let kept = removal.kept in
    let owner = removal.owner in
    cleared_moved places contents owners n at (length contents - 1) moved kept removal.below removal.is removal.used (omega (arith, early, owner.len, kept.len)) (omega (arith, early, owner.len, kept.len))
    (read ∙ get_or_default_zero owners' at moved early ∙ owner.moved 0 (omega (arith, early, owner.len)) ∙ ap (λ k. get_or owners (k - 1) 0) kept.len)

removal_last : (places : List ℕ) (contents : Image) (owners : List ℕ) (n at : ℕ) (contents' : Image) (owners' : List ℕ) → IsRemoval places contents owners n at contents' owners'
    → length owners' ≤ at → IsCleared n at (length contents - 1) places (slice_set places n 0)
removal_last places contents owners n at contents' owners' removal late =
    let kept = removal.kept in
    let owner = removal.owner in
    cleared_last places contents owners n at (length contents - 1) kept removal.below removal.is removal.used
    (let fits = kept.placed n removal.below in omega (arith, fits, removal.is, late, owner.len, kept.len))

out : {places : List ℕ} {contents : Image} {owners : List ℕ} {n at : ℕ} {contents' : Image} {owners' : List ℕ} (places' : List ℕ) → IsRemoval places contents owners n at contents' owners'
    → IsCleared n at (length contents - 1) places places' → IsOut n places contents places' contents' owners'
out {places} {contents} {owners} {n} {at} {contents'} {owners'} places' removal cleared =
    let kept = removal.kept in
    let last : length contents - 1 + 1 ≡ length contents = let some = kept.some in omega (arith, some) in
    record {
      kept = cleared_kept places places' contents contents' owners owners' n at (length contents - 1) kept removal.below removal.is removal.used last removal.content removal.owner cleared;
      shown = cleared_shown places places' contents contents' owners n at (length contents - 1) kept removal.below removal.is removal.used last removal.content cleared;
      keeps = λ k other some. cleared_keeps n at (length contents - 1) places places' k removal.used cleared other some;
    }

pub moved_out : {places : List ℕ} {contents : Image} {owners : List ℕ} {n at : ℕ} {contents' : Image} {owners' : List ℕ} (moved : ℕ) (cut places' : List ℕ)
    → IsRemoval places contents owners n at contents' owners'
    → at < length owners' → moved ≡ get_or owners' at moved → cut ≡ slice_set places n 0 → places' ≡ slice_set cut moved at → IsOut n places contents places' contents' owners'
moved_out {places} {contents} {owners} {n} {at} {contents'} {owners'} moved cut places' removal early read cut_is places_is =
    subst (λ (l : List ℕ). IsOut n places contents l contents' owners') (sym (places_is ∙ ap (λ (l : List ℕ). slice_set l moved at) cut_is))
    (out (slice_set (slice_set places n 0) moved at) removal (removal_moved places contents owners n at moved contents' owners' removal early read))

pub last_out : {places : List ℕ} {contents : Image} {owners : List ℕ} {n at : ℕ} {contents' : Image} {owners' : List ℕ} (places' : List ℕ) → IsRemoval places contents owners n at contents' owners'
    → length owners' ≤ at → places' ≡ slice_set places n 0 → IsOut n places contents places' contents' owners'
last_out {places} {contents} {owners} {n} {at} {contents'} {owners'} places' removal late places_is =
    subst (λ (l : List ℕ). IsOut n places contents l contents' owners') (sym places_is)
    (out (slice_set places n 0) removal (removal_last places contents owners n at contents' owners' removal late))

pub removal : {places : List ℕ} {contents : Image} {owners : List ℕ} (n at : ℕ) (contents' : Image) (owners' : List ℕ) (c c' o o' : ℕ) → IsKept places contents owners → n < length places
    → at ≡ get_or places n 0 → at ≢ 0
    → c ≡ length contents → c' ≡ length contents' → c' + 1 ≡ c
    → (((d : List ℕ) → at + 1 < c → get_or contents' at d ≡ get_or contents (c - 1) d) × ((k : ℕ) (d : List ℕ) → k ≢ at → k + 1 < c → get_or contents' k d ≡ get_or contents k d))
    → o ≡ length owners → o' ≡ length owners' → o' + 1 ≡ o
    → (((d : ℕ) → at + 1 < o → get_or owners' at d ≡ get_or owners (o - 1) d) × ((k : ℕ) (d : ℕ) → k ≢ at → k + 1 < o → get_or owners' k d ≡ get_or owners k d))
    → IsRemoval places contents owners n at contents' owners'
removal {places} {contents} {owners} n at contents' owners' c c' o o' kept below is used c_is c'_is c_len c_each o_is o'_is o_len o_each = record {
  kept = kept;
  below = below;
  is = is;
  used = used;
  content = removed at c c' contents contents' c_is c'_is c_len c_each;
  owner = removed at o o' owners owners' o_is o'_is o_len o_each;
}

-- a push that was no error
pub pushed : {X : Type 0} {T E : Type 0} (r : Result T E) (e : Bool) (old new xs : List X) (x : X) → is_ok r ≡ not e → e ≡ false → new ≡ (if is_ok r then old ++ xs else old) → xs ≡ x ∷ []
    → new ≡ old ++ x ∷ []
pushed r e old new xs x negation fine is one = is ∙ ap (λ b. if b then old ++ xs else old) (negation ∙ ap not fine) ∙ ap (λ l. old ++ l) one

-- a push that was an error
pub not_pushed : {X T E : Type 0} {new : List X} {e : Bool} (r : Result T E) (old xs : List X)
    → is_ok r ≡ not e → e ≡ true → new ≡ (if is_ok r then old ++ xs else old) → new ≡ old
not_pushed r old xs negation failed is =
    is ∙ ap (λ b. if b then old ++ xs else old) (negation ∙ ap not failed)

-- a push that is taken back
pub unpushed : {X : Type 0} {pushed popped : List X} {count : ℕ} (old : List X) (x : X)
    → pushed ≡ old ++ x ∷ [] → count ≡ length pushed → popped ≡ take (count - 1) pushed → popped ≡ old
unpushed {X} {pushed} {popped} {count} old x is len rest =
    let front : count - 1 ≡ length old = omega (arith, len, ap length is, length-append old (x ∷ [])) in
    rest ∙ ap (λ k. take k pushed) front ∙ ap (take (length old)) is ∙ take-append_seam old (x ∷ [])

-- what has come back to what it was
module _ {places places' : List ℕ} {contents contents' : Image} (place : places' ≡ places)
    (content : contents' ≡ contents) where
  pub kept_as : {owners owners' : List ℕ} → owners' ≡ owners → IsKept places contents owners
      → IsKept places' contents' owners'
  kept_as owner kept = rw (place, content, owner) kept

  pub view_as : {sectors : KeptSectors}
      → record { shown = sectors_at contents places; places = places } ≡ sectors
      → record { shown = sectors_at contents' places'; places = places' } ≡ sectors
  view_as view = rw (place, content) view

-- A sector is there that has no place, and may get one behind the others, with this content.
pub record HasNone (places : List ℕ) (contents : Image) (owners : List ℕ) (sectors : KeptSectors) (n at : ℕ) (content : List ℕ) : Type 0 where
  pub kept : IsKept places contents owners
  pub view : record { shown = sectors_at contents places; places = places } ≡ sectors
  pub below : n < length places
  pub none : get_or places n 0 ≡ 0
  pub end : at ≡ length contents
  pub whole : IsWholeSector content

pub has_none : {places : List ℕ} {contents : Image} {owners : List ℕ} (sectors : KeptSectors) (n at : ℕ) (content : List ℕ) → IsKept places contents owners
    → record { shown = sectors_at contents places; places = places } ≡ sectors → n < length sectors.shown → get_or sectors.places n 0 ≡ 0 → at ≡ length contents → IsWholeSector content
    → HasNone places contents owners sectors n at content
has_none {places} {contents} sectors n at content kept view fits none end whole =
    let seen = place_seen places contents sectors n view fits in
    record { kept = kept; view = view; below = seen.0; none = seen.1 ∙ none; end = end; whole = whole }

module _ {places : List ℕ} {contents : Image} {owners : List ℕ} {sectors : KeptSectors} {n at : ℕ} {content : List ℕ} (has : HasNone places contents owners sectors n at content)
    {places' : List ℕ} (placed : places' ≡ slice_set places n at) where
  pub new_keeps : (k : ℕ) → OwnsPlace sectors k → get_or places' k 0 ≢ 0
  new_keeps =
      let used : at ≢ 0 = let some = has.kept.some in let end = has.end in omega (arith, some, end) in
      keeps_all places' has.view
      (subst (λ (l : List ℕ). (k : ℕ) → get_or places k 0 ≢ 0 → get_or l k 0 ≢ 0) (sym placed) (added_keeps places n at has.below used))

  module _ {contents' : Image} (pushed : contents' ≡ contents ++ content ∷ []) where
    pub new_shown : sectors_at contents' places' ≡ slice_set sectors.shown n content
    new_shown =
        ap (λ (l : List ℕ). sectors_at contents' l) placed ∙ ap (λ (l : Image). sectors_at l (slice_set places n at)) pushed
        ∙ added_shown places contents owners n at content has.kept has.below has.end ∙ ap (λ (shown : Image). slice_set shown n content) (shown_is has.view)

    pub new_kept : {owners' : List ℕ} → owners' ≡ owners ++ n ∷ [] → IsKept places' contents' owners'
    new_kept {owners'} owned =
        subst (λ (l : List ℕ). IsKept l contents' owners') (sym placed)
        (subst (λ (l : Image). IsKept (slice_set places n at) l owners') (sym pushed)
        (subst (λ (l : List ℕ). IsKept (slice_set places n at) (contents ++ content ∷ []) l) (sym owned)
        (added_kept places contents owners n at content has.kept has.below has.none has.end has.whole)))

-- ---- neighbours, one after the other
pub run_none : (first : ℕ) (run image : Image) → IsRunSet first (take 0 run) image image
run_none first run image = record {
  len = refl;
  inside = λ n from to. absurd (omega (arith, from, to, length-take 0 run));
  before = λ n early. refl;
  behind = λ n late. refl;
}

pub run_more : (first i : ℕ) (run old new : Image) (content : List ℕ) → i < length run → first + length run ≤ length old → content ≡ sector run i → IsRunSet first (take i run) old new
    → IsRunSet first (take (i + 1) run) old (slice_set new (first + i) content)
run_more first i run old new content below fits is set = record {
  len = length-set new (first + i) content ∙ set.len;
  inside = λ n from to. elim (cases_eq n (first + i)) [
    | inl here ↦
        get_or-set_at new (first + i) n content [] here (omega (arith, below, fits, set.len)) ∙ is
        ∙ sym (get_or-take (i + 1) run (n - first) [] (omega (arith, here)) ∙ ap (λ k. sector run k) (let same : n - first ≡ i = omega (arith, here) in same))
    | inr other ↦
        let early : n < first + i = omega (arith, to, other, from, length-take (i + 1) run) in
        get_or-set_other new (first + i) n content [] other ∙ set.inside n from (omega (arith, early, below, length-take i run))
        ∙ get_or-take i run (n - first) [] (omega (arith, early, from)) ∙ sym (get_or-take (i + 1) run (n - first) [] (omega (arith, early, from)))
  ];
  before = λ n early. get_or-set_other new (first + i) n content [] (λ same. let less = early in omega (arith, same, less)) ∙ set.before n early;
  behind = λ n late.
      let past : first + i + 1 ≤ n = omega (arith, late, below, length-take (i + 1) run) in
      get_or-set_other new (first + i) n content [] (λ same. omega (arith, same, past)) ∙ set.behind n (omega (arith, past, below, length-take i run));
}

-- the first i of these are what stands from `first` on
pub record IsCopied (first i : ℕ) (image to : Image) : Type 0 where
  pub each : (k : ℕ) → k < i → sector to k ≡ sector image (first + k)

pub copied_more : (first i : ℕ) (image to : Image) (content : List ℕ) → i < length to → content ≡ sector image (first + i) → IsCopied first i image to → IsCopied first (i + 1) image (slice_set to i content)
copied_more first i image to content below is copied = record {
  each = λ k early. elim (cases_eq k i) [
    | inl here ↦ get_or-set_at to i k content [] here (omega (arith, below, here)) ∙ is ∙ ap (λ j. sector image (first + j)) (sym here)
    | inr other ↦ get_or-set_other to i k content [] other ∙ copied.each k (omega (arith, early, other))
  ];
}

pub copied_all : (first i : ℕ) (image to : Image) → i ≡ length to → first + length to ≤ length image → IsCopied first i image to → to ≡ slice_range image first (first + length to)
copied_all first i image to all fits copied =
    ext_get_or [] to (slice_range image first (first + length to))
    (let span : first + length to - first ≡ length to = omega arith in omega (arith, span, fits, length-take (first + length to - first) (drop first image), length-drop first image))
    (λ k below.
    copied.each k (omega (arith, below, all))
    ∙ sym (get_or-take (first + length to - first) (drop first image) k [] (omega (arith, below)) ∙ get_or-drop first image k []))

-- a run over all sectors
pub run_all : (count : ℕ) (run old new : Image) → length old ≡ count → length run ≡ count → IsRunSet 0 run old new → new ≡ run
run_all count run old new size all set =
    ext_get_or [] new run (omega (arith, size, all, set.len)) (λ i below. set.inside i (omega arith) (omega (arith, below, size, all, set.len)) ∙ ap (λ k. sector run k) (let same : i - 0 ≡ i = omega arith in same))

-- neighbours in neighbouring places
pub row_shown : (first len start : ℕ) (places : List ℕ) (contents : Image) → first + len ≤ length places → start + len ≤ length contents → IsRow start (slice_range places first (first + len))
    → slice_range contents start (start + len) ≡ slice_range (sectors_at contents places) first (first + len)
row_shown first len start places contents fits stands row =
    ext_get_or [] (slice_range contents start (start + len)) (slice_range (sectors_at contents places) first (first + len)) (size ∙ sym other) (λ k below.
    let early : k < len = omega (arith, below, size) in
    let place : get_or (slice_range places first (first + len)) k 0 ≡ get_or places (first + k) 0 =
    get_or-take (first + len - first) (drop first places) k 0 (omega (arith, early)) ∙ get_or-drop first places k 0 in
    get_or-take (start + len - start) (drop start contents) k [] (omega (arith, early)) ∙ get_or-drop start contents k []
    ∙ ap (λ j. sector contents j) (sym (row k (omega (arith, early, fits, length-take (first + len - first) (drop first places), length-drop first places))) ∙ place)
    ∙ sym (sector_shown contents places (first + k) (omega (arith, early, fits)))
    ∙ sym (get_or-take (first + len - first) (drop first (sectors_at contents places)) k [] (omega (arith, early)) ∙ get_or-drop first (sectors_at contents places) k []))
  where
    size : length (slice_range contents start (start + len)) ≡ len
    size = omega (arith, stands, length-take (start + len - start) (drop start contents), length-drop start contents)

    other : length (slice_range (sectors_at contents places) first (first + len)) ≡ len
    other = omega (arith, fits, length-take (first + len - first) (drop first (sectors_at contents places)), length-drop first (sectors_at contents places), length-map places (sector contents))

pub row_seen : (first len start : ℕ) (places : List ℕ) (contents stored seen : Image) → sectors_at contents places ≡ seen → stored ≡ contents → first + len ≤ length seen
    → start + len ≤ length contents → IsRow start (slice_range places first (first + len)) → slice_range stored start (start + len) ≡ slice_range seen first (first + len)
row_seen first len start places contents stored seen view stored_is fits stands row =
    ap (λ (i : Image). slice_range i start (start + len)) stored_is
    ∙ row_shown first len start places contents (let size = ap (λ (i : Image). length i) view in omega (arith, fits, size, length-map places (sector contents))) stands row
    ∙ ap (λ (i : Image). slice_range i first (first + len)) view

-- bytes of a sector that are all zero
pub all_zeros : (content : List ℕ) → length content ≡ 512 → ((i : ℕ) → i < length content → get_or content i 0 ≡ 0) → content ≡ replicate 512 0
all_zeros content size zeros =
    ext_get_or 0 content (replicate 512 0) (size ∙ sym (length-replicate {A = ℕ} 512 0)) (λ i below. zeros i below ∙ sym (get_or-replicate {A = ℕ} 512 i 0 0 (omega (arith, below, size))))
