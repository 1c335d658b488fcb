-- Which content is a valid commit sector, and what targets it has.
use Rattle.std.proofs.Common.{◌≡◌, ℕ, zero, suc, ◌+◌, ◌*◌, ◌-◌, ◌/◌, ◌%◌, ◌^◌, ◌<◌, ◌≤◌, List, [], ◌∷◌, length, get_or, refl, sym, ap, subst, ◌∙◌, arith, inl, inr, Bool, true, false, cond, not, ◌&&◌, Result, Ok, Err, nat_eq, nat_le, nat_lt}
use Rattle.std.specs.Prelude.{All}
use Rattle.std.specs.Bool.{Decides}
use Rattle.std.specs.List.{list_all, list_any, AllByRecursion, IsDistinct}
use Rattle.std.specs.Str.{bytes_eq}
use Rattle.std.proofs.lemmas.Bool.{and_parts, and_from, cases_lt, cond-true, cond-false, false_from_ne_true, leb-true, le-leb, le-ltb, lt-ltb, not-true, not_from_false, or_from, or_parts}
use Rattle.std.proofs.lemmas.Bool.Decides.{Decides-and, Decides-by_and, Decides-eqb, Decides-like, Decides-ltb}
use Rattle.std.proofs.lemmas.List.{ext_get_or, get_or_past}
use Rattle.std.proofs.lemmas.List.FromFn.{get_or-map-range_with_len, length-map-range_with_len}
use Rattle.std.proofs.lemmas.List.Elements.{All-nil}
use Rattle.std.proofs.lemmas.Map.Made.{AllPairs-from_IsDistinct, IsDistinct-from_AllPairs}
use Rattle.std.proofs.lemmas.Slice.Eq.{bytes_eq-Decides}
use Rattle.fs_layout.specs.declared.fault.LayoutFault.{LayoutFault}
use Rattle.fs_layout.specs.declared.header.TheConstants.{MAX_HEADER}
use Rattle.fs_layout.specs.declared.superblock.Super.{Super}
use Rattle.fs_layout.specs.Bytes.{SectorMap, u32_of}
use Rattle.fs_layout.specs.Header.{area_start, log_end, max_targets, header_for, header_of}
use Rattle.fs_layout.specs.Superblock.{super_of}
use Rattle.fs_layout.specs.Commit.{AreDistinct, AreTargets, IsArea, IsCommit, IsSpelled, IsValidCommit, are_apart, are_targets, area_in, count_in, named_area, named_start, commit_bytes_in, named_count, header_number, is_area, is_spelled, named_targets, target_number, targets_if, targets_in}
use Rattle.fs_layout.proofs.CommitLaw.{number_of_word, number_of-commit_bytes_in}

-- ---- the tests say what they are called
none_equal : (n : ℕ) (ns : List ℕ) → AllByRecursion (λ y. nat_eq n y ≡ false) ns → list_any (nat_eq n) ns ≡ false
none_equal n [] all = refl
none_equal n (y ∷ ns) all = or_from _ _ all.0 (none_equal n ns all.1)

all_other : (n : ℕ) (ns : List ℕ) → list_any (nat_eq n) ns ≡ false → AllByRecursion (λ y. nat_eq n y ≡ false) ns
all_other n [] none = tt
all_other n (y ∷ ns) none = let parts = or_parts (nat_eq n y) (list_any (nat_eq n) ns) none in (parts.0, all_other n ns parts.1)

apart_passes : (ns : List ℕ) → IsDistinct nat_eq ns → are_apart ns ≡ true
unfolding IsDistinct
apart_passes [] apart = refl
apart_passes (n ∷ ns) apart = and_from _ _ (not_from_false _ (none_equal n ns apart.0)) (apart_passes ns apart.1)

passed_apart : (ns : List ℕ) → are_apart ns ≡ true → IsDistinct nat_eq ns
unfolding IsDistinct
passed_apart [] e = tt
passed_apart (n ∷ ns) e =
    let parts = and_parts (not (list_any (nat_eq n) ns)) (are_apart ns) e in
    (all_other n ns (not-true (list_any (nat_eq n) ns) parts.0), passed_apart ns parts.1)

apart_decides : (ns : List ℕ) → Decides (are_apart ns) (AreDistinct ns)
apart_decides ns =
    (λ e. AllPairs-from_IsDistinct Decides-eqb ns (passed_apart ns e), λ apart. apart_passes ns (IsDistinct-from_AllPairs Decides-eqb ns apart))

abbrev IsInRange : ℕ → ℕ → ℕ → Type 0
IsInRange header size t = (log_end header ≤ t) × (t < size)

abbrev is_in_range : ℕ → ℕ → ℕ → Bool
is_in_range header size t = nat_le (log_end header) t && nat_lt t size

range_decides : (header size t : ℕ) → Decides (is_in_range header size t) (IsInRange header size t)
range_decides header size t = let first = log_end header in Decides-and (nat_le first t) (nat_lt t size) (leb-true first t, le-leb first t) (Decides-ltb t size)

ranges_decide : (header size : ℕ) (ts : List ℕ) → Decides (list_all (is_in_range header size) ts) (All (IsInRange header size) ts)
ranges_decide header size ts =
    Decides-by_and (is_in_range header size) (IsInRange header size) (list_all (is_in_range header size)) (range_decides header size) refl (λ _ _. refl) ts

pub are_targets-decides : (header size : ℕ) (ts : List ℕ) → Decides (are_targets header size ts) (AreTargets header size ts)
unfolding are_targets
are_targets-decides header size ts =
    let most = max_targets header in
    let few = nat_le (length ts) most in
    let ranges = list_all (is_in_range header size) ts in
    let first = Decides-and few ranges (leb-true (length ts) most, le-leb (length ts) most) (ranges_decide header size ts) in
    Decides-like (are_targets header size ts) (λ p. record { few = p.0.0; in_range = p.0.1; apart = p.1 }) (λ t. ((t.few, t.in_range), t.apart))
    (Decides-and (few && ranges) (are_apart ts) first (apart_decides ts))

-- an idle commit is valid on each disk
pub no_targets : (header size : ℕ) → AreTargets header size []
no_targets header size = record { few = omega arith; in_range = All-nil (IsInRange header size); apart = λ i j d lt fits. absurd (omega (arith, fits)) }

-- valid targets fit their fields
pub targets_small : (header size : ℕ) (ts : List ℕ) → size < 2 ^ 32 → AreTargets header size ts → (i : ℕ) → get_or ts i 0 < 2 ^ 32
targets_small header size ts small valid i = elim (cases_lt i (length ts)) [
  | inl lt ↦ let t : get_or ts i 0 < size = (valid.in_range i 0 lt).1 in omega (arith, t)
  | inr le ↦ rw (get_or_past ts i 0 le) (omega arith)
]

-- ---- how large a header is
header_for_most : (r : Result Super LayoutFault) → header_for r ≤ MAX_HEADER
header_for_most (Ok v) = kept (nat_le v.header MAX_HEADER) v.header (leb-true v.header MAX_HEADER)
  where
    kept : (b : Bool) (h : ℕ) → (b ≡ true → h ≤ MAX_HEADER) → cond b h 0 ≤ MAX_HEADER
    kept true h small = small refl
    kept false h small = omega arith
header_for_most (Err fault) = omega arith

pub header_most : (content : List ℕ) → header_of content ≤ MAX_HEADER
unfolding header_of
header_most content = header_for_most (super_of content)

-- ---- where the log areas are
-- an area lies between commit sector and bitmaps
pub area_room : (header area : ℕ) → (2 ≤ area_start header area) × (area_start header area + 126 + 129 * header ≤ log_end header)
area_room header zero = (omega arith, omega arith)
area_room header (suc area) = (omega arith, omega arith)

-- ---- what a commit sector says
area_decides : (header area : ℕ) (ts : List ℕ) → Decides (is_area header area ts) (IsArea header area ts)
area_decides header area ts =
    let le : (n m : ℕ) → Decides (nat_le n m) (n ≤ m) = λ n m. (leb-true n m, le-leb n m) in
    Decides-like (is_area header area ts) (λ p. record { one = p.0; there = p.1.0; some = p.1.1 }) (λ a. (a.one, (a.there, a.some)))
    (Decides-and (nat_le area 1) (nat_le area header && nat_le area (length ts)) (le area 1) (Decides-and (nat_le area header) (nat_le area (length ts)) (le area header) (le area (length ts))))

pub spelled_decides : (header : ℕ) (content ts : List ℕ) → Decides (is_spelled header content ts) (IsSpelled header content ts)
spelled_decides header content ts =
    let area = area_in content in
    Decides-and (is_area header area ts) (bytes_eq content (commit_bytes_in area ts)) (area_decides header area ts) (bytes_eq-Decides content (commit_bytes_in area ts))

-- the number at 4 of a commit's sector, and the count in it
pub word_of : (size : ℕ) (image : SectorMap) (ts : List ℕ) → IsCommit size image ts
    → (u32_of (image 1) 4 ≡ length ts + 0x8000_0000 * named_area image) × (named_count image ≡ length ts)
word_of size image ts is =
    let few : length ts ≤ max_targets (header_of (image 0)) = is.valid.few in
    let word : u32_of (image 1) 4 ≡ length ts + 0x8000_0000 * named_area image =
    ap (λ s. u32_of s 4) is.bytes ∙ number_of_word (named_area image) ts (omega (arith, few, header_most (image 0), is.area.one)) in
    (word, counted (u32_of (image 1) 4) (length ts) (named_area image) word (omega (arith, few, header_most (image 0))))
  where
    counted : (w n a : ℕ) → w ≡ n + 0x8000_0000 * a → n < 0x8000_0000 → w % 0x8000_0000 ≡ n
    counted w n a is small = omega (arith, is, small)

-- images with one superblock's header and one commit sector name the same area
pub same_start : (image new : SectorMap) → header_of (new 0) ≡ header_of (image 0) → new 1 ≡ image 1 → named_start new ≡ named_start image
same_start image new super one = λ j. area_start (super j) (area_in (one j))

-- ---- what an image names
pub length-named : (image : SectorMap) (n : ℕ) → length (named_targets image n) ≡ n
length-named image n = length-map-range_with_len (target_number image) 0 n

-- the targets of a commit are what its image names
named_is : (size : ℕ) (image : SectorMap) (ts : List ℕ) → size < 2 ^ 32 → IsCommit size image ts → named_targets image (named_count image) ≡ ts
named_is size image ts small is =
    let few : length ts ≤ max_targets (header_of (image 0)) = is.valid.few in
    let count : named_count image ≡ length ts = (word_of size image ts is).1 in
    let f = target_number image in
    ext_get_or 0 (named_targets image (named_count image)) ts (length-named image (named_count image) ∙ count) (λ i below.
    let lt : i < length ts = omega (arith, below, length-named image (named_count image), count) in
    get_or-map-range_with_len f 0 (named_count image) i i 0 (omega (arith, lt, count)) (omega arith)
    ∙ each i lt)
  where
    each : (i : ℕ) → i < length ts → target_number image i ≡ get_or ts i 0
    each i lt = elim (cases_lt i 126) [
      | inl low ↦
          cond-true (nat_lt i 126) (u32_of (image 1) (8 + 4 * i)) (header_number image (i - 126)) (lt-ltb i 126 low)
          ∙ ap (λ s. u32_of s (8 + 4 * i)) is.bytes
          ∙ number_of-commit_bytes_in (named_area image) ts i (targets_small (header_of (image 0)) size ts small is.valid) low lt
      | inr high ↦
          cond-false (nat_lt i 126) (u32_of (image 1) (8 + 4 * i)) (header_number image (i - 126)) (le-ltb i 126 high)
          ∙ is.more (i - 126) (omega (arith, high, lt))
          ∙ ap (λ k. get_or ts k 0) (omega (arith, high))
    ]

-- the commit of an image has exactly these targets
pub targets_in-commit : (size : ℕ) (image : SectorMap) (ts : List ℕ) → size < 2 ^ 32 → IsCommit size image ts → targets_in size image ≡ ts
unfolding targets_in
targets_in-commit size image ts small is =
    let header = header_of (image 0) in
    ap (targets_if size image) (named_is size image ts small is)
    ∙ cond-true (are_targets header size ts && is_spelled (header_of (image 0)) (image 1) ts) ts []
    (and_from (are_targets header size ts) (is_spelled (header_of (image 0)) (image 1) ts) ((are_targets-decides header size ts).1 is.valid)
    ((spelled_decides (header_of (image 0)) (image 1) ts).1 (is.area, is.bytes)))

-- an image has one list of targets
pub same_targets : (size : ℕ) (image : SectorMap) (ts us : List ℕ) → size < 2 ^ 32 → IsCommit size image ts → IsCommit size image us → ts ≡ us
same_targets size image ts us small a b = sym (targets_in-commit size image ts small a) ∙ targets_in-commit size image us small b

-- a valid commit is that of its targets
pub commit_in : (size : ℕ) (image : SectorMap) → size < 2 ^ 32 → IsValidCommit size image → IsCommit size image (targets_in size image)
commit_in size image small valid =
    subst (IsCommit size image) (sym (targets_in-commit size image valid.targets small valid.is)) valid.is

-- ---- targets that an image names, and that pass both tests
-- a list with the numbers that an image names is what it names
pub named_by_numbers : (image : SectorMap) (ts : List ℕ) → named_count image ≡ length ts
    → ((i : ℕ) → i < 126 → i < length ts → get_or ts i 0 ≡ u32_of (image 1) (8 + 4 * i))
    → ((k : ℕ) → 126 + k < length ts → header_number image k ≡ get_or ts (126 + k) 0)
    → named_targets image (named_count image) ≡ ts
named_by_numbers image ts count first more =
    ext_get_or 0 (named_targets image (named_count image)) ts (length-named image (named_count image) ∙ count) (λ i below.
    let lt : i < length ts = omega (arith, below, length-named image (named_count image), count) in
    get_or-map-range_with_len (target_number image) 0 (named_count image) i i 0 (omega (arith, lt, count)) (omega arith)
    ∙ each i lt)
  where
    each : (i : ℕ) → i < length ts → target_number image i ≡ get_or ts i 0
    each i lt = elim (cases_lt i 126) [
      | inl low ↦
          cond-true (nat_lt i 126) (u32_of (image 1) (8 + 4 * i)) (header_number image (i - 126)) (lt-ltb i 126 low) ∙ sym (first i low lt)
      | inr high ↦
          cond-false (nat_lt i 126) (u32_of (image 1) (8 + 4 * i)) (header_number image (i - 126)) (le-ltb i 126 high)
          ∙ more (i - 126) (omega (arith, high, lt))
          ∙ ap (λ k. get_or ts k 0) (omega (arith, high))
    ]

named_more : (image : SectorMap) (n k : ℕ) → 126 + k < n → header_number image k ≡ get_or (named_targets image n) (126 + k) 0
named_more image n k lt =
    sym (get_or-map-range_with_len (target_number image) 0 n (126 + k) (126 + k) 0 lt (omega arith)
    ∙ cond-false (nat_lt (126 + k) 126) (u32_of (image 1) (8 + 4 * (126 + k))) (header_number image (126 + k - 126)) (le-ltb (126 + k) 126 (omega arith))
    ∙ ap (header_number image) (omega arith))

-- what an image names is its commit where it passes both tests
pub named_commit : (size : ℕ) (image : SectorMap) → let ts = named_targets image (named_count image) in
    AreTargets (header_of (image 0)) size ts → IsSpelled (header_of (image 0)) (image 1) ts → IsCommit size image ts
named_commit size image valid bytes = record {
  bytes = bytes.1;
  area = bytes.0;
  more = λ k lt. named_more image (named_count image) k (omega (arith, lt, length-named image (named_count image)));
  valid = valid;
}

passed : (size : ℕ) (image : SectorMap) (ts : List ℕ) → (are_targets (header_of (image 0)) size ts && is_spelled (header_of (image 0)) (image 1) ts) ≡ true
    → AreTargets (header_of (image 0)) size ts × (IsSpelled (header_of (image 0)) (image 1) ts)
passed size image ts e =
    let parts = and_parts (are_targets (header_of (image 0)) size ts) (is_spelled (header_of (image 0)) (image 1) ts) e in
    ((are_targets-decides (header_of (image 0)) size ts).0 parts.0, (spelled_decides (header_of (image 0)) (image 1) ts).0 parts.1)

-- an image without a valid commit has no targets
pub targets_in-invalid : (size : ℕ) (image : SectorMap) → (IsValidCommit size image → ⊥) → targets_in size image ≡ []
unfolding targets_in
targets_in-invalid size image none =
    let ts = named_targets image (named_count image) in
    let test = are_targets (header_of (image 0)) size ts && is_spelled (header_of (image 0)) (image 1) ts in
    cond-false test ts []
    (false_from_ne_true test (λ e. let both = passed size image ts e in none (record { targets = ts; is = named_commit size image both.0 both.1 })))

-- what an image names is valid, whatever the image is
pub targets_in-valid : (size : ℕ) (image : SectorMap) → AreTargets (header_of (image 0)) size (targets_in size image)
unfolding targets_in
targets_in-valid size image =
    let ts = named_targets image (named_count image) in chosen ts (are_targets (header_of (image 0)) size ts && is_spelled (header_of (image 0)) (image 1) ts) refl
  where
    chosen : (ts : List ℕ) (b : Bool) → (are_targets (header_of (image 0)) size ts && is_spelled (header_of (image 0)) (image 1) ts) ≡ b
        → AreTargets (header_of (image 0)) size (cond b ts [])
    chosen ts true e = (passed size image ts e).0
    chosen ts false e = no_targets (header_of (image 0)) size

-- an image with other targets, or with another commit sector, than what it names has no valid commit
pub not_valid : (size : ℕ) (image : SectorMap) (ts : List ℕ) → size < 2 ^ 32 → named_targets image (named_count image) ≡ ts
    → (AreTargets (header_of (image 0)) size ts → IsSpelled (header_of (image 0)) (image 1) ts → ⊥) → IsValidCommit size image → ⊥
not_valid size image ts small names none valid =
    let same : valid.targets ≡ ts = sym (named_is size image valid.targets small valid.is) ∙ names in
    none (subst (AreTargets (header_of (image 0)) size) same valid.is.valid) (subst (IsSpelled (header_of (image 0)) (image 1)) same (valid.is.area, valid.is.bytes))

-- ---- an image whose superblock, commit sector, header and log are those of another one, valid or not
named_same : (image new : SectorMap) (n : ℕ) → new 1 ≡ image 1 → ((k : ℕ) → 126 + k < n → header_number new k ≡ header_number image k) → named_targets new n ≡ named_targets image n
named_same image new n one header =
    ext_get_or 0 (named_targets new n) (named_targets image n) (length-named new n ∙ sym (length-named image n)) (λ i below.
    let lt : i < n = omega (arith, below, length-named new n) in
    get_or-map-range_with_len (target_number new) 0 n i i 0 lt (omega arith)
    ∙ each i lt
    ∙ sym (get_or-map-range_with_len (target_number image) 0 n i i 0 lt (omega arith)))
  where
    each : (i : ℕ) → i < n → target_number new i ≡ target_number image i
    each i lt = elim (cases_lt i 126) [
      | inl low ↦
          cond-true (nat_lt i 126) (u32_of (new 1) (8 + 4 * i)) (header_number new (i - 126)) (lt-ltb i 126 low)
          ∙ ap (λ s. u32_of s (8 + 4 * i)) one
          ∙ sym (cond-true (nat_lt i 126) (u32_of (image 1) (8 + 4 * i)) (header_number image (i - 126)) (lt-ltb i 126 low))
      | inr high ↦
          cond-false (nat_lt i 126) (u32_of (new 1) (8 + 4 * i)) (header_number new (i - 126)) (le-ltb i 126 high)
          ∙ header (i - 126) (omega (arith, high, lt))
          ∙ sym (cond-false (nat_lt i 126) (u32_of (image 1) (8 + 4 * i)) (header_number image (i - 126)) (le-ltb i 126 high))
    ]

-- too many targets are none
too_many : (size : ℕ) (image : SectorMap) → max_targets (header_of (image 0)) < named_count image → targets_in size image ≡ []
unfolding targets_in
too_many size image many =
    let ts = named_targets image (named_count image) in
    let test = are_targets (header_of (image 0)) size ts && is_spelled (header_of (image 0)) (image 1) ts in
    cond-false test ts []
    (false_from_ne_true test (λ e. let few = (passed size image ts e).0.few in omega (arith, few, many, length-named image (named_count image))))

pub targets_in-alike : (size : ℕ) (image new : SectorMap) → header_of (new 0) ≡ header_of (image 0) → new 1 ≡ image 1
    → ((k : ℕ) → k < header_of (image 0) → new (named_start image + k) ≡ image (named_start image + k)) → targets_in size new ≡ targets_in size image
unfolding targets_in
targets_in-alike size image new super one header = elim (cases_lt (max_targets (header_of (image 0))) (named_count image)) [
  | inl many ↦ too_many size new (omega (arith, many, super, ap count_in one)) ∙ sym (too_many size image many)
  | inr few ↦
      let n = named_count image in
      let same : named_targets new (named_count new) ≡ named_targets image n =
      ap (named_targets new) (ap count_in one)
      ∙ named_same image new n one (λ k lt. ap (λ (at : ℕ). u32_of (new (at + k / 128)) (4 * (k % 128))) (same_start image new super one) ∙ ap (λ s. u32_of s (4 * (k % 128))) (header (k / 128) (omega (arith, lt, few)))) in
      (λ j. cond (are_targets (super j) size (same j) && is_spelled (super j) (one j) (same j)) (same j) [])
]
