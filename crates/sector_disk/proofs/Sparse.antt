-- Numbers of which most are zeros: what a change of the blocks and of what is stored shows.
use Rattle.std.proofs.Common.{◌≡◌, ◌≢◌, ℕ, ◌+◌, ◌-◌, ◌*◌, ◌/◌, ◌%◌, ◌^◌, ◌<◌, ◌≤◌, List, ◌++◌, length, refl, sym, ◌∙◌, ap, subst, arith, slice_set, get_or, inl, inr, take, drop, [], length-take, replicate, length-set, length-append, get_or-set_other}
use Rattle.std.proofs.lemmas.Bool.{cases_eq}
use Rattle.std.proofs.lemmas.Grind.{get_or-set_at, get_or_default_zero}
use Rattle.std.proofs.lemmas.List.{take_all, get_or-take, get_or-drop, ext_get_or, get_or_append_left, get_or-append_right, get_or-map, get_or-replicate, length-replicate}
use Rattle.std.proofs.lemmas.List.FromFn.{get_or-range_with_len, length-range_with_len, length-map-range_with_len}
use Rattle.std.specs.List.{range_with_len}
use Rattle.std.specs.Prelude.{slice_range}
use Rattle.sector_disk.specs.Numbers.{place_of, stored_number, stored_numbers, IsSparse, IsRow}

pub numbers_len : (count : ℕ) (blocks stored : List ℕ) → length (stored_numbers count blocks stored) ≡ count
numbers_len count blocks stored = length-map-range_with_len (stored_number blocks stored) 0 count

pub number_seen : (count : ℕ) (blocks stored : List ℕ) (n : ℕ) → n < count → get_or (stored_numbers count blocks stored) n 0 ≡ stored_number blocks stored n
number_seen count blocks stored n below =
    get_or-map (stored_number blocks stored) (range_with_len 0 count) n 0 0 (omega (arith, below, length-range_with_len 0 count))
    ∙ ap (stored_number blocks stored) (get_or-range_with_len 0 count n 0 below ∙ same)
  where
    same : 0 + n ≡ n
    same = omega arith

-- the same numbers, or all but one
numbers_same : (count : ℕ) (blocks blocks' stored stored' : List ℕ) → ((i : ℕ) → i < count → stored_number blocks' stored' i ≡ stored_number blocks stored i)
    → stored_numbers count blocks' stored' ≡ stored_numbers count blocks stored
numbers_same count blocks blocks' stored stored' each =
    ext_get_or 0 (stored_numbers count blocks' stored') (stored_numbers count blocks stored) (numbers_len count blocks' stored' ∙ sym (numbers_len count blocks stored))
    (λ i fits.
    let below : i < count = omega (arith, fits, numbers_len count blocks' stored') in
    number_seen count blocks' stored' i below ∙ each i below ∙ sym (number_seen count blocks stored i below))

numbers_set : (count : ℕ) (blocks stored stored' : List ℕ) (n value : ℕ) → n < count → stored_number blocks stored' n ≡ value
    → ((i : ℕ) → i < count → i ≢ n → stored_number blocks stored' i ≡ stored_number blocks stored i)
    → stored_numbers count blocks stored' ≡ slice_set (stored_numbers count blocks stored) n value
numbers_set count blocks stored stored' n value below here others =
    ext_get_or 0 (stored_numbers count blocks stored') (slice_set (stored_numbers count blocks stored) n value)
    (numbers_len count blocks stored' ∙ sym (length-set (stored_numbers count blocks stored) n value ∙ numbers_len count blocks stored)) each
  where
    each : (i : ℕ) → i < length (stored_numbers count blocks stored') → get_or (stored_numbers count blocks stored') i 0
        ≡ get_or (slice_set (stored_numbers count blocks stored) n value) i 0
    each i fits =
        let fit : i < count = omega (arith, fits, numbers_len count blocks stored') in
        number_seen count blocks stored' i fit
        ∙ elim (cases_eq i n) [
          | inl same ↦
              ap (stored_number blocks stored') same ∙ here
              ∙ sym (get_or-set_at (stored_numbers count blocks stored) n i value 0 same (omega (arith, below, numbers_len count blocks stored)))
          | inr other ↦ others i fit other ∙ sym (get_or-set_other (stored_numbers count blocks stored) n i value 0 other ∙ number_seen count blocks stored i fit)
        ]

-- ---- where numbers stand
pub block_below : (count : ℕ) (blocks stored : List ℕ) (n : ℕ) → IsSparse count blocks stored → n < count → n / 1024 < length blocks
block_below count blocks stored n sparse below = let room = sparse.room in omega (arith, room, below)

pub place_below : (count : ℕ) (blocks stored : List ℕ) (n : ℕ) → IsSparse count blocks stored → n < count → place_of blocks n < length stored
place_below count blocks stored n sparse below =
    let stands = sparse.stands (n / 1024) (block_below count blocks stored n sparse below) in
    omega (arith, stands)

-- in the block of zeros
in_first : (k : ℕ) → 0 * 1024 + k ≡ k
in_first k = omega arith

none_stored : (count : ℕ) (blocks stored : List ℕ) (n : ℕ) → IsSparse count blocks stored → get_or blocks (n / 1024) 0 ≡ 0 → stored_number blocks stored n ≡ 0
none_stored count blocks stored n sparse zero =
    ap (λ b. get_or stored (b * 1024 + n % 1024) 0) zero ∙ ap (λ k. get_or stored k 0) (in_first (n % 1024)) ∙ sparse.zeros (n % 1024) (omega arith)

-- one that isn't zero is stored of its own
pub block_used : (count : ℕ) (blocks stored : List ℕ) (n : ℕ) → IsSparse count blocks stored → stored_number blocks stored n ≢ 0 → get_or blocks (n / 1024) 0 ≢ 0
block_used count blocks stored n sparse some zero =
    some (none_stored count blocks stored n sparse zero)

-- and no other stands where it does
place_apart : (count : ℕ) (blocks stored : List ℕ) (i n : ℕ) → IsSparse count blocks stored → i < count → n < count → get_or blocks (n / 1024) 0 ≢ 0
    → place_of blocks i ≡ place_of blocks n → i ≡ n
place_apart count blocks stored i n sparse fits below used same =
    let stored_same : get_or blocks (n / 1024) 0 ≡ get_or blocks (i / 1024) 0 = omega (arith, same) in
    let block : n / 1024 ≡ i / 1024 =
    sparse.alone (n / 1024) (i / 1024) (block_below count blocks stored n sparse below) (block_below count blocks stored i sparse fits) used stored_same in
    omega (arith, same, stored_same, block)

-- ---- another number where the block is stored of its own
pub replaced_numbers : (count : ℕ) (blocks stored : List ℕ) (n at value : ℕ) → IsSparse count blocks stored → n < count → get_or blocks (n / 1024) 0 ≢ 0
    → at ≡ place_of blocks n → stored_numbers count blocks (slice_set stored at value) ≡ slice_set (stored_numbers count blocks stored) n value
replaced_numbers count blocks stored n at value sparse below used is =
    numbers_set count blocks stored (slice_set stored at value) n value below
    (get_or-set_at stored at (place_of blocks n) value 0 (sym is) (let fits = place_below count blocks stored n sparse below in omega (arith, fits, is)))
    (λ i fits other.
    get_or-set_other stored at (place_of blocks i) value 0 (λ same. other (place_apart count blocks stored i n sparse fits below used (same ∙ is))))

pub replaced_sparse : (count : ℕ) (blocks stored : List ℕ) (n at value : ℕ) → IsSparse count blocks stored → get_or blocks (n / 1024) 0 ≢ 0
    → at ≡ place_of blocks n → IsSparse count blocks (slice_set stored at value)
replaced_sparse count blocks stored n at value sparse used is = record {
  few = sparse.few;
  room = sparse.room;
  whole = ap (λ len. len % 1024) (length-set stored at value) ∙ sparse.whole;
  zeros = λ i early. get_or-set_other stored at i value 0 (λ same. omega (arith, same, early, is, used)) ∙ sparse.zeros i early;
  stands = λ b fits. let was = sparse.stands b fits in omega (arith, was, length-set stored at value);
  alone = sparse.alone;
}

-- ---- one more block of zeros is stored, for one that had none of its own
pub grown_sparse : (count : ℕ) (blocks stored : List ℕ) (block last : ℕ) → IsSparse count blocks stored → block < length blocks
    → last * 1024 ≡ length stored → IsSparse count (slice_set blocks block last) (stored ++ replicate 1024 0)
grown_sparse count blocks stored block last sparse below end = record {
  few = sparse.few;
  room = let room = sparse.room in omega (arith, room, length-set blocks block last);
  whole = let whole = sparse.whole in omega (arith, whole, more);
  zeros = λ i early. get_or_append_left stored (replicate 1024 0) 0 i (omega (arith, early, some)) ∙ sparse.zeros i early;
  stands = λ b fits. elim (cases_eq b block) [
    | inl same ↦ omega (arith, get_or-set_at blocks block b last 0 same below, end, more)
    | inr other ↦ let was = sparse.stands b (omega (arith, fits, size)) in omega (arith, was, get_or-set_other blocks block b last 0 other, more)
  ];
  alone = λ a b a_fits b_fits used same. elim (cases_eq a block) [
    | inl a_here ↦ elim (cases_eq b block) [
      | inl b_here ↦ a_here ∙ sym b_here
      | inr b_other ↦
          absurd (new_apart b b_other (omega (arith, b_fits, size))
          (sym (get_or-set_at blocks block a last 0 a_here below) ∙ same ∙ get_or-set_other blocks block b last 0 b_other))
    ]
    | inr a_other ↦ elim (cases_eq b block) [
      | inl b_here ↦
          absurd (new_apart a a_other (omega (arith, a_fits, size))
          (sym (get_or-set_at blocks block b last 0 b_here below) ∙ sym same ∙ get_or-set_other blocks block a last 0 a_other))
      | inr b_other ↦
          let a_is = get_or-set_other blocks block a last 0 a_other in
          sparse.alone a b (omega (arith, a_fits, size)) (omega (arith, b_fits, size)) (λ none. used (a_is ∙ none))
          (sym a_is ∙ same ∙ get_or-set_other blocks block b last 0 b_other)
    ]
  ];
}
  where
    size : length (slice_set blocks block last) ≡ length blocks
    size = length-set blocks block last

    more : length (stored ++ replicate 1024 0) ≡ length stored + 1024
    more = length-append stored (replicate 1024 0) ∙ ap (λ k. length stored + k) (length-replicate {A = ℕ} 1024 0)

    some : 1024 ≤ length stored
    some = let was = sparse.stands block below in omega (arith, was)

    new_apart : (b : ℕ) → b ≢ block → b < length blocks → last ≢ get_or blocks b 0
    new_apart b other fits same = let was = sparse.stands b fits in omega (arith, was, same, end)

pub grown_numbers : (count : ℕ) (blocks stored : List ℕ) (block last : ℕ) → IsSparse count blocks stored → block < length blocks → get_or blocks block 0 ≡ 0
    → last * 1024 ≡ length stored → stored_numbers count (slice_set blocks block last) (stored ++ replicate 1024 0) ≡ stored_numbers count blocks stored
grown_numbers count blocks stored block last sparse below none end =
    numbers_same count blocks (slice_set blocks block last) stored (stored ++ replicate 1024 0)
    (λ i fits. elim (cases_eq (i / 1024) block) [
      | inl same ↦
          ap (λ b. get_or (stored ++ replicate 1024 0) (b * 1024 + i % 1024) 0) (get_or-set_at blocks block (i / 1024) last 0 same below)
          ∙ get_or-append_right stored (replicate 1024 0) (length stored) (last * 1024 + i % 1024) 0 refl (omega (arith, end))
          ∙ ap (λ k. get_or {A = ℕ} (replicate 1024 0) k 0) (let here : last * 1024 + i % 1024 - length stored ≡ i % 1024 = omega (arith, end) in here)
          ∙ get_or-replicate {A = ℕ} 1024 (i % 1024) 0 0 (omega arith)
          ∙ sym (none_stored count blocks stored i sparse (ap (λ b. get_or blocks b 0) same ∙ none))
      | inr other ↦
          ap (λ b. get_or (stored ++ replicate 1024 0) (b * 1024 + i % 1024) 0) (get_or-set_other blocks block (i / 1024) last 0 other)
          ∙ get_or_append_left stored (replicate 1024 0) 0 (place_of blocks i) (place_below count blocks stored i sparse fits)
    ])

-- and one of its numbers is another
pub added_numbers : (count : ℕ) (blocks stored : List ℕ) (n last at value : ℕ) → IsSparse count blocks stored → n < count → get_or blocks (n / 1024) 0 ≡ 0
    → last * 1024 ≡ length stored → at ≡ last * 1024 + n % 1024
    → stored_numbers count (slice_set blocks (n / 1024) last) (slice_set (stored ++ replicate 1024 0) at value) ≡ slice_set (stored_numbers count blocks stored) n value
added_numbers count blocks stored n last at value sparse below none end is =
    let fits = block_below count blocks stored n sparse below in
    let here = get_or-set_at blocks (n / 1024) (n / 1024) last 0 refl fits in
    let stands = sparse.stands (n / 1024) fits in
    replaced_numbers count (slice_set blocks (n / 1024) last) (stored ++ replicate 1024 0) n at value
    (grown_sparse count blocks stored (n / 1024) last sparse fits end) below
    (λ zero. omega (arith, here, zero, end, stands)) (is ∙ ap (λ b. b * 1024 + n % 1024) (sym here))
    ∙ ap (λ numbers. slice_set numbers n value) (grown_numbers count blocks stored (n / 1024) last sparse fits none end)

pub added_sparse : (count : ℕ) (blocks stored : List ℕ) (n last at value : ℕ) → IsSparse count blocks stored → n < count
    → last * 1024 ≡ length stored → at ≡ last * 1024 + n % 1024
    → IsSparse count (slice_set blocks (n / 1024) last) (slice_set (stored ++ replicate 1024 0) at value)
added_sparse count blocks stored n last at value sparse below end is =
    let fits = block_below count blocks stored n sparse below in
    let here = get_or-set_at blocks (n / 1024) (n / 1024) last 0 refl fits in
    let stands = sparse.stands (n / 1024) fits in
    replaced_sparse count (slice_set blocks (n / 1024) last) (stored ++ replicate 1024 0) n at value
    (grown_sparse count blocks stored (n / 1024) last sparse fits end)
    (λ zero. omega (arith, here, zero, end, stands)) (is ∙ ap (λ b. b * 1024 + n % 1024) (sym here))

-- ---- zeros alone
zeros_sparse : (count blocks : ℕ) → count < 2 ^ 32 → count ≤ blocks * 1024 → IsSparse count (replicate blocks 0) (replicate 1024 0)
zeros_sparse count blocks few room = record {
  few = few;
  room = omega (arith, room, length-replicate {A = ℕ} blocks 0);
  whole = ap (λ len. len % 1024) (length-replicate {A = ℕ} 1024 0);
  zeros = λ i early. get_or-replicate {A = ℕ} 1024 i 0 0 early;
  stands = λ b fits. omega (arith, none b fits, length-replicate {A = ℕ} 1024 0);
  alone = λ a b a_fits b_fits used same. absurd (used (none a a_fits));
}
  where
    none : (b : ℕ) → b < length {A = ℕ} (replicate blocks 0) → get_or {A = ℕ} (replicate blocks 0) b 0 ≡ 0
    none b fits = get_or-replicate {A = ℕ} blocks b 0 0 (omega (arith, fits, length-replicate {A = ℕ} blocks 0))

zeros_numbers : (count blocks : ℕ) → count ≤ blocks * 1024 → stored_numbers count (replicate blocks 0) (replicate 1024 0) ≡ replicate count 0
zeros_numbers count blocks room =
    ext_get_or 0 (stored_numbers count (replicate blocks 0) (replicate 1024 0)) (replicate count 0)
    (numbers_len count (replicate blocks 0) (replicate 1024 0) ∙ sym (length-replicate {A = ℕ} count 0))
    (λ i fits.
    let below : i < count = omega (arith, fits, numbers_len count (replicate blocks 0) (replicate 1024 0)) in
    number_seen count (replicate blocks 0) (replicate 1024 0) i below
    ∙ ap (λ b. get_or {A = ℕ} (replicate 1024 0) (b * 1024 + i % 1024) 0) (get_or-replicate {A = ℕ} blocks (i / 1024) 0 0 (omega (arith, below, room)))
    ∙ ap (λ k. get_or {A = ℕ} (replicate 1024 0) k 0) (in_first (i % 1024)) ∙ get_or-replicate {A = ℕ} 1024 (i % 1024) 0 0 (omega arith)
    ∙ sym (get_or-replicate {A = ℕ} count i 0 0 below))

-- ---- as a function has them
read_below : {count : ℕ} {blocks stored : List ℕ} (seen : List ℕ) (n : ℕ) → IsSparse count blocks stored → stored_numbers count blocks stored ≡ seen → n < length seen → n < count
read_below {count} {blocks} {stored} seen n sparse is fits = let size = ap (λ (l : List ℕ). length l) is in omega (arith, size, fits, numbers_len count blocks stored)

-- the block of a number
pub block_fits : {count : ℕ} {blocks stored : List ℕ} (seen : List ℕ) (n len : ℕ) → IsSparse count blocks stored → stored_numbers count blocks stored ≡ seen → n < length seen
    → len ≡ length blocks → n / 1024 < len
block_fits {count} {blocks} {stored} seen n len sparse view fits size =
    let below = block_below count blocks stored n sparse (read_below seen n sparse view fits) in
    omega (arith, below, size)

-- A number is there, and its block and where it stands were read.
pub record IsFound (count : ℕ) (blocks stored seen : List ℕ) (n block place : ℕ) : Type 0 where
  pub sparse : IsSparse count blocks stored
  pub view : stored_numbers count blocks stored ≡ seen
  pub below : n < count
  pub block_is : block ≡ get_or blocks (n / 1024) 0
  pub place_is : place ≡ place_of blocks n

pub found : {count : ℕ} {blocks stored : List ℕ} (seen : List ℕ) (n block place : ℕ) → IsSparse count blocks stored → stored_numbers count blocks stored ≡ seen → n < length seen
    → block ≡ get_or blocks (n / 1024) block → place ≡ block * 1024 + n % 1024 → IsFound count blocks stored seen n block place
found {count} {blocks} {stored} seen n block place sparse view fits read stands =
    let below = read_below seen n sparse view fits in
    let is = read ∙ get_or_default_zero blocks (n / 1024) block (block_below count blocks stored n sparse below) in
    record { sparse = sparse; view = view; below = below; block_is = is; place_is = stands ∙ ap (λ b. b * 1024 + n % 1024) is }

pub place_fits : {count : ℕ} {blocks stored seen : List ℕ} {n block place : ℕ} (len : ℕ) → IsFound count blocks stored seen n block place → len ≡ length stored → place < len
place_fits {count} {blocks} {stored} {n = n} len found size =
    let below = place_below count blocks stored n found.sparse found.below in
    omega (arith, below, found.place_is, size)

pub number_read : {count : ℕ} {blocks stored seen : List ℕ} {n block place : ℕ} (number : ℕ) → IsFound count blocks stored seen n block place → number ≡ get_or stored place number
    → number ≡ get_or seen n 0
number_read {count} {blocks} {stored} {n = n} number found read =
    read ∙ ap (λ k. get_or stored k number) found.place_is ∙ get_or_default_zero stored (place_of blocks n) number (place_below count blocks stored n found.sparse found.below)
    ∙ sym (number_seen count blocks stored n found.below) ∙ ap (λ (l : List ℕ). get_or l n 0) found.view

-- where a number isn't zero its block is stored of its own
pub some_used : {count : ℕ} {blocks stored seen : List ℕ} {n block place : ℕ} → IsFound count blocks stored seen n block place → get_or seen n 0 ≢ 0 → block ≢ 0
some_used {count} {blocks} {stored} {n = n} found some none =
    block_used count blocks stored n found.sparse
    (λ zero. some (ap (λ (l : List ℕ). get_or l n 0) (sym found.view) ∙ number_seen count blocks stored n found.below ∙ zero)) (sym found.block_is ∙ none)

-- and takes another one
pub put_sparse : {count : ℕ} {blocks stored seen : List ℕ} {n block place : ℕ} (value : ℕ) → IsFound count blocks stored seen n block place → block ≢ 0
    → IsSparse count blocks (slice_set stored place value)
put_sparse {count} {blocks} {stored} {n = n} {place = place} value found used =
    replaced_sparse count blocks stored n place value found.sparse (λ none. used (found.block_is ∙ none)) found.place_is

pub put_numbers : {count : ℕ} {blocks stored seen : List ℕ} {n block place : ℕ} (value : ℕ) → IsFound count blocks stored seen n block place → block ≢ 0
    → stored_numbers count blocks (slice_set stored place value) ≡ slice_set seen n value
put_numbers {count} {blocks} {stored} {n = n} {place = place} value found used =
    replaced_numbers count blocks stored n place value found.sparse found.below (λ none. used (found.block_is ∙ none)) found.place_is
    ∙ ap (λ (l : List ℕ). slice_set l n value) found.view

-- One more block is stored, behind the others.
pub record IsGrown (count : ℕ) (blocks stored seen : List ℕ) (n last : ℕ) (more : List ℕ) : Type 0 where
  pub sparse : IsSparse count blocks stored
  pub view : stored_numbers count blocks stored ≡ seen
  pub below : n < count
  pub end : last * 1024 ≡ length stored
  pub zeros : more ≡ stored ++ replicate {A = ℕ} 1024 0

pub grown : {count : ℕ} {blocks stored : List ℕ} (seen : List ℕ) (n last len was size : ℕ) (more : List ℕ) → IsSparse count blocks stored → stored_numbers count blocks stored ≡ seen
    → n < length seen → size ≡ length stored → last ≡ len / 1024 → len ≡ size → was ≡ size → more ≡ take (was + 1024) stored ++ replicate {A = ℕ} (was + 1024 - size) 0
    → IsGrown count blocks stored seen n last more
grown {count} {blocks} {stored} seen n last len was size more sparse view fits size_is last_is len_is was_is is = record {
  sparse = sparse;
  view = view;
  below = read_below seen n sparse view fits;
  end = let whole = sparse.whole in omega (arith, whole, last_is, len_is, size_is);
  zeros =
      is ∙ ap (λ (l : List ℕ). l ++ replicate {A = ℕ} (was + 1024 - size) 0) (take_all (was + 1024) stored (omega (arith, was_is, size_is)))
      ∙ ap (λ k. stored ++ replicate {A = ℕ} k 0) (let rest : was + 1024 - size ≡ 1024 = omega (arith, was_is) in rest);
}

pub grown_put_sparse : {count : ℕ} {blocks stored seen : List ℕ} {n last : ℕ} {more : List ℕ} (at value : ℕ) → IsGrown count blocks stored seen n last more → at ≡ last * 1024 + n % 1024
    → IsSparse count (slice_set blocks (n / 1024) last) (slice_set more at value)
grown_put_sparse {count} {blocks} {stored} {n = n} {last = last} at value grown is =
    subst (λ (l : List ℕ). IsSparse count (slice_set blocks (n / 1024) last) (slice_set l at value)) (sym grown.zeros)
    (added_sparse count blocks stored n last at value grown.sparse grown.below grown.end is)

pub grown_put_numbers : {count : ℕ} {blocks stored seen : List ℕ} {n last : ℕ} {more : List ℕ} (block at value : ℕ) → IsGrown count blocks stored seen n last more
    → block ≡ get_or blocks (n / 1024) block → block ≡ 0 → at ≡ last * 1024 + n % 1024
    → stored_numbers count (slice_set blocks (n / 1024) last) (slice_set more at value) ≡ slice_set seen n value
grown_put_numbers {count} {blocks} {stored} {n = n} {last = last} block at value grown read none is =
    let fits = block_below count blocks stored n grown.sparse grown.below in
    ap (λ (l : List ℕ). stored_numbers count (slice_set blocks (n / 1024) last) (slice_set l at value)) grown.zeros
    ∙ added_numbers count blocks stored n last at value grown.sparse grown.below
    (sym (read ∙ get_or_default_zero blocks (n / 1024) block fits) ∙ none) grown.end is
    ∙ ap (λ (l : List ℕ). slice_set l n value) grown.view

-- each index fits its type
pub index_small : (count : ℕ) (blocks stored seen : List ℕ) (first len i : ℕ) → IsSparse count blocks stored → stored_numbers count blocks stored ≡ seen
    → first + len ≤ length seen
    → i < len → first + i < 2 ^ 32
index_small count blocks stored seen first len i sparse is fits early =
    let few = sparse.few in
    let size = ap (λ (l : List ℕ). length l) is in
    omega (arith, size, fits, early, few, numbers_len count blocks stored)

pub row_read : (numbers : List ℕ) (first len start : ℕ) → ((k : ℕ) → k < len → get_or numbers (first + k) 0 ≡ start + k)
    → IsRow start (slice_range numbers first (first + len))
row_read numbers first len start each k below =
    let early : k < len = omega (arith, below, length-take (first + len - first) (drop first numbers)) in
    get_or-take (first + len - first) (drop first numbers) k 0 (omega (arith, early)) ∙ get_or-drop first numbers k 0 ∙ each k early

-- zeros, as they are made
pub made : {len : ℕ} {old new : List ℕ} (count : ℕ) → old ≡ [] → len ≡ 0 → new ≡ take count old ++ replicate {A = ℕ} (count - len) 0 → new ≡ replicate {A = ℕ} count 0
made {len} count none nought is =
    is ∙ ap (λ l. take count l ++ replicate {A = ℕ} (count - len) 0) none ∙ ap (λ l. l ++ replicate {A = ℕ} (count - len) 0) (take_all count [] (omega arith))
    ∙ ap (λ k. replicate {A = ℕ} k 0) (let rest : count - len ≡ count = omega (arith, nought) in rest)

pub made_sparse : {blocks stored : List ℕ} (count : ℕ) → blocks ≡ replicate {A = ℕ} (count / 1024 + 1) 0 → stored ≡ replicate {A = ℕ} 1024 0 → count < 2 ^ 32 → IsSparse count blocks stored
made_sparse {blocks} {stored} count blocks_are stored_are few =
    subst (λ (l : List ℕ). IsSparse count l stored) (sym blocks_are)
    (subst (λ (l : List ℕ). IsSparse count (replicate {A = ℕ} (count / 1024 + 1) 0) l) (sym stored_are) (zeros_sparse count (count / 1024 + 1) few (omega arith)))

pub made_numbers : {blocks stored : List ℕ} (count : ℕ) → blocks ≡ replicate {A = ℕ} (count / 1024 + 1) 0 → stored ≡ replicate {A = ℕ} 1024 0 → stored_numbers count blocks stored ≡ replicate {A = ℕ} count 0
made_numbers {blocks} {stored} count blocks_are stored_are =
    ap (λ (l : List ℕ). stored_numbers count l stored) blocks_are
    ∙ ap (λ (l : List ℕ). stored_numbers count (replicate {A = ℕ} (count / 1024 + 1) 0) l) stored_are
    ∙ zeros_numbers count (count / 1024 + 1) (omega arith)
