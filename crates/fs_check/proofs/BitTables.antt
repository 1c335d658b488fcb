-- Tables of bits.
use Rattle.std.specs.Prelude.{◌≡◌, ◌≢◌, ℕ, ◌+◌, ◌-◌, ◌*◌, ◌/◌, ◌%◌, ◌<◌, ◌≤◌, nat_eq, ◌⊎◌, Bool, true, false, not, cond, List, length, get_or, set, replicate, take, drop, count_by}
use Rattle.std.proofs.Common.{◌^◌, bit_or, refl, sym, ap, arith, subst, ◌∙◌, inl, inr, get_or-set_other, length-set}
use Rattle.std.specs.Int.{w8, bit_at}
use Rattle.std.proofs.lemmas.Bool.{cases_eq, cases_lt}
use Rattle.std.proofs.lemmas.Grind.{get_or-set_at}
use Rattle.std.proofs.lemmas.List.{ext_get_or, get_or_default, length-replicate, get_or-replicate, get_or_past, get_or-drop, get_or-take, length-take-le}
use Rattle.std.proofs.lemmas.List.FromFn.{get_or-map-range_with_len, length-map-range_with_len}
use Rattle.std.proofs.lemmas.List.Sums.{count_by-le-length, sum_by-set, sum_by-take-drop}
use Rattle.std.proofs.lemmas.List.Folds.{sum_by-replicate}
use Rattle.std.proofs.lemmas.Nat.Bits.{bit_at-zero, bit_at_set_same, bit_at_set_other}
use Rattle.fs_check.specs.BitTables.{bit_in, bits_of, IsBitTable}

pub bits_len : (size : ℕ) (bytes : List ℕ) → length (bits_of size bytes) ≡ size
unfolding bits_of
bits_len size bytes = length-map-range_with_len (bit_in bytes) 0 size

pub bit_of : (size : ℕ) (bytes : List ℕ) (n : ℕ) → n < size → get_or (bits_of size bytes) n false ≡ bit_in bytes n
unfolding bits_of
bit_of size bytes n lt = get_or-map-range_with_len (bit_in bytes) 0 size n n false lt (omega arith)

-- a bit of the table has its byte
has_byte : (size clear n : ℕ) (bytes : List ℕ) → IsBitTable size clear bytes → n < length (bits_of size bytes) → n / 8 < length bytes
has_byte size clear n bytes x lt = let len = bits_len size bytes in let room = x.room in omega (arith, lt, len, room)

-- ---- no bit is set

all_clear : (size : ℕ) (bytes : List ℕ) → ((i : ℕ) → get_or bytes i 0 ≡ 0) → bits_of size bytes ≡ replicate size false
all_clear size bytes zeros =
    ext_get_or false (bits_of size bytes) (replicate size false) (bits_len size bytes ∙ sym (length-replicate size false)) (λ n lt.
    let len = bits_len size bytes in
    let below : n < size = omega (arith, lt, len) in
    bit_of size bytes n below ∙ ap (λ (x : ℕ). nat_eq (bit_at x (n % 8)) 1) (zeros (n / 8)) ∙ ap (λ (x : ℕ). nat_eq x 1) (bit_at-zero (n % 8))
    ∙ sym (get_or-replicate size n false false below))

pub zero_bytes : (n : ℕ) (bytes : List ℕ) → bytes ≡ replicate n 0 → (i : ℕ) → get_or bytes i 0 ≡ 0
zero_bytes n bytes is i =
    ap (λ (l : List ℕ). get_or l i 0) is
    ∙ elim (cases_lt i n) [ inl lt ↦ get_or-replicate n i 0 0 lt | inr ge ↦ get_or_past (replicate n 0) i 0 (let z = length-replicate {A = ℕ} n 0 in omega (arith, z, ge)) ]

pub no_bits : (size n : ℕ) (bytes : List ℕ) → bytes ≡ replicate n 0 → bits_of size bytes ≡ replicate size false
no_bits size n bytes is = all_clear size bytes (zero_bytes n bytes is)

clear_count : (size : ℕ) → count_by not (replicate size false) ≡ size
clear_count size = let e = sum_by-replicate (λ (b : Bool). cond (not b) 1 0) size false in omega (arith, e)

pub new_table : (size n : ℕ) (bytes : List ℕ) → bytes ≡ replicate n 0 → size ≤ 8 * n → IsBitTable size size bytes
new_table size n bytes is room = record {
  room = let len = ap length is ∙ length-replicate {A = ℕ} n 0 in omega (arith, room, len);
  counted = sym (ap (count_by not) (no_bits size n bytes is) ∙ clear_count size);
}

-- ---- how many are clear

-- one less, where one more is set
pub one_less : (bits : List Bool) (n : ℕ) → n < length bits → get_or bits n false ≡ false → count_by not (set bits n true) + 1 ≡ count_by not bits
one_less bits n lt clear =
    let e = sum_by-set (λ (b : Bool). cond (not b) 1 0) bits n true false lt in
    let one : cond (not (get_or bits n false)) 1 0 ≡ 1 = ap (λ (b : Bool). cond {A = ℕ} (not b) 1 0) clear in
    omega (arith, e, one)

-- not all, where one is set
set_less : (bits : List Bool) (n : ℕ) → n < length bits → get_or bits n false ≡ true → count_by not bits < length bits
set_less bits n lt set_there =
    let e = sum_by-set (λ (b : Bool). cond (not b) 1 0) bits n false false lt in
    let none : cond (not (get_or bits n false)) 1 0 ≡ 0 = ap (λ (b : Bool). cond {A = ℕ} (not b) 1 0) set_there in
    let most = count_by-le-length not (set bits n false) in
    let len = length-set bits n false in
    omega (arith, e, none, most, len)

pub either : (b : Bool) → (b ≡ true) ⊎ (b ≡ false)
either true = inl refl
either false = inr refl

pub none_set : (bits : List Bool) → count_by not bits ≡ length bits → (n : ℕ) → n < length bits → get_or bits n false ≡ false
none_set bits all n lt = elim (either (get_or bits n false)) [
  | inl set_there ↦ absurd (let less = set_less bits n lt set_there in omega (arith, less, all))
  | inr clear ↦ clear
]

-- the bits before some end are clear, if none of them is set
pub clear_before : (first : ℕ) (bits : List Bool) → first ≤ length bits → ((n : ℕ) → n < first → get_or bits n false ≡ false)
    → count_by not bits ≡ first + count_by not (drop first bits)
clear_before first bits within clear =
    let len : length (take first bits) ≡ first = length-take-le first bits within in
    let front : take first bits ≡ replicate first false =
    ext_get_or false (take first bits) (replicate first false) (len ∙ sym (length-replicate first false)) (λ n lt.
    let below : n < first = omega (arith, lt, len) in
    get_or-take first bits n false below ∙ clear n below ∙ sym (get_or-replicate first n false false below)) in
    let parts = sum_by-take-drop (λ (b : Bool). cond {A = ℕ} (not b) 1 0) bits first in
    let counted = ap (count_by not) front ∙ clear_count first in
    omega (arith, parts, counted)

-- ---- one more is set

bits_set : (size n x : ℕ) (bytes : List ℕ) → n < size → n / 8 < length bytes → bit_at x (n % 8) ≡ 1
    → ((j : ℕ) → j ≢ n % 8 → bit_at x j ≡ bit_at (get_or bytes (n / 8) 0) j)
    → bits_of size (set bytes (n / 8) x) ≡ set (bits_of size bytes) n true
bits_set size n x bytes lt there here others =
    ext_get_or false (bits_of size (set bytes (n / 8) x)) (set (bits_of size bytes) n true)
    (bits_len size (set bytes (n / 8) x) ∙ sym (bits_len size bytes) ∙ sym (length-set (bits_of size bytes) n true)) (λ k low.
    let len = bits_len size (set bytes (n / 8) x) in
    let old_len = bits_len size bytes in
    let below : k < size = omega (arith, low, len) in
    bit_of size (set bytes (n / 8) x) k below ∙ elim (cases_eq k n) [
      | inl e ↦
          let byte : get_or (set bytes (n / 8) x) (k / 8) 0 ≡ x = get_or-set_at bytes (n / 8) (k / 8) x 0 (ap (λ (i : ℕ). i / 8) e) there in
          ap (λ (y : ℕ). nat_eq (bit_at y (k % 8)) 1) byte ∙ ap (λ (i : ℕ). nat_eq (bit_at x (i % 8)) 1) e ∙ ap (λ (y : ℕ). nat_eq y 1) here
          ∙ sym (get_or-set_at (bits_of size bytes) n k true false e (omega (arith, lt, old_len)))
      | inr ne ↦
          elim (cases_eq (k / 8) (n / 8)) [
            | inl same ↦
                let byte : get_or (set bytes (n / 8) x) (k / 8) 0 ≡ x = get_or-set_at bytes (n / 8) (k / 8) x 0 same there in
                ap (λ (y : ℕ). nat_eq (bit_at y (k % 8)) 1) byte
                ∙ ap (λ (y : ℕ). nat_eq y 1) (others (k % 8) (λ alike. ne (omega (arith, same, alike))))
                ∙ ap (λ (i : ℕ). nat_eq (bit_at (get_or bytes i 0) (k % 8)) 1) (sym same)
            | inr other ↦ ap (λ (y : ℕ). nat_eq (bit_at y (k % 8)) 1) (get_or-set_other bytes (n / 8) (k / 8) x 0 other)
          ]
          ∙ sym (bit_of size bytes k below) ∙ sym (get_or-set_other (bits_of size bytes) n k true false ne)
    ])

pub one_set : (size clear n x : ℕ) (bytes : List ℕ) → IsBitTable size clear bytes → n < size → n / 8 < length bytes → get_or (bits_of size bytes) n false ≡ false
    → bits_of size (set bytes (n / 8) x) ≡ set (bits_of size bytes) n true → IsBitTable size (clear - 1) (set bytes (n / 8) x)
one_set size clear n x bytes table lt there was is = record {
  room = let room = table.room in let len = length-set bytes (n / 8) x in omega (arith, room, len);
  counted =
      let len = bits_len size bytes in
      let less = one_less (bits_of size bytes) n (omega (arith, lt, len)) was in
      let now = ap (count_by not) is in
      let before = table.counted in
      omega (arith, less, now, before);
}

-- of a table that is seen as these bits
module _ (size clear n : ℕ) (bytes : List ℕ) (bits : List Bool) (table : IsBitTable size clear bytes) (view : bits_of size bytes ≡ bits) (lt : n < length bits) where
  pub bit_below : n < size
  bit_below = let len = bits_len size bytes in let same = ap length view in omega (arith, lt, len, same)

  pub byte_there : n / 8 < length bytes
  byte_there = has_byte size clear n bytes table (subst (λ l. n < length l) (sym view) lt)

  pub byte_is : (x : ℕ) → x ≡ get_or bytes (n / 8) x → x ≡ get_or bytes (n / 8) 0
  byte_is x is = is ∙ get_or_default bytes (n / 8) x 0 byte_there

  pub bit_put : (x : ℕ) → x ≡ get_or bytes (n / 8) x
      → bits_of size (set bytes (n / 8) (bit_or x (1 * 2 ^ (n % 8) % 256))) ≡ set (bits_of size bytes) n true
  bit_put x is =
      bits_set size n (bit_or x (1 * 2 ^ (n % 8) % 256)) bytes bit_below byte_there (bit_at_set_same w8 x (n % 8) (omega arith))
      (λ j ne. bit_at_set_other w8 x (n % 8) (omega arith) j ne ∙ ap (λ (b : ℕ). bit_at b j) (byte_is x is))

-- ---- a sector of them

pub sector_end : (size clear k : ℕ) (bytes : List ℕ) → IsBitTable size clear bytes → 4096 * (k + 1) ≤ length (bits_of size bytes) → 512 * k + 512 ≤ length bytes
sector_end size clear k bytes x most = let len = bits_len size bytes in let room = x.room in omega (arith, most, len, room)

pub sector_bits : (size k n : ℕ) (bytes seen sector : List ℕ) → seen ≡ bytes → take (512 * k + 512 - 512 * k) (drop (512 * k) seen) ≡ sector → 4096 * k ≤ n → n < 4096 * (k + 1)
    → 4096 * (k + 1) ≤ length (bits_of size bytes)
    → get_or (bits_of size bytes) n false ≡ bit_in sector (n % 4096)
sector_bits size k n bytes seen sector same part low lt most =
    let len = bits_len size bytes in
    let below : n < size = omega (arith, lt, most, len) in
    let i = n % 4096 / 8 in
    let at : 512 * k + i ≡ n / 8 = omega (arith, low, lt) in
    let bit_place : n % 8 ≡ n % 4096 % 8 = omega arith in
    let byte : get_or bytes (n / 8) 0 ≡ get_or sector i 0 =
    ap (λ (l : List ℕ). get_or l (n / 8) 0) (sym same) ∙ ap (λ (j : ℕ). get_or seen j 0) (sym at) ∙ sym (get_or-drop (512 * k) seen i 0)
    ∙ sym (get_or-take (512 * k + 512 - 512 * k) (drop (512 * k) seen) i 0 (omega arith)) ∙ ap (λ (l : List ℕ). get_or l i 0) part in
    bit_of size bytes n below
    ∙ ap (λ (x : ℕ). nat_eq (bit_at x (n % 8)) 1) byte ∙ ap (λ (j : ℕ). nat_eq (bit_at (get_or sector i 0) j) 1) bit_place
