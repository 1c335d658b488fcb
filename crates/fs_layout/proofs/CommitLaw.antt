-- What is read of a commit sector is spelled so, and what is spelled so is read.
use Rattle.std.proofs.Common.{◌≡◌, ℕ, zero, suc, ◌+◌, ◌*◌, ◌-◌, ◌≤◌, ◌<◌, ◌^◌, inl, inr, get_or, List, ◌∷◌, ◌++◌, length, take, drop, refl, sym, ap, subst, ◌∙◌, length-append, arith, Bool, true, false, cond, Result, Ok, Err, nat_eq, nat_lt}
use Rattle.std.proofs.lemmas.List.{drop-drop, drop_at, take_rest, take_all, length-take, get_or-take, get_or_past}
use Rattle.std.proofs.lemmas.Bool.{cases_lt, eqb-true, le-ltb, ltb-false}
use Rattle.fs_layout.specs.declared.fault.LayoutFault.{LayoutFault}
use Rattle.fs_layout.specs.declared.fault.LayoutFault.TheVariants.{BadMagic, BadNumber, NotZero}
use Rattle.fs_layout.specs.Bytes.{IsBytes, splice, le32, le32s, zeros, u32_of, u32s_of, are_zero}
use Rattle.fs_layout.specs.Commit.{commit_bytes, commit_bytes_in, commit_magic, commit_of, FitsCommit}
use Rattle.fs_layout.proofs.Codecs.{IsCodec, held, passed, same_ok}
use Rattle.fs_layout.proofs.Fields.{back32, back32s, zeros_back, zeros-are_zero, read32, read32s}
use Rattle.fs_layout.proofs.Small.{u32s_len, u32s_small}
use Rattle.fs_layout.proofs.Writes.{first_write, next_write, all_written, length-le32s, length-zeros}

-- the bytes of a commit whose targets all stand in the commit sector
abbrev short_bytes : List ℕ → List ℕ
short_bytes targets = le32 commit_magic ++ (le32 (length targets) ++ (le32s targets ++ zeros (504 - 4 * length targets)))

pub short_is : (ts : List ℕ) → length ts ≤ 126 → short_bytes ts ≡ commit_bytes ts
short_is ts few =
    ap (λ (l : List ℕ). le32 commit_magic ++ (le32 (length ts) ++ (le32s l ++ zeros (504 - 4 * length ts)))) (sym (take_all 126 ts few))

-- the bytes of a commit that the fields of s are
spelled : (s : List ℕ) (n : ℕ) → length s ≡ 512 → IsBytes s → n ≤ 126 → u32_of s 0 ≡ commit_magic → u32_of s 4 ≡ n
    → are_zero (drop (8 + 4 * n) s) ≡ true
    → s ≡ short_bytes (u32s_of s 8 n)
spelled s n len fits few magic count rest =
    let ts = u32s_of s 8 n in
    let counted : length ts ≡ n = u32s_len s 8 n in
    let e0 : s ≡ le32 (u32_of s 0) ++ drop 4 s = back32 s 0 fits (omega arith) in
    let e1 : drop 4 s ≡ le32 (u32_of s 4) ++ drop 8 s = back32 s 4 fits (omega arith) in
    let e2 : drop 8 s ≡ le32s ts ++ drop (8 + 4 * n) s = back32s n s 8 fits (omega arith) in
    let e3 : drop (8 + 4 * n) s ≡ zeros (504 - 4 * length ts) = zeros_back s (8 + 4 * n) (504 - 4 * length ts) (omega arith) rest in
    e0 ∙ ap (λ (k : ℕ). le32 k ++ drop 4 s) magic
    ∙ ap (λ (r : List ℕ). le32 commit_magic ++ r) (e1 ∙ ap (λ (k : ℕ). le32 k ++ drop 8 s) (count ∙ sym counted)
    ∙ ap (λ (r : List ℕ). le32 (length ts) ++ r) (e2 ∙ ap (λ (r : List ℕ). le32s ts ++ r) e3))

back : (s v : List ℕ) → length s ≡ 512 → IsBytes s → commit_of s ≡ Ok v → (s ≡ short_bytes v) × FitsCommit v
unfolding commit_of
back s v len fits e =
    let n = u32_of s 4 in
    let inner : Result (List ℕ) LayoutFault = cond (are_zero (drop (8 + 4 * n) s)) (Ok (u32s_of s 8 n)) (Err NotZero) in
    let a = held (nat_eq (u32_of s 0) commit_magic) (cond (nat_lt 126 n) (Err BadNumber) inner) BadMagic v e in
    let b = passed (nat_lt 126 n) inner BadNumber v a.1 in
    let c = held (are_zero (drop (8 + 4 * n) s)) (Ok (u32s_of s 8 n)) NotZero v b.1 in
    let same : u32s_of s 8 n ≡ v = same_ok (u32s_of s 8 n) v (Ok (u32s_of s 8 n)) refl c.1 in
    let few : n ≤ 126 = ltb-false 126 n b.0 in
    let fit : FitsCommit (u32s_of s 8 n) = record { few = omega (arith, u32s_len s 8 n, few); numbers = λ i. u32s_small s 8 n i fits } in
    (spelled s n len fits few (eqb-true (u32_of s 0) commit_magic a.0) refl c.0 ∙ ap short_bytes same, subst FitsCommit same fit)

counted : (ts : List ℕ) → drop 4 (short_bytes ts) ≡ le32 (length ts) ++ (le32s ts ++ zeros (504 - 4 * length ts))
unfolding le32
counted ts = refl

listed : (ts : List ℕ) → drop 8 (short_bytes ts) ≡ le32s ts ++ zeros (504 - 4 * length ts)
unfolding le32
listed ts = refl

again : (ts : List ℕ) → FitsCommit ts → commit_of (short_bytes ts) ≡ Ok ts
unfolding commit_of
again ts f =
    let s = short_bytes ts in
    let n = length ts in
    let magic : u32_of s 0 ≡ commit_magic = read32 s 0 commit_magic (le32 n ++ (le32s ts ++ zeros (504 - 4 * n))) refl (omega arith) in
    let count : u32_of s 4 ≡ n = read32 s 4 n (le32s ts ++ zeros (504 - 4 * n)) (counted ts) (omega (arith, f.few)) in
    let targets : u32s_of s 8 n ≡ ts = read32s ts s 8 (zeros (504 - 4 * n)) (listed ts) f.numbers in
    let past : drop (8 + 4 * n) s ≡ zeros (504 - 4 * n) =
    sym (drop-drop (4 * n) 8 s) ∙ ap (drop (4 * n)) (listed ts) ∙ drop_at (le32s ts) (zeros (504 - 4 * n)) (4 * n) (length-le32s ts) in
    let rest : are_zero (drop (8 + 4 * n) s) ≡ true = ap are_zero past ∙ zeros-are_zero (504 - 4 * n) in
    let small : nat_lt 126 n ≡ false = le-ltb 126 n f.few in
    rw (magic, count, targets) (rw (small, rest) refl)

pub commit_codec : IsCodec 512 FitsCommit commit_bytes commit_of
commit_codec = record {
  back = λ s v len fits e. let is = back s v len fits e in (is.0 ∙ short_is v is.1.few, is.1);
  again = λ v fits. ap commit_of (sym (short_is v fits.few)) ∙ again v fits;
}

-- a commit's spelling fills a sector
pub length-commit_bytes : (ts : List ℕ) → length (commit_bytes ts) ≡ 512
unfolding le32
length-commit_bytes ts =
    let first = take 126 ts in
    omega (arith, length-take 126 ts, length-le32s first, length-append (le32s first) (zeros (504 - 4 * length ts)), length-zeros (504 - 4 * length ts))

-- ---- the numbers of a commit's spelling
pub get_or-u32s_of : (s : List ℕ) (at n i : ℕ) → i < n → get_or (u32s_of s at n) i 0 ≡ u32_of s (at + 4 * i)
unfolding u32s_of
get_or-u32s_of s at zero i lt = absurd (omega (arith, lt))
get_or-u32s_of s at (suc n) zero lt = ap (u32_of s) (omega arith)
get_or-u32s_of s at (suc n) (suc i) lt = get_or-u32s_of s (at + 4) n i (omega (arith, lt)) ∙ ap (u32_of s) (omega arith)

-- a commit in the first area
pub in_first : (ts : List ℕ) → commit_bytes_in 0 ts ≡ commit_bytes ts
in_first ts = ap (λ (n : ℕ). le32 commit_magic ++ (le32 n ++ (le32s (take 126 ts) ++ zeros (504 - 4 * length ts)))) (omega arith)

counted_long : (area : ℕ) (ts : List ℕ) → drop 4 (commit_bytes_in area ts) ≡ le32 (length ts + 0x8000_0000 * area) ++ (le32s (take 126 ts) ++ zeros (504 - 4 * length ts))
unfolding le32
counted_long area ts = refl

listed_long : (area : ℕ) (ts : List ℕ) → drop 8 (commit_bytes_in area ts) ≡ le32s (take 126 ts) ++ zeros (504 - 4 * length ts)
unfolding le32
listed_long area ts = refl

pub number_of_word : (area : ℕ) (ts : List ℕ) → length ts + 0x8000_0000 * area < 2 ^ 32 → u32_of (commit_bytes_in area ts) 4 ≡ length ts + 0x8000_0000 * area
number_of_word area ts small = read32 (commit_bytes_in area ts) 4 (length ts + 0x8000_0000 * area) (le32s (take 126 ts) ++ zeros (504 - 4 * length ts)) (counted_long area ts) small

pub number_of-commit_bytes_in : (area : ℕ) (ts : List ℕ) (i : ℕ) → ((j : ℕ) → get_or ts j 0 < 2 ^ 32) → i < 126 → i < length ts → u32_of (commit_bytes_in area ts) (8 + 4 * i) ≡ get_or ts i 0
number_of-commit_bytes_in area ts i numbers low lt =
    let first = take 126 ts in
    let fit : (j : ℕ) → get_or first j 0 < 2 ^ 32 = λ j. elim (cases_lt j 126) [
      | inl near ↦ rw (get_or-take 126 ts j 0 near) (numbers j)
      | inr far ↦ rw (get_or_past first j 0 (omega (arith, length-take 126 ts, far))) (omega arith)
    ] in
    let read : u32s_of (commit_bytes_in area ts) 8 (length first) ≡ first = read32s first (commit_bytes_in area ts) 8 (zeros (504 - 4 * length ts)) (listed_long area ts) fit in
    sym (get_or-u32s_of (commit_bytes_in area ts) 8 (length first) i (omega (arith, length-take 126 ts, low, lt)))
    ∙ ap (λ (l : List ℕ). get_or l i 0) read ∙ get_or-take 126 ts i 0 low

pub take-u32s_of : (s : List ℕ) (at k n : ℕ) → k ≤ n → take k (u32s_of s at n) ≡ u32s_of s at k
unfolding u32s_of
take-u32s_of s at zero n le = refl
take-u32s_of s at (suc k) zero le = absurd (omega (arith, le))
take-u32s_of s at (suc k) (suc n) le = ap (λ (r : List ℕ). u32_of s at ∷ r) (take-u32s_of s (at + 4) k n (omega (arith, le)))

-- a reading that came to its end
pub read_to_end : (s to : List ℕ) (magic n : ℕ) (zero_rest : Bool) → magic ≡ u32_of s 0 → magic ≡ commit_magic → n ≡ u32_of s 4 → n ≤ 126
    → zero_rest ≡ are_zero (take (length s - (8 + 4 * n)) (drop (8 + 4 * n) s)) → zero_rest ≡ true → to ≡ u32s_of s 8 126 → Ok (take n to) ≡ commit_of s
unfolding commit_of
read_to_end s to magic n zero_rest is right count few tested true_rest e =
    let rest : are_zero (drop (8 + 4 * n) s) ≡ true = ap are_zero (sym (take_rest s (8 + 4 * n))) ∙ sym tested ∙ true_rest in
    let m : u32_of s 0 ≡ commit_magic = sym is ∙ right in
    let c : u32_of s 4 ≡ n = sym count in
    let small : nat_lt 126 n ≡ false = le-ltb 126 n few in
    let read : u32s_of s 8 n ≡ take n to = sym (ap (take n) e ∙ take-u32s_of s 8 n 126 few) in
    sym (rw (m, c) (rw (small, rest, read) refl))

-- the four writes of a commit
pub written : (old a b d e ts first : List ℕ) (area n : ℕ) → length old ≡ 512 → n ≡ length ts + 0x8000_0000 * area → first ≡ take 126 ts → a ≡ splice old 0 (le32 commit_magic)
    → b ≡ splice a 4 (le32 n) → d ≡ splice b 8 (le32s first)
    → e ≡ splice d (8 + 4 * length first) (zeros (504 - 4 * length first)) → e ≡ commit_bytes_in area ts
unfolding le32
written old a b d e ts first area n len is of wa wb wd we =
    let m = length first in
    let short : m ≡ length (take 126 ts) = ap length of in
    let long : length (le32s first) ≡ 4 * m = length-le32s first in
    let z : length (zeros (504 - 4 * m)) ≡ 504 - 4 * m = length-zeros (504 - 4 * m) in
    let same : 504 - 4 * m ≡ 504 - 4 * length ts = omega (arith, short, length-take 126 ts) in
    let b0 = first_write old a (le32 commit_magic) wa in
    let b1 = next_write old _ a b (le32 n) 4 b0 refl wb in
    let b2 = next_write old _ b d (le32s first) 8 b1 refl wd in
    let b3 = next_write old _ d e (zeros (504 - 4 * m)) (8 + 4 * m) b2 (omega (arith, long)) we in
    all_written old _ e b3 (omega (arith, len, long, z, short, length-take 126 ts, length-append (le32s first) (zeros (504 - 4 * m))))
    ∙ (λ i. le32 commit_magic ++ (le32 (is i) ++ (le32s (of i) ++ zeros (same i))))
