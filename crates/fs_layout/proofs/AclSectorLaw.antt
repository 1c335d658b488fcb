-- What is read of an ACL's sector is spelled so, and what is spelled so is read.
use Rattle.std.proofs.Common.{◌≡◌, ℕ, ◌+◌, ◌*◌, ◌-◌, ◌≤◌, List, ◌++◌, length, take, drop, refl, sym, ap, subst, ◌∙◌, append_assoc, length-append, arith, Bool, true, false, cond, ◌&&◌, Result, Ok, Err, nat_lt}
use Rattle.std.proofs.lemmas.List.{drop-drop, drop_at, take_rest}
use Rattle.std.proofs.lemmas.Bool.{and_parts, le-ltb, ltb-false}
use Rattle.posix_acl.specs.declared.entry.EntryNumbers.{EntryNumbers}
use Rattle.fs_layout.specs.declared.fault.LayoutFault.{LayoutFault}
use Rattle.fs_layout.specs.declared.fault.LayoutFault.TheVariants.{BadNumber, NotZero}
use Rattle.fs_layout.specs.Bytes.{IsBytes, window, splice, le16, zeros, u16_of, are_zero}
use Rattle.fs_layout.specs.AclSector.{FitsAclSector, acl_sector_bytes, acl_sector_of, entries_bytes, acl_entries_at}
use Rattle.fs_layout.proofs.Codecs.{IsCodec, held, passed, same_ok}
use Rattle.fs_layout.proofs.Entries.{entries_back, entries_fit, entries_len, entries_read, length-entries_of, take-entries_of}
use Rattle.fs_layout.proofs.Fields.{split, back16, zeros_back, zero_part, zeros-are_zero, read16}
use Rattle.fs_layout.proofs.Writes.{first_write, next_write, all_written, length-zeros}

-- the bytes of the entries that stand in s
spelled : (s : List ℕ) (n : ℕ) → length s ≡ 512 → IsBytes s → u16_of s 0 ≡ n → n ≤ 32 → are_zero (window s 2 6) ≡ true
    → are_zero (drop (8 + 8 * n) s) ≡ true
    → s ≡ acl_sector_bytes (acl_entries_at s 8 n)
spelled s n len fits count few pad rest =
    let es = acl_entries_at s 8 n in
    let counted : length es ≡ n = length-entries_of s 8 n in
    let e0 : s ≡ le16 (u16_of s 0) ++ drop 2 s = back16 s 0 fits (omega arith) in
    let e1 : drop 2 s ≡ zeros 6 ++ drop 8 s = split 6 2 s (zeros 6) (sym (zero_part 6 2 s (omega arith) pad)) in
    let e2 : drop 8 s ≡ entries_bytes es ++ drop (8 + 8 * n) s = entries_back n s 8 fits (omega arith) in
    let e3 : drop (8 + 8 * n) s ≡ zeros (504 - 8 * length es) = zeros_back s (8 + 8 * n) (504 - 8 * length es) (omega arith) rest in
    e0 ∙ ap (λ (k : ℕ). le16 k ++ drop 2 s) (count ∙ sym counted)
    ∙ ap (λ (r : List ℕ). le16 (length es) ++ r) (e1 ∙ ap (λ (r : List ℕ). zeros 6 ++ r) (e2 ∙ ap (λ (r : List ℕ). entries_bytes es ++ r) e3))

back : (s : List ℕ) (v : List EntryNumbers) → length s ≡ 512 → IsBytes s → acl_sector_of s ≡ Ok v → (s ≡ acl_sector_bytes v) × FitsAclSector v
unfolding acl_sector_of
back s v len fits e =
    let n = u16_of s 0 in
    let good : Result (List EntryNumbers) LayoutFault = Ok (acl_entries_at s 8 n) in
    let a = passed (nat_lt 32 n) (cond (are_zero (window s 2 6) && are_zero (drop (8 + 8 * n) s)) good (Err NotZero)) BadNumber v e in
    let b = held (are_zero (window s 2 6) && are_zero (drop (8 + 8 * n) s)) good NotZero v a.1 in
    let padded = and_parts (are_zero (window s 2 6)) (are_zero (drop (8 + 8 * n) s)) b.0 in
    let same : acl_entries_at s 8 n ≡ v = same_ok (acl_entries_at s 8 n) v good refl b.1 in
    let few : n ≤ 32 = ltb-false 32 n a.0 in
    let fit : FitsAclSector (acl_entries_at s 8 n) =
    record { few = omega (arith, length-entries_of s 8 n, few); entries = entries_fit n s 8 fits } in
    (spelled s n len fits refl few padded.0 padded.1 ∙ ap acl_sector_bytes same, subst FitsAclSector same fit)

-- a sector that passes each test
reads : (s : List ℕ) (es : List EntryNumbers) (n : ℕ) → u16_of s 0 ≡ n → acl_entries_at s 8 n ≡ es → n ≤ 32 → are_zero (window s 2 6) ≡ true
    → are_zero (drop (8 + 8 * n) s) ≡ true
    → acl_sector_of s ≡ Ok es
unfolding acl_sector_of
reads s es n count are few pad rest =
    let small : nat_lt 32 n ≡ false = le-ltb 32 n few in
    rw count (rw (small, are, pad, rest) refl)

padding_again : (es : List EntryNumbers) → window (acl_sector_bytes es) 2 6 ≡ zeros 6
unfolding le16 zeros
padding_again es = refl

listed : (es : List EntryNumbers) → drop 8 (acl_sector_bytes es) ≡ entries_bytes es ++ zeros (504 - 8 * length es)
unfolding le16 zeros
listed es = refl

again : (es : List EntryNumbers) → FitsAclSector es → acl_sector_of (acl_sector_bytes es) ≡ Ok es
again es f =
    let s = acl_sector_bytes es in
    let n = length es in
    let count : u16_of s 0 ≡ n = read16 s 0 n (zeros 6 ++ (entries_bytes es ++ zeros (504 - 8 * n))) refl (omega (arith, f.few)) in
    let past : drop (8 + 8 * n) s ≡ zeros (504 - 8 * n) =
    sym (drop-drop (8 * n) 8 s) ∙ ap (drop (8 * n)) (listed es)
    ∙ drop_at (entries_bytes es) (zeros (504 - 8 * n)) (8 * n) (entries_len es) in
    reads s es n count (entries_read es s 8 (zeros (504 - 8 * n)) (listed es) f.entries) f.few
    (ap are_zero (padding_again es) ∙ zeros-are_zero 6) (ap are_zero past ∙ zeros-are_zero (504 - 8 * n))

pub acl_sector_codec : IsCodec 512 FitsAclSector acl_sector_bytes acl_sector_of
acl_sector_codec = record { back = back; again = again }

pub length-acl_sector_bytes : (es : List EntryNumbers) → length es ≤ 32 → length (acl_sector_bytes es) ≡ 512
unfolding le16 zeros
length-acl_sector_bytes es few =
    omega (arith, entries_len es, length-append (entries_bytes es) (zeros (504 - 8 * length es)), length-zeros (504 - 8 * length es))

-- a reading that came to its end
pub read_to_end : (s : List ℕ) (to : List EntryNumbers) (n : ℕ) (zero_pad zero_rest : Bool) → n ≡ u16_of s 0 → n ≤ 32
    → zero_pad ≡ are_zero (window s 2 6) → zero_pad ≡ true
    → zero_rest ≡ are_zero (take (length s - (8 + 8 * n)) (drop (8 + 8 * n) s)) → zero_rest ≡ true → to ≡ acl_entries_at s 8 32 → Ok (take n to) ≡ acl_sector_of s
read_to_end s to n zero_pad zero_rest count few pad pad_true tested rest_true e =
    let rest : are_zero (drop (8 + 8 * n) s) ≡ true = ap are_zero (sym (take_rest s (8 + 8 * n))) ∙ sym tested ∙ rest_true in
    sym (reads s (take n to) n (sym count) (sym (ap (take n) e ∙ take-entries_of s 8 n 32 few)) few (sym pad ∙ pad_true) rest)

-- the four writes of an ACL's sector
pub written : (old a b d e : List ℕ) (es : List EntryNumbers) (n : ℕ) → length old ≡ 512 → length es ≤ 32 → n ≡ length es
    → a ≡ splice old 0 (le16 n) → b ≡ splice a 2 (zeros 6)
    → d ≡ splice b 8 (entries_bytes es) → e ≡ splice d (8 + 8 * n) (zeros (504 - 8 * n)) → e ≡ acl_sector_bytes es
unfolding le16
written old a b d e es n len few is wa wb wd we =
    let long : length (entries_bytes es) ≡ 8 * length es = entries_len es in
    let pad : length (zeros 6) ≡ 6 = length-zeros 6 in
    let z : length (zeros (504 - 8 * n)) ≡ 504 - 8 * n = length-zeros (504 - 8 * n) in
    let b0 = first_write old a (le16 n) wa in
    let b1 = next_write old _ a b (zeros 6) 2 b0 refl wb in
    let b2 = next_write old _ b d (entries_bytes es) 8 b1 (omega (arith, pad)) wd in
    let b3 =
    next_write old _ d e (zeros (504 - 8 * n)) (8 + 8 * n) b2 (omega (arith, long, pad, is, length-append (zeros 6) (entries_bytes es))) we in
    let front : length (zeros 6 ++ entries_bytes es) ≡ 6 + 8 * length es = omega (arith, long, pad, length-append (zeros 6) (entries_bytes es)) in
    all_written old _ e b3 (omega (arith, len, front, z, few, is, length-append (zeros 6 ++ entries_bytes es) (zeros (504 - 8 * n))))
    ∙ (simp append_assoc) ∙ ap (λ (k : ℕ). le16 k ++ (zeros 6 ++ (entries_bytes es ++ zeros (504 - 8 * k)))) is
