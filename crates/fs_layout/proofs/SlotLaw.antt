-- What is read of a slot is spelled so, and what is spelled so is read.
use Rattle.std.proofs.Common.{◌≡◌, ℕ, ◌+◌, ◌-◌, ◌≤◌, List, [], ◌∷◌, ◌++◌, length, get_or, take, drop, refl, sym, ap, subst, ◌∙◌, length-append, arith, Bool, true, false, cond, ◌&&◌, Result, Ok, Err, nat_le}
use Rattle.std.proofs.lemmas.List.{drop-drop, drop_at, take_at, take_rest}
use Rattle.std.proofs.Math.Seq.{drop-cons}
use Rattle.std.proofs.lemmas.Bool.{and_parts, and_from, and_right, leb-true, le-leb}
use Rattle.std.specs.Prelude.{IsTrue, ◌↔◌}
use Rattle.fs_layout.specs.declared.version.Version.{Version}
use Rattle.fs_layout.specs.Version.{max_name, slot_size}
use Rattle.fs_layout.specs.declared.fault.LayoutFault.{LayoutFault}
use Rattle.fs_layout.specs.declared.fault.LayoutFault.TheVariants.{BadNumber, NotZero}
use Rattle.fs_layout.specs.Bytes.{IsBytes, window, splice, le32, zeros, u32_of, are_zero}
use Rattle.fs_layout.specs.Directories.{NamedInode, IsName, FitsSlot, name_test, slot_bytes, slot_of}
use Rattle.fs_layout.proofs.Codecs.{IsCodec, held, same_ok}
use Rattle.fs_layout.proofs.Fields.{part_len, IsBytes-part, split, back32, zeros_back, zero_part, zeros-are_zero, read32}
use Rattle.fs_layout.proofs.Names.{name_test-decides, answers_name_test}
use Rattle.fs_layout.proofs.Small.{u32_small}
use Rattle.fs_layout.proofs.Writes.{first_write, next_write, all_written, length-zeros}

abbrev fields : List ℕ → ℕ → NamedInode
fields s n = record { ino = u32_of s 0; name = window s 8 n }

-- the bytes of a slot that the fields of s are
spelled : (version : Version) (s : List ℕ) (n : ℕ) → length s ≡ slot_size version → IsBytes s → get_or s 4 0 ≡ n → n ≤ max_name version → are_zero (window s 5 3) ≡ true
    → are_zero (drop (8 + n) s) ≡ true
    → s ≡ slot_bytes version (fields s n)
spelled version s n len fits is short pad rest =
    let name = window s 8 n in
    let long : length name ≡ n = part_len n 8 s (omega arith) in
    let e0 : s ≡ le32 (u32_of s 0) ++ drop 4 s = back32 s 0 fits (omega arith) in
    let e1 : drop 4 s ≡ get_or s 4 0 ∷ drop 5 s = drop-cons s 4 0 (omega arith) in
    let e2 : drop 5 s ≡ zeros 3 ++ drop 8 s = split 3 5 s (zeros 3) (sym (zero_part 3 5 s (omega arith) pad)) in
    let e3 : drop 8 s ≡ name ++ drop (8 + n) s = split n 8 s name refl in
    let e4 : drop (8 + n) s ≡ zeros (max_name version - length name) = zeros_back s (8 + n) (max_name version - length name) (omega arith) rest in
    e0 ∙ ap (λ (r : List ℕ). le32 (u32_of s 0) ++ r) (e1 ∙ ap (λ (k : ℕ). k ∷ drop 5 s) (is ∙ sym long)
    ∙ ap (λ (r : List ℕ). length name ∷ r) (e2 ∙ ap (λ (r : List ℕ). zeros 3 ++ r) (e3 ∙ ap (λ (r : List ℕ). name ++ r) e4)))

back : (version : Version) (s : List ℕ) (v : NamedInode) → length s ≡ slot_size version → IsBytes s → slot_of version s ≡ Ok v → (s ≡ slot_bytes version v) × FitsSlot version v
unfolding slot_of
back version s v len fits e =
    let n = get_or s 4 0 in
    let good : Result NamedInode LayoutFault = Ok (fields s n) in
    let a =
    held (nat_le n (max_name version) && name_test (window s 8 n)) (cond (are_zero (window s 5 3) && are_zero (drop (8 + n) s)) good (Err NotZero)) BadNumber v e in
    let b = held (are_zero (window s 5 3) && are_zero (drop (8 + n) s)) good NotZero v a.1 in
    let named = and_parts (nat_le n (max_name version)) (name_test (window s 8 n)) a.0 in
    let padded = and_parts (are_zero (window s 5 3)) (are_zero (drop (8 + n) s)) b.0 in
    let same : fields s n ≡ v = same_ok (fields s n) v good refl b.1 in
    let short_name : length (window s 8 n) ≤ max_name version = omega (arith, part_len n 8 s (omega (arith, len, leb-true n (max_name version) named.0)), leb-true n (max_name version) named.0) in
    let fit : FitsSlot version (fields s n) =
    record { ino = u32_small s 0 fits; name = (name_test-decides (window s 8 n)).0 named.1; short = short_name; bytes = IsBytes-part n 8 s fits } in
    (spelled version s n len fits refl (leb-true n (max_name version) named.0) padded.0 padded.1 ∙ ap (slot_bytes version) same, subst (FitsSlot version) same fit)

-- a slot that passes each test
pub reads : (version : Version) (s name : List ℕ) (n ino : ℕ) → get_or s 4 0 ≡ n → u32_of s 0 ≡ ino → window s 8 n ≡ name → n ≤ max_name version → name_test name ≡ true
    → are_zero (window s 5 3) ≡ true → are_zero (drop (8 + n) s) ≡ true → slot_of version s ≡ Ok (record { ino = ino; name = name })
unfolding slot_of
reads version s name n ino len number is short named pad rest =
    let fits : nat_le n (max_name version) ≡ true = le-leb n (max_name version) short in
    rw len (rw (is, number) (rw (fits, named, pad, rest) refl))

length_again : (version : Version) (v : NamedInode) → get_or (slot_bytes version v) 4 0 ≡ length v.name
unfolding le32
length_again version v = refl

padding_again : (version : Version) (v : NamedInode) → window (slot_bytes version v) 5 3 ≡ zeros 3
unfolding le32 zeros
padding_again version v = refl

named_again : (version : Version) (v : NamedInode) → drop 8 (slot_bytes version v) ≡ v.name ++ zeros (max_name version - length v.name)
unfolding le32 zeros
named_again version v = refl

again : (version : Version) (v : NamedInode) → FitsSlot version v → slot_of version (slot_bytes version v) ≡ Ok v
again version v f =
    let s = slot_bytes version v in
    let n = length v.name in
    let ino : u32_of s 0 ≡ v.ino = read32 s 0 v.ino (n ∷ (zeros 3 ++ (v.name ++ zeros (max_name version - n)))) refl f.ino in
    let name : window s 8 n ≡ v.name = ap (take n) (named_again version v) ∙ take_at v.name (zeros (max_name version - n)) n refl in
    let past : drop (8 + n) s ≡ zeros (max_name version - n) =
    sym (drop-drop n 8 s) ∙ ap (drop n) (named_again version v) ∙ drop_at v.name (zeros (max_name version - n)) n refl in
    reads version s v.name n v.ino (length_again version v) ino name f.short ((name_test-decides v.name).1 f.name)
    (ap are_zero (padding_again version v) ∙ zeros-are_zero 3) (ap are_zero past ∙ zeros-are_zero (max_name version - n))

pub slot_codec : (version : Version) → IsCodec (slot_size version) (FitsSlot version) (slot_bytes version) (slot_of version)
slot_codec version = record { back = back version; again = again version }

pub length-slot_bytes : (version : Version) (v : NamedInode) → length v.name ≤ max_name version → length (slot_bytes version v) ≡ slot_size version
unfolding le32 zeros
length-slot_bytes version v short = omega (arith, length-append v.name (zeros (max_name version - length v.name)), length-zeros (max_name version - length v.name))

-- the five writes of a slot
pub written : (version : Version) (old a b d e f : List ℕ) (v : NamedInode) (ino n : ℕ) (name : List ℕ) → length old ≡ slot_size version → length v.name ≤ max_name version
    → ino ≡ v.ino → name ≡ v.name → n ≡ length name
    → a ≡ splice old 0 (le32 ino) → b ≡ splice a 4 (n ∷ []) → d ≡ splice b 5 (zeros 3) → e ≡ splice d 8 name
    → f ≡ splice e (8 + n) (zeros (max_name version - n)) → f ≡ slot_bytes version v
unfolding le32 zeros
written version old a b d e f v ino n name len short inode_is name_is is wa wb wd we wf =
    let k : length name ≡ length v.name = ap length name_is in
    let z : length (zeros (max_name version - n)) ≡ max_name version - n = length-zeros (max_name version - n) in
    let b0 = first_write old a (le32 ino) wa in
    let b1 = next_write old _ a b (n ∷ []) 4 b0 refl wb in
    let b2 = next_write old _ b d (zeros 3) 5 b1 refl wd in
    let b3 = next_write old _ d e name 8 b2 refl we in
    let b4 = next_write old _ e f (zeros (max_name version - n)) (8 + n) b3 (omega (arith, is)) wf in
    all_written old _ f b4 (omega (arith, len, z, k, short, is, length-append name (zeros (max_name version - n))))
    ∙ ap (λ (i : ℕ). le32 i ++ (n ∷ (zeros 3 ++ (name ++ zeros (max_name version - n))))) inode_is
    ∙ ap (λ (m : ℕ). le32 v.ino ++ (m ∷ (zeros 3 ++ (name ++ zeros (max_name version - m))))) is
    ∙ ap (λ (r : List ℕ). le32 v.ino ++ (length r ∷ (zeros 3 ++ (r ++ zeros (max_name version - length r))))) name_is

-- what `is_name` answers of the name's bytes
pub answered : (s : List ℕ) (answer : Bool) (k n : ℕ) → k ≡ n → (IsTrue answer ↔ IsName (take k (drop 8 s)))
    → answer ≡ name_test (window s 8 n)
answered s answer k n all is = answers_name_test answer (take k (drop 8 s)) is ∙ ap (λ (m : ℕ). name_test (window s 8 m)) all

-- the first fault, where a reading ended early
pub refused_name : (version : Version) (s : List ℕ) (named : Bool) → named ≡ name_test (window s 8 (get_or s 4 0)) → named ≡ false → Err BadNumber ≡ slot_of version s
unfolding slot_of
refused_name version s named is none =
    let test : (nat_le (get_or s 4 0) (max_name version) && name_test (window s 8 (get_or s 4 0))) ≡ false =
    and_right (nat_le (get_or s 4 0) (max_name version)) (name_test (window s 8 (get_or s 4 0))) (sym is ∙ none) in
    sym (rw test refl)

pub refused_zeros : (version : Version) (s : List ℕ) (named padded : Bool) → get_or s 4 0 ≤ max_name version → named ≡ name_test (window s 8 (get_or s 4 0)) → named ≡ true
    → padded ≡ (are_zero (window s 5 3) && are_zero (drop (8 + get_or s 4 0) s)) → padded ≡ false → Err NotZero ≡ slot_of version s
unfolding slot_of
refused_zeros version s named padded short is named_true tested none =
    let test : (nat_le (get_or s 4 0) (max_name version) && name_test (window s 8 (get_or s 4 0))) ≡ true =
    and_from (nat_le (get_or s 4 0) (max_name version)) (name_test (window s 8 (get_or s 4 0))) (le-leb (get_or s 4 0) (max_name version) short) (sym is ∙ named_true) in
    let zero : (are_zero (window s 5 3) && are_zero (drop (8 + get_or s 4 0) s)) ≡ false = sym tested ∙ none in
    sym (rw (test, zero) refl)

pub rest_tested : (s : List ℕ) (at : ℕ) (zero_rest : Bool) → zero_rest ≡ are_zero (take (length s - at) (drop at s))
    → zero_rest ≡ are_zero (drop at s)
rest_tested s at zero_rest tested = tested ∙ ap are_zero (take_rest s at)

-- a reading that came to its end
pub read_to_end : (version : Version) (s : List ℕ) (v : NamedInode) (ino k : ℕ) → v ≡ record { ino = ino; name = take k (drop 8 s) } → k ≡ get_or s 4 0
    → ino ≡ u32_of s 0 → get_or s 4 0 ≤ max_name version
    → name_test (window s 8 (get_or s 4 0)) ≡ true → are_zero (window s 5 3) ≡ true → are_zero (drop (8 + get_or s 4 0) s) ≡ true → Ok v ≡ slot_of version s
read_to_end version s v ino k is all number short named pad rest =
    let same : window s 8 (get_or s 4 0) ≡ take k (drop 8 s) = ap (λ (m : ℕ). window s 8 m) (sym all) in
    let test : name_test (take k (drop 8 s)) ≡ true = ap name_test (sym same) ∙ named in
    let read : slot_of version s ≡ Ok (record { ino = ino; name = take k (drop 8 s) }) =
    reads version s (take k (drop 8 s)) (get_or s 4 0) ino refl (sym number) same short test pad rest in
    sym (rw is read)
