-- What is spelled is what is read.
use Rattle.std.proofs.Common.{◌≡◌, ℕ, ◌+◌, ◌-◌, ◌*◌, ◌≤◌, true, false, cond, ◌||◌, List, [], ◌∷◌, ◌++◌, length, take, drop, Option, Some, None, refl, sym, ap, ◌∙◌, length-append, eq-eqb, arith}
use Rattle.std.specs.List.{list_any, position, position_from}
use Rattle.std.specs.Prelude.{nat_lt, nat_eq}
use Rattle.std.proofs.lemmas.Bool.{le-ltb}
use Rattle.std.proofs.lemmas.Iterator.Adapters.{position_from-zero}
use Rattle.std.proofs.lemmas.List.{drop_at, take_at}
use Rattle.byteorder.specs.Endian.{little_number}
use Rattle.byteorder.specs.Numbers.{little_number-reads_back}
use Rattle.fuse_protocol.specs.declared.operation.Operation.{Operation}
use Rattle.fuse_protocol.specs.Bytes.{bytes_of_u16s, bytes_of_u32s, bytes_of_u64s, short_at, word_at, long_at}
use Rattle.fuse_protocol.specs.Names.{is_nul, text_of}
use Rattle.fuse_protocol.specs.Operations.{operation_of}
use Rattle.fuse_protocol.specs.Requests.{request_of, request_with, operation_in}
use Rattle.fuse_protocol.specs.Spellings.{AreReadBack, NamesAreReadBack, RequestsAreRead, Header, header_bytes, request_bytes, request_of_parts}
use Rattle.fuse_protocol.proofs.Texts.{text_by_place, without_slash}

pub read_16 : AreReadBack 16 bytes_of_u16s short_at
unfolding bytes_of_u16s short_at
read_16 front rest x fits =
    ap (little_number 2) (drop_at front (bytes_of_u16s (x ∷ []) ++ rest) (length front) refl) ∙ little_number-reads_back 2 x rest fits

pub read_32 : AreReadBack 32 bytes_of_u32s word_at
unfolding bytes_of_u32s word_at
read_32 front rest x fits =
    ap (little_number 4) (drop_at front (bytes_of_u32s (x ∷ []) ++ rest) (length front) refl) ∙ little_number-reads_back 4 x rest fits

pub read_64 : AreReadBack 64 bytes_of_u64s long_at
unfolding bytes_of_u64s long_at
read_64 front rest x fits =
    ap (little_number 8) (drop_at front (bytes_of_u64s (x ∷ []) ++ rest) (length front) refl) ∙ little_number-reads_back 8 x rest fits

-- ---- names

ends_from : (i : ℕ) (text rest : List ℕ) → list_any is_nul text ≡ false → position_from is_nul i (text ++ 0 ∷ rest) ≡ Some (i + length text)
ends_from i [] rest none = ap Some (omega arith)
ends_from i (b ∷ text) rest none =
    elim (is_nul b) as (λ t. is_nul b ≡ t → (t || list_any is_nul text) ≡ false
    → cond t (Some i) (position_from is_nul (i + 1) (text ++ 0 ∷ rest)) ≡ Some (i + length (b ∷ text))) [
      | true ↦ λ _ no. absurd (let both : true ≡ false = no in cc)
      | false ↦ λ _ no. ends_from (i + 1) text rest no ∙ ap Some (omega arith)
    ] refl none

pub read_name : NamesAreReadBack
read_name front name rest is =
    let s = front ++ (name ++ 0 ∷ rest) in
    let from : drop (length front) s ≡ name ++ 0 ∷ rest = drop_at front (name ++ 0 ∷ rest) (length front) refl in
    let place : Some (length name) ≡ position is_nul (drop (length front) s) =
    sym (ap (position is_nul) from ∙ position_from-zero is_nul (name ++ 0 ∷ rest) ∙ ends_from 0 name rest is.no_nul ∙ ap Some (omega arith)) in
    let text : Some name ≡ text_of s (length front) =
    sym (ap (λ (r : List ℕ). Some (take (length name) r)) from ∙ ap Some (take_at name (0 ∷ rest) (length name) refl))
    ∙ text_by_place s (length front) (Some (length name)) place in
    sym (without_slash s name (length front) text is.no_slash)

-- ---- requests

whole : (s : List ℕ) → 40 ≤ length s → word_at s 0 ≡ length s → request_of s ≡ request_with s (operation_in s)
unfolding request_of
whole s long size =
    let first : nat_lt (length s) 40 ≡ false = le-ltb (length s) 40 long in
    let second : nat_eq (word_at s 0) (length s) ≡ true = eq-eqb (word_at s 0) (length s) size in
    rw (first, second) refl

inside : (s body : List ℕ) (units code : ℕ) → short_at s 36 ≡ units → word_at s 4 ≡ code → 40 + 8 * units ≤ length s
    → take (length s - 40 - 8 * units) (drop 40 s) ≡ body → operation_in s ≡ operation_of code body
inside s body units code e f room is =
    let first : nat_lt (length s) (40 + 8 * units) ≡ false = le-ltb (length s) (40 + 8 * units) room in
    rw e (rw first (rw f (rw is refl)))

told : (s : List ℕ) (h : Header) (o : Option Operation) → long_at s 8 ≡ h.unique → long_at s 16 ≡ h.node → word_at s 24 ≡ h.uid → word_at s 28 ≡ h.gid
    → word_at s 32 ≡ h.pid → request_with s o ≡ request_of_parts h o
told s h None unique node uid gid pid = rw unique refl
told s h (Some operation) unique node uid gid pid = rw (unique, node, uid, gid, pid) refl

pub read_request : RequestsAreRead
unfolding request_bytes bytes_of_u16s bytes_of_u32s bytes_of_u64s short_at word_at long_at
read_request h body extensions fits =
    let n = 40 + length body + length extensions in
    let s = header_bytes h n ++ (body ++ extensions) in
    let len : length s ≡ n = omega (arith, length-append body extensions) in
    let size : word_at s 0 ≡ n = little_number-reads_back 4 n (drop 4 s) fits.size in
    let opcode : word_at s 4 ≡ h.opcode = little_number-reads_back 4 h.opcode (drop 8 s) fits.opcode in
    let unique : long_at s 8 ≡ h.unique = little_number-reads_back 8 h.unique (drop 16 s) fits.unique in
    let node : long_at s 16 ≡ h.node = little_number-reads_back 8 h.node (drop 24 s) fits.node in
    let uid : word_at s 24 ≡ h.uid = little_number-reads_back 4 h.uid (drop 28 s) fits.uid in
    let gid : word_at s 28 ≡ h.gid = little_number-reads_back 4 h.gid (drop 32 s) fits.gid in
    let pid : word_at s 32 ≡ h.pid = little_number-reads_back 4 h.pid (drop 36 s) fits.pid in
    let units : short_at s 36 ≡ h.units = little_number-reads_back 2 h.units (drop 38 s) fits.units in
    let rest : drop 40 s ≡ body ++ extensions = refl in
    let inner : take (length s - 40 - 8 * h.units) (drop 40 s) ≡ body =
    take_at body extensions (length s - 40 - 8 * h.units) (omega (arith, len, fits.counted)) in
    whole s (omega (arith, len)) (size ∙ sym len)
    ∙ ap (request_with s) (inside s body h.units h.opcode units opcode (omega (arith, len, fits.counted)) inner)
    ∙ told s h (operation_of h.opcode body) unique node uid gid pid
