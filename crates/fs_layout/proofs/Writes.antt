-- Writes one after the other, and what numbers read from bytes are written as.
use Rattle.std.proofs.Common.{◌≡◌, ℕ, zero, suc, ◌+◌, ◌-◌, ◌*◌, ◌<◌, ◌≤◌, List, [], ◌∷◌, ◌++◌, length, get_or, take, drop, refl, sym, ap, ◌∙◌, append_assoc, arith}
use Rattle.std.proofs.lemmas.List.{take_at, drop_at, drop-drop, drop_all, append-nil, length-append, length-drop, take-append-drop, length-replicate, take_rest, take_more, take_more_set, length-take-le}
use Rattle.std.proofs.lemmas.List.Concat.{flat_map-append}
use Rattle.std.specs.Prelude.{set}
use Rattle.std.specs.List.{flat_map}
use Rattle.fs_layout.specs.declared.inode.TheConstants.{DIRECT_BLOCKS, INODE_SIZE, POINTER_LEVELS}
use Rattle.fs_layout.specs.declared.inode.Inode.{Inode}
use native.Mathlib.Numerals.{unary_clauses}
use Rattle.std.proofs.Common.{add-one}
use borrow.Rule.Slice.PartMut.{put_mid}
use Rattle.fs_layout.specs.Bytes.{splice, le16, le32, le64, le32s, zeros, u32_of, u32s_of}
use Rattle.fs_layout.specs.Inode.{inode_bytes, times_bytes}

pub put_is_splice : (s new x : List ℕ) (at n : ℕ) → length x ≡ n → new ≡ x ++ drop n (take (length s - at) (drop at s))
    → at ≤ length s → put_mid at (length s - at) s new ≡ splice s at x
unfolding splice
put_is_splice s new x at n len is fits =
    let none : drop (length s - at) (drop at s) ≡ [] =
    drop_all (length s - at) (drop at s) (omega (arith, length-drop at s)) in
    let e : new ≡ x ++ drop (at + length x) s =
    is
    ∙ ap (λ (r : List ℕ). x ++ r) (ap (drop n) (take_rest s at) ∙ drop-drop n at s ∙ ap (λ (k : ℕ). drop (at + k) s) (sym len)) in
    ap (λ (r : List ℕ). take at s ++ (new ++ r)) none ∙ ap (λ (r : List ℕ). take at s ++ r) (append-nil new ∙ e)

-- a part of s that was written whole
pub part_is_splice : (s new x : List ℕ) (at k n : ℕ) → length x ≡ n → new ≡ x → k ≡ n → put_mid at k s new ≡ splice s at x
unfolding splice
part_is_splice s new x at k n len is same =
    let back : drop k (drop at s) ≡ drop (at + length x) s =
    drop-drop k at s ∙ ap (λ (m : ℕ). drop (at + m) s) (same ∙ sym len) in
    ap (λ (r : List ℕ). take at s ++ (new ++ r)) back ∙ ap (λ (r : List ℕ). take at s ++ (r ++ drop (at + length x) s)) is

-- s has the bytes acc at its front, and then what stood in old
pub record Begins (old acc s : List ℕ) : Type 0 where
  pub is : s ≡ acc ++ drop (length acc) old

pub first_write : (old s x : List ℕ) → s ≡ splice old 0 x → Begins old x s
unfolding splice
first_write old s x e = record { is = e ∙ ap (λ (k : ℕ). x ++ drop k old) (omega arith) }

pub next_write : (old acc s t x : List ℕ) (at : ℕ) → Begins old acc s → at ≡ length acc → t ≡ splice s at x
    → Begins old (acc ++ x) t
unfolding splice
next_write old acc s t x at b p e =
    let front : take at s ≡ acc = ap (take at) b.is ∙ take_at acc (drop (length acc) old) at (sym p) in
    let back : drop (at + length x) s ≡ drop (length (acc ++ x)) old =
    sym (drop-drop (length x) at s)
    ∙ ap (drop (length x)) (ap (drop at) b.is ∙ drop_at acc (drop (length acc) old) at (sym p))
    ∙ drop-drop (length x) (length acc) old
    ∙ ap (λ (k : ℕ). drop k old) (sym (length-append acc x)) in
    record {
      is =
          e ∙ ap (λ (f : List ℕ). f ++ (x ++ drop (at + length x) s)) front ∙ ap (λ (r : List ℕ). acc ++ (x ++ r)) back
          ∙ sym (append_assoc acc x (drop (length (acc ++ x)) old));
    }

pub all_written : (old acc s : List ℕ) → Begins old acc s → length old ≡ length acc → s ≡ acc
all_written old acc s b len =
    b.is ∙ ap (λ (r : List ℕ). acc ++ r) (drop_all (length acc) old (omega arith)) ∙ append-nil acc

pub length-le32s : (xs : List ℕ) → length (le32s xs) ≡ 4 * length xs
unfolding le32s le32
length-le32s [] = refl
length-le32s (x ∷ xs) = let e : length (le32s xs) ≡ 4 * length xs = length-le32s xs in simp unary_clauses (omega (arith, e))

pub le32s_more : (xs : List ℕ) (i : ℕ) → i < length xs → le32s (take (i + 1) xs) ≡ le32s (take i xs) ++ le32 (get_or xs i 0)
unfolding le32s
le32s_more xs i h =
    ap le32s (take_more xs i 0 h) ∙ flat_map-append le32 (take i xs) (get_or xs i 0 ∷ [])
    ∙ ap (λ (r : List ℕ). flat_map le32 (take i xs) ++ r) (append-nil (le32 (get_or xs i 0)))

pub nothing_written : (s : List ℕ) (at : ℕ) → s ≡ splice s at (le32s [])
unfolding splice le32s
nothing_written s at = sym (take-append-drop at s) ∙ ap (λ (k : ℕ). take at s ++ drop k s) (omega arith)

-- a write right after another one
pub splice_next : (s a b : List ℕ) (at next : ℕ) → at + length a ≤ length s → next ≡ at + length a
    → splice (splice s at a) next b ≡ splice s at (a ++ b)
unfolding splice
splice_next s a b at next fits is =
    let n1 : length (take at s ++ a) ≡ next = omega (arith, length-append (take at s) a, length-take-le at s (omega arith)) in
    let regroup : take at s ++ (a ++ drop (at + length a) s) ≡ (take at s ++ a) ++ drop (at + length a) s =
    sym (append_assoc (take at s) a (drop (at + length a) s)) in
    let front : take next (take at s ++ (a ++ drop (at + length a) s)) ≡ take at s ++ a =
    ap (take next) regroup ∙ take_at (take at s ++ a) (drop (at + length a) s) next n1 in
    let back : drop (next + length b) (take at s ++ (a ++ drop (at + length a) s)) ≡ drop (at + length (a ++ b)) s =
    sym (drop-drop (length b) next (take at s ++ (a ++ drop (at + length a) s)))
    ∙ ap (drop (length b)) (ap (drop next) regroup ∙ drop_at (take at s ++ a) (drop (at + length a) s) next n1)
    ∙ drop-drop (length b) (at + length a) s
    ∙ ap (λ (k : ℕ). drop k s) (omega (arith, length-append a b)) in
    ap (λ (f : List ℕ). f ++ (b ++ drop (next + length b) (take at s ++ (a ++ drop (at + length a) s)))) front
    ∙ ap (λ (r : List ℕ). (take at s ++ a) ++ (b ++ r)) back
    ∙ append_assoc (take at s) a (b ++ drop (at + length (a ++ b)) s)
    ∙ ap (λ (r : List ℕ). take at s ++ r) (sym (append_assoc a b (drop (at + length (a ++ b)) s)))

pub put_one_more : (s t u : List ℕ) (xs : List ℕ) (at i next : ℕ) → at + 4 * length xs ≤ length s → i < length xs
    → next ≡ at + 4 * i
    → t ≡ splice s at (le32s (take i xs)) → u ≡ splice t next (le32 (get_or xs i 0)) → u ≡ splice s at (le32s (take (i + 1) xs))
put_one_more s t u xs at i next fits lt is e f =
    let len : length (le32s (take i xs)) ≡ 4 * i = length-le32s (take i xs) ∙ ap (λ (k : ℕ). 4 * k) (length-take-le i xs (omega arith)) in
    f ∙ ap (λ (r : List ℕ). splice r next (le32 (get_or xs i 0))) e
    ∙ splice_next s (le32s (take i xs)) (le32 (get_or xs i 0)) at next (omega (arith, len)) (omega (arith, len))
    ∙ ap (splice s at) (sym (le32s_more xs i lt))

u32s_suc : (s : List ℕ) (at i : ℕ) → u32s_of s at (suc i) ≡ u32s_of s at i ++ u32_of s (at + 4 * i) ∷ []
unfolding u32s_of
u32s_suc s at zero = ap (λ (k : ℕ). u32_of s k ∷ []) (omega arith)
u32s_suc s at (suc i) =
    let ih : u32s_of s (at + 4) (suc i) ≡ u32s_of s (at + 4) i ++ u32_of s (at + 4 + 4 * i) ∷ [] = u32s_suc s (at + 4) i in
    let k : at + 4 + 4 * i ≡ at + 4 * suc i = simp unary_clauses (omega arith) in
    ap (λ (r : List ℕ). u32_of s at ∷ r) (ih ∙ ap (λ (k : ℕ). u32s_of s (at + 4) i ++ u32_of s k ∷ []) k)

pub u32s_more : (s : List ℕ) (at i : ℕ) → u32s_of s at (i + 1) ≡ u32s_of s at i ++ u32_of s (at + 4 * i) ∷ []
u32s_more s at i = rw add-one (u32s_suc s at i)

pub get_one_more : (s to : List ℕ) (at i x : ℕ) → i < length to → take i to ≡ u32s_of s at i → x ≡ u32_of s (at + 4 * i)
    → take (i + 1) (set to i x) ≡ u32s_of s at (i + 1)
get_one_more s to at i x lt e f =
    take_more_set to i x lt ∙ ap (λ (r : List ℕ). r ++ x ∷ []) e ∙ ap (λ (k : ℕ). u32s_of s at i ++ k ∷ []) f ∙ sym (u32s_more s at i)

pub length-zeros : (n : ℕ) → length (zeros n) ≡ n
unfolding zeros
length-zeros n = length-replicate n 0

pub length-inode_bytes : (v : Inode) → length v.direct ≡ DIRECT_BLOCKS → length v.indirect ≡ POINTER_LEVELS → length (inode_bytes v) ≡ INODE_SIZE
unfolding le16 le32 le64 zeros
length-inode_bytes v d named =
    let rest = length-append (le32s v.indirect) (times_bytes v) in
    omega (arith, length-le32s v.direct, length-le32s v.indirect, rest, length-append (le32s v.direct) (le32s v.indirect ++ times_bytes v))

pub put_step : (s t u a x : List ℕ) (at next : ℕ) → at + length a ≤ length s → next ≡ at + length a → t ≡ splice s at a
    → u ≡ splice t next x → u ≡ splice s at (a ++ x)
put_step s t u a x at next fits is e f = f ∙ ap (λ (r : List ℕ). splice r next x) e ∙ splice_next s a x at next fits is

pub nothing_put : (s : List ℕ) (at : ℕ) → s ≡ splice s at []
unfolding splice
nothing_put s at = sym (take-append-drop at s) ∙ ap (λ (k : ℕ). take at s ++ drop k s) (omega arith)
