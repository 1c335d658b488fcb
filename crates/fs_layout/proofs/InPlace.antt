-- An inode where it stands.
--     valid_fields        the fields of bytes that are an inode's are its own
--     times_put        times are written over those of an inode that differs in its times alone
use Rattle.std.proofs.Common.{◌≡◌, ℕ, ◌+◌, ◌≤◌, List, ◌++◌, length, take, drop, refl, sym, ap, ◌∙◌, append_assoc, length-append, arith, cond, Option, Some, None, Ok, Err}
use Rattle.std.proofs.lemmas.List.{take_at, drop_at, drop-drop, length-take-le, take-append-drop}
use Rattle.std.specs.Option.{unwrap_or}
use Rattle.fs_layout.specs.declared.fault.LayoutFault.TheVariants.{BadNumber, NotZero}
use Rattle.fs_layout.specs.declared.inode.Inode.{Inode}
use Rattle.fs_layout.specs.declared.inode.Kind.{Kind}
use Rattle.fs_layout.specs.declared.inode.Kind.TheVariants.{Free}
use Rattle.fs_layout.specs.declared.inode.TheConstants.{DIRECT_BLOCKS, INODE_SIZE, POINTER_LEVELS}
use Rattle.fs_layout.specs.Bytes.{splice, window, u16_of, le16, le32, le64, le32s, zeros}
use Rattle.fs_layout.specs.Inode.{inode_bytes, inode_of, inode_if, inode_fits, kind_number, kind_of, fields_of, gaps_are_zero}
use Rattle.fs_layout.specs.InodeTimes.{DiffersInTimes}
use Rattle.fs_layout.proofs.Codecs.{held, same_ok}
use Rattle.fs_layout.proofs.Writes.{length-le32s, length-zeros, splice_next}

-- ---- what is read
fields_if : (o : Option Kind) (s : List ℕ) (v : Inode) → inode_if inode_fits gaps_are_zero o s ≡ Ok v → fields_of (unwrap_or o Free) s ≡ v
fields_if None s v e = absurd cc
fields_if (Some kind) s v e =
    let a = held (inode_fits (fields_of kind s)) (cond (gaps_are_zero kind s) (Ok (fields_of kind s)) (Err NotZero)) BadNumber v e in
    let b = held (gaps_are_zero kind s) (Ok (fields_of kind s)) NotZero v a.1 in
    same_ok (fields_of kind s) v (Ok (fields_of kind s)) refl b.1

pub valid_fields : {bytes s : List ℕ} {n : ℕ} {o : Option Kind} {kind : Kind} {r : Inode} (v : Inode) → bytes ≡ s → n ≡ u16_of bytes 0 → o ≡ kind_of n
    → kind ≡ unwrap_or o Free → r ≡ fields_of kind bytes → inode_of s ≡ Ok v → r ≡ v
unfolding inode_of
valid_fields {bytes} {s} {n} {o} {kind} {r} v part number found is read valid =
    let there : o ≡ kind_of (u16_of s 0) = found ∙ ap kind_of (number ∙ ap (λ (b : List ℕ). u16_of b 0) part) in
    read ∙ ap (fields_of kind) part ∙ ap (λ (k : Kind). fields_of k s) (is ∙ ap (λ (q : Option Kind). unwrap_or q Free) there)
    ∙ fields_if (kind_of (u16_of s 0)) s v valid

-- ---- a part within a part
-- Where a, x and c stand at an offset, other bytes are written over x.
part_replaced : (s a x y c : List ℕ) (at n : ℕ) → window s at n ≡ a ++ (x ++ c) → n ≡ length (a ++ (x ++ c)) → length y ≡ length x → at + n ≤ length s
    → splice s (at + length a) y ≡ splice s at (a ++ (y ++ c))
unfolding splice
part_replaced s a x y c at n there len same room =
    let rest = drop (at + n) s in
    let first : length (take at s) ≡ at = length-take-le at s (omega (arith, room)) in
    let joined = length-append (take at s) a in
    let inside : length (a ++ (x ++ c)) ≡ length a + (length x + length c) = length-append a (x ++ c) ∙ ap (λ (k : ℕ). length a + k) (length-append x c) in
    let written : length (a ++ (y ++ c)) ≡ n =
    length-append a (y ++ c) ∙ ap (λ (k : ℕ). length a + k) (length-append y c) ∙ ap (λ (k : ℕ). length a + (k + length c)) same ∙ sym inside ∙ sym len in
    let whole : s ≡ take at s ++ ((a ++ (x ++ c)) ++ rest) =
    sym (take-append-drop at s) ∙ ap (λ (r : List ℕ). take at s ++ r) (sym (take-append-drop n (drop at s)))
    ∙ ap (λ (r : List ℕ). take at s ++ (r ++ drop n (drop at s))) there
    ∙ ap (λ (r : List ℕ). take at s ++ ((a ++ (x ++ c)) ++ r)) (drop-drop n at s) in
    let before : s ≡ (take at s ++ a) ++ (x ++ (c ++ rest)) = whole ∙ (simp append_assoc) in
    let after : s ≡ ((take at s ++ a) ++ x) ++ (c ++ rest) = whole ∙ (simp append_assoc) in
    let front : take (at + length a) s ≡ take at s ++ a =
    ap (take (at + length a)) before ∙ take_at (take at s ++ a) (x ++ (c ++ rest)) (at + length a) (omega (arith, joined, first)) in
    let back : drop (at + length a + length y) s ≡ c ++ rest =
    ap (drop (at + length a + length y)) after
    ∙ drop_at ((take at s ++ a) ++ x) (c ++ rest) (at + length a + length y) (omega (arith, length-append (take at s ++ a) x, joined, first, same)) in
    let regroup : (take at s ++ a) ++ (y ++ (c ++ rest)) ≡ take at s ++ ((a ++ (y ++ c)) ++ rest) = simp append_assoc in
    ap (λ (r : List ℕ). r ++ (y ++ drop (at + length a + length y) s)) front ∙ ap (λ (r : List ℕ). (take at s ++ a) ++ (y ++ r)) back
    ∙ regroup ∙ ap (λ (k : ℕ). take at s ++ ((a ++ (y ++ c)) ++ drop (at + k) s)) (sym written)

-- ---- the times of an inode
-- the bytes before them
abbrev before_times : Inode → List ℕ
before_times v =
    le16 (kind_number v.kind) ++ (le16 v.mode ++ (le32 v.uid ++ (le32 v.gid ++ (le32 v.names ++ (le64 v.size
    ++ (le32 v.parent ++ (le32 v.acl ++ (le32 v.default_acl ++ (le32s v.direct ++ le32s v.indirect)))))))))

abbrev the_times : Inode → List ℕ
the_times v = (le64 v.mtime ++ le64 v.ctime) ++ le64 v.atime

around_times : (v : Inode) → inode_bytes v ≡ before_times v ++ (the_times v ++ zeros 8)
around_times v = simp append_assoc

length-before_times : (v : Inode) → length v.direct ≡ DIRECT_BLOCKS → length v.indirect ≡ POINTER_LEVELS → length (before_times v) ≡ 96
unfolding le16 le32 le64
length-before_times v d i = omega (arith, length-le32s v.direct, length-le32s v.indirect, length-append (le32s v.direct) (le32s v.indirect), d, i)

length-the_times : (v : Inode) → length (the_times v) ≡ 24
unfolding le64
length-the_times v = omega arith

length-le64 : (x : ℕ) → length (le64 x) ≡ 8
unfolding le64
length-le64 x = omega arith

-- the times of w are written one after the other over those of v
pub times_put : (s t u r : List ℕ) (at : ℕ) (v w : Inode) → length s ≡ 512 → at + INODE_SIZE ≤ 512 → length w.direct ≡ DIRECT_BLOCKS
    → length w.indirect ≡ POINTER_LEVELS
    → t ≡ splice s (at + 96) (le64 w.mtime) → u ≡ splice t (at + 104) (le64 w.ctime) → r ≡ splice u (at + 112) (le64 w.atime)
    → DiffersInTimes v w → window s at INODE_SIZE ≡ inode_bytes v → r ≡ splice s at (inode_bytes w)
times_put s t u r at v w len room direct indirect first second third differs there =
    let same : before_times w ≡ before_times v = ap before_times differs in
    let fields : length v.direct ≡ DIRECT_BLOCKS = ap (λ (x : Inode). length x.direct) (sym differs) ∙ direct in
    let above : length v.indirect ≡ POINTER_LEVELS = ap (λ (x : Inode). length x.indirect) (sym differs) ∙ indirect in
    let start : length (before_times v) ≡ 96 = length-before_times v fields above in
    let stood = there ∙ around_times v in
    let all : INODE_SIZE ≡ length (before_times v ++ (the_times v ++ zeros 8)) =
    omega (arith, start, length-append (before_times v) (the_times v ++ zeros 8), length-append (the_times v) (zeros 8), length-the_times v, length-zeros 8) in
    let two : u ≡ splice s (at + 96) (le64 w.mtime ++ le64 w.ctime) =
    second ∙ ap (λ (x : List ℕ). splice x (at + 104) (le64 w.ctime)) first
    ∙ splice_next s (le64 w.mtime) (le64 w.ctime) (at + 96) (at + 104) (omega (arith, len, room, length-le64 w.mtime)) (omega (arith, length-le64 w.mtime)) in
    let three : r ≡ splice s (at + 96) (the_times w) =
    third ∙ ap (λ (x : List ℕ). splice x (at + 112) (le64 w.atime)) two
    ∙ splice_next s (le64 w.mtime ++ le64 w.ctime) (le64 w.atime) (at + 96) (at + 112)
    (omega (arith, len, room, length-append (le64 w.mtime) (le64 w.ctime), length-le64 w.mtime, length-le64 w.ctime))
    (omega (arith, length-append (le64 w.mtime) (le64 w.ctime), length-le64 w.mtime, length-le64 w.ctime)) in
    three ∙ ap (λ (k : ℕ). splice s (at + k) (the_times w)) (sym start)
    ∙ part_replaced s (before_times v) (the_times v) (the_times w) (zeros 8) at INODE_SIZE stood all (length-the_times w ∙ sym (length-the_times v)) (omega (arith, len, room))
    ∙ ap (λ (x : List ℕ). splice s at (x ++ (the_times w ++ zeros 8))) (sym same) ∙ ap (splice s at) (sym (around_times w))
