-- What is read of an inode is spelled so, and what is spelled so is read.
use Rattle.std.proofs.Common.{◌≡◌, ℕ, zero, suc, ◌+◌, ◌^◌, ◌<◌, List, [], ◌∷◌, ◌++◌, length, get_or, take, drop, refl, sym, ap, subst, ◌∙◌, arith, Bool, true, false, cond, ◌&&◌, if◌then◌else◌, Option, Some, None, Result, Ok, Err}
use Rattle.std.proofs.lemmas.List.{drop-drop, drop_at, take_all, length-drop}
use Rattle.std.proofs.lemmas.Result.{err_from_is_err_and}
use Rattle.std.specs.Result.{IsErrAnd}
use Rattle.std.proofs.lemmas.Bool.{and_parts, and_right}
use Rattle.std.proofs.Math.Bool.{and-true}
use Rattle.fs_layout.specs.declared.inode.Kind.{Kind}
use Rattle.fs_layout.specs.declared.inode.Kind.TheVariants.{Free, File, Directory, Link}
use Rattle.fs_layout.specs.declared.inode.Inode.{Inode}
use Rattle.fs_layout.specs.declared.inode.TheConstants.{INODE_SIZE, DIRECT_BLOCKS, POINTER_LEVELS}
use Rattle.fs_layout.specs.declared.fault.LayoutFault.TheVariants.{BadKind, BadNumber, NotZero}
use Rattle.fs_layout.specs.declared.fault.LayoutFault.{LayoutFault}
use Rattle.fs_layout.proofs.Codecs.{IsCodec, held, same_ok}
use Rattle.fs_layout.proofs.Small.{u16_small, u32_small, u64_small, u32s_small, u32s_len}
use Rattle.fs_layout.specs.Bytes.{le16, le32, le64, le32s, zeros, u16_of, u32_of, u64_of, u32s_of, are_zero, window}
use Rattle.fs_layout.proofs.Writes.{length-le32s}
use Rattle.fs_layout.proofs.Fields.{back16, back32, back64, back32s, zero_part, are_zero-zeros, u32_of-drop, u64_of-drop, read16, read32, read64, read32s}
use Rattle.fs_layout.specs.Inode.{FitsInode, FitsOlderInode, free_inode, fields_of, gaps_are_zero, inode_bytes, inode_fits, inode_if, inode_of, is_small, kind_number, kind_of, older_gaps_are_zero, older_inode_fits, older_inode_of, times_bytes}
use Rattle.fs_layout.specs.Bytes.{IsBytes}

number_of_kind : (n : ℕ) (k : Kind) → kind_of n ≡ Some k → n ≡ kind_number k
number_of_kind zero k e = let f : Free ≡ k = cc in ap kind_number f
number_of_kind (suc zero) k e = let f : File ≡ k = cc in ap kind_number f
number_of_kind (suc (suc zero)) k e = let f : Directory ≡ k = cc in ap kind_number f
number_of_kind (suc (suc (suc zero))) k e = let f : Link ≡ k = cc in ap kind_number f
number_of_kind (suc (suc (suc (suc n)))) k e = absurd cc

-- a part that is zero and the last
zeros_to_end : (n at : ℕ) (s : List ℕ) → at + n ≡ length s → are_zero (window s at n) ≡ true → drop at s ≡ zeros n
zeros_to_end n at s len e =
    sym (take_all n (drop at s) (omega (arith, length-drop at s, len))) ∙ zero_part n at s (omega (arith, len)) e

-- the bytes of the times that stand in s, and of the zeros after them
times_spelled : (s : List ℕ) (kind : Kind) → length s ≡ INODE_SIZE → IsBytes s → are_zero (window s 120 8) ≡ true
    → drop 96 s ≡ times_bytes (fields_of kind s)
times_spelled s kind len fits after =
    let e1 : drop 96 s ≡ le64 (u64_of s 96) ++ drop 104 s = back64 s 96 fits (omega (arith, len)) in
    let e2 : drop 104 s ≡ le64 (u64_of s 104) ++ drop 112 s = back64 s 104 fits (omega (arith, len)) in
    let e3 : drop 112 s ≡ le64 (u64_of s 112) ++ drop 120 s = back64 s 112 fits (omega (arith, len)) in
    let e4 : drop 120 s ≡ zeros 8 = zeros_to_end 8 120 s (omega (arith, len)) after in
    e1 ∙ ap (λ (r : List ℕ). le64 (u64_of s 96) ++ r) (e2
    ∙ ap (λ (r : List ℕ). le64 (u64_of s 104) ++ r) (e3 ∙ ap (λ (r : List ℕ). le64 (u64_of s 112) ++ r) e4))

-- the bytes of the fields that stand in s
spelled : (s : List ℕ) (kind : Kind) → length s ≡ INODE_SIZE → IsBytes s → u16_of s 0 ≡ kind_number kind
    → are_zero (window s 120 8) ≡ true → s ≡ inode_bytes (fields_of kind s)
spelled s kind len fits k after =
    let v = fields_of kind s in
    let e0 : s ≡ le16 (u16_of s 0) ++ drop 2 s = back16 s 0 fits (omega arith) in
    let e1 : drop 2 s ≡ le16 (u16_of s 2) ++ drop 4 s = back16 s 2 fits (omega arith) in
    let e2 : drop 4 s ≡ le32 (u32_of s 4) ++ drop 8 s = back32 s 4 fits (omega arith) in
    let e3 : drop 8 s ≡ le32 (u32_of s 8) ++ drop 12 s = back32 s 8 fits (omega arith) in
    let e4 : drop 12 s ≡ le32 (u32_of s 12) ++ drop 16 s = back32 s 12 fits (omega arith) in
    let e5 : drop 16 s ≡ le64 (u64_of s 16) ++ drop 24 s = back64 s 16 fits (omega arith) in
    let e6 : drop 24 s ≡ le32 (u32_of s 24) ++ drop 28 s = back32 s 24 fits (omega arith) in
    let e7 : drop 28 s ≡ le32 (u32_of s 28) ++ drop 32 s = back32 s 28 fits (omega arith) in
    let e8 : drop 32 s ≡ le32 (u32_of s 32) ++ drop 36 s = back32 s 32 fits (omega arith) in
    let e9 : drop 36 s ≡ le32s (u32s_of s 36 DIRECT_BLOCKS) ++ drop 84 s = back32s DIRECT_BLOCKS s 36 fits (omega arith) in
    let e10 : drop 84 s ≡ le32s (u32s_of s 84 POINTER_LEVELS) ++ drop 96 s = back32s POINTER_LEVELS s 84 fits (omega arith) in
    let f10 : drop 84 s ≡ le32s (u32s_of s 84 POINTER_LEVELS) ++ times_bytes v =
    e10 ∙ ap (λ (r : List ℕ). le32s (u32s_of s 84 POINTER_LEVELS) ++ r) (times_spelled s kind len fits after) in
    let f9 : drop 36 s ≡ le32s (u32s_of s 36 DIRECT_BLOCKS) ++ (le32s (u32s_of s 84 POINTER_LEVELS) ++ times_bytes v) =
    e9 ∙ ap (λ (r : List ℕ). le32s (u32s_of s 36 DIRECT_BLOCKS) ++ r) f10 in
    let f8 : drop 32 s ≡ le32 (u32_of s 32) ++ (le32s (u32s_of s 36 DIRECT_BLOCKS) ++ (le32s (u32s_of s 84 POINTER_LEVELS) ++ times_bytes v)) =
    e8 ∙ ap (λ (r : List ℕ). le32 (u32_of s 32) ++ r) f9 in
    let f6 : drop 24 s ≡ le32 (u32_of s 24) ++ (le32 (u32_of s 28) ++ (le32 (u32_of s 32) ++ (le32s (u32s_of s 36 DIRECT_BLOCKS) ++ (le32s (u32s_of s 84 POINTER_LEVELS) ++ times_bytes v)))) =
    e6 ∙ ap (λ (r : List ℕ). le32 (u32_of s 24) ++ r) (e7 ∙ ap (λ (r : List ℕ). le32 (u32_of s 28) ++ r) f8) in
    e0 ∙ ap (λ (n : ℕ). le16 n ++ drop 2 s) k
    ∙ ap (λ (r : List ℕ). le16 (kind_number kind) ++ r) (e1 ∙ ap (λ (r : List ℕ). le16 (u16_of s 2) ++ r) (e2
    ∙ ap (λ (r : List ℕ). le32 (u32_of s 4) ++ r) (e3 ∙ ap (λ (r : List ℕ). le32 (u32_of s 8) ++ r) (e4
    ∙ ap (λ (r : List ℕ). le32 (u32_of s 12) ++ r) (e5 ∙ ap (λ (r : List ℕ). le64 (u64_of s 16) ++ r) f6)))))

-- zeros throughout are zeros after the times
gaps_zero : (kind : Kind) (s : List ℕ) → length s ≡ INODE_SIZE → gaps_are_zero kind s ≡ true → are_zero (window s 120 8) ≡ true
unfolding are_zero zeros
gaps_zero Free s len e =
    let all : s ≡ zeros INODE_SIZE = are_zero-zeros s e ∙ ap zeros len in
    ap (λ (r : List ℕ). are_zero (window r 120 8)) all ∙ refl
gaps_zero File s len e = e
gaps_zero Directory s len e = e
gaps_zero Link s len e = e

-- what was taken passed both tests
record IsTaken (fits : Inode → Bool) (zero_in : Kind → List ℕ → Bool) (s : List ℕ) (v : Inode) : Type 0 where
  pub spelled : s ≡ inode_bytes v
  pub fit : fits v ≡ true
  pub zero_there : zero_in v.kind s ≡ true

takes_if : (fits : Inode → Bool) (zero_in : Kind → List ℕ → Bool) (o : Option Kind) (s : List ℕ) (v : Inode) → ((k : Kind) → zero_in k s ≡ true → gaps_are_zero k s ≡ true)
    → kind_of (u16_of s 0) ≡ o → length s ≡ INODE_SIZE → IsBytes s → inode_if fits zero_in o s ≡ Ok v → IsTaken fits zero_in s v
takes_if fits zero_in None s v gaps k len bytes e = absurd cc
takes_if fits zero_in (Some kind) s v gaps k len bytes e =
    let a = held (fits (fields_of kind s)) (cond (zero_in kind s) (Ok (fields_of kind s)) (Err NotZero)) BadNumber v e in
    let b = held (zero_in kind s) (Ok (fields_of kind s)) NotZero v a.1 in
    let same : fields_of kind s ≡ v = same_ok (fields_of kind s) v (Ok (fields_of kind s)) refl b.1 in
    record {
      spelled = spelled s kind len bytes (number_of_kind (u16_of s 0) kind k) (gaps_zero kind s len (gaps kind b.0)) ∙ ap inode_bytes same;
      fit = sym (ap fits same) ∙ a.0;
      zero_there = ap (λ (w : Inode). zero_in w.kind s) (sym same) ∙ b.0;
    }

pub inode_takes : (s : List ℕ) (v : Inode) → length s ≡ INODE_SIZE → IsBytes s → inode_of s ≡ Ok v → (s ≡ inode_bytes v) × (inode_fits v ≡ true)
unfolding inode_of
inode_takes s v len fits e =
    let taken = takes_if inode_fits gaps_are_zero (kind_of (u16_of s 0)) s v (λ k zero_there. zero_there) refl len fits e in
    (taken.spelled, taken.fit)

same_fields : (v : Inode) (k : Kind) (a b c d e f g h : ℕ) (i j : List ℕ) (m n o : ℕ) → a ≡ v.mode → b ≡ v.uid → c ≡ v.gid → d ≡ v.names
    → e ≡ v.size → f ≡ v.parent → g ≡ v.acl → h ≡ v.default_acl → i ≡ v.direct → j ≡ v.indirect → m ≡ v.mtime → n ≡ v.ctime → o ≡ v.atime
    → record { kind = v.kind; mode = a; uid = b; gid = c; names = d; size = e; parent = f; acl = g; default_acl = h; direct = i; indirect = j; mtime = m; ctime = n; atime = o } ≡ v
same_fields v k a b c d e f g h i j m n o e0 e1 e2 e3 e4 e5 e6 e7 e8 e9 e10 e11 e12 =
    rw (e0, e1, e2, e3, e4, e5, e6, e7, e8, e9, e10, e11, e12) refl

drop_le64 : (x : ℕ) (r : List ℕ) → drop 8 (le64 x ++ r) ≡ r
unfolding le64
drop_le64 x r = refl

small : (k : Kind) → kind_number k < 2 ^ 16
small Free = omega arith
small File = omega arith
small Directory = omega arith
small Link = omega arith

-- ---- what is spelled is read
-- the numbers of its sectors have their lengths
abbrev HasLengths : Inode → Type 0
HasLengths v = (length v.direct ≡ DIRECT_BLOCKS) × (length v.indirect ≡ POINTER_LEVELS)

named_of : (v : Inode) → HasLengths v → drop 84 (inode_bytes v) ≡ le32s v.indirect ++ times_bytes v
unfolding le16 le32 le64
named_of v len =
    let k : length (le32s v.direct) ≡ 48 = omega (arith, len.0, length-le32s v.direct) in
    sym (drop-drop 48 36 (inode_bytes v)) ∙ drop_at (le32s v.direct) (le32s v.indirect ++ times_bytes v) 48 k

-- the times, and what stands after each
mtime_of : (v : Inode) → HasLengths v → drop 96 (inode_bytes v) ≡ times_bytes v
mtime_of v len =
    let k : length (le32s v.indirect) ≡ 12 = omega (arith, len.1, length-le32s v.indirect) in
    sym (drop-drop 12 84 (inode_bytes v)) ∙ ap (drop 12) (named_of v len) ∙ drop_at (le32s v.indirect) (times_bytes v) 12 k

ctime_of : (v : Inode) → HasLengths v → drop 104 (inode_bytes v) ≡ le64 v.ctime ++ (le64 v.atime ++ zeros 8)
ctime_of v len = sym (drop-drop 8 96 (inode_bytes v)) ∙ ap (drop 8) (mtime_of v len) ∙ drop_le64 v.mtime (le64 v.ctime ++ (le64 v.atime ++ zeros 8))

atime_of : (v : Inode) → HasLengths v → drop 112 (inode_bytes v) ≡ le64 v.atime ++ zeros 8
atime_of v len = sym (drop-drop 8 104 (inode_bytes v)) ∙ ap (drop 8) (ctime_of v len) ∙ drop_le64 v.ctime (le64 v.atime ++ zeros 8)

end_of : (v : Inode) → HasLengths v → drop 120 (inode_bytes v) ≡ zeros 8
end_of v len = sym (drop-drop 8 112 (inode_bytes v)) ∙ ap (drop 8) (atime_of v len) ∙ drop_le64 v.atime (zeros 8)

kind_again : (k : Kind) → kind_of (kind_number k) ≡ Some k
kind_again Free = refl
kind_again File = refl
kind_again Directory = refl
kind_again Link = refl

reads_fields : (v : Inode) → FitsInode v → fields_of v.kind (inode_bytes v) ≡ v
unfolding le16 le32 le64
reads_fields v f =
    let s = inode_bytes v in
    let mode : u16_of s 2 ≡ v.mode = read16 s 2 v.mode (drop 4 s) refl f.mode in
    let uid : u32_of s 4 ≡ v.uid = read32 s 4 v.uid (drop 8 s) refl f.uid in
    let gid : u32_of s 8 ≡ v.gid = read32 s 8 v.gid (drop 12 s) refl f.gid in
    let names : u32_of s 12 ≡ v.names = read32 s 12 v.names (drop 16 s) refl f.names in
    let size : u64_of s 16 ≡ v.size = read64 s 16 v.size (drop 24 s) refl f.size in
    let parent : u32_of s 24 ≡ v.parent = read32 s 24 v.parent (drop 28 s) refl f.parent in
    let acl : u32_of s 28 ≡ v.acl = read32 s 28 v.acl (drop 32 s) refl f.acl in
    let default_acl : u32_of s 32 ≡ v.default_acl = read32 s 32 v.default_acl (drop 36 s) refl f.default_acl in
    let len : HasLengths v = (f.direct_len, f.indirect_len) in
    let direct : u32s_of s 36 DIRECT_BLOCKS ≡ v.direct = ap (u32s_of s 36) (sym f.direct_len) ∙ read32s v.direct s 36 (le32s v.indirect ++ times_bytes v) refl f.direct in
    let indirect : u32s_of s 84 POINTER_LEVELS ≡ v.indirect = ap (u32s_of s 84) (sym f.indirect_len) ∙ read32s v.indirect s 84 (times_bytes v) (named_of v len) f.indirect in
    let mtime : u64_of s 96 ≡ v.mtime = read64 s 96 v.mtime (le64 v.ctime ++ (le64 v.atime ++ zeros 8)) (mtime_of v len) f.mtime in
    let ctime : u64_of s 104 ≡ v.ctime = read64 s 104 v.ctime (le64 v.atime ++ zeros 8) (ctime_of v len) f.ctime in
    let atime : u64_of s 112 ≡ v.atime = read64 s 112 v.atime (zeros 8) (atime_of v len) f.atime in
    same_fields v v.kind _ _ _ _ _ _ _ _ _ _ _ _ _ mode uid gid names size parent acl default_acl direct indirect mtime ctime atime

after_times : (v : Inode) → FitsInode v → are_zero (window (inode_bytes v) 120 8) ≡ true
unfolding zeros are_zero
after_times v f = ap (λ (r : List ℕ). are_zero (take 8 r)) (end_of v (f.direct_len, f.indirect_len)) ∙ refl

free_is_zero : are_zero (inode_bytes free_inode) ≡ true
unfolding are_zero le16 le32 le64 le32s zeros
free_is_zero = refl

gaps_written : (k : Kind) (v : Inode) → v.kind ≡ k → FitsInode v → gaps_are_zero k (inode_bytes v) ≡ true
gaps_written Free v e f = ap (λ (u : Inode). are_zero (inode_bytes u)) (f.valid.free e) ∙ free_is_zero
gaps_written File v e f = after_times v f
gaps_written Directory v e f = after_times v f
gaps_written Link v e f = after_times v f

again_if : (fits : Inode → Bool) (zero_in : Kind → List ℕ → Bool) (v : Inode) → FitsInode v → fits v ≡ true → zero_in v.kind (inode_bytes v) ≡ true
    → inode_if fits zero_in (kind_of (u16_of (inode_bytes v) 0)) (inode_bytes v) ≡ Ok v
unfolding le16
again_if fits zero_in v f good zero_there =
    let s = inode_bytes v in
    let n : u16_of s 0 ≡ kind_number v.kind = read16 s 0 (kind_number v.kind) (drop 2 s) refl (small v.kind) in
    let k : kind_of (u16_of s 0) ≡ Some v.kind = ap kind_of n ∙ kind_again v.kind in
    let fields = reads_fields v f in
    let fit : fits (fields_of v.kind s) ≡ true = ap fits fields ∙ good in
    ap (λ (o : Option Kind). inode_if fits zero_in o s) k ∙ rw (fit, zero_there) (rw fields refl)

pub inode_again : (v : Inode) → FitsInode v → inode_of (inode_bytes v) ≡ Ok v
unfolding inode_of
inode_again v f = again_if inode_fits gaps_are_zero v f f.valid.numbers (gaps_written v.kind v refl f)

-- all zeros are the free inode
zeros_are_free : (s : List ℕ) → s ≡ zeros INODE_SIZE → fields_of Free s ≡ free_inode
unfolding u16_of u32_of u64_of u32s_of zeros
zeros_are_free s e = ap (fields_of Free) e

-- what is read fits its fields
fields_fit : (k : Kind) (s : List ℕ) → length s ≡ INODE_SIZE → IsBytes s → inode_fits (fields_of k s) ≡ true
    → gaps_are_zero k s ≡ true → FitsInode (fields_of k s)
unfolding inode_fits
fields_fit k s len h fits zero_there = record {
  valid = record {
    numbers = fits;
    free = λ e.
        let all : are_zero s ≡ true = subst (λ (q : Kind). gaps_are_zero q s ≡ true) e zero_there in
        ap (λ (q : Kind). fields_of q s) e ∙ zeros_are_free s (are_zero-zeros s all ∙ ap zeros len);
  };
  mode = u16_small s 2 h;
  uid = u32_small s 4 h;
  gid = u32_small s 8 h;
  names = u32_small s 12 h;
  size = u64_small s 16 h;
  parent = u32_small s 24 h;
  acl = u32_small s 28 h;
  default_acl = u32_small s 32 h;
  direct_len = u32s_len s 36 DIRECT_BLOCKS;
  direct = λ i. u32s_small s 36 DIRECT_BLOCKS i h;
  indirect_len = u32s_len s 84 POINTER_LEVELS;
  indirect = λ level. u32s_small s 84 POINTER_LEVELS level h;
  mtime = u64_small s 96 h;
  ctime = u64_small s 104 h;
  atime = u64_small s 112 h;
}

fits_if : (o : Option Kind) (s : List ℕ) (v : Inode) → kind_of (u16_of s 0) ≡ o → length s ≡ INODE_SIZE → IsBytes s
    → inode_if inode_fits gaps_are_zero o s ≡ Ok v → FitsInode v
fits_if None s v k len bytes e = absurd cc
fits_if (Some kind) s v k len bytes e =
    let a = held (inode_fits (fields_of kind s)) (cond (gaps_are_zero kind s) (Ok (fields_of kind s)) (Err NotZero)) BadNumber v e in
    let b = held (gaps_are_zero kind s) (Ok (fields_of kind s)) NotZero v a.1 in
    let same : fields_of kind s ≡ v = same_ok (fields_of kind s) v (Ok (fields_of kind s)) refl b.1 in
    subst FitsInode same (fields_fit kind s len bytes a.0 b.0)

pub read_fits : (s : List ℕ) (v : Inode) → length s ≡ INODE_SIZE → IsBytes s → inode_of s ≡ Ok v → FitsInode v
unfolding inode_of
read_fits s v len fits e = fits_if (kind_of (u16_of s 0)) s v refl len fits e

pub inode_codec : IsCodec INODE_SIZE FitsInode inode_bytes inode_of
inode_codec = record { back = λ s v len small e. ((inode_takes s v len small e).0, read_fits s v len small e); again = inode_again }

-- ---- the inodes of versions 1 and 2
gaps_without_times : (s : List ℕ) (k : Kind) → older_gaps_are_zero k s ≡ true → gaps_are_zero k s ≡ true
gaps_without_times s k e = (and_parts (gaps_are_zero k s) (are_zero (window s 92 36)) e).0

-- what is read as one of them is read as an inode too
older_if : (o : Option Kind) (s : List ℕ) (v : Inode) → inode_if older_inode_fits older_gaps_are_zero o s ≡ Ok v → inode_if inode_fits gaps_are_zero o s ≡ Ok v
unfolding older_inode_fits
older_if None s v e = absurd cc
older_if (Some kind) s v e =
    let a = held (older_inode_fits (fields_of kind s)) (cond (older_gaps_are_zero kind s) (Ok (fields_of kind s)) (Err NotZero)) BadNumber v e in
    let b = held (older_gaps_are_zero kind s) (Ok (fields_of kind s)) NotZero v a.1 in
    let fit : inode_fits (fields_of kind s) ≡ true = (and_parts (inode_fits (fields_of kind s)) (is_small kind (u64_of s 16)) a.0).0 in
    rw (fit, gaps_without_times s kind b.0) b.1

older_is_inode : (s : List ℕ) (v : Inode) → older_inode_of s ≡ Ok v → inode_of s ≡ Ok v
unfolding inode_of older_inode_of
older_is_inode s v e = older_if (kind_of (u16_of s 0)) s v e

-- there is no triple indirect sector, and times of zeros are not known
record HasNoMore (s : List ℕ) : Type 0 where
  pub triple : get_or (u32s_of s 84 POINTER_LEVELS) 2 0 ≡ 0
  pub mtime : u64_of s 96 ≡ 0
  pub ctime : u64_of s 104 ≡ 0
  pub atime : u64_of s 112 ≡ 0

no_more : (s : List ℕ) → length s ≡ INODE_SIZE → are_zero (window s 92 36) ≡ true → HasNoMore s
unfolding u32_of u32s_of u64_of zeros
no_more s len e =
    let rest : drop 92 s ≡ zeros 36 = zeros_to_end 36 92 s (omega (arith, len)) e in record {
      triple = sym (u32_of-drop s 92 0) ∙ ap (λ (r : List ℕ). u32_of r 0) rest ∙ refl;
      mtime = sym (u64_of-drop s 92 4) ∙ ap (λ (r : List ℕ). u64_of r 4) rest ∙ refl;
      ctime = sym (u64_of-drop s 92 12) ∙ ap (λ (r : List ℕ). u64_of r 12) rest ∙ refl;
      atime = sym (u64_of-drop s 92 20) ∙ ap (λ (r : List ℕ). u64_of r 20) rest ∙ refl;
    }

older_back : (s : List ℕ) (v : Inode) → length s ≡ INODE_SIZE → IsBytes s → older_inode_of s ≡ Ok v → (s ≡ inode_bytes v) × FitsOlderInode v
unfolding older_inode_of
older_back s v len bytes e =
    let taken = takes_if older_inode_fits older_gaps_are_zero (kind_of (u16_of s 0)) s v (gaps_without_times s) refl len bytes e in
    let fits : FitsInode v = read_fits s v len bytes (older_is_inode s v e) in
    let fields : v ≡ fields_of v.kind s = sym (reads_fields v fits) ∙ ap (fields_of v.kind) (sym taken.spelled) in
    let none = no_more s len (and_parts (gaps_are_zero v.kind s) (are_zero (window s 92 36)) taken.zero_there).1 in (
      taken.spelled,
      record {
        fields = fits;
        older = taken.fit;
        triple_indirect = ap (λ (w : Inode). get_or w.indirect 2 0) fields ∙ none.triple;
        mtime = ap (λ (w : Inode). w.mtime) fields ∙ none.mtime;
        ctime = ap (λ (w : Inode). w.ctime) fields ∙ none.ctime;
        atime = ap (λ (w : Inode). w.atime) fields ∙ none.atime;
      },
    )

-- the last of three numbers, and what stands behind them
drop_two : (xs rest : List ℕ) → length xs ≡ POINTER_LEVELS → drop 8 (le32s xs ++ rest) ≡ le32 (get_or xs 2 0) ++ rest
unfolding le32s le32
drop_two [] rest len = absurd (omega (arith, len))
drop_two (x ∷ []) rest len = absurd (omega (arith, len))
drop_two (x ∷ (y ∷ [])) rest len = absurd (omega (arith, len))
drop_two (x ∷ (y ∷ (z ∷ []))) rest len = refl
drop_two (x ∷ (y ∷ (z ∷ (u ∷ us)))) rest len = absurd (omega (arith, len))

no_more_written : (v : Inode) → FitsOlderInode v → are_zero (window (inode_bytes v) 92 36) ≡ true
unfolding are_zero zeros le64 le32
no_more_written v f =
    let behind : drop 92 (inode_bytes v) ≡ le32 (get_or v.indirect 2 0) ++ times_bytes v =
    sym (drop-drop 8 84 (inode_bytes v)) ∙ ap (drop 8) (named_of v (f.fields.direct_len, f.fields.indirect_len)) ∙ drop_two v.indirect (times_bytes v) f.fields.indirect_len in
    ap (λ (r : List ℕ). are_zero (take 36 r)) behind ∙ rw (f.triple_indirect, f.mtime, f.ctime, f.atime) refl

older_again : (v : Inode) → FitsOlderInode v → older_inode_of (inode_bytes v) ≡ Ok v
unfolding older_inode_of
older_again v f = again_if older_inode_fits older_gaps_are_zero v f.fields f.older (rw (gaps_written v.kind v refl f.fields, no_more_written v f) refl)

pub older_codec : IsCodec INODE_SIZE FitsOlderInode inode_bytes older_inode_of
older_codec = record { back = older_back; again = older_again }

-- one of more bytes than they allow
pub older_refuses : (s : List ℕ) (kind : Kind) → kind_of (u16_of s 0) ≡ Some kind → is_small kind (u64_of s 16) ≡ false → Err BadNumber ≡ older_inode_of s
unfolding older_inode_of older_inode_fits
older_refuses s kind k large =
    let none : older_inode_fits (fields_of kind s) ≡ false = and_right (inode_fits (fields_of kind s)) (is_small kind (u64_of s 16)) large in
    sym (ap (λ (o : Option Kind). inode_if older_inode_fits older_gaps_are_zero o s) k ∙ rw none refl)

-- and one of no kind
pub older_is_none : (s : List ℕ) → kind_of (u16_of s 0) ≡ None → Err BadKind ≡ older_inode_of s
unfolding older_inode_of
older_is_none s k = sym (ap (λ (o : Option Kind). inode_if older_inode_fits older_gaps_are_zero o s) k)

-- what is none is read as an inode, and has nothing there
abbrev without_more : Result Inode LayoutFault → Bool → Result Inode LayoutFault
without_more (Ok v) none = if none then Ok v else Err NotZero
without_more (Err fault) none = Err fault

two_tests : (fits gaps none : Bool) (v : Inode) → cond fits (cond (gaps && none) (Ok v) (Err NotZero)) (Err BadNumber)
    ≡ without_more (cond fits (cond gaps (Ok v) (Err NotZero)) (Err BadNumber)) none
two_tests true true true v = refl
two_tests true true false v = refl
two_tests true false none v = refl
two_tests false gaps none v = refl

-- an inode of a kind, small enough
abbrev IsSmall : Kind → List ℕ → Type 0
IsSmall kind s = (kind_of (u16_of s 0) ≡ Some kind) × (is_small kind (u64_of s 16) ≡ true)

older_reads : (s : List ℕ) (kind : Kind) → IsSmall kind s → older_inode_of s ≡ without_more (inode_of s) (are_zero (window s 92 36))
unfolding inode_of older_inode_of older_inode_fits
older_reads s kind small =
    let v = fields_of kind s in
    ap (λ (o : Option Kind). inode_if older_inode_fits older_gaps_are_zero o s) small.0
    ∙ rw small.1 (rw and-true (two_tests (inode_fits v) (gaps_are_zero kind s) (are_zero (window s 92 36)) v))
    ∙ sym (ap (λ (o : Option Kind). without_more (inode_if inode_fits gaps_are_zero o s) (are_zero (window s 92 36))) small.0)

-- so a fault there is one here, and what is read there is read here if it has no more
pub older_fails : (s : List ℕ) (kind : Kind) (fault : LayoutFault) (r : Result Inode LayoutFault) → IsSmall kind s → inode_of s ≡ Err fault
    → IsErrAnd r (λ e. e ≡ fault) → r ≡ older_inode_of s
older_fails s kind fault r small read is =
    let p = err_from_is_err_and r is in
    p.1 ∙ ap Err p.2 ∙ sym (older_reads s kind small ∙ ap (λ (q : Result Inode LayoutFault). without_more q (are_zero (window s 92 36))) read)

pub older_with_more : (s : List ℕ) (kind : Kind) (v : Inode) (none : Bool) → IsSmall kind s → inode_of s ≡ Ok v
    → none ≡ are_zero (window s 92 36) → none ≡ false → Err NotZero ≡ older_inode_of s
older_with_more s kind v none small read tested some =
    sym (older_reads s kind small ∙ ap (λ (q : Result Inode LayoutFault). without_more q (are_zero (window s 92 36))) read ∙ ap (without_more (Ok v)) (sym tested ∙ some))

pub older_is_read : (s : List ℕ) (kind : Kind) (v : Inode) (none : Bool) → IsSmall kind s → inode_of s ≡ Ok v
    → none ≡ are_zero (window s 92 36) → none ≡ true → Ok v ≡ older_inode_of s
older_is_read s kind v none small read tested is =
    sym (older_reads s kind small ∙ ap (λ (q : Result Inode LayoutFault). without_more q (are_zero (window s 92 36))) read ∙ ap (without_more (Ok v)) (sym tested ∙ is))
