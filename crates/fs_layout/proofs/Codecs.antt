-- What every codec has: a reading that gave a value passed each test, and both directions give what callers use.
use Rattle.std.proofs.Common.{◌≡◌, ℕ, ◌+◌, ◌≤◌, List, [], ◌++◌, length, take, drop, refl, sym, ap, ◌∙◌, arith, true, false, cond, Bool, Result, Ok, Err}
use Rattle.std.proofs.lemmas.List.{take_all, drop_all, append-nil}
use Rattle.std.specs.Prelude.{IfOk}
use borrow.Rule.Slice.PartMut.{put_mid}
use Rattle.fs_layout.specs.Bytes.{IsBytes, window}
use Rattle.fs_layout.specs.Laws.{AreReadAgain}
use Rattle.fs_layout.specs.declared.fault.LayoutFault.{LayoutFault}
use Rattle.fs_layout.proofs.Splices.{window_same}
use Rattle.fs_layout.proofs.Fields.{part_len, IsBytes-part}

-- a test that has to hold, and held
pub held : {A E : Type 0} (b : Bool) (x : Result A E) (d : E) (y : A) → cond b x (Err d) ≡ Ok y → (b ≡ true) × (x ≡ Ok y)
held true x d y e = (refl, e)
held false x d y e = absurd cc

-- a test for a fault, which was not there
pub passed : {A E : Type 0} (b : Bool) (x : Result A E) (d : E) (y : A) → cond b (Err d) x ≡ Ok y → (b ≡ false) × (x ≡ Ok y)
passed false x d y e = (refl, e)
passed true x d y e = absurd cc

pub same_ok : {A E : Type 0} (x y : A) (r : Result A E) → r ≡ Ok x → r ≡ Ok y → x ≡ y
same_ok x y r e f = cc

-- n bytes are the spelling of a value that fits exactly where they are read as it
pub record IsCodec {V E : Type 0} (n : ℕ) (Fits : V → Type 0) (bytes : V → List ℕ) (of : List ℕ → Result V E) : Type 0 where
  pub back : (s : List ℕ) (v : V) → length s ≡ n → IsBytes s → of s ≡ Ok v → (s ≡ bytes v) × Fits v
  pub again : (v : V) → Fits v → of (bytes v) ≡ Ok v

-- what a reading of bytes gave, by their codec
pub record Reads {V E : Type 0} (Fits : V → Type 0) (bytes : V → List ℕ) (of : List ℕ → Result V E) (s : List ℕ) (r : Result V E) : Type 0 where
  pub first_fault : r ≡ of s
  pub found : IfOk r (λ v. (s ≡ bytes v) × Fits v)
  pub only : (v : V) → Fits v → s ≡ bytes v → r ≡ Ok v

reads : {V E : Type 0} (n : ℕ) {Fits : V → Type 0} {bytes : V → List ℕ} {of : List ℕ → Result V E} → IsCodec n Fits bytes of
    → (s : List ℕ) (r : Result V E) → length s ≡ n → IsBytes s → r ≡ of s → Reads Fits bytes of s r
reads {V = V} {E = E} n {Fits} {bytes} {of} law s r len small e = record {
  first_fault = e;
  found = found r e;
  only = λ v fits is. e ∙ ap of is ∙ law.again v fits;
}
  where
    found : (r : Result V E) → r ≡ of s → IfOk r (λ v. (s ≡ bytes v) × Fits v)
    found (Ok v) e = law.back s v len small (sym e)
    found (Err d) e = tt

-- a sector read whole
whole : (s : List ℕ) (at k n : ℕ) → at ≡ 0 → k ≡ n → length s ≡ n → take k (drop at s) ≡ s
whole s at k n here all len = ap (λ (p : ℕ). take k (drop p s)) here ∙ take_all k s (omega arith)

pub reads_whole : {V E : Type 0} {Fits : V → Type 0} {bytes : V → List ℕ} {of : List ℕ → Result V E} → IsCodec 512 Fits bytes of
    → (s : List ℕ) (at k : ℕ) (r : Result V E) → at ≡ 0 → k ≡ 512 → length s ≡ 512 → IsBytes s → r ≡ of (take k (drop at s)) → Reads Fits bytes of s r
reads_whole {of} law s at k r here all len small e = reads 512 law s r len small (e ∙ ap of (whole s at k 512 here all len))

-- a sector written whole
pub whole_written : (s new : List ℕ) (at k n : ℕ) → at ≡ 0 → k ≡ n → length s ≡ n → put_mid at k s new ≡ new
whole_written s new at k n here all len =
    let none : drop k (drop 0 s) ≡ [] = drop_all k s (omega arith) in
    ap (λ (p : ℕ). put_mid p k s new) here ∙ ap (λ (r : List ℕ). new ++ r) none ∙ append-nil new

-- a part of a sector read
pub part : (s : List ℕ) (at k n : ℕ) → k ≡ n → take k (drop at s) ≡ window s at n
part s at k n all = ap (λ (m : ℕ). take m (drop at s)) all

pub reads_part : {V E : Type 0} (n : ℕ) {Fits : V → Type 0} {bytes : V → List ℕ} {of : List ℕ → Result V E} → IsCodec n Fits bytes of
    → (s : List ℕ) (at k : ℕ) (r : Result V E) → k ≡ n → at + n ≤ length s → IsBytes s → r ≡ of (take k (drop at s)) → Reads Fits bytes of (window s at n) r
reads_part n {of} law s at k r all room small e =
    reads n law (window s at n) r (part_len n at s room) (IsBytes-part n at s small) (e ∙ ap of (part s at k n all))

-- a value that fits is read again from its bytes, and from wherever they are written
pub are_read_again : {V : Type 0} (n : ℕ) {Fits : V → Type 0} {bytes : V → List ℕ} {of : List ℕ → Result V LayoutFault} → IsCodec n Fits bytes of
    → ((v : V) → Fits v → length (bytes v) ≡ n) → AreReadAgain n Fits bytes of
are_read_again n {bytes = bytes} {of} law size = record {
  alone = law.again;
  within = λ s at v room fits. ap of (window_same s (bytes v) at n (size v fits) room) ∙ law.again v fits;
}

-- bytes spell one value
pub same_spelling : {V E : Type 0} (n : ℕ) (Fits : V → Type 0) (bytes : V → List ℕ) (of : List ℕ → Result V E) → IsCodec n Fits bytes of
    → (v w : V) → Fits v → Fits w → bytes v ≡ bytes w → v ≡ w
same_spelling n Fits bytes of law v w fits_v fits_w same = same_ok v w (of (bytes v)) (law.again v fits_v) (ap of same ∙ law.again w fits_w)
