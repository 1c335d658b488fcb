-- The nodes of a batch, one after another.
use Rattle.std.proofs.Common.{◌≡◌, ℕ, zero, suc, ◌*◌, ◌<◌, List, length, drop, slice_get, Some, None, refl, ap, ◌∙◌, arith}
use Rattle.std.proofs.lemmas.List.{drop-drop}
use Rattle.std.proofs.lemmas.Option.{slice_get_past}
use Rattle.fuse_protocol.specs.Bytes.{long_at}
use Rattle.fuse_protocol.specs.Forgets.{forgets_in}

pub length_forgets : (k : ℕ) (s : List ℕ) → length (forgets_in k s) ≡ k
length_forgets zero s = refl
length_forgets (suc k) s = ap suc (length_forgets k (drop 16 s))

abbrev forget_at : List ℕ → ℕ × ℕ
forget_at s = (long_at s 0, long_at s 8)

pub nth_forget : (k at : ℕ) (s : List ℕ) → at < k → slice_get (forgets_in k s) at ≡ Some (forget_at (drop (16 * at) s))
nth_forget zero at s lt = absurd (omega (arith, lt))
nth_forget (suc k) zero s lt = refl
nth_forget (suc k) (suc at) s lt =
    nth_forget k at (drop 16 s) (omega (arith, lt))
    ∙ ap (λ l. Some (forget_at l)) (drop-drop (16 * at) 16 s ∙ ap (λ n. drop n s) (omega arith))

pub no_forget : (k at : ℕ) (s : List ℕ) → k < suc at → slice_get (forgets_in k s) at ≡ None
no_forget k at s le = slice_get_past (forgets_in k s) at (omega (arith, length_forgets k s, le))
