-- A part of a list after a write into it.
use Rattle.std.proofs.Common.{◌≡◌, ℕ, ◌+◌, ◌-◌, ◌≤◌, List, ◌++◌, length, take, drop, sym, ap, ◌∙◌, append_assoc, arith, inl, inr, ◌⊎◌}
use Rattle.std.proofs.lemmas.List.{take_at, drop_at, drop-drop, length-append, length-take-le, length-drop, take-append-drop, take-append-le, drop-append-le}
use Rattle.fs_layout.specs.Bytes.{splice, window}

pub window_same : (s x : List ℕ) (at n : ℕ) → length x ≡ n → at + n ≤ length s → window (splice s at x) at n ≡ x
unfolding splice
window_same s x at n len room =
    let l : length (take at s) ≡ at = length-take-le at s (omega arith) in
    ap (take n) (drop_at (take at s) (x ++ drop (at + length x) s) at l) ∙ take_at x (drop (at + length x) s) n len

pub window_other : (s x : List ℕ) (at other n k : ℕ) → length x ≡ n → at + n ≤ length s → other + k ≤ length s
    → (other + k ≤ at) ⊎ (at + n ≤ other) → window (splice s at x) other k ≡ window s other k
unfolding splice
window_other s x at other n k len room fits (inl before) =
    let l : length (take at s) ≡ at = length-take-le at s (omega arith) in
    let r = x ++ drop (at + length x) s in
    let cut : drop other (take at s ++ r) ≡ drop other (take at s) ++ r = drop-append-le other (take at s) r (omega (arith, l)) in
    let cut2 : drop other s ≡ drop other (take at s) ++ drop at s =
    ap (drop other) (sym (take-append-drop at s)) ∙ drop-append-le other (take at s) (drop at s) (omega (arith, l)) in
    let long : k ≤ length (drop other (take at s)) = omega (arith, length-drop other (take at s), l) in
    ap (take k) cut ∙ take-append-le k (drop other (take at s)) r long
    ∙ sym (take-append-le k (drop other (take at s)) (drop at s) long) ∙ sym (ap (take k) cut2)
window_other s x at other n k len room fits (inr after) =
    let l : length (take at s) ≡ at = length-take-le at s (omega arith) in
    let front : length (take at s ++ x) ≡ at + n = omega (arith, l, length-append (take at s) x) in
    let whole : take at s ++ (x ++ drop (at + length x) s) ≡ (take at s ++ x) ++ drop (at + n) s =
    sym (append_assoc (take at s) x (drop (at + length x) s)) ∙ ap (λ (m : ℕ). (take at s ++ x) ++ drop (at + m) s) len in
    let d : drop other (take at s ++ (x ++ drop (at + length x) s)) ≡ drop other s =
    ap (drop other) whole
    ∙ ap (λ (m : ℕ). drop m ((take at s ++ x) ++ drop (at + n) s)) (omega arith)
    ∙ sym (drop-drop (other - (at + n)) (at + n) ((take at s ++ x) ++ drop (at + n) s))
    ∙ ap (drop (other - (at + n))) (drop_at (take at s ++ x) (drop (at + n) s) (at + n) front)
    ∙ drop-drop (other - (at + n)) (at + n) s
    ∙ ap (λ (m : ℕ). drop m s) (omega arith) in
    ap (take k) d
