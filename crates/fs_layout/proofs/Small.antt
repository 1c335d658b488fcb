-- Numbers read from bytes fit their fields.
use Rattle.std.proofs.Common.{◌≡◌, ℕ, zero, suc, ◌+◌, ◌^◌, ◌<◌, List, drop, get_or, length, refl, ap, arith}
use Rattle.std.proofs.lemmas.List.{get_or-drop}
use Rattle.fs_layout.specs.Bytes.{u16_of, u32_of, u64_of, u32s_of}
use Rattle.byteorder.specs.Endian.{little_number}
use Rattle.fs_layout.specs.Bytes.{IsBytes}

drop_bytes : (at : ℕ) (s : List ℕ) → IsBytes s → IsBytes (drop at s)
drop_bytes at s h i = rw get_or-drop (h (at + i))

small2 : (s : List ℕ) → IsBytes s → little_number 2 s < 2 ^ 16
small2 s h = let a = h 0 in let b = h 1 in omega (arith, a, b)

small4 : (s : List ℕ) → IsBytes s → little_number 4 s < 2 ^ 32
small4 s h = let a = h 0 in let b = h 1 in let c = h 2 in let d = h 3 in omega (arith, a, b, c, d)

small8 : (s : List ℕ) → IsBytes s → little_number 8 s < 2 ^ 64
small8 s h =
    let a = h 0 in let b = h 1 in let c = h 2 in let d = h 3 in
    let e = h 4 in let f = h 5 in let g = h 6 in let k = h 7 in omega (arith, a, b, c, d, e, f, g, k)

pub u16_small : (s : List ℕ) (at : ℕ) → IsBytes s → u16_of s at < 2 ^ 16
unfolding u16_of
u16_small s at h = small2 (drop at s) (drop_bytes at s h)

pub u32_small : (s : List ℕ) (at : ℕ) → IsBytes s → u32_of s at < 2 ^ 32
unfolding u32_of
u32_small s at h = small4 (drop at s) (drop_bytes at s h)

pub u64_small : (s : List ℕ) (at : ℕ) → IsBytes s → u64_of s at < 2 ^ 64
unfolding u64_of
u64_small s at h = small8 (drop at s) (drop_bytes at s h)

pub u32s_small : (s : List ℕ) (at n i : ℕ) → IsBytes s → get_or (u32s_of s at n) i 0 < 2 ^ 32
unfolding u32s_of
u32s_small s at zero i h = omega arith
u32s_small s at (suc n) zero h = u32_small s at h
u32s_small s at (suc n) (suc i) h = u32s_small s (at + 4) n i h

pub u32s_len : (s : List ℕ) (at n : ℕ) → length (u32s_of s at n) ≡ n
unfolding u32s_of
u32s_len s at zero = refl
u32s_len s at (suc n) = ap suc (u32s_len s (at + 4) n)
