-- A part of a sector is written, and a sector is filled.
use Rattle.std.proofs.Common.{◌≡◌, ℕ, ◌+◌, ◌-◌, ◌≤◌, List, [], ◌++◌, length, take, drop, replicate, refl, sym, ap, subst, ◌∙◌, arith, Result, Ok, Err}
use Rattle.std.proofs.lemmas.List.{append-nil, drop_all}
use Rattle.fs_layout.specs.Bytes.{SectorMap, splice, zeros}
use Rattle.fs_layout.specs.InodeChanges.{Puts}
use Rattle.fs_layout.proofs.Writes.{length-zeros, part_is_splice, put_is_splice}
use Rattle.std.specs.Prelude.{IsErr, IsErrAnd}
use Rattle.bit_alloc.specs.declared.bitmap.TakeFault.{TakeFault}
use Rattle.bit_alloc.specs.declared.bitmap.TakeFault.TheVariants as take
use Rattle.block_map.specs.declared.fault.MapFault.{MapFault}
use Rattle.block_map.specs.declared.fault.MapFault.TheVariants as faults
use Rattle.block_map.specs.Faults.{as_map_fault}
use borrow.Rule.Slice.PartMut.{put_mid}

-- a sector is read, a part of it is written, and it is put
pub rewritten : {old mid new : SectorMap} {n k : ℕ} {block piece x : List ℕ} (at : ℕ) → block ≡ old n → ((m : ℕ) → mid m ≡ old m) → piece ≡ x → k ≡ length x
    → Puts n (put_mid at k block piece) mid new → Puts n (splice (old n) at x) old new
rewritten {old} {n = n} {k} {block} {piece} {x} at is same e wide put = record {
  here = put.here ∙ part_is_splice block piece x at k (length x) refl e wide ∙ ap (λ (b : List ℕ). splice b at x) is;
  others = λ m ne. put.others m ne ∙ same m;
}

-- a part of zeros is written
pub filled : {k : ℕ} {piece x : List ℕ} (at : ℕ) → piece ≡ x → k ≡ length x → put_mid at k (replicate 512 0) piece ≡ splice (zeros 512) at x
unfolding zeros
filled {k} {piece} {x} at e wide = part_is_splice (replicate 512 0) piece x at k (length x) refl e wide

-- a sector is written as a whole
pub written_whole : (s : List ℕ) (at : ℕ) (x : List ℕ) → length s ≡ 512 → length x ≡ 512 → at ≡ 0 → x ≡ splice s at x
unfolding splice
written_whole s at x wide long first =
    let rest : drop (0 + length x) s ≡ [] = drop_all (0 + length x) s (omega (arith, long, wide)) in
    sym (ap (λ (n : ℕ). splice s n x) first ∙ ap (λ (r : List ℕ). x ++ r) rest ∙ append-nil x)

-- so are zeros
pub filled_whole : (at : ℕ) (x : List ℕ) → length x ≡ 512 → at ≡ 0 → x ≡ splice (zeros 512) at x
filled_whole at x = written_whole (zeros 512) at x (length-zeros 512)

-- a number is written at an offset of a list of known length
pub number_put : (size : ℕ) (s new x : List ℕ) (offset n : ℕ) → length s ≡ size → length x ≡ n → new ≡ x ++ drop n (take (size - offset) (drop offset s)) → offset ≤ size
    → put_mid offset (size - offset) s new ≡ splice s offset x
number_put size s new x offset n e len =
    subst (λ (m : ℕ). new ≡ x ++ drop n (take (m - offset) (drop offset s)) → offset ≤ m → put_mid offset (m - offset) s new ≡ splice s offset x) e
    (λ is fits. put_is_splice s new x offset n len is fits)

-- a fault that is Full was Full below
pub was_full : (r : Result (Unit {0}) MapFault) (f : TakeFault) → IsErr r → IsErrAnd r (λ e. e ≡ as_map_fault f) → r ≡ Err faults.Full → f ≡ take.Full
was_full (Ok u) f err and is = cc
was_full (Err e) take.Full err and is = refl
was_full (Err e) take.DiskFault err and is = cc

-- a sector is filled with zeros
pub all_zeros : {m : ℕ} {x : List ℕ} → x ≡ replicate m 0 → m ≡ 512 → x ≡ zeros 512
unfolding zeros
all_zeros is whole = is ∙ ap (λ (n : ℕ). replicate n 0) whole
