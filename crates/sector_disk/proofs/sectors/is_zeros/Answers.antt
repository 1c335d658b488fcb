use Rattle.std.proofs.Common.{◌≡◌, ℕ, List, length, get_or, replicate, ap, sym, ◌∙◌, arith}
use Rattle.std.proofs.lemmas.List.{ext_get_or, get_or-replicate, length-replicate}
use Rattle.sector_disk.proofs.sectors.is_zeros.Goals as goal

pub returns : goal.returns
returns c =
    let content = c.args.content.now in
    let len : length content ≡ 512 = c.tell_whole.ensures.len in
    let end : c.loop-byte.byte-index ≡ 512 = omega (arith, len, c.loop-byte.auto.byte-index-end) in (
      λ zero. ext_get_or 0 content (replicate 512 0) (len ∙ sym (length-replicate {A = ℕ} 512 0)) (λ i below.
          c.loop-byte.invariant.0 zero i (omega (arith, below, len, end)) ∙ sym (get_or-replicate 512 i 0 0 (omega (arith, below, len)))),
      λ is. c.loop-byte.invariant.1 (λ i below. ap (λ (bytes : List ℕ). get_or bytes i 0) is ∙ get_or-replicate 512 i 0 0 (omega (arith, below, end))),
    )
