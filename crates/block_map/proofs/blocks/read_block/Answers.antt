use Rattle.std.proofs.Common.{◌≡◌, ◌+◌, ℕ, List, get_or, drop, refl, sym, ap, ◌∙◌, arith}
use Rattle.std.proofs.lemmas.List.{get_or-take, get_or-drop}
use Rattle.fs_layout.specs.Bytes.{zeros}
use Rattle.fs_layout.specs.Images.{byte_in}
use Rattle.fs_layout.proofs.Parts.{byte_in_is}
use Rattle.fs_layout.proofs.SplicedBytes.{get_or-zeros}
use Rattle.block_map.proofs.blocks.read_block.Goals as goal

pub returns-then-number-eq0-clause-bytes : goal.returns-then-number-eq0-clause-bytes
unfolding zeros
returns-then-number-eq0-clause-bytes g c = λ i lt.
    ap (λ (l : List ℕ). get_or l i 0) (c.fill.ensures.after (λ y e. e)) ∙ get_or-zeros _ i
    ∙ sym (ap (λ (s : ℕ). byte_in (g.S.Sectors.state c.args.s.now).sectors s (c.args.at + i)) c.if-number-eq0.true)

pub returns-in-Some-clause-bytes : goal.returns-in-Some-clause-bytes
returns-in-Some-clause-bytes g c = λ i lt.
    let image = (g.S.Sectors.state c.args.s.now).sectors in
    let here : i ≡ c.args.at + i = omega (arith, c.in-Some.ensures.cases.long, c.requires.fits) in
    ap (λ (l : List ℕ). get_or l i 0) c.in_ok-get.ensures.content ∙ ap (λ (j : ℕ). get_or (image c.args.number) j 0) here
    ∙ sym (byte_in_is image c.args.number (c.args.at + i) (image c.args.number) refl c.if-number-eq0.false)

pub returns-clause-bytes : goal.returns-clause-bytes
returns-clause-bytes g c = λ i lt.
    let image = (g.S.Sectors.state c.args.s.now).sectors in
    let block : List ℕ = c.get-2.new.to in
    ap (λ (l : List ℕ). get_or l i 0) c.copy_from_slice.ensures.after ∙ get_or-take _ (drop c.args.at block) i 0 (omega (arith, lt)) ∙ get_or-drop c.args.at block i 0
    ∙ sym (byte_in_is image c.args.number (c.args.at + i) block (sym c.in_ok-get-2.ensures.content) c.if-number-eq0.false)
