use Rattle.std.proofs.Common.{◌≡◌, ℕ, List, get_or, refl, sym, ap, ◌∙◌, inr}
use Rattle.fs_layout.specs.Bytes.{zeros}
use Rattle.fs_layout.specs.Images.{pointer}
use Rattle.fs_layout.proofs.Parts.{byte_in_is}
use Rattle.fs_layout.proofs.SplicedBytes.{get_or-zeros}
use Rattle.block_map.proofs.Reading.{block_read}
use Rattle.block_map.proofs.blocks.Blocks.read.Goals as goal

pub get-requires-clause-part : goal.get-requires-clause-part
get-requires-clause-part g c = inr (c.in_ok-number.ensures.inside c.if-number-eq0.false).0

pub get-requires-clause-on_disk : goal.get-requires-clause-on_disk
get-requires-clause-on_disk g c = (c.in_ok-number.ensures.inside c.if-number-eq0.false).1

pub returns-then-number-eq0-clause-bytes : goal.returns-then-number-eq0-clause-bytes
unfolding zeros
returns-then-number-eq0-clause-bytes g c =
    let image = (g.S.Sectors.state c.args.s.now).sectors in
    let hole : 0 ≡ pointer image c.args.self.now.inode c.args.k = sym c.if-number-eq0.true ∙ c.in_ok-number.ensures.number in
    block_read image c.args.self.now.inode c.fill.new.self c.args.k 0 hole (λ i. ap (λ (l : List ℕ). get_or l i 0) (c.fill.ensures.after (λ y e. e)) ∙ get_or-zeros _ i)

pub returns-clause-bytes : goal.returns-clause-bytes
returns-clause-bytes g c =
    let image = (g.S.Sectors.state c.args.s.now).sectors in
    let s = c.in_ok-number.number in
    block_read image c.args.self.now.inode c.get.new.to c.args.k s c.in_ok-number.ensures.number
    (λ i. ap (λ (l : List ℕ). get_or l i 0) (c.in_ok-get.ensures.content ∙ c.in_ok-number.ensures.same.sectors s) ∙ sym (byte_in_is image s i (image s) refl c.if-number-eq0.false))
