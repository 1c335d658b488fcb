use Rattle.std.proofs.Common.{◌≡◌, ℕ, List, get_or, refl, sym, ap, ◌∙◌, inr}
use Rattle.std.proofs.lemmas.Fn.{gave_at}
use Rattle.fs_layout.specs.Bytes.{zeros}
use Rattle.fs_layout.specs.Images.{pointer}
use Rattle.fs_layout.proofs.Parts.{byte_in_is}
use Rattle.fs_layout.proofs.SplicedBytes.{get_or-zeros}
use Rattle.block_map.proofs.Reading.{block_read}
use Rattle.block_map.proofs.blocks.Blocks.read_with.Goals as goal

pub read_with-requires-clause-part : goal.read_with-requires-clause-part
read_with-requires-clause-part g c = inr (c.in_ok-number.ensures.inside c.if-number-eq0.false).0

pub read_with-requires-clause-on_disk : goal.read_with-requires-clause-on_disk
read_with-requires-clause-on_disk g c = (c.in_ok-number.ensures.inside c.if-number-eq0.false).1

pub returns-then-number-eq0-clause-made : goal.returns-then-number-eq0-clause-made
unfolding zeros
returns-then-number-eq0-clause-made g c =
    let image = (g.S.Sectors.state c.args.s.now).sectors in
    let hole : 0 ≡ pointer image c.args.self.now.inode c.args.k = sym c.if-number-eq0.true ∙ c.in_ok-number.ensures.number in
    record {
      block = zeros 512;
      bytes = block_read image c.args.self.now.inode (zeros 512) c.args.k 0 hole (get_or-zeros 512);
      made = gave_at g.F.FnOnce c.read.ensures refl;
    }

pub returns-clause-made : goal.returns-clause-made
returns-clause-made g c =
    let image = (g.S.Sectors.state c.args.s.now).sectors in
    let mid = (g.S.Sectors.state c.find.new.s).sectors in
    let s = c.in_ok-number.number in
    record {
      block = mid s;
      bytes = block_read image c.args.self.now.inode (mid s) c.args.k s c.in_ok-number.ensures.number
          (λ i. ap (λ (l : List ℕ). get_or l i 0) (c.in_ok-number.ensures.same.sectors s) ∙ sym (byte_in_is image s i (image s) refl c.if-number-eq0.false));
      made = c.in_ok-made.ensures.content;
    }
