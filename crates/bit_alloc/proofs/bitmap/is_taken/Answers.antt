use Rattle.std.proofs.Common.{◌+◌, ◌/◌, ℕ, ap, ◌∙◌}
use Rattle.fs_layout.specs.Bytes.{SectorMap}
use Rattle.bit_alloc.specs.Bitmaps.{first_sector}
use Rattle.bit_alloc.proofs.Maps.{bit_in_byte}
use Rattle.bit_alloc.proofs.bitmap.is_taken.Goals as goal

pub returns-clause-taken : goal.returns-clause-taken
returns-clause-taken g c =
    let image : SectorMap = (g.S.Sectors.state c.args.s.now).sectors in
    c.has_bit.ensures
    ∙ bit_in_byte image (first_sector c.args.geometry c.args.map) c.args.n c.get.new.to (c.in_ok-get.ensures.content ∙ ap (λ (m : ℕ). image (m + c.args.n / 4096)) c.first.ensures)
