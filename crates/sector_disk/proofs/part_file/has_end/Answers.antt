use Rattle.std.proofs.Common.{rules, ◌≡◌, IsTrue, ◌↔◌, replicate}
use Rattle.sector_disk.proofs.ZeroEnds.{end_of, ends}
use Rattle.sector_disk.proofs.part_file.has_end.Goals as goal

pub returns-clause-zeros : goal.returns-clause-zeros
returns-clause-zeros c =
    let n = c.args.first in
    let content = c.args.content.now in
    let same : IsTrue c.eq.result ↔ (end_of n content ≡ end_of n (replicate 512 0)) = search rules in
    λ t. (ends n content c.eq.result c.told-content same).0 t
