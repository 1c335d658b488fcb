use Rattle.std.proofs.Common.{rules, ◌≡◌, IsTrue, ◌↔◌, replicate}
use Rattle.sector_disk.proofs.ZeroEnds.{end_of, ends}
use Rattle.fs_check.proofs.zeros.ends_in_zeros.Goals as goal

pub returns : goal.returns
returns c =
    let n = c.args.first in
    let content = c.args.content.now in
    let same : IsTrue c.eq.result ↔ (end_of n content ≡ end_of n (replicate 512 0)) = search rules in
    ends n content c.eq.result c.told-content same
