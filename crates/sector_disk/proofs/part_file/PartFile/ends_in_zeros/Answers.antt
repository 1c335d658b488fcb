use Rattle.std.proofs.Common.{◌≡◌, ◌≢◌, ◌<◌, ◌≤◌, get_or, length, rules}
use Rattle.sector_disk.proofs.Parted.{end_known}
use Rattle.sector_disk.proofs.part_file.PartFile.ends_in_zeros.Goals as goal

pub returns : goal.returns
returns g c = λ t.
    let part = c.args.self.now in
    let n = c.args.n in
    let below : n < length part.sectors.shown = search rules in
    let none : get_or part.loaded n 0 ≡ 0 = search rules in
    let some : get_or part.ends n 0 ≢ 0 = search rules in
    let le : get_or part.ends n 0 ≤ c.args.first = search rules in
    end_known (g.F.DiskFile.held part.file) part.sectors.shown part.loaded part.ends n c.args.first below none some le part.follows part.unread part.ended
