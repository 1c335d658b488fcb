use Rattle.std.proofs.Common.{◌≡◌, ◌∙◌, ap, arith, length, replicate, sym}
use Rattle.std.proofs.lemmas.List.{length-replicate}
use Rattle.sector_disk.specs.Disk.{Image}
use Rattle.sector_disk.proofs.Parted.{none_ended, none_loaded, part_first, zeros_first}
use Rattle.sector_disk.proofs.part_file.PartFile.over.Goals as goal

pub returns-clause-none : goal.returns-clause-none
returns-clause-none g c = none_loaded c.in-Ok.count c.in_ok-sectors.loaded c.in_ok-sectors.ensures.loaded

pub returns-clause-small : goal.returns-clause-small
returns-clause-small g c =
    let len = ap (λ (i : Image). length i) c.in_ok-sectors.ensures.sectors ∙ length-replicate c.in-Ok.count (replicate 512 0) in
    let most = c.in-Ok.ensures.count in
    omega (arith, len, most)

pub invariant_of-result : goal.invariant_of-result
invariant_of-result g c =
    let count = c.in-Ok.count in
    let held = g.F.DiskFile.held c.lock_and_count.new.file in
    let parts = c.in_ok-sectors in
    let first = parts.ensures in
    let len : length parts.sectors.shown ≡ count = ap (λ (i : Image). length i) first.sectors ∙ length-replicate count (replicate 512 0) in
    let most = c.in-Ok.ensures.count in
    record {
      few = omega (arith, len, most);
      len = ap length first.loaded ∙ length-replicate count 0 ∙ sym len;
      ends_len = ap length first.ends ∙ length-replicate count 0 ∙ sym len;
      room = first.buffer;
      follows = part_first count held parts.sectors.shown parts.loaded first.loaded len c.tell_whole.ensures c.in-Ok.ensures.first;
      unread = zeros_first count parts.sectors.shown parts.loaded first.sectors;
      ended = none_ended held count parts.ends first.ends;
    }
