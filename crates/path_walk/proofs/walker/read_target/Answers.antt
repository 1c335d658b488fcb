use Rattle.std.proofs.Common.{◌≤◌, ℕ, List, length, Ok, sym, ap, ◌∙◌, arith}
use Rattle.dir_core.proofs.Scans.{inode_within}
use Rattle.std.proofs.lemmas.List.{length-take-le}
use Rattle.path_walk.proofs.Reaching.{read_whole, link_short}
use Rattle.path_walk.proofs.walker.read_target.Goals as goal

pub read_at-requires : goal.read_at-requires
read_at-requires g c = record { within = inode_within c.requires.sound c.requires.there }

pub slice_bounds-bytes-end : goal.slice_bounds-bytes-end
slice_bounds-bytes-end g c =
    let few = c.in-Ok.ensures.few in
    let same = c.read_at.auto.to in
    omega (arith, few, same)

pub slice_bounds-from_slice-end : goal.slice_bounds-from_slice-end
slice_bounds-from_slice-end g c =
    let few = c.in-Ok.ensures.few in
    let same = c.read_at.auto.to in
    let within : c.in-Ok.count ≤ length c.read_at.new.to = omega (arith, few, same) in
    let taken = length-take-le c.in-Ok.count c.read_at.new.to within in
    omega (arith, taken, within)

pub returns-in-Ok-from_slice-clause-short : goal.returns-in-Ok-from_slice-clause-short
returns-in-Ok-from_slice-clause-short g c =
    let few = c.in-Ok.ensures.few in
    let same = c.read_at.auto.to in
    let within : c.in-Ok.count ≤ length c.read_at.new.to = omega (arith, few, same) in
    let taken = length-take-le c.in-Ok.count c.read_at.new.to within in
    let made = ap length c.in-Ok-from_slice.ensures in
    omega (arith, taken, made, few)

pub returns-in-Ok-from_slice-clause-each : goal.returns-in-Ok-from_slice-clause-each
returns-in-Ok-from_slice-clause-each g c = λ target holds.
    let short = link_short c.requires.sound c.requires.there c.requires.link in
    let size = holds.size in
    let read = c.in-Ok.ensures.bytes target holds in
    let whole = read_whole target _ c.read_at.new.to c.in-Ok.count (omega (arith, short, size)) read in
    ap (λ (l : List ℕ). Ok l) (sym whole ∙ sym c.in-Ok-from_slice.ensures)
