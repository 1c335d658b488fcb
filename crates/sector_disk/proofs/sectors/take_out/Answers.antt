use Rattle.std.proofs.Common.{arith}
use Rattle.sector_disk.proofs.Placed.{removal, moved_out, last_out}
use Rattle.sector_disk.proofs.sectors.take_out.Goals as goal

pub returns-then-at-len : goal.returns-then-at-len
returns-then-at-len c =
    let contents = c.swap_remove.new.self in
    let owners = c.swap_remove-2.new.self in
    let below = c.if-at-len.true in
    moved_out c.index-moved.result.now c.replace.new.self c.replace-then-at-len.new.self
    (removal c.args.n c.args.place contents.items owners.items c.args.contents.now.len contents.len c.args.owners.now.len owners.len c.requires.kept c.requires.below
    c.requires.stands c.requires.some c.args.contents.now.ok.0 contents.ok.0 c.swap_remove.ensures.len c.swap_remove.ensures.by_index
    c.args.owners.now.ok.0 owners.ok.0 c.swap_remove-2.ensures.len c.swap_remove-2.ensures.by_index)
    (omega (arith, below, c.len.ensures, owners.ok.0)) c.index-moved.ensures c.replace.ensures c.replace-then-at-len.ensures

pub returns-else-at-len : goal.returns-else-at-len
returns-else-at-len c =
    let contents = c.swap_remove.new.self in
    let owners = c.swap_remove-2.new.self in
    let not_below = c.if-at-len.false in
    last_out c.replace.new.self
    (removal c.args.n c.args.place contents.items owners.items c.args.contents.now.len contents.len c.args.owners.now.len owners.len c.requires.kept c.requires.below
    c.requires.stands c.requires.some c.args.contents.now.ok.0 contents.ok.0 c.swap_remove.ensures.len c.swap_remove.ensures.by_index
    c.args.owners.now.ok.0 owners.ok.0 c.swap_remove-2.ensures.len c.swap_remove-2.ensures.by_index)
    (omega (arith, not_below, c.len.ensures, owners.ok.0)) c.replace.ensures
