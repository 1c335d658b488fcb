use Rattle.std.proofs.KnownBytes.{Appends-trans}
use Rattle.fs_program.proofs.disks.print_summary.Goals as goal

pub returns : goal.returns
returns g c =
    let contents = g.O.Write.contents in
    let kinds = c.in_ok-print_kinds.ensures in
    let room = c.in_ok-print_room.ensures in
    let begun = Appends-trans (contents c.args.out.now) (contents c.print_kinds.new.out) (contents c.print_room.new.out) _ _ kinds room in
    Appends-trans (contents c.args.out.now) (contents c.print_room.new.out) (contents c.writeln.new.self) _ _ begun
    (rw (← c.yes_or_no-pending.ensures) c.in_ok-writeln.ensures.bytes)
