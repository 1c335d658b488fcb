use Rattle.std.proofs.KnownBytes.{Appends-trans}
use Rattle.fs_info.proofs.printing.print_json.Goals as goal

pub returns : goal.returns
returns g c =
    let contents = g.O.Write.contents in
    let start = contents c.args.out.now in
    let two = Appends-trans start (contents c.print_size_members.new.out) (contents c.print_free_members.new.out) _ _ c.in_ok-print_size_members.ensures c.in_ok-print_free_members.ensures in
    let three = Appends-trans start (contents c.print_free_members.new.out) (contents c.print_limit_members.new.out) _ _ two c.in_ok-print_limit_members.ensures in
    let four = Appends-trans start (contents c.print_limit_members.new.out) (contents c.print_state_members.new.out) _ _ three c.in_ok-print_state_members.ensures in
    Appends-trans start (contents c.print_state_members.new.out) (contents c.writeln.new.self) _ _ four c.in_ok-writeln.ensures.bytes
