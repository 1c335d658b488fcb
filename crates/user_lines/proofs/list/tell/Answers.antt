use Rattle.std.proofs.Common.{sym, ◌∙◌, rules}
use Rattle.user_lines.proofs.Adding.{tells_line}
use Rattle.user_lines.proofs.list.tell.Goals as goal

pub returns : goal.returns
returns g c =
    tells_line g.W.Write.contents c.args.file.now c.reach_second.new.file c.add_line.new.file c.args.second.now c.reach_second.new.second
    c.add_line.new.second c.args.number c.args.user _ c.in_ok-reach_second.ensures.ended c.in_ok-reach_second.ensures.reached
    (sym c.has_room_for.ensures ∙ c.if-not-has_room_for.false) c.in_ok-add_line.ensures.told c.in_ok-add_line.ensures.counted
