use Rattle.std.proofs.Common.{sym}
use Rattle.call_parts.proofs.NameAsked.{room_few, room_crowded, room_met}
use Rattle.call_parts.proofs.Refuses.{passed, refused_by}
use Rattle.call_parts.proofs.asking.ask_for_name.Goals as goal

pub returns-in_err-ask_for_sectors-clause-each : goal.returns-in_err-ask_for_sectors-clause-each
returns-in_err-ask_for_sectors-clause-each g c = λ t dir_ino h d is.
    passed (g.S.Sectors.state c.args.s.now).disk (g.S.Sectors.state c.ask_for_sectors.new.s).disk _ _ _ c.from_residual.ensures
    (room_few h dir_ino d) tt c.in_err-ask_for_sectors.ensures.each

pub returns-in_err-check_names-clause-each : goal.returns-in_err-check_names-clause-each
returns-in_err-check_names-clause-each g c = λ t dir_ino h d is.
    refused_by (g.S.Sectors.state c.args.s.now).disk (g.S.Sectors.state c.ask_for_sectors.new.s).disk _ _ _ c.from_residual-in_err-check_names.ensures
    (room_crowded h dir_ino d c.in_ok-ask_for_sectors.ensures.each is) (sym c.in_err-check_names.ensures)

pub returns-clause-each : goal.returns-clause-each
returns-clause-each g c = λ t dir_ino h d is. room_met h dir_ino d c.in_ok-ask_for_sectors.ensures.each is (sym c.in_ok-check_names.ensures)
