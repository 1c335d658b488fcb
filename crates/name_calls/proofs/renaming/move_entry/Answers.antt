use Rattle.std.proofs.Common.{arith}
use Rattle.name_calls.specs.Moving.{across}
use Rattle.call_parts.proofs.Alterings.{altered, not_altered, not_altered_then}
use Rattle.name_calls.proofs.Movings.{is_nothing, is_something, may_remove_first, may_lead}
use Rattle.name_calls.proofs.renaming.move_entry.Goals.{else-first-second-via-then-first-second+else-is_none, else-first-second-via-else-first-second}
use Rattle.name_calls.proofs.renaming.move_entry.Goals as goal

pub rename_here-requires : goal.rename_here-requires
rename_here-requires g c = record {
  may = c.requires.may;
  within = c.if-first-second.true;
  nothing = is_nothing c.args.second.now.ino c.is_none.result c.is_none.ensures c.if-is_none.true;
}

pub returns-in_err-rename_here : goal.returns-in_err-rename_here
returns-in_err-rename_here g c = not_altered _ _ c.from_residual.ensures c.in_err-rename_here.ensures.store c.in_err-rename_here.ensures.fault

pub returns-then-is_none : goal.returns-then-is_none
returns-then-is_none g c =
    let done = c.in_ok-rename_here.ensures in
    record { store = done.store; sound = done.sound; taken = (let room = done.taken in omega (arith, room)); made = done.made; fault = tt }

pub remove_found-requires : goal.remove_found-requires
remove_found-requires g c = let x = c.requires.may in may_remove_first c.args.first.now c.args.second.now x.0 x.1

pub returns-in_err-remove_found : goal.returns-in_err-remove_found
returns-in_err-remove_found g c =
    not_altered _ _ c.from_residual-in_err-remove_found.ensures c.in_err-remove_found.ensures.store c.in_err-remove_found.ensures.fault

pub give_name-requires : goal.give_name-requires
give_name-requires g c =
    let x = c.requires.may in
    let old = g.S.Sectors.state c.args.s.now in
    let removes = c.in_ok-remove_found.ensures.made in
    let spare = x.0.spare in
    let room = removes.touches.puts.room in
    record {
      ready = record { sound = removes.sound; spare = omega (arith, spare, room) };
      may = may_lead old x.0.is_state x.1 removes.names removes.touches.free
          (λ none. elim c.else-first-second.branch [
            | else-first-second-via-then-first-second+else-is_none w ↦
                absurd (is_something c.args.second.now.ino w.is_none.result w.is_none.ensures w.if-is_none.false none)
            | else-first-second-via-else-first-second w ↦ w.if-first-second.false
          ]);
    }

pub returns-in_err-give_name : goal.returns-in_err-give_name
returns-in_err-give_name g c =
    not_altered_then _ _ c.from_residual-in_err-give_name.ensures c.in_ok-remove_found.ensures.store c.in_err-give_name.ensures

pub returns : goal.returns
returns g c =
    let removes = c.in_ok-remove_found.ensures in
    let gives = c.in_ok-give_name.ensures in
    altered tt 5 4 (omega arith) removes.store removes.made.touches.puts.room gives.store gives.sound gives.taken
    (across (g.S.Sectors.state c.remove_found.new.s).sectors removes.made.names gives.made)
