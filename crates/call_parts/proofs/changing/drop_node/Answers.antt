use Rattle.std.proofs.Common.{refl}
use Rattle.call_parts.proofs.changing.drop_node.Goals as goal

pub free_all-requires : goal.free_all-requires
free_all-requires g c = record { sound = c.requires.ready.sound; number = c.requires.number; used = c.requires.used; spare = c.requires.ready.spare }

pub returns-in-Ok : goal.returns-in-Ok
returns-in-Ok g c =
    let e = c.in-Ok.ensures in
    record { store = e.store; made = record { sound = e.sound; touches = e.touches; free = e.free; clear = e.unused }; fault = tt }

pub returns-in-Err : goal.returns-in-Err
returns-in-Err g c = let e = c.in-Err.ensures in record { store = e.store; made = tt; fault = (refl, e.cause.fault) }
