use Rattle.bit_alloc.proofs.Transactions.{unchanged_nothing}
use Rattle.call_parts.proofs.StartTypes.{type_past}
use Rattle.call_parts.proofs.reaching.type_at.Goals as goal

pub returns-then-ino-geometry : goal.returns-then-ino-geometry
returns-then-ino-geometry g c = record { found = λ t h. type_past h c.args.ino c.if-ino-geometry.true; fault = tt; same = unchanged_nothing }
