use Rattle.std.proofs.Common.{refl}
use Rattle.fs_check.proofs.BitTables.{zero_bytes}
use Rattle.fs_check.proofs.owning.Pointers.new.Goals as goal

pub returns : goal.returns
returns c = λ m level some. absurd (some (zero_bytes 3 _ refl level))
