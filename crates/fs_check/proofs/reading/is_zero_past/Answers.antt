use Rattle.std.proofs.Common.{List, ℕ, subst, sym}
use Rattle.sector_disk.specs.Disk.{EndsInZeros}
use Rattle.fs_check.proofs.reading.is_zero_past.Goals as goal

pub returns : goal.returns
returns g c = λ t. subst (λ (q : List ℕ). EndsInZeros c.args.first q) (sym c.place_of.ensures.content) (c.ends_in_zeros.ensures t)
