use Rattle.std.proofs.Common.{◌<◌, length, rules, subst, sym}
use Rattle.std.specs.Prelude.{Contains}
use Rattle.sector_disk.specs.Disk.{Image}
use Rattle.sector_disk.specs.declared.history.Step.TheVariants.{Replaced}
use Rattle.sector_disk.proofs.history.release_places.Goals as goal

pub release-requires : goal.release-requires
release-requires c =
    let n = c.in-Replaced.n in
    let has : Contains c.args.pending.now (Replaced n c.in-Replaced.field-1) = search rules in
    subst (λ (shown : Image). n < length shown) (sym c.loop-step.invariant) (c.requires.below n c.in-Replaced.field-1 has)
