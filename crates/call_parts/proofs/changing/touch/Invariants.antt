use Rattle.call_parts.proofs.TouchedTrees.{HasTouched}
use Rattle.call_parts.proofs.changing.touch.Given as goal

abbrev pub invariant-loop-ino : goal.invariant-loop-ino
invariant-loop-ino g l = HasTouched l.geometry l.now l.ino-index l.touches (g.S.Sectors.state l.initial.s) (g.S.Sectors.state l.s)
