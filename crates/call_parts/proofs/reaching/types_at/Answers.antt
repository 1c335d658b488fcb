use Rattle.block_map.proofs.Runs.{unchanged_joined}
use Rattle.path_walk.proofs.Kept.{kept, sound_kept}
use Rattle.path_walk.specs.HeldTrees.{HoldsTree}
use Rattle.call_parts.proofs.reaching.types_at.Goals as goal

pub type_at-requires-2 : goal.type_at-requires-2
type_at-requires-2 g c = sound_kept c.in_ok-one.ensures.same c.requires

pub returns : goal.returns
returns g c =
    let one = c.in_ok-one.ensures in
    record {
      found = λ t h. (one.found t h, c.in_ok-other.ensures.found t (kept (λ m. HoldsTree c.args.geometry m t) one.same h));
      fault = tt;
      same = unchanged_joined one.same c.in_ok-other.ensures.same;
    }
