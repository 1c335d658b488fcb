use Rattle.std.proofs.Common.{rules}
use Rattle.std.proofs.lemmas.Cmp.{nat_cmp_total}
use Rattle.std.proofs.lemmas.List.Sorted.{answers_always}
use Rattle.std.specs.FinMap.{nat_cmp-IsAntisymmetric}
use Rattle.fuse_state.proofs.Searched.{searched}
use Rattle.fuse_state.proofs.table.place_of.Goals as goal

-- the closure gives an entry's key
pub returns : goal.returns
returns g c =
    let facts = c.binary_search_by_key.ensures in
    let by_key = facts.position (λ e. e.0) (answers_always _ _ _ (λ f a r h called. search rules)) in
    searched nat_cmp_total c.args.entries.now c.args.key nat_cmp-IsAntisymmetric c.requires _ facts.bound by_key
