use Rattle.std.proofs.Common.{◌≡◌, List, ℕ, subst, sym}
use Rattle.std.specs.Prelude.{IfSome}
use Rattle.fs_check.proofs.reading.find_recovered.Goals as goal

pub returns : goal.returns
returns g c = subst (λ (q : List ℕ). IfSome c.find.result (λ content. content.now ≡ q)) (sym c.place_of.ensures.content) c.find.ensures
