use Rattle.std.proofs.Common.{◌≡◌, ℕ, List, [], ◌∷◌, ◌++◌, ap, ◌∙◌, subst, sym, replicate}
use Rattle.sector_disk.specs.Disk.{Image}
use Rattle.sector_disk.specs.Places.{sectors_at, IsKept}
use Rattle.sector_disk.proofs.Placed.{zeros_kept, zeros_shown}
use Rattle.sector_disk.proofs.sectors.Sectors.zeros.Goals as goal

pub invariant_of-result : goal.invariant_of-result
invariant_of-result c =
    let n = c.args.count in
    let contents : c.push.new.self.items ≡ c.new-contents.result.items ++ replicate 512 0 ∷ [] = c.in_ok-push.ensures.items in
    let one : c.push.new.self.items ≡ replicate 512 0 ∷ [] = contents ∙ ap (λ (l : Image). l ++ replicate 512 0 ∷ []) c.new-contents.ensures.items in
    let owners : c.push-2.new.self.items ≡ 0 ∷ [] = c.in_ok-push-2.ensures.items ∙ ap (λ (l : List ℕ). l ++ 0 ∷ []) c.new-owners.ensures.items in
    subst (λ (l : List ℕ). IsKept l c.push.new.self.items c.push-2.new.self.items) (sym c.in_ok-places.ensures)
    (subst (λ (l : Image). IsKept (replicate {A = ℕ} n 0) l c.push-2.new.self.items) (sym one)
    (subst (λ (l : List ℕ). IsKept (replicate {A = ℕ} n 0) (replicate 512 0 ∷ []) l) (sym owners) (zeros_kept n c.tell_whole.ensures)))

pub returns : goal.returns
returns c =
    let n = c.args.count in
    let contents : c.push.new.self.items ≡ c.new-contents.result.items ++ replicate 512 0 ∷ [] = c.in_ok-push.ensures.items in
    let one : c.push.new.self.items ≡ replicate 512 0 ∷ [] = contents ∙ ap (λ (l : Image). l ++ replicate 512 0 ∷ []) c.new-contents.ensures.items in
    ap (λ (l : List ℕ). sectors_at c.push.new.self.items l) c.in_ok-places.ensures ∙ ap (λ (l : Image). sectors_at l (replicate {A = ℕ} n 0)) one
    ∙ zeros_shown n
