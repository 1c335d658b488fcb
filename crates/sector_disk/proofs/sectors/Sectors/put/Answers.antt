use Rattle.std.proofs.Common.{◌≡◌, ap, replicate, rules, slice_set, sym, ◌∙◌, List, ℕ}
use Rattle.sector_disk.proofs.sectors.Sectors.put.Goals as goal

pub returns-then-eq-clause-shown : goal.returns-then-eq-clause-shown
returns-then-eq-clause-shown c =
    let zeros : c.args.content.now ≡ replicate 512 0 = search rules in
    c.clear.ensures.shown ∙ ap (λ (content : List ℕ). slice_set c.args.self.now.shown c.args.n content) (sym zeros)
