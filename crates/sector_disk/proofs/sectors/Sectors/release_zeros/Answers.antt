use Rattle.std.proofs.Common.{◌≡◌, ap, replicate, rules, slice_set, sym, ◌∙◌, List, ℕ, []}
use Rattle.std.proofs.lemmas.List.{set-get_or}
use Rattle.sector_disk.proofs.sectors.Sectors.release_zeros.Goals as goal

pub returns-then-eq : goal.returns-then-eq
returns-then-eq c =
    let shown = c.args.self.now.shown in
    let n = c.args.n in
    let zeros : c.get.result.now ≡ replicate 512 0 = search rules in
    c.clear.ensures.shown ∙ ap (λ (content : List ℕ). slice_set shown n content) (sym zeros ∙ c.get.ensures.content) ∙ set-get_or shown n []
