use Rattle.std.proofs.Common.{◌≡◌, ap, replicate, rules, slice_set, sym, ◌∙◌, List, ℕ}
use Rattle.sector_disk.specs.Disk.{Image}
use Rattle.sector_disk.proofs.Placed.{shown_is, place_read, zeros_stay}
use Rattle.sector_disk.proofs.sectors.Sectors.set.Goals as goal

pub returns-then-is_zeros-clause-ok : goal.returns-then-is_zeros-clause-ok
returns-then-is_zeros-clause-ok c =
    let i = c.self.inside in
    let n = c.args.n in
    let shown = shown_is c.self.view_is in
    let zeros : c.args.content.now ≡ replicate 512 0 = search rules in
    let read = place_read i.places i.contents.items c.args.self.now.shown n c.get.result shown c.requires c.get.ensures in
    sym shown ∙ zeros_stay i.places i.contents.items i.owners.items n c.self.invariant read.0 (sym read.1 ∙ c.if-get-ne0.false)
    ∙ ap (λ (seen : Image). slice_set seen n (replicate 512 0)) shown ∙ ap (λ (content : List ℕ). slice_set c.args.self.now.shown n content) (sym zeros)
