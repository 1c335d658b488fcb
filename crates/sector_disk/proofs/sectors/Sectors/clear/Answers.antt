use Rattle.std.proofs.Common.{ap, replicate, slice_set, sym, ◌∙◌}
use Rattle.sector_disk.specs.Disk.{Image}
use Rattle.sector_disk.proofs.Placed.{shown_is, place_read, zeros_stay, keeps_in}
use Rattle.sector_disk.proofs.sectors.Sectors.clear.Goals as goal

pub returns-then-place-eq0-clause-shown : goal.returns-then-place-eq0-clause-shown
returns-then-place-eq0-clause-shown c =
    let i = c.self.inside in
    let read =
    place_read i.places i.contents.items c.args.self.now.shown c.args.n c.get-place.result (shown_is c.self.view_is) c.requires c.get-place.ensures in
    sym (shown_is c.self.view_is) ∙ zeros_stay i.places i.contents.items i.owners.items c.args.n c.self.invariant read.0 (sym read.1 ∙ c.if-place-eq0.true)
    ∙ ap (λ (seen : Image). slice_set seen c.args.n (replicate 512 0)) (shown_is c.self.view_is)

pub take_out-requires-clause-kept : goal.take_out-requires-clause-kept
take_out-requires-clause-kept c = c.self.invariant

pub take_out-requires-clause-below : goal.take_out-requires-clause-below
take_out-requires-clause-below c =
    let i = c.self.inside in
    (place_read i.places i.contents.items c.args.self.now.shown c.args.n c.get-place.result (shown_is c.self.view_is) c.requires c.get-place.ensures).0

pub invariant_of-self : goal.invariant_of-self
invariant_of-self c = c.take_out.ensures.kept

pub returns-clause-shown : goal.returns-clause-shown
returns-clause-shown c = c.take_out.ensures.shown ∙ ap (λ (seen : Image). slice_set seen c.args.n (replicate 512 0)) (shown_is c.self.view_is)

pub returns-clause-keeps : goal.returns-clause-keeps
returns-clause-keeps c = keeps_in _ c.self.view_is c.args.n c.take_out.ensures.keeps
