use Rattle.sector_disk.proofs.Placed.{has_place, put_kept, put_shown}
use Rattle.sector_disk.proofs.sectors.Sectors.replace.Goals as goal

pub invariant_of-self : goal.invariant_of-self
invariant_of-self c =
    put_kept c.args.content.now (has_place c.args.self.now c.args.n c.get-place.result c.self.invariant c.self.view_is c.requires.below c.requires.placed c.get-place.ensures) c.tell_whole.ensures

pub returns-clause-shown : goal.returns-clause-shown
returns-clause-shown c =
    put_shown c.args.content.now (has_place c.args.self.now c.args.n c.get-place.result c.self.invariant c.self.view_is c.requires.below c.requires.placed c.get-place.ensures)
