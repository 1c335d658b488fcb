use Rattle.name_calls.proofs.dropping.remove_found.Goals as goal

pub remove_name-requires : goal.remove_name-requires
remove_name-requires g c = let x = c.requires in record { ready = x.ready; below = x.below; named = rw c.bytes-name.ensures.all x.named }

pub returns : goal.returns
returns g c = rw c.bytes-name.ensures.all at c.remove_name.ensures
