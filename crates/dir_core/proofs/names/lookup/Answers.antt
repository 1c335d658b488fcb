use Rattle.std.proofs.Common.{◌≡◌, ◌∙◌, sym, ap, rules}
use Rattle.std.specs.Option.{option_map}
use Rattle.fs_layout.specs.Maps.{get, name_cmp}
use Rattle.dir_core.specs.declared.names.FoundSlot.{FoundSlot}
use Rattle.dir_core.proofs.Scans.{inode_within, slots_of_names}
use Rattle.dir_core.proofs.Found.{found_is_entry}
use Rattle.dir_core.proofs.names.lookup.Goals as goal

pub find_slot-requires-clause-within : goal.find_slot-requires-clause-within
find_slot-requires-clause-within g c = inode_within c.requires.sound c.requires.there

pub find_slot-requires-clause-directory : goal.find_slot-requires-clause-directory
find_slot-requires-clause-directory g c = let h = c.requires.directory.1 in (h.slots, slots_of_names h)

pub returns-clause-found : goal.returns-clause-found
returns-clause-found g c = λ names h.
    let is : c.map.result ≡ option_map (λ (f : FoundSlot). f.ino) c.in_ok-found.found = search rules in
    is
    ∙ found_is_entry h.slots c.args.name.now c.in_ok-found.found h.apart (c.in_ok-found.ensures.found h.slots (slots_of_names h))
    ∙ ap (λ m. get name_cmp m c.args.name.now) (sym h.are)
