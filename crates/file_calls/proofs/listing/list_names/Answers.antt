use Rattle.std.proofs.Common.{codes, map, ap, ◌∙◌}
use Rattle.fs_layout.specs.Directories.{HasNames}
use Rattle.dir_core.specs.Slots.{name_entry}
use Rattle.call_parts.proofs.Readings.{lacking}
use Rattle.file_calls.proofs.Listed.{Entries, listed_as}
use Rattle.file_calls.proofs.listing.list_names.Goals as goal

pub returns : goal.returns
returns g c = record {
  found = listed_as c.list_slots.result (codes ".", c.args.ino) (codes "..", c.args.inode.now.parent) (map name_entry c.deref.result.now)
      (λ (names : Entries). HasNames c.args.geometry.version (g.S.Sectors.state c.args.s.now).sectors c.args.inode.now names) c.list_slots.ensures.shown
      (λ names has. ap (map name_entry) c.deref.ensures.value ∙ c.in-Ok.ensures.found names has);
  interrupts = lacking (g.S.Sectors.state c.args.s.now).disk (g.S.Sectors.state c.list.new.s).disk c.list_slots.result c.list_slots.ensures.fault;
  same = c.in-Ok.ensures.same;
}
