use Rattle.std.proofs.Common.{◌≡◌, ◌<◌, ℕ, List, false, ◌∙◌, length, arith, ap, sym, subst}
use Rattle.std.specs.List.{zip}
use Rattle.std.specs.Vec.{vec_capacity}
use Rattle.indexmap.specs.IndexSet.{spare}
use Rattle.redo_journal.specs.Batch.{BatchView, HasPlaces, IsOnDisk, has_entry}
use Rattle.redo_journal.proofs.Puts.{length-put, on_disk_put, puts_put}
use Rattle.redo_journal.proofs.Places.{places_put, put_by_parts, room_by_parts, room_for_content, within_contents}
use Rattle.redo_journal.proofs.Marks.{marked_put, unmarked_absent}
use Rattle.redo_journal.proofs.batch.Batch.put.Goals as goal

-- the room that there is, in the words of the parts
room_before : (n : ℕ) (inside self : BatchView) → inside ≡ self → (has_entry self.entries n ≡ false → length self.entries < self.most) → has_entry self.entries n ≡ false → length self.entries < inside.most
room_before n inside self is room none = omega (arith, room none, ap (λ (v : BatchView). v.most) is)

pub index_for-at-requires : goal.index_for-at-requires
index_for-at-requires c =
    let parts = c.self.inside in
    record {
      room = room_by_parts _ parts.sectors.keys parts.contents.items _ _ c.args.n c.args.self.now.entries c.self.invariant.0 (ap (λ (v : BatchView). v.entries) c.self.view_is)
          (room_before c.args.n _ c.args.self.now c.self.view_is c.requires.room);
      unmarked = unmarked_absent parts.sectors.keys parts.marks c.args.n c.self.invariant.1;
    }

pub set_content-requires-clause-within : goal.set_content-requires-clause-within
set_content-requires-clause-within c =
    let parts = c.self.inside in
    let at = c.index_for-at in
    let lt = within_contents _ parts.sectors.keys parts.contents.items _ _ c.args.n c.args.self.now.entries c.self.invariant.0 (ap (λ (v : BatchView). v.entries) c.self.view_is)
    (room_before c.args.n _ c.args.self.now c.self.view_is c.requires.room) _ at.ensures.sectors at.result at.ensures.place in
    omega (arith, lt)

pub set_content-requires-clause-room : goal.set_content-requires-clause-room
set_content-requires-clause-room c =
    let parts = c.self.inside in
    let at = c.index_for-at in
    room_for_content _ parts.sectors.keys parts.contents.items _ _ c.args.n c.args.self.now.entries c.self.invariant.0 (ap (λ (v : BatchView). v.entries) c.self.view_is)
    (room_before c.args.n _ c.args.self.now c.self.view_is c.requires.room) _ at.ensures.sectors at.result at.ensures.place (omega (arith, at.ensures.within))

pub invariant_of-self : goal.invariant_of-self
invariant_of-self c =
    let parts = c.self.inside in
    let at = c.index_for-at in
    let places = places_put _ parts.sectors.keys parts.contents.items _ _ c.args.n c.args.self.now.entries c.self.invariant.0 (ap (λ (v : BatchView). v.entries) c.self.view_is)
    (room_before c.args.n _ c.args.self.now c.self.view_is c.requires.room) _ at.ensures.sectors at.result at.ensures.place c.args.from.now _ _ c.requires.part at.ensures.room c.set_content.ensures.reserved in
    let same = c.set_content.ensures.contents in
    (subst (λ (bytes : List (List ℕ)). HasPlaces c.self.inside.most at.new.sectors.keys bytes (spare at.new.sectors) (vec_capacity c.set_content.new.contents)) (sym same) places, marked_put parts.sectors.keys _ parts.marks c.args.n (omega arith) at.ensures.sectors c.self.invariant.1)

pub returns-clause-put : goal.returns-clause-put
returns-clause-put c =
    let parts = c.self.inside in
    let at = c.index_for-at in
    ap (λ (bytes : List (List ℕ)). zip at.new.sectors.keys bytes) c.set_content.ensures.contents
    ∙ put_by_parts _ parts.sectors.keys parts.contents.items _ _ c.args.n c.args.self.now.entries c.self.invariant.0 (ap (λ (v : BatchView). v.entries) c.self.view_is)
    (room_before c.args.n _ c.args.self.now c.self.view_is c.requires.room) _ at.ensures.sectors at.result at.ensures.place c.args.from.now

pub returns-clause-map : goal.returns-clause-map
returns-clause-map c = puts_put c.args.self.now.entries _ c.args.n c.args.from.now (returns-clause-put c)

pub returns-clause-len : goal.returns-clause-len
returns-clause-len c = ap length (returns-clause-put c) ∙ length-put c.args.self.now.entries c.args.n c.args.from.now

pub returns-clause-on_disk : goal.returns-clause-on_disk
returns-clause-on_disk c = λ header size high fits on_disk.
    subst (IsOnDisk header size) (sym (returns-clause-put c)) (on_disk_put header size c.args.self.now.entries c.args.n c.args.from.now high fits on_disk)
