use Rattle.std.proofs.Common.{◌≡◌, ◌∙◌, ap, ◌+◌, ℕ, false, [], ◌∷◌, length, arith, refl, sym, subst, length-append}
use Rattle.redo_journal.specs.Batch.{has_entry, put_entry, with_batch}
use Rattle.redo_journal.proofs.Absorbing.{HasTaken, added_all, map_all, none_taken, room_left, taken_more}
use Rattle.redo_journal.proofs.Entries.{entry_end, entry_turn, high_at}
use Rattle.redo_journal.proofs.batch.Batch.absorb.Goals as goal

pub put-requires-clause-room : goal.put-requires-clause-room
put-requires-clause-room c = λ none.
    let next = entry_turn c.args.other.now.entries c.contents.result.now c.loop-n.yielded c.loop-n.n-iterator c.next.new.self c.next.result c.into_iter-n-iterator.ensures.into_iter_gives c.zip-n-items.ensures.first c.iter.ensures.rest c.sectors.ensures.sectors c.zip-n-items.ensures.second.0 c.contents.ensures.contents c.loop-n.yielded_by c.next.ensures.steps (c.in-Some.n, c.in-Some.content) c.in-Some.is in
    let left = room_left c.args.self.now.entries c.loop-n.self.entries c.args.other.now.entries (length c.loop-n.yielded) c.args.self.now.most next.0 c.loop-n.invariant.0 c.requires.room (subst (λ (n : ℕ). has_entry c.loop-n.self.entries n ≡ false) next.1 none) in
    omega (arith, left, c.loop-n.invariant.1)

pub loop-n-preserved : goal.loop-n-preserved
loop-n-preserved c =
    let entries = c.args.other.now.entries in
    let next = entry_turn entries c.contents.result.now c.loop-n.yielded c.loop-n.n-iterator c.next.new.self c.next.result c.into_iter-n-iterator.ensures.into_iter_gives c.zip-n-items.ensures.first c.iter.ensures.rest c.sectors.ensures.sectors c.zip-n-items.ensures.second.0 c.contents.ensures.contents c.loop-n.yielded_by c.next.ensures.steps (c.in-Some.n, c.in-Some.content) c.in-Some.is in
    let taken = taken_more c.args.self.now.entries c.loop-n.self.entries c.put.new.self.entries entries (length c.loop-n.yielded) c.sectors.ensures.batch next.0 c.loop-n.invariant.0
    (c.put.ensures.put ∙ (λ j. put_entry c.loop-n.self.entries (next.1 j) (next.2 j))) in (
      subst (HasTaken c.args.self.now.entries c.put.new.self.entries entries) (sym (length-append c.loop-n.yielded ((c.in-Some.n, c.in-Some.content) ∷ []))) taken,
      c.put.ensures.most ∙ c.loop-n.invariant.1,
    )

pub loop-n-init : goal.loop-n-init
loop-n-init c = (none_taken c.args.self.now.entries c.args.other.now.entries, refl)

pub returns : goal.returns
returns c =
    let entries = c.args.other.now.entries in
    let taken = c.loop-n.invariant.0 in
    let all = entry_end entries c.contents.result.now c.loop-n.yielded c.loop-n.n-iterator c.next.new.self c.next.result c.into_iter-n-iterator.ensures.into_iter_gives c.zip-n-items.ensures.first c.iter.ensures.rest c.sectors.ensures.sectors c.zip-n-items.ensures.second.0 c.contents.ensures.contents c.loop-n.yielded_by c.next.ensures.steps c.in-None.is in
    record {
      most = c.loop-n.invariant.1;
      map = λ f n. taken.map f n ∙ map_all entries (length c.loop-n.yielded) all (with_batch c.args.self.now.entries f) n;
      len = taken.len ∙ ap (λ k. length c.args.self.now.entries + k) (added_all c.args.self.now.entries entries (length c.loop-n.yielded) all);
      on_disk = taken.on_disk;
    }

pub put-requires-clause-part : goal.put-requires-clause-part
put-requires-clause-part c =
    let entries = c.args.other.now.entries in
    let next = entry_turn entries c.contents.result.now c.loop-n.yielded c.loop-n.n-iterator c.next.new.self c.next.result c.into_iter-n-iterator.ensures.into_iter_gives c.zip-n-items.ensures.first c.iter.ensures.rest c.sectors.ensures.sectors c.zip-n-items.ensures.second.0 c.contents.ensures.contents c.loop-n.yielded_by c.next.ensures.steps (c.in-Some.n, c.in-Some.content) c.in-Some.is in
    omega (arith, next.1, high_at entries c.sectors.ensures.batch (length c.loop-n.yielded) next.0)
