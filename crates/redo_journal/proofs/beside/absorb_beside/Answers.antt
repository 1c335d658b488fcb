use Rattle.std.proofs.Common.{◌≡◌, ◌∙◌, ℕ, false, [], ◌∷◌, length, arith, refl, sym, subst, rules, length-append}
use Rattle.redo_journal.specs.Batch.{has_entry, put_entry, with_batch}
use Rattle.redo_journal.specs.Meaning.{IsSpare, data_of}
use Rattle.redo_journal.specs.States.{IsNoTarget}
use Rattle.redo_journal.proofs.Absorbing.{added_all, map_all}
use Rattle.redo_journal.proofs.Entries.{entry_end, entry_turn, high_at}
use Rattle.redo_journal.proofs.Sharing.{HaveShared, none_shared, room_shared, shared_logged, shared_placed}
use Rattle.redo_journal.proofs.beside.absorb_beside.Goals as goal

pub put-requires-else-is_none-clause-room : goal.put-requires-else-is_none-clause-room
put-requires-else-is_none-clause-room g c = λ none.
    let entries = c.args.batch.now.entries in
    let i = length c.loop-n.yielded in
    let next = entry_turn entries c.contents.result.now c.loop-n.yielded c.loop-n.n-iterator c.next.new.self c.next.result c.into_iter-n-iterator.ensures.into_iter_gives c.zip-n-items.ensures.first c.iter.ensures.rest c.sectors.ensures.sectors c.zip-n-items.ensures.second.0 c.contents.ensures.contents c.loop-n.yielded_by c.next.ensures.steps (c.in-Some.n, c.in-Some.content) c.in-Some.is in
    let left = room_shared (IsSpare (data_of (g.D.Disk.state c.args.journal.now))) (IsNoTarget (g.D.Disk.state c.args.journal.now)) c.args.placed.now.entries c.args.logged.now.entries entries c.loop-n.placed.entries c.loop-n.logged.entries i c.args.logged.now.most next.0
    c.loop-n.invariant.0 c.requires.room (subst (λ (n : ℕ). has_entry c.loop-n.logged.entries n ≡ false) next.1 none) in
    omega (arith, left, c.loop-n.invariant.2)

pub loop-n-preserved-then-is_placed : goal.loop-n-preserved-then-is_placed
loop-n-preserved-then-is_placed g c =
    let entries = c.args.batch.now.entries in
    let i = length c.loop-n.yielded in
    let next = entry_turn entries c.contents.result.now c.loop-n.yielded c.loop-n.n-iterator c.next.new.self c.next.result c.into_iter-n-iterator.ensures.into_iter_gives c.zip-n-items.ensures.first c.iter.ensures.rest c.sectors.ensures.sectors c.zip-n-items.ensures.second.0 c.contents.ensures.contents c.loop-n.yielded_by c.next.ensures.steps (c.in-Some.n, c.in-Some.content) c.in-Some.is in
    let P = IsSpare (data_of (g.D.Disk.state c.args.journal.now)) in
    let Q = IsNoTarget (g.D.Disk.state c.args.journal.now) in
    let spare : P c.in-Some.n.now = c.is_placed.ensures.spare c.if-is_placed.true in
    let beside : Q c.in-Some.n.now = c.is_placed.ensures.beside c.if-is_placed.true in
    let unlogged : has_entry c.loop-n.logged.entries c.in-Some.n.now ≡ false = search rules in
    let put = c.put.ensures.put ∙ (λ j. put_entry c.loop-n.placed.entries (next.1 j) (next.2 j)) in (
      subst (HaveShared P Q c.args.placed.now.entries c.args.logged.now.entries entries c.put.new.self.entries c.loop-n.logged.entries) (sym (length-append c.loop-n.yielded ((c.in-Some.n, c.in-Some.content) ∷ [])))
          (shared_placed P Q c.args.placed.now.entries c.args.logged.now.entries entries c.loop-n.placed.entries c.loop-n.logged.entries c.put.new.self.entries i c.sectors.ensures.batch next.0 c.loop-n.invariant.0 put
          (subst (λ (n : ℕ). has_entry c.loop-n.logged.entries n ≡ false) next.1 unlogged) (subst P next.1 spare) (subst Q next.1 beside)),
      c.put.ensures.most ∙ c.loop-n.invariant.1,
      c.loop-n.invariant.2,
    )

pub loop-n-preserved : goal.loop-n-preserved
loop-n-preserved g c =
    let entries = c.args.batch.now.entries in
    let i = length c.loop-n.yielded in
    let next = entry_turn entries c.contents.result.now c.loop-n.yielded c.loop-n.n-iterator c.next.new.self c.next.result c.into_iter-n-iterator.ensures.into_iter_gives c.zip-n-items.ensures.first c.iter.ensures.rest c.sectors.ensures.sectors c.zip-n-items.ensures.second.0 c.contents.ensures.contents c.loop-n.yielded_by c.next.ensures.steps (c.in-Some.n, c.in-Some.content) c.in-Some.is in
    let P = IsSpare (data_of (g.D.Disk.state c.args.journal.now)) in
    let Q = IsNoTarget (g.D.Disk.state c.args.journal.now) in
    let put = c.put-else-is_none.ensures.put ∙ (λ j. put_entry c.loop-n.logged.entries (next.1 j) (next.2 j)) in (
      subst (HaveShared P Q c.args.placed.now.entries c.args.logged.now.entries entries c.loop-n.placed.entries c.put-else-is_none.new.self.entries) (sym (length-append c.loop-n.yielded ((c.in-Some.n, c.in-Some.content) ∷ [])))
          (shared_logged P Q c.args.placed.now.entries c.args.logged.now.entries entries c.loop-n.placed.entries c.loop-n.logged.entries c.put-else-is_none.new.self.entries i c.sectors.ensures.batch next.0 c.loop-n.invariant.0 put),
      c.loop-n.invariant.1,
      c.put-else-is_none.ensures.most ∙ c.loop-n.invariant.2,
    )

pub loop-n-init : goal.loop-n-init
loop-n-init g c =
    let none = none_shared (IsSpare (data_of (g.D.Disk.state c.args.journal.now))) (IsNoTarget (g.D.Disk.state c.args.journal.now)) c.args.placed.now.entries c.args.logged.now.entries c.args.batch.now.entries c.requires.spare c.requires.beside in
    (none, refl, refl)

pub returns : goal.returns
returns g c =
    let entries = c.args.batch.now.entries in
    let i = length c.loop-n.yielded in
    let shared = c.loop-n.invariant.0 in
    let all = entry_end entries c.contents.result.now c.loop-n.yielded c.loop-n.n-iterator c.next.new.self c.next.result c.into_iter-n-iterator.ensures.into_iter_gives c.zip-n-items.ensures.first c.iter.ensures.rest c.sectors.ensures.sectors c.zip-n-items.ensures.second.0 c.contents.ensures.contents c.loop-n.yielded_by c.next.ensures.steps c.in-None.is in
    record {
      map = λ f n. shared.map f n ∙ map_all entries i all (with_batch c.args.logged.now.entries (with_batch c.args.placed.now.entries f)) n;
      spare = shared.first;
      beside = shared.second;
      few = omega (arith, shared.few, added_all c.args.logged.now.entries entries i all);
      on_disk = shared.on_disk;
      most = (c.loop-n.invariant.1, c.loop-n.invariant.2);
    }

pub is_placed-requires : goal.is_placed-requires
is_placed-requires g c = record { layout = c.requires.layout; fits = c.requires.fits; stands = c.requires.stands; spare = c.loop-n.invariant.0.first; beside = c.loop-n.invariant.0.second }

pub put-requires : goal.put-requires
put-requires g c =
    let entries = c.args.batch.now.entries in
    let next = entry_turn entries c.contents.result.now c.loop-n.yielded c.loop-n.n-iterator c.next.new.self c.next.result c.into_iter-n-iterator.ensures.into_iter_gives c.zip-n-items.ensures.first c.iter.ensures.rest c.sectors.ensures.sectors c.zip-n-items.ensures.second.0 c.contents.ensures.contents c.loop-n.yielded_by c.next.ensures.steps (c.in-Some.n, c.in-Some.content) c.in-Some.is in
    let shared = c.loop-n.invariant.0 in
    record {
      part = omega (arith, next.1, high_at entries c.sectors.ensures.batch (length c.loop-n.yielded) next.0);
      room = λ none. omega (arith, shared.places, next.0, c.requires.places, c.loop-n.invariant.1);
    }

pub put-requires-else-is_none-clause-part : goal.put-requires-else-is_none-clause-part
put-requires-else-is_none-clause-part g c =
    let entries = c.args.batch.now.entries in
    let next = entry_turn entries c.contents.result.now c.loop-n.yielded c.loop-n.n-iterator c.next.new.self c.next.result c.into_iter-n-iterator.ensures.into_iter_gives c.zip-n-items.ensures.first c.iter.ensures.rest c.sectors.ensures.sectors c.zip-n-items.ensures.second.0 c.contents.ensures.contents c.loop-n.yielded_by c.next.ensures.steps (c.in-Some.n, c.in-Some.content) c.in-Some.is in
    omega (arith, next.1, high_at entries c.sectors.ensures.batch (length c.loop-n.yielded) next.0)
