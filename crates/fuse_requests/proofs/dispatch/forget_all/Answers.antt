use Rattle.std.specs.Prelude.{◌≡◌, ◌<◌, ◌+◌, ◌∷◌, ℕ, suc, List, [], drop, length, map, Some, slice_get}
use Rattle.std.proofs.Common.{refl, sym, ap, arith, ◌∙◌}
use Rattle.std.proofs.Math.Seq.{drop-cons}
use Rattle.std.proofs.lemmas.List.{drop_all}
use Rattle.std.proofs.lemmas.Option.{slice_get_within, get_or_from_slice_get, slice_get-get_or}
use Rattle.fuse_state.specs.Rooms.{Kept}
use Rattle.fuse_state.specs.Servers.{Server, without_nodes}
use Rattle.fuse_requests.proofs.dispatch.forget_all.Goals as goal
use Rattle.fuse_requests.proofs.dispatch.forget_all.Goals.{in-Some, in_default}

-- from one of them on
drop-next : (batch : List (ℕ × ℕ)) (at : ℕ) (e : ℕ × ℕ) → slice_get batch at ≡ Some e → drop at batch ≡ e ∷ drop (at + 1) batch
drop-next batch at e is =
    drop-cons batch at e (slice_get_within batch at e is)
    ∙ ap (λ (first : ℕ × ℕ). first ∷ drop (suc at) batch) (get_or_from_slice_get batch at e e is)
    ∙ ap (λ (next : ℕ). e ∷ drop next batch) {x = suc at} {y = at + 1} (omega arith)

pub loop-at-init : goal.loop-at-init
loop-at-init c = record { left = refl; room = refl }

pub loop-at-preserved : goal.loop-at-preserved
loop-at-preserved c = elim c.match-get.branch [
  | in-Some w ↦
      let next = drop-next c.args.batch.now c.loop-at.at (w.in-Some.node, w.in-Some.field-0-1) (sym c.get.ensures ∙ w.in-Some.is) in
      let kept = ap (λ (k : Kept). k.server) w.server-is ∙ w.forget.ensures.kept in
      record {
        left =
            ap (λ (s : Server). without_nodes (map (λ e. e.0) (drop (c.loop-at.at + 1) c.args.batch.now)) s) kept
            ∙ sym (ap (λ (left : List (ℕ × ℕ)). without_nodes (map (λ e. e.0) left) c.loop-at.server.server) next)
            ∙ c.loop-at.invariant.left;
        room = ap (λ (k : Kept). k.room) w.server-is ∙ w.forget.ensures.room ∙ c.loop-at.invariant.room;
      }
  | in_default w ↦
      let before : c.loop-at.at < length c.args.batch.now = omega (arith, c.loop-at-test.true, c.len-at-end.ensures) in
      absurd (w.in_default.not-Some _ (c.get.ensures ∙ slice_get-get_or c.args.batch.now c.loop-at.at (0, 0) before))
]

pub returns-clause-kept : goal.returns-clause-kept
returns-clause-kept c =
    sym (ap (λ (left : List (ℕ × ℕ)). without_nodes (map (λ e. e.0) left) c.loop-at.server.server)
    (drop_all c.loop-at.at c.args.batch.now (omega (arith, c.loop-at-test.false, c.len-at-end.ensures)))) ∙ c.loop-at.invariant.left

pub returns-clause-room : goal.returns-clause-room
returns-clause-room c = c.loop-at.invariant.room
