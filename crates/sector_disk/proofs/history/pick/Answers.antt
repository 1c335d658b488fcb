use Rattle.std.proofs.Common.{◌+◌, ◌<◌, ◌%◌, ◌∙◌, ◌++◌, ◌∷◌, [], List, ℕ, ap, arith, length, refl, sym, subst, get_or}
use Rattle.sector_disk.specs.Disk.{sector}
use Rattle.sector_disk.specs.Places.{KeptSectors}
use Rattle.sector_disk.specs.Steps.{replaced_of}
use Rattle.sector_disk.proofs.Undone.{PickedSo, picked_start, picked_past, picked_put, picked_room, picked_content}
use Rattle.sector_disk.proofs.Picking.{PicksSo, picks_none, picks_written, picks_past, picks_all}
use Rattle.sector_disk.proofs.history.pick.Goals as goal
use Rattle.sector_disk.proofs.history.pick.Goals.{then-count-gt0, else-count-gt0}

pub loop-n-init : goal.loop-n-init
loop-n-init c = (picked_start c.args.image.now c.args.pending.now, picks_none c.args.image.now.shown c.args.pending.now c.args.choice.now)

pub loop-n-preserved : goal.loop-n-preserved
loop-n-preserved c =
    let seen = c.args.image.now in
    let steps = c.args.pending.now in
    let choice = c.args.choice.now in
    let n = c.loop-n.n in
    let image = c.loop-n.image in
    let so = c.loop-n.invariant.0 in
    let picks = c.loop-n.invariant.1 in
    let below = c.loop-n-test.true in
    let end = c.loop-n.auto.n-end in
    let all = c.len-n-end.ensures in
    let fits : n < length seen.shown = omega (arith, below, end, all) in
    let rest = so.picked.rest n (omega arith) in
    let counted = c.count_writes-count.ensures.count in
    let count = c.count_writes-count.result in
    elim c.if-count-gt0.branch [
      | then-count-gt0 w ↦
          let later = w.put.new.self in
          let content = w.replaced_content-content.result in
          let last = w.get.result.now in
          let byte = w.byte_at.result in
          let content_is = w.replaced_content-content.ensures.content ∙ ap (λ (c : List ℕ). get_or (replaced_of steps n ++ c ∷ []) (byte % (count + 1)) []) w.get.ensures.content in (
            subst (λ (i : KeptSectors). PickedSo seen i steps (n + 1)) (sym w.image-is)
                (picked_put seen image later steps n content (omega (arith, fits, so.len)) (picked_content last (sector image.shown n) content steps n w.get.ensures.content w.replaced_content-content.ensures.one)
                w.put.ensures.shown w.put.ensures.keeps so),
            subst (λ (i : KeptSectors). PicksSo seen.shown i.shown steps choice (n + 1) c.if-count-gt0.picked) (sym w.image-is)
                (subst (λ p. PicksSo seen.shown later.shown steps choice (n + 1) p) (sym w.picked-is)
                (picks_written seen.shown image.shown later.shown steps choice n c.loop-n.picked count byte (byte % (count + 1)) content fits so.len rest counted w.if-count-gt0.true w.byte_at.ensures refl content_is
                w.put.ensures.shown picks)),
          )
      | else-count-gt0 w ↦
          let none = w.if-count-gt0.false in (
            subst (λ (i : KeptSectors). PickedSo seen i steps (n + 1)) (sym w.image-is) (picked_past seen image steps n so),
            subst (λ (i : KeptSectors). PicksSo seen.shown i.shown steps choice (n + 1) c.if-count-gt0.picked) (sym w.image-is)
                (subst (λ p. PicksSo seen.shown image.shown steps choice (n + 1) p) (sym w.picked-is)
                (picks_past seen.shown image.shown steps choice n c.loop-n.picked count fits rest counted (omega (arith, none)) picks)),
          )
    ]

pub put-requires-clause-room : goal.put-requires-clause-room
put-requires-clause-room c =
    let so = c.loop-n.invariant.0 in
    picked_room c.args.image.now c.loop-n.image c.args.pending.now c.loop-n.n c.get.result.now c.replaced_content-content.result c.get.ensures.placed c.replaced_content-content.ensures.one c.requires.room so

pub returns-clause-picked : goal.returns-clause-picked
returns-clause-picked c =
    let so = c.loop-n.invariant.0 in
    let past = c.loop-n-test.false in
    let all = c.len-n-end.ensures in
    picks_all c.args.image.now.shown c.loop-n.image.shown c.args.pending.now c.args.choice.now c.loop-n.n c.loop-n.picked so.len (omega (arith, past, all)) c.loop-n.invariant.1

pub overflow_add-picked : goal.overflow_add-picked
overflow_add-picked c =
    let few = c.loop-n.invariant.1.few in
    let below = c.loop-n-test.true in
    let all = c.len-n-end.ensures in
    let small = c.requires.small in
    omega (arith, few, below, all, small)
