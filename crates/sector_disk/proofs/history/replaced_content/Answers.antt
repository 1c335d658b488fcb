use Rattle.sector_disk.proofs.Picking.{one_more, none_more, sync_more}
use Rattle.sector_disk.proofs.Picking.{left_found, left_passed, left_stays, left_none}
use Rattle.sector_disk.proofs.history.replaced_content.Goals as goal
use Rattle.sector_disk.proofs.history.replaced_content.Goals.{in-Replaced+then-k-n+else-before-eq0}
use Rattle.sector_disk.proofs.history.replaced_content.Goals.{in-Replaced+else-k-n, in_default}

pub returns-then-before-eq0-clause-content : goal.returns-then-before-eq0-clause-content
returns-then-before-eq0-clause-content c =
    let i = c.in-Replaced in
    let at = c.loop-step.step-index in
    let below = c.loop-step-test.true in
    let more = one_more c.args.pending.now c.args.n at below i.k i.content i.is c.if-k-n.true in
    left_found c.loop-step.invariant i.content _ more c.if-before-eq0.true

pub loop-step-preserved : goal.loop-step-preserved
loop-step-preserved c =
    let steps = c.args.pending.now in
    let n = c.args.n in
    let at = c.loop-step.step-index in
    let below = c.loop-step-test.true in
    let so = c.loop-step.invariant in
    let next = c.match-step.before in
    elim c.match-step.branch [
      | in-Replaced+then-k-n+else-before-eq0 w ↦
          let i = w.in-Replaced in
          let more = one_more steps n at below i.k i.content i.is w.if-k-n.true in
          left_passed so i.content next more w.if-before-eq0.false w.before-is
      | in-Replaced+else-k-n w ↦
          let i = w.in-Replaced in
          left_stays so next (none_more steps n at below i.k i.content i.is w.if-k-n.false) w.before-is
      | in_default w ↦ left_stays so next (sync_more steps n at below w.in_default.is) w.before-is
    ]

pub returns-clause-content : goal.returns-clause-content
returns-clause-content c = left_none c.loop-step.invariant c.loop-step-test.false
