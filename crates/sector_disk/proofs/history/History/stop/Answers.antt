use Rattle.std.proofs.Common.{◌∙◌, ◌-◌, ◌<◌, ◌^◌, ap, arith, drop, length, List, subst, sym, take}
use Rattle.std.proofs.lemmas.List.{take_rest}
use Rattle.sector_disk.specs.Record.{Held, Leaves, replay}
use Rattle.sector_disk.specs.Picks.{IsPicked}
use Rattle.sector_disk.specs.Steps.{before, held_before, IsLog}
use Rattle.sector_disk.specs.declared.history.Step.{Step}
use Rattle.sector_disk.proofs.Undone.{length-before, log-start, stopped, held_stopped, none_back}
use Rattle.sector_disk.proofs.history.History.stop.Goals as goal

pub invariant_of-self : goal.invariant_of-self
invariant_of-self c =
    let i = c.self.inside in
    let image = c.pick.new.image.shown in
    let pending = take (length c.deref.result.now - i.synced) (drop i.synced c.deref.result.now) in
    let small : length image < 2 ^ 32 = let few = c.self.invariant.log.small in let size = c.pick.ensures.picked.size in omega (arith, size, few, length-before c.self.inside.seen.shown pending) in
    record { log = subst (λ (l : List Step). IsLog image l 0) (sym c.clear.ensures.items) (log-start image small); back = none_back c.pick.new.image c.clear.new.self.items c.clear.ensures.items }

pub returns-clause-picked : goal.returns-clause-picked
returns-clause-picked c =
    let i = c.self.inside in
    let p = c.args.self.now in
    let seen = i.seen.shown in
    let image = c.pick.new.image.shown in
    let choice = c.args.choice.now in
    let tail = take_rest c.deref.result.now i.synced ∙ ap (λ (l : List Step). drop i.synced l) c.deref.ensures.value in
    subst (λ (l : List Step). IsPicked (replay p.start p.events) choice (before image l)) (sym c.clear.ensures.items)
    (subst (λ (h : Held). IsPicked h choice image) (held_stopped seen i.done.items i.synced p c.self.invariant.log c.self.view_is)
    (subst (λ (l : List Step). IsPicked (held_before seen l) choice image) tail c.pick.ensures.picked))

pub returns-clause-image : goal.returns-clause-image
returns-clause-image c =
    let i = c.self.inside in
    let p = c.args.self.now in
    let image = c.pick.new.image.shown in
    let pending = take (length c.deref.result.now - i.synced) (drop i.synced c.deref.result.now) in
    let tail = take_rest c.deref.result.now i.synced ∙ ap (λ (l : List Step). drop i.synced l) c.deref.ensures.value in
    subst (λ (l : List Step). Leaves (length p.start) (replay p.start p.events) (before image l)) (sym c.clear.ensures.items)
    (stopped i.seen.shown image i.done.items pending i.synced p c.self.invariant.log c.self.view_is tail (c.pick.ensures.picked.size ∙ length-before i.seen.shown pending) c.pick.ensures.each)
