use Rattle.std.proofs.Common.{◌≡◌, ℕ, ◌*◌, ◌+◌, ◌<◌, get_or, length, ap, sym, subst, ◌∙◌, arith, inl, inr}
use Rattle.std.proofs.lemmas.Bool.{cases_lt}
use Rattle.fs_layout.specs.Version.{slot_size}
use Rattle.dir_core.specs.Slots.{IsSlotAt}
use Rattle.dir_core.proofs.Found.{slot_parts}
use Rattle.dir_core.proofs.names.find_in_block.Goals as goal

pub loop-slot-preserved : goal.loop-slot-preserved
loop-slot-preserved c = λ i x lt there. elim (cases_lt i c.loop-slot.slot) [
  | inl before ↦ c.loop-slot.invariant i x before there
  | inr ge ↦
      let here : i ≡ c.loop-slot.slot = omega (arith, ge, lt) in
      let at : slot_size c.args.version * i ≡ c.slot_size-slot_size.result * c.loop-slot.slot =
      ap (λ (j : ℕ). slot_size c.args.version * j) here ∙ ap (λ (w : ℕ). w * c.loop-slot.slot) (sym c.slot_size-slot_size.ensures) in
      let tested = c.is_named.ensures.named x (subst (λ (k : ℕ). IsSlotAt c.args.version c.args.block.now k x) at there) in
      λ named. let yes_named = tested.1 named in let not_named = c.if-is_named.false in absurd cc
]

pub returns-then-is_named-clause-found : goal.returns-then-is_named-clause-found
returns-then-is_named-clause-found c =
    let size = c.slot_size-slot_size.ensures in (
      subst (λ (n : ℕ). c.loop-slot.slot < n) c.block_slots-slot-end.ensures c.loop-slot-test.true,
      subst (λ (w : ℕ). get_or c.args.block.now (w * c.loop-slot.slot + 4) 0 ≡ length c.args.name.now) size (c.is_named.ensures.len c.if-is_named.true),
      λ x there.
          let here = subst (λ (w : ℕ). IsSlotAt c.args.version c.args.block.now (w * c.loop-slot.slot) x) (sym size) there in
          slot_parts x c.args.name.now c.slot_ino-ino.result ((c.is_named.ensures.named x here).0 c.if-is_named.true)
          (sym (c.slot_ino-ino.ensures c.args.version x here)),
    )

pub returns-clause-found : goal.returns-clause-found
returns-clause-found c = λ i x lt there.
    c.loop-slot.invariant i x (omega (arith, lt, c.loop-slot-test.false, c.loop-slot.auto.slot-end, c.block_slots-slot-end.ensures)) there
