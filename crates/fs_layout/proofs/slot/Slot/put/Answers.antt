use Rattle.std.proofs.Common.{refl, ap, length, ◌∙◌, ◌+◌, ◌-◌}
use Rattle.fs_layout.specs.Bytes.{splice, zeros}
use Rattle.fs_layout.proofs.SlotLaw.{written}
use Rattle.fs_layout.proofs.slot.Slot.put.Goals as goal

pub returns : goal.returns
returns c =
    written c.args.version c.args.to.now c.put_u32.new.to c.put_bytes.new.to c.put_zeros.new.to c.put_bytes-2.new.to c.put_zeros-2.new.to c.args.self.now _ _ _
    c.requires.room c.requires.short c.ino.ensures c.name-name.ensures.value refl
    c.put_u32.ensures c.put_bytes.ensures c.put_zeros.ensures c.put_bytes-2.ensures
    (c.put_zeros-2.ensures ∙ ap (λ k. splice c.put_bytes-2.new.to (8 + length c.name-name.result.now) (zeros (k - length c.name-name.result.now))) c.max_name.ensures)
