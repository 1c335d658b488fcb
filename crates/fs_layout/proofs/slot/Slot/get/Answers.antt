use Rattle.std.proofs.Common.{◌+◌, ◌∙◌, arith, get_or, refl, sym}
use Rattle.std.proofs.lemmas.Bool.{and_left, and_right}
use Rattle.fs_layout.specs.Bytes.{are_zero, window}
use Rattle.fs_layout.proofs.SlotLaw.{answered, read_to_end, refused_name, refused_zeros, rest_tested}
use Rattle.fs_layout.proofs.slot.Slot.get.Goals as goal

pub returns-then-not-is_name : goal.returns-then-not-is_name
returns-then-not-is_name c =
    let s = c.args.from.now in
    refused_name c.args.version s c.is_name.result (answered s c.is_name.result _ (get_or s 4 0) (omega arith) c.is_name.ensures) c.if-not-is_name.true

pub returns-then-not-are_zero : goal.returns-then-not-are_zero
returns-then-not-are_zero c =
    let s = c.args.from.now in
    refused_zeros c.args.version s c.is_name.result _ (omega arith) (answered s c.is_name.result _ (get_or s 4 0) (omega arith) c.is_name.ensures) c.if-not-is_name.false
    refl (and_left (are_zero (window s 5 3)) _ (sym c.are_zero.ensures ∙ c.if-not-are_zero.true))

pub returns-then-not-are_zero-2 : goal.returns-then-not-are_zero-2
returns-then-not-are_zero-2 c =
    let s = c.args.from.now in
    refused_zeros c.args.version s c.is_name.result _ (omega arith) (answered s c.is_name.result _ (get_or s 4 0) (omega arith) c.is_name.ensures) c.if-not-is_name.false
    refl (and_right (are_zero (window s 5 3)) _ (sym (rest_tested s (8 + get_or s 4 0) c.are_zero-2.result c.are_zero-2.ensures) ∙ c.if-not-are_zero-2.true))

pub returns : goal.returns
returns c =
    let s = c.args.from.now in
    read_to_end c.args.version s c.new.result c.u32_at.result _ c.new.ensures (omega arith) c.u32_at.ensures (omega arith)
    (sym (answered s c.is_name.result _ (get_or s 4 0) (omega arith) c.is_name.ensures) ∙ c.if-not-is_name.false)
    (sym c.are_zero.ensures ∙ c.if-not-are_zero.false)
    (sym (rest_tested s (8 + get_or s 4 0) c.are_zero-2.result c.are_zero-2.ensures) ∙ c.if-not-are_zero-2.false)
