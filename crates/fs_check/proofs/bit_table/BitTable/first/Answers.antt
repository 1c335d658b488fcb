use Rattle.std.proofs.Common.{◌≡◌, not, length, count_by, arith, sym, ap, ◌∙◌}
use Rattle.fs_check.proofs.BitTables.{bits_len, none_set}
use Rattle.fs_check.proofs.bit_table.BitTable.first.Goals as goal

pub returns-then-self-clause-none : goal.returns-then-self-clause-none
returns-then-self-clause-none c =
    let t = c.self.inside in
    let len = bits_len t.size t.bytes.items in
    let all : count_by not c.args.self.now ≡ length c.args.self.now =
    ap (count_by not) (sym c.self.view_is) ∙ sym c.self.invariant.counted ∙ c.if-self.true ∙ sym len ∙ ap length c.self.view_is in
    none_set c.args.self.now all

pub overflow_cast-n-end : goal.overflow_cast-n-end
overflow_cast-n-end c =
    let t = c.self.inside in
    let len = bits_len t.size t.bytes.items in
    let same = ap length c.self.view_is in
    let small = c.requires in
    omega (arith, len, same, small)

pub has-requires : goal.has-requires
has-requires c =
    let t = c.self.inside in
    let len = bits_len t.size t.bytes.items in
    let same = ap length c.self.view_is in
    let lt = c.loop-n-test.true in
    omega (arith, len, same, lt)

pub returns-clause-none : goal.returns-clause-none
returns-clause-none c = λ k lt.
    let t = c.self.inside in
    let len = bits_len t.size t.bytes.items in
    let same = ap length c.self.view_is in
    let past = c.loop-n-test.false in
    c.loop-n.invariant k (omega (arith, len, same, past, lt))
