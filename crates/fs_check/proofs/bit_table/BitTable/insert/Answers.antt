use Rattle.std.proofs.Common.{◌≡◌, ◌%◌, ◌*◌, ◌^◌, false, true, get_or, set, bit_or, arith, sym, ap, ◌∙◌}
use Rattle.fs_check.specs.BitTables.{bits_of}
use Rattle.fs_check.proofs.BitTables.{bit_below, byte_there, bit_put, one_set}
use Rattle.fs_check.proofs.bit_table.BitTable.insert.Goals as goal

pub index-requires : goal.index-requires
index-requires c = omega (arith, byte_there _ _ c.args.n _ _ c.self.invariant c.self.view_is c.requires, c.self.inside.bytes.ok.0)

pub index_mut-requires : goal.index_mut-requires
index_mut-requires c = omega (arith, byte_there _ _ c.args.n _ _ c.self.invariant c.self.view_is c.requires, c.self.inside.bytes.ok.0)

pub invariant_of-self : goal.invariant_of-self
invariant_of-self c =
    let t = c.self.inside in
    let n = c.args.n in
    let x = bit_or c.index.result.now (1 * 2 ^ (n % 8) % 256) in
    let was : get_or (bits_of t.size t.bytes.items) n false ≡ false = ap (λ bits. get_or bits n false) c.self.view_is ∙ sym c.has.ensures ∙ c.if-has.false in
    one_set t.size t.clear n x t.bytes.items c.self.invariant (bit_below _ _ c.args.n _ _ c.self.invariant c.self.view_is c.requires) (byte_there _ _ c.args.n _ _ c.self.invariant c.self.view_is c.requires) was
    (bit_put _ _ c.args.n _ _ c.self.invariant c.self.view_is c.requires c.index.result.now c.index.ensures)

pub returns : goal.returns
returns c = bit_put _ _ c.args.n _ _ c.self.invariant c.self.view_is c.requires c.index.result.now c.index.ensures ∙ ap (λ bits. set bits c.args.n true) c.self.view_is
