use Rattle.std.proofs.Common.{◌%◌, ℕ, nat_eq, get_or, false, sym, ap, ◌∙◌, arith}
use Rattle.std.proofs.lemmas.Nat.Bits.{shr_and_one}
use Rattle.std.specs.Int.{bit_at}
use Rattle.fs_check.proofs.BitTables.{bit_below, byte_there, byte_is, bit_of}
use Rattle.fs_check.proofs.bit_table.BitTable.has.Goals as goal

pub index-requires : goal.index-requires
index-requires c = omega (arith, byte_there _ _ c.args.n _ _ c.self.invariant c.self.view_is c.requires, c.self.inside.bytes.ok.0)

pub returns : goal.returns
returns c =
    let t = c.self.inside in
    let n = c.args.n in
    ap (λ (k : ℕ). nat_eq k 1) (shr_and_one _ (n % 8))
    ∙ ap (λ (x : ℕ). nat_eq (bit_at x (n % 8)) 1) (byte_is _ _ c.args.n _ _ c.self.invariant c.self.view_is c.requires c.index.result.now c.index.ensures)
    ∙ sym (bit_of t.size t.bytes.items n (bit_below _ _ c.args.n _ _ c.self.invariant c.self.view_is c.requires))
    ∙ ap (λ bits. get_or bits n false) c.self.view_is
