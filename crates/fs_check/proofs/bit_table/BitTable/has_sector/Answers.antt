use Rattle.std.proofs.Common.{◌≡◌, ◌*◌, ◌-◌, ◌+◌, ◌≤◌, false, length, take, drop, get_or, arith, rules, subst, sym, ap, ◌∙◌}
use Rattle.fs_check.proofs.BitTables.{sector_end, sector_bits}
use Rattle.fs_check.proofs.bit_table.BitTable.has_sector.Goals as goal

pub slice_bounds-eq-end : goal.slice_bounds-eq-end
slice_bounds-eq-end c =
    let t = c.self.inside in
    let whole = t.bytes.ok.0 in
    let l = c.deref.ensures.len in
    let room = sector_end t.size t.clear c.args.k t.bytes.items c.self.invariant (subst (λ bits. 4096 * (c.args.k + 1) ≤ length bits) (sym c.self.view_is) c.requires) in
    omega (arith, l, whole, room)

pub returns : goal.returns
returns c = λ same n low lt.
    let t = c.self.inside in
    let part : take (512 * c.args.k + 512 - 512 * c.args.k) (drop (512 * c.args.k) c.deref.result.now) ≡ c.args.sector.now = search rules in
    let most = subst (λ bits. 4096 * (c.args.k + 1) ≤ length bits) (sym c.self.view_is) c.requires in
    ap (λ bits. get_or bits n false) (sym c.self.view_is)
    ∙ sector_bits t.size c.args.k n t.bytes.items c.deref.result.now c.args.sector.now c.deref.ensures.value part low lt most
