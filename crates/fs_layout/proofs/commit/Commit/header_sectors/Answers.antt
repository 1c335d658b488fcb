use Rattle.std.proofs.Common.{◌≡◌, ◌-◌, ◌∙◌, ℕ, length, ap, arith, sym}
use Rattle.std.specs.Int.{div_ceil}
use Rattle.std.proofs.lemmas.List.{length-take}
use Rattle.fs_layout.proofs.commit.Commit.header_sectors.Goals as goal

pub returns : goal.returns
returns c =
    let inside = c.self.inside in
    let counted : length c.args.self.now ≡ inside.count = omega (arith, ap length c.self.view_is, length-take inside.count inside.targets, c.self.invariant, c.self.told) in
    c.header_sectors_for.ensures ∙ ap (λ (n : ℕ). div_ceil (n - 126) 128) (sym counted)
