use Rattle.std.proofs.Common.{◌≡◌, ap, ◌∙◌, length, subst, sym, ◌≤◌, ℕ}
use Rattle.std.proofs.lemmas.Bool.{leb-true, le-leb}
use Rattle.open_files.proofs.Numbered.{table_count}
use Rattle.open_files.proofs.procs.Procs.is_full.Goals as goal

pub returns : goal.returns
returns c =
    let count : c.len.result ≡ length c.args.self.now = c.len.ensures ∙ table_count c.self.inside.slab ∙ ap length c.self.view_is in (
      λ full. subst (λ (n : ℕ). 64 ≤ n) count (leb-true 64 c.len.result full),
      λ many. le-leb 64 c.len.result (subst (λ (n : ℕ). 64 ≤ n) (sym count) many),
    )
