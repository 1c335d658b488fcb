use Rattle.std.proofs.Common.{ℕ, List, Some, refl, sym, ap, slice_get, ◌∙◌, arith}
use Rattle.fuse_protocol.proofs.Batches.{nth_forget, no_forget}
use Rattle.fuse_protocol.proofs.batch.Batch.get.Goals as goal

pub returns-then-at-self : goal.returns-then-at-self
returns-then-at-self c =
    sym (no_forget c.self.inside.count c.args.at c.self.inside.bytes.now (omega (arith, c.if-at-self.true)))
    ∙ ap (λ (l : List (ℕ × ℕ)). slice_get l c.args.at) c.self.view_is

pub returns : goal.returns
returns c =
    ap (λ e. Some e) (rw (c.u64_at.ensures, c.u64_at-2.ensures, c.split_at.ensures.back) refl)
    ∙ sym (nth_forget c.self.inside.count c.args.at c.self.inside.bytes.now (omega (arith, c.if-at-self.false)))
    ∙ ap (λ (l : List (ℕ × ℕ)). slice_get l c.args.at) c.self.view_is
