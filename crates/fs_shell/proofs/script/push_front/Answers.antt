use Rattle.std.proofs.Common.{◌≡◌, ◌-◌, ◌++◌, ℕ, length, take, ap, ◌∙◌}
use Rattle.fs_shell.proofs.Pieces.{front_pushed}
use Rattle.fs_shell.proofs.script.push_front.Goals as goal

pub returns : goal.returns
returns c =
    let len : c.len.result ≡ length c.args.line.now.items = c.len.ensures ∙ c.args.line.now.ok.0 in
    c.in_ok-extend_from_slice.ensures.items ∙ ap (λ (n : ℕ). c.args.line.now.items ++ take n c.args.piece.now) c.min.ensures
    ∙ front_pushed 4097 _ _ _ (ap (λ (n : ℕ). 4097 - n) len) c.requires
