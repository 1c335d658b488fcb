use Rattle.std.proofs.Common.{◌≡◌, ◌-◌, ◌++◌, ℕ, List, take, drop, sym, ap, ◌∙◌}
use Rattle.fs_shell.specs.Scripts.{Pending, kept_front}
use Rattle.fs_shell.proofs.Pieces.{newline_ahead, piece_ahead, rest_ahead}
use Rattle.fs_shell.proofs.script.Pending.take_piece.Goals as goal

pub returns-clause-newline : goal.returns-clause-newline
returns-clause-newline c =
    let same : c.args.self.now.ahead ≡ take (c.self.inside.end - c.self.inside.next) (drop c.self.inside.next c.deref.result.now) =
    ap (λ (p : Pending). p.ahead) (sym c.self.view_is) ∙ ap (λ (bytes : List ℕ). take (c.self.inside.end - c.self.inside.next) (drop c.self.inside.next bytes)) (sym c.deref.ensures.value) in
    newline_ahead _ _ _ same c.len_before.ensures.count

pub returns-clause-line : goal.returns-clause-line
returns-clause-line c =
    let same : c.args.self.now.ahead ≡ take (c.self.inside.end - c.self.inside.next) (drop c.self.inside.next c.deref.result.now) =
    ap (λ (p : Pending). p.ahead) (sym c.self.view_is) ∙ ap (λ (bytes : List ℕ). take (c.self.inside.end - c.self.inside.next) (drop c.self.inside.next bytes)) (sym c.deref.ensures.value) in
    c.in_ok-push_front.ensures ∙ ap (λ (l : List ℕ). kept_front (c.args.line.now.items ++ l)) (piece_ahead _ _ _ same c.len_before.ensures.count)

pub returns-clause-rest : goal.returns-clause-rest
returns-clause-rest c =
    let bytes : c.deref.result.now ≡ c.self.inside.bytes.items = c.deref.ensures.value in
    let same : c.args.self.now.ahead ≡ take (c.self.inside.end - c.self.inside.next) (drop c.self.inside.next c.deref.result.now) =
    ap (λ (p : Pending). p.ahead) (sym c.self.view_is) ∙ ap (λ (bytes : List ℕ). take (c.self.inside.end - c.self.inside.next) (drop c.self.inside.next bytes)) (sym c.deref.ensures.value) in
    rest_ahead c.self.inside.bytes.items _ _ _ c.len_before.result _ _ same (ap (λ (l : List ℕ). take (c.self.inside.end - c.self.inside.next) (drop c.self.inside.next l)) bytes)
    c.self.invariant.1 c.self.invariant.2 c.len_before.ensures.count c.min-taken.ensures
