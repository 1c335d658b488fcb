use Rattle.std.proofs.Common.{take, length, ap, sym, ◌∙◌, ◌≡◌, ◌++◌}
use Rattle.std.proofs.lemmas.Slice.Eq.{bytes_eq-Decides}
use Rattle.fuse_serving.proofs.Lines.{named_line, last_named, some_then, whole_line}
use Rattle.fuse_serving.proofs.status.first_line_of.Goals as goal
use Rattle.fuse_serving.proofs.status.first_line_of.Goals.{in-Some, in-None}

pub returns : goal.returns
returns c =
    let text = c.args.text.now in
    let name = c.args.name.now in
    let line = c.match-memchr.line.now in
    some_then _ c.strip_prefix.result c.strip_prefix.ensures.cases (λ said cases.
    let whole : line ≡ name ++ said.now = whole_line line name said.now ((bytes_eq-Decides (take (length name) line) name).0 cases.0) cases.1 in
    elim c.match-memchr.branch [
      | in-Some w ↦ named_line text line name said.now w.in-Some.end w.in-Some.ensures (ap (λ b. b.now) w.line-is ∙ w.split_at.ensures.front) whole
      | in-None w ↦ last_named text name said.now w.in-None.ensures (ap (λ b. b.now) (sym w.line-is) ∙ whole)
    ])
