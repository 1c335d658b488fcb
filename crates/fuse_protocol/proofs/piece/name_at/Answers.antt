use Rattle.std.proofs.Common.{sym, ◌∙◌}
use Rattle.fuse_protocol.proofs.Texts.{no_name_of, with_slash, without_slash}
use Rattle.fuse_protocol.proofs.piece.name_at.Goals as goal

pub returns-in_err-bytes-clause-name : goal.returns-in_err-bytes-clause-name
returns-in_err-bytes-clause-name c = rw c.from_residual.ensures (no_name_of c.args.from.now c.args.at c.in_err-bytes.ensures.text)

pub returns-then-contains-clause-name : goal.returns-then-contains-clause-name
returns-then-contains-clause-name c =
    with_slash c.args.from.now c.in_ok-bytes.bytes.now c.args.at c.in_ok-bytes.ensures.text (sym c.contains.ensures.value ∙ c.if-contains.true)

pub returns-clause-name : goal.returns-clause-name
returns-clause-name c =
    without_slash c.args.from.now c.in_ok-bytes.bytes.now c.args.at c.in_ok-bytes.ensures.text (sym c.contains.ensures.value ∙ c.if-contains.false)
