use Rattle.std.proofs.Common.{◌≡◌, [], Ok, sym, ap, ◌∙◌, arith}
use Rattle.std.proofs.lemmas.Result.{err_from_is_err_and}
use Rattle.fs_shell.specs.Scripts.{bytes_left}
use Rattle.fs_shell.proofs.Pieces.{clean_piece, consumes_line, consumes_piece, line_count, piece_count, count_grows, piece_over}
use Rattle.fs_shell.proofs.Reading.{line_fits, still_reads, reads_more, reads_line, reads_last, reads_none, reads_over, some_kept, none_kept}
use Rattle.fs_shell.proofs.script.Pending.read_line.Goals as goal

pub take_piece-requires : goal.take_piece-requires
take_piece-requires g c = record { room = line_fits _ _ _ _ _ c.loop-self.invariant.reading }

pub returns-in_err-take_piece-clause-over : goal.returns-in_err-take_piece-clause-over
returns-in_err-take_piece-clause-over g c =
    let p = err_from_is_err_and c.from_residual-in_err-take_piece.result c.from_residual-in_err-take_piece.ensures.1 in
    let now = still_reads _ _ (bytes_left c.has_more.new.self (g.R.Read.remaining c.has_more.new.reader.inner)) _ _ _ _ c.loop-self.invariant.reading c.in_ok-has_more.ensures.kept c.has_more.ensures.count in
    rw p.1 (λ over. reads_over _ _ _ _ _ now (piece_over _ _ _ (c.in_err-take_piece.ensures.over (sym p.2 ∙ over))))

pub returns-then-branch-2-clause-line : goal.returns-then-branch-2-clause-line
returns-then-branch-2-clause-line g c = λ _.
    let now = still_reads _ _ (bytes_left c.has_more.new.self (g.R.Read.remaining c.has_more.new.reader.inner)) _ _ _ _ c.loop-self.invariant.reading c.in_ok-has_more.ensures.kept c.has_more.ensures.count in
    let took = c.in_ok-take_piece.ensures in
    let newline = sym took.newline ∙ c.if-branch-2.true in
    reads_line _ _ _ _ _ _ _ _ _ now (consumes_line (g.R.Read.remaining c.has_more.new.reader.inner) c.has_more.new.self.ahead c.take_piece.new.self.ahead newline took.rest)
    (clean_piece c.has_more.new.self.ahead) (line_count c.has_more.new.self.ahead c.take_piece.new.self.ahead _ _ newline took.rest took.count) took.line

pub loop-self-preserved : goal.loop-self-preserved
loop-self-preserved g c =
    let now = still_reads _ _ (bytes_left c.has_more.new.self (g.R.Read.remaining c.has_more.new.reader.inner)) _ _ _ _ c.loop-self.invariant.reading c.in_ok-has_more.ensures.kept c.has_more.ensures.count in
    let took = c.in_ok-take_piece.ensures in
    let none = sym took.newline ∙ c.if-branch-2.false in
    record {
      reading = reads_more _ _ _ _ _ _ _ _ _ now
          (consumes_piece (g.R.Read.remaining c.has_more.new.reader.inner) c.has_more.new.self.ahead c.take_piece.new.self.ahead none took.rest)
          (clean_piece c.has_more.new.self.ahead) (piece_count c.has_more.new.self.ahead c.take_piece.new.self.ahead _ _ none took.rest took.count) took.line;
      reader_is_same = c.has_more.ensures.failed.same (λ told. let was = c.in_ok-has_more.was in cc) ∙ c.loop-self.invariant.reader_is_same;
    }

pub loop-self-smaller : goal.loop-self-smaller
loop-self-smaller g c =
    let some = c.has_more.ensures.more (c.in_ok-has_more.was ∙ ap Ok c.if-branch.true) in
    let took = c.in_ok-take_piece.ensures in
    omega (arith, count_grows c.has_more.new.self.ahead c.take_piece.new.self.ahead _ _ some took.rest took.count, c.has_more.ensures.count, c.take_piece.ensures.limit)

pub returns-clause-line : goal.returns-clause-line
returns-clause-line g c = λ yes.
    let end = c.has_more.ensures.end (c.in_ok-has_more.was ∙ ap Ok c.if-branch.false) in
    reads_last _ _ _ _ _ _ _ c.loop-self.invariant.reading end.0 end.2 end.3 (some_kept c.loop-self.line.items _ c.is_empty.result c.loop-self.line.ok.0 c.is_empty.ensures yes)

pub returns-clause-end : goal.returns-clause-end
returns-clause-end g c = λ no.
    let end = c.has_more.ensures.end (c.in_ok-has_more.was ∙ ap Ok c.if-branch.false) in
    let none : c.loop-self.line.items ≡ [] = none_kept c.loop-self.line.items _ c.is_empty.result c.loop-self.line.ok.0 c.is_empty.ensures no in
    let all = reads_none _ _ _ _ _ c.loop-self.invariant.reading end.0 none in
    (all.0, end.1, end.3 ∙ all.1)
