use Rattle.std.proofs.Common.{◌≡◌, ◌+◌, ℕ, Ok, refl, sym, ap, ◌∙◌, arith}
use Rattle.std.proofs.KnownBytes.{prepend_known-nil}
use Rattle.std.proofs.lemmas.Result.{err_from_is_err_and}
use Rattle.fs_shell.specs.declared.fault.RunFault.TheVariants.{WriteFault}
use Rattle.fs_shell.specs.Scripts.{Pending, bytes_left}
use Rattle.fs_shell.proofs.Sessions.{starts, goes_on, finishes, ends_early, ends_unanswered, ends_at_once, not_too_much, one_fault_at_most}
use Rattle.fs_shell.proofs.runner.run_lines.Goals as goal

pub loop-fs-init : goal.loop-fs-init
loop-fs-init g c =
    let left : bytes_left c.args.pending.now (g.R.Read.remaining c.args.reader.now.inner) ≡ g.R.Read.remaining c.args.reader.now.inner =
    ap (λ (p : Pending). bytes_left p (g.R.Read.remaining c.args.reader.now.inner)) c.requires ∙ prepend_known-nil (g.R.Read.remaining c.args.reader.now.inner) in
    let none : c.args.pending.now.given ≡ 0 = ap (λ (p : Pending). p.given) c.requires in
    record {
      running = starts g.D.Disk.state _ _ _ _ _ c.args.fs.now left none refl refl;
      lines = omega arith;
      faults = omega arith;
      limit = omega arith;
      reader_is_same = refl;
      writer_is_same = refl;
    }

pub returns-in_err-read_line-clause-ran : goal.returns-in_err-read_line-clause-ran
returns-in_err-read_line-clause-ran g c =
    let p = err_from_is_err_and c.from_residual.result c.from_residual.ensures.1 in
    rw p.1 (ends_early g.D.Disk.state _ _ _ _ _ _ _ _ _ p.0 c.loop-fs.invariant.running (λ much. c.in_err-read_line.ensures.over (sym p.2 ∙ much)))

pub loop-fs-preserved : goal.loop-fs-preserved
loop-fs-preserved g c =
    let read = c.read_line.ensures.line (c.in_ok-read_line.was ∙ ap Ok c.if-branch.true) in
    let most = one_fault_at_most c.perform_line-answer.result in
    record {
      running = goes_on g.D.Disk.state _ _ _ _ _ _ _ _ _ _ _ _ _ _ _ c.loop-fs.invariant.running read (rw c.deref.ensures.value at c.perform_line-answer.ensures)
          c.in_ok-write_answer.ensures.written refl (ap (λ (n : ℕ). c.loop-fs.count.faults + n) c.faults.ensures);
      lines = omega (arith, read.some, c.loop-fs.invariant.lines);
      faults = omega (arith, most, c.faults.ensures, c.loop-fs.invariant.faults);
      limit = c.read_line.ensures.limit;
      reader_is_same = c.read_line.ensures.failed.same (λ told. let was = c.in_ok-read_line.was in cc) ∙ c.loop-fs.invariant.reader_is_same;
      writer_is_same = c.write_answer.ensures.failed.same (λ told. let was = c.in_ok-write_answer.was in cc) ∙ c.loop-fs.invariant.writer_is_same;
    }

pub returns-in_err-write_answer-clause-ran : goal.returns-in_err-write_answer-clause-ran
returns-in_err-write_answer-clause-ran g c =
    let p = err_from_is_err_and c.from_residual-in_err-write_answer.result c.from_residual-in_err-write_answer.ensures.1 in
    let read = c.read_line.ensures.line (c.in_ok-read_line.was ∙ ap Ok c.if-branch.true) in
    rw p.1 (ends_unanswered g.D.Disk.state _ _ _ _ _ _ _ _ _ _ _ _ _ _ p.0 c.loop-fs.invariant.running read
    (rw c.deref.ensures.value at c.perform_line-answer.ensures) (λ much. not_too_much _ c.in_err-write_answer.ensures.fault (sym p.2 ∙ much)))

pub returns-in-Ok-clause-ran : goal.returns-in-Ok-clause-ran
returns-in-Ok-clause-ran g c =
    let end = c.read_line.ensures.end (c.in_ok-read_line.was ∙ ap Ok c.if-branch.false) in
    finishes g.D.Disk.state _ _ _ _ _ _ _ _ _ c.loop-fs.invariant.running end.0 c.loop-fs.invariant.limit c.flush.ensures.bytes

pub returns-in-Err-clause-ran : goal.returns-in-Err-clause-ran
returns-in-Err-clause-ran g c = ends_early g.D.Disk.state _ _ _ _ _ _ _ _ _ WriteFault c.loop-fs.invariant.running (λ much. absurd (cc))
