use Rattle.std.proofs.Common.{◌≤◌, ◌/◌, ◌∙◌, ℕ, length, ap, refl, sym, subst, List}
use Rattle.std.proofs.lemmas.Bool.{true≢false}
use Rattle.fs_layout.specs.Bytes.{u32_of}
use Rattle.fs_layout.specs.Commit.{AreTargets}
use Rattle.fs_layout.specs.Header.{area_start, log_end}
use Rattle.sector_disk.specs.Disk.{sector}
use Rattle.redo_journal.proofs.Reading.{log_there, other_targets, too_many, found_commit}
use Rattle.std.proofs.lemmas.Result.{IfOk-from_err}
use Rattle.sector_disk.proofs.Moments.{reads_joined, reads_more, reads_nothing}
use Rattle.redo_journal.proofs.Causes.{cause_at_ok, cause_on, cause_then}
use Rattle.redo_journal.proofs.reads.read_commit.Goals as goal
use Rattle.redo_journal.proofs.reads.read_commit.Goals.{else-is_valid_with-via-then-is_valid_with+else-is_spelled_by, else-is_valid_with-via-else-is_valid_with}

pub read_targets-requires-clause-few : goal.read_targets-requires-clause-few
read_targets-requires-clause-few g c = c.in-Some.ensures.few

pub returns-in_err-read : goal.returns-in_err-read
returns-in_err-read g c =
    let r = c.from_residual.result in
    let err = c.from_residual.ensures.0 in
    record { area = IfOk-from_err r _ err; commit = IfOk-from_err r _ err; reads = reads_more reads_nothing c.read.ensures.same c.read.ensures.time c.read.ensures.cause.later c.read.ensures.quiet (g.met.D.Disk.counts_now c.args.disk.now); cause = cause_on r err c.in_err-read.ensures.cause }

pub returns-in_err-commit-in-Some : goal.returns-in_err-commit-in-Some
returns-in_err-commit-in-Some g c =
    let read = reads_more reads_nothing c.read.ensures.same c.read.ensures.time c.read.ensures.cause.later c.read.ensures.quiet (g.met.D.Disk.counts_now c.args.disk.now) in
    let r = c.from_residual-in_err-commit-in-Some.result in
    let err = c.from_residual-in_err-commit-in-Some.ensures.0 in
    record { area = IfOk-from_err r _ err; commit = IfOk-from_err r _ err; reads = reads_joined read c.read_targets.ensures.reads; cause = cause_on r err (cause_then c.read.ensures.cause c.in_err-commit-in-Some.ensures.cause) }

pub returns-in-None : goal.returns-in-None
returns-in-None g c =
    record {
      commit =
          let disk = g.D.Disk.state c.args.disk.now in
          too_many c.args.header disk.size (sector disk.seen 0) c.read.new.to (sector disk.seen) (g.met.D.Disk.size_fits c.args.disk.now) c.requires.header.is refl
          c.in_ok-read.ensures.content c.in-None.ensures.none;
      area = c.area_in-area.ensures.value ∙ ap (λ (s : List ℕ). u32_of s 4 / 0x8000_0000) c.in_ok-read.ensures.content;
      reads = reads_more reads_nothing c.read.ensures.same c.read.ensures.time c.read.ensures.cause.later c.read.ensures.quiet (g.met.D.Disk.counts_now c.args.disk.now);
      cause = cause_at_ok c.in_ok-read.ensures.cause;
    }

pub returns-then-not-has_log : goal.returns-then-not-has_log
returns-then-not-has_log g c =
    record {
      commit =
          λ valid.
          let disk = g.D.Disk.state c.args.disk.now in
          let size = c.size-size.ensures ∙ c.read.ensures.same.narrowed.size in
          let there = log_there c.args.header disk.size (length c.in-Some.counted) (sector disk.seen 0) c.read.new.to (sector disk.seen) c.requires.header.is refl
          c.in_ok-read.ensures.content c.in-Some.ensures.count valid in
          true≢false (sym (c.has_log.ensures.1 (λ some. subst (λ (n : ℕ). log_end c.args.header ≤ n) (sym size) (there some))) ∙ c.if-not-has_log.true);
      area = c.area_in-area.ensures.value ∙ ap (λ (s : List ℕ). u32_of s 4 / 0x8000_0000) c.in_ok-read.ensures.content;
      reads = reads_more reads_nothing c.read.ensures.same c.read.ensures.time c.read.ensures.cause.later c.read.ensures.quiet (g.met.D.Disk.counts_now c.args.disk.now);
      cause = cause_at_ok c.in_ok-read.ensures.cause;
    }

pub returns-then-is_spelled_by : goal.returns-then-is_spelled_by
returns-then-is_spelled_by g c =
    let read = reads_more reads_nothing c.read.ensures.same c.read.ensures.time c.read.ensures.cause.later c.read.ensures.quiet (g.met.D.Disk.counts_now c.args.disk.now) in
    record {
      commit =
          let disk = g.D.Disk.state c.args.disk.now in
          let size = c.size-size.ensures ∙ c.read.ensures.same.narrowed.size in
          let ts = c.in_ok-commit-in-Some.commit in
          found_commit c.args.header disk.size c.area_start.result (sector disk.seen 0) c.read.new.to disk.seen (g.D.Disk.state c.read.new.self).seen c.in-Some.counted ts c.read.ensures.same.narrowed.seen
          c.requires.header.is refl c.in_ok-read.ensures.content (c.area_start.ensures ∙ ap (area_start c.args.header) c.area_in-area.ensures.value)
          c.in_ok-commit-in-Some.ensures.count
          c.in_ok-commit-in-Some.ensures.more
          (subst (λ k. AreTargets c.args.header k ts) size (c.is_valid_with.ensures.0 c.if-is_valid_with.true)) (c.is_spelled_by.ensures.0 c.if-is_spelled_by.true);
      area = c.area_in-area.ensures.value ∙ ap (λ (s : List ℕ). u32_of s 4 / 0x8000_0000) c.in_ok-read.ensures.content;
      reads = reads_joined read c.read_targets.ensures.reads;
      cause = cause_then c.read.ensures.cause (cause_at_ok c.in_ok-commit-in-Some.ensures.cause);
    }

pub returns-else-is_valid_with : goal.returns-else-is_valid_with
returns-else-is_valid_with g c =
    let read = reads_more reads_nothing c.read.ensures.same c.read.ensures.time c.read.ensures.cause.later c.read.ensures.quiet (g.met.D.Disk.counts_now c.args.disk.now) in
    record {
      commit =
          let disk = g.D.Disk.state c.args.disk.now in
          let size = c.size-size.ensures ∙ c.read.ensures.same.narrowed.size in
          let ts = c.in_ok-commit-in-Some.commit in
          other_targets c.args.header disk.size c.area_start.result (sector disk.seen 0) c.read.new.to disk.seen (g.D.Disk.state c.read.new.self).seen c.in-Some.counted ts c.read.ensures.same.narrowed.seen (g.met.D.Disk.size_fits c.args.disk.now)
          c.requires.header.is refl c.in_ok-read.ensures.content (c.area_start.ensures ∙ ap (area_start c.args.header) c.area_in-area.ensures.value)
          c.in-Some.ensures.count c.in-Some.ensures.first
          c.in_ok-commit-in-Some.ensures.count c.in_ok-commit-in-Some.ensures.first
          c.in_ok-commit-in-Some.ensures.more
          (λ valid spelled. elim c.else-is_valid_with.branch [
            | else-is_valid_with-via-then-is_valid_with+else-is_spelled_by w ↦ true≢false (sym (w.is_spelled_by.ensures.1 spelled) ∙ w.if-is_spelled_by.false)
            | else-is_valid_with-via-else-is_valid_with w ↦
                true≢false (sym (c.is_valid_with.ensures.1 (subst (λ k. AreTargets c.args.header k ts) (sym size) valid)) ∙ w.if-is_valid_with.false)
          ]);
      area = c.area_in-area.ensures.value ∙ ap (λ (s : List ℕ). u32_of s 4 / 0x8000_0000) c.in_ok-read.ensures.content;
      reads = reads_joined read c.read_targets.ensures.reads;
      cause = cause_then c.read.ensures.cause (cause_at_ok c.in_ok-commit-in-Some.ensures.cause);
    }
