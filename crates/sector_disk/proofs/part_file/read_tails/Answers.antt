use Rattle.std.proofs.Common.{◌∙◌, ◌<◌, length, sym, subst, refl, rules}
use Rattle.std.specs.Prelude.{Option}
use Rattle.sector_disk.specs.Record.{Held}
use Rattle.sector_disk.specs.Parts.{IsPart, HasEnds}
use Rattle.sector_disk.proofs.Parted.{one_of_run}
use Rattle.sector_disk.proofs.Recorded.{recorded}
use Rattle.sector_disk.proofs.part_file.read_tails.Goals as goal

pub returns-then-is_err-clause-follows : goal.returns-then-is_err-clause-follows
returns-then-is_err-clause-follows g c =
    subst (λ (f : Option Held). IsPart f c.args.sectors.now.shown c.args.loaded.now) (sym c.read_run.ensures.same) c.requires.follows

pub returns-then-is_err-clause-ended : goal.returns-then-is_err-clause-ended
returns-then-is_err-clause-ended g c =
    subst (λ (f : Option Held). HasEnds f c.args.ends.now) (sym c.read_run.ensures.same) c.requires.ended

pub keep_tail-requires-clause-has : goal.keep_tail-requires-clause-has
keep_tail-requires-clause-has g c =
    let has = recorded c.read_run.result (sym c.is_err.ensures.value ∙ c.if-is_err.false) c.read_run.ensures.content in
    let below : c.loop-i.i < length c.read_run.new.to = search rules in
    one_of_run (g.F.DiskFile.held c.read_run.new.self) c.args.first c.loop-i.i c.read_run.new.to _ refl has below

pub keep_tail-requires-clause-table : goal.keep_tail-requires-clause-table
keep_tail-requires-clause-table g c = c.loop-i.invariant.table

pub keep_tail-requires-clause-ends_len : goal.keep_tail-requires-clause-ends_len
keep_tail-requires-clause-ends_len g c = c.loop-i.invariant.ends_len

pub keep_tail-requires-clause-follows : goal.keep_tail-requires-clause-follows
keep_tail-requires-clause-follows g c = c.loop-i.invariant.follows

pub keep_tail-requires-clause-unread : goal.keep_tail-requires-clause-unread
keep_tail-requires-clause-unread g c = c.loop-i.invariant.unread

pub keep_tail-requires-clause-ended : goal.keep_tail-requires-clause-ended
keep_tail-requires-clause-ended g c = c.loop-i.invariant.ended

pub loop-i-preserved : goal.loop-i-preserved
loop-i-preserved g c =
    let now = c.keep_tail.ensures in
    record {
      count = now.count ∙ c.loop-i.invariant.count;
      table = now.table;
      ends_len = now.ends_len;
      follows = now.follows;
      unread = now.unread;
      ended = now.ended;
    }

pub returns : goal.returns
returns g c =
    let now = c.loop-i.invariant in
    record {
      count = now.count;
      table = now.table;
      ends_len = now.ends_len;
      same = c.read_run.ensures.same;
      follows = now.follows;
      unread = now.unread;
      ended = now.ended;
    }
