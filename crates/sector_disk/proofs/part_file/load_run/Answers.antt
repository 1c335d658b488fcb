use Rattle.std.proofs.Common.{◌∙◌, ◌<◌, length, sym, subst, refl, rules}
use Rattle.std.specs.Prelude.{Option}
use Rattle.sector_disk.specs.Record.{Held}
use Rattle.sector_disk.specs.Parts.{IsPart}
use Rattle.sector_disk.proofs.Parted.{one_of_run}
use Rattle.sector_disk.proofs.Recorded.{recorded}
use Rattle.sector_disk.proofs.part_file.load_run.Goals as goal

pub returns-then-is_err-clause-same : goal.returns-then-is_err-clause-same
returns-then-is_err-clause-same g c = c.read_run.ensures.same

pub returns-then-is_err-clause-follows : goal.returns-then-is_err-clause-follows
returns-then-is_err-clause-follows g c =
    subst (λ (f : Option Held). IsPart f c.args.sectors.now.shown c.args.loaded.now) (sym c.read_run.ensures.same) c.requires.follows

pub keep_sector-requires-clause-has : goal.keep_sector-requires-clause-has
keep_sector-requires-clause-has g c =
    let has = recorded c.read_run.result (sym c.is_err.ensures.value ∙ c.if-is_err.false) c.read_run.ensures.content in
    let below : c.loop-i.i < length c.read_run.new.to = search rules in
    one_of_run (g.F.DiskFile.held c.read_run.new.self) c.args.first c.loop-i.i c.read_run.new.to _ refl has below

pub keep_sector-requires-clause-follows : goal.keep_sector-requires-clause-follows
keep_sector-requires-clause-follows g c = c.loop-i.invariant.follows

pub returns-in_err-keep_sector-clause-follows : goal.returns-in_err-keep_sector-clause-follows
returns-in_err-keep_sector-clause-follows g c = c.keep_sector.ensures.follows

pub loop-i-preserved : goal.loop-i-preserved
loop-i-preserved g c =
    let now = c.keep_sector.ensures in
    record {
      count = now.count ∙ c.loop-i.invariant.count;
      table = now.table;
      follows = now.follows;
      unread = now.unread;
    }

pub returns : goal.returns
returns g c =
    let now = c.loop-i.invariant in
    record {
      count = now.count;
      table = now.table;
      same = c.read_run.ensures.same;
      follows = now.follows;
      unread = now.unread;
    }
