use Rattle.std.proofs.Common.{◌<◌, sym, subst, ℕ, List}
use Rattle.sector_disk.specs.Disk.{Image}
use Rattle.sector_disk.specs.Parts.{IsPart, AreZerosElse}
use Rattle.sector_disk.proofs.Parted.{part_set, zeros_set}
use Rattle.sector_disk.proofs.part_file.keep_sector.Goals as goal

pub returns-in_err-put_loaded-clause-follows : goal.returns-in_err-put_loaded-clause-follows
returns-in_err-put_loaded-clause-follows g c =
    let held = g.F.DiskFile.held c.args._file.now in
    let same = c.in_err-put_loaded.ensures.same in
    subst (λ (i : Image). IsPart held i c.put_loaded.new.loaded) (sym same.0)
    (subst (λ (l : List ℕ). IsPart held c.args.sectors.now.shown l) (sym same.1) c.requires.follows)

pub returns-in_err-put_loaded-clause-unread : goal.returns-in_err-put_loaded-clause-unread
returns-in_err-put_loaded-clause-unread g c =
    let same = c.in_err-put_loaded.ensures.same in
    subst (λ (i : Image). AreZerosElse i c.put_loaded.new.loaded) (sym same.0)
    (subst (λ (l : List ℕ). AreZerosElse c.args.sectors.now.shown l) (sym same.1) c.requires.unread)

pub returns-clause-follows : goal.returns-clause-follows
returns-clause-follows g c =
    let now = c.in_ok-put_loaded.ensures in
    part_set c.args.n c.args.content.now c.args.sectors.now.shown c.put_loaded.new.sectors.shown c.args.loaded.now c.put_loaded.new.loaded
    (g.F.DiskFile.held c.args._file.now) c.requires.below now.content now.loaded c.requires.has c.tell_whole.ensures c.requires.follows

pub returns-clause-unread : goal.returns-clause-unread
returns-clause-unread g c =
    let now = c.in_ok-put_loaded.ensures in
    zeros_set c.args.n c.args.content.now c.args.sectors.now.shown c.put_loaded.new.sectors.shown c.args.loaded.now c.put_loaded.new.loaded
    (subst (λ k. c.args.n < k) (sym c.requires.table) c.requires.below) c.requires.table now.content now.loaded c.requires.unread
