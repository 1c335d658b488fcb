use Rattle.std.proofs.Common.{◌∙◌, ap, sym}
use Rattle.bit_alloc.specs.declared.bitmap.Bitmap.TheVariants.{Inodes}
use Rattle.bit_alloc.specs.Bitmaps.{free_numbers}
use Rattle.bit_alloc.proofs.Transactions.{map_unchanged, bitmaps_unchanged}
use Rattle.free_counts.proofs.Known.{tells_after, tells_before}
use Rattle.fs_system.proofs.counted.count_both.Goals as goal

pub count_free-requires-clause-told : goal.count_free-requires-clause-told
count_free-requires-clause-told g c = c.requires.told.told

pub count_free-requires-2-clause-bitmaps : goal.count_free-requires-2-clause-bitmaps
count_free-requires-2-clause-bitmaps g c =
    bitmaps_unchanged c.args.geometry (g.S.Sectors.state c.args.s.now) (g.S.Sectors.state c.count_free.new.s) c.requires.bitmaps c.in_ok-sectors.ensures.same

pub count_free-requires-2-clause-told : goal.count_free-requires-2-clause-told
count_free-requires-2-clause-told g c = tells_after c.count_free.new.self c.in_ok-sectors.ensures.same c.in_ok-sectors.ensures.told

pub returns-in_err-sectors-clause-told : goal.returns-in_err-sectors-clause-told
returns-in_err-sectors-clause-told g c = record { told = c.in_err-sectors.ensures.told }

pub returns-in_err-inodes-clause-told : goal.returns-in_err-inodes-clause-told
returns-in_err-inodes-clause-told g c = record { told = tells_before c.count_free-2.new.self c.in_ok-sectors.ensures.same c.in_err-inodes.ensures.told }

pub returns-clause-told : goal.returns-clause-told
returns-clause-told g c = record { told = tells_before c.count_free-2.new.self c.in_ok-sectors.ensures.same c.in_ok-inodes.ensures.told }

pub returns-clause-inodes : goal.returns-clause-inodes
returns-clause-inodes g c = c.in_ok-inodes.ensures.free ∙ ap (free_numbers c.args.geometry Inodes) (sym (map_unchanged c.in_ok-sectors.ensures.same))
