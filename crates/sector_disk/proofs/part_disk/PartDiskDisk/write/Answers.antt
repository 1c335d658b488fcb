use Rattle.std.proofs.lemmas.Result.{IfOk-from_err}
use Rattle.sector_disk.specs.Parts.{file_image}
use Rattle.sector_disk.proofs.Passing.{image_untouched, image_unmoved}
use Rattle.sector_disk.proofs.Refused.{changes_none}
use Rattle.sector_disk.proofs.part_disk.PartDiskDisk.write.Goals as goal

pub returns : goal.returns
returns g c =
    let old = c.args.self.now in
    let new = c.refuse.new.self in
    let err = c.refuse.ensures.result in
    let was = file_image (g.F.DiskFile.held old.part.file) old.part.sectors.shown in
    let now = file_image (g.F.DiskFile.held new.part.file) new.part.sectors.shown in
    let image = c.refuse.ensures.image in
    let same =
    image_untouched was old.failed_reads old.failed_writes now new.failed_reads new.failed_writes image in
    record {
      written = IfOk-from_err c.refuse.result _ err;
      changes = changes_none same;
      time =
          image_unmoved was old.failed_reads old.failed_writes now new.failed_reads new.failed_writes image;
      cause = c.refuse.ensures.cause;
      told = c.refuse.ensures.told;
      worn = λ worn. err;
    }
