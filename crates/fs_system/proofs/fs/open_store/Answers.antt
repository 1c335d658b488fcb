use Rattle.std.proofs.Common.{arith, ◌≤◌, sym, ap, subst, ◌∙◌}
use Rattle.sector_disk.specs.Disk.{LeavesOnly}
use Rattle.redo_journal.specs.Meaning.{HasValidCommit, MeansAsBefore, data_of}
use Rattle.redo_journal.proofs.Meaning.{same_chain}
use Rattle.sector_txn.specs.Stores.{present}
use Rattle.fs_images.proofs.Places.{many_sectors}
use Rattle.fs_system.proofs.fs.open_store.Goals as goal

pub returns-in-Ok-new-clause-any_moment : goal.returns-in-Ok-new-clause-any_moment
returns-in-Ok-new-clause-any_moment g c =
    let state = g.D.Disk.state in
    subst (λ d. LeavesOnly (state c.args.disk) (state d) (MeansAsBefore (state c.args.disk))) (sym c.in-Ok-new.ensures.disk) c.in-Ok.ensures.any_moment

pub returns-in-Ok-new-clause-map : goal.returns-in-Ok-new-clause-map
returns-in-Ok-new-clause-map g c =
    let state = g.D.Disk.state in
    same_chain (present state c.in-Ok-new.store) (data_of (state c.in-Ok.journal)) (data_of (state c.args.disk)) c.in-Ok-new.ensures.map c.in-Ok.ensures.same

pub open-requires : goal.open-requires
open-requires g c =
    let many = many_sectors (g.D.Disk.state c.args.disk).seen c.requires.0 c.requires.1 c.requires.2 c.requires.3 in
    let size = (g.met.D.Disk.seen_is_image c.args.disk).size in
    omega (arith, many, size)

pub returns-in-Ok-new-clause-lasting : goal.returns-in-Ok-new-clause-lasting
returns-in-Ok-new-clause-lasting g c = c.in-Ok-new.ensures.lasting

pub returns-in-Ok-new-clause-size : goal.returns-in-Ok-new-clause-size
returns-in-Ok-new-clause-size g c = ap (λ d. (g.D.Disk.state d).size) c.in-Ok-new.ensures.disk ∙ c.in-Ok.ensures.size

pub returns-in-Ok-new-clause-later : goal.returns-in-Ok-new-clause-later
returns-in-Ok-new-clause-later g c =
    let state = g.D.Disk.state in
    subst (λ d. (state c.args.disk).failures ≤ (state d).failures) (sym c.in-Ok-new.ensures.disk) c.in-Ok.ensures.later

pub returns-in-Ok-new-clause-quiet : goal.returns-in-Ok-new-clause-quiet
returns-in-Ok-new-clause-quiet g c = ap (λ d. (g.D.Disk.state d).failed_writes) c.in-Ok-new.ensures.disk ∙ c.in-Ok.ensures.counted.quiet

pub returns-in-Err-clause-any_moment : goal.returns-in-Err-clause-any_moment
returns-in-Err-clause-any_moment g c =
    let state = g.D.Disk.state in
    subst (λ d. LeavesOnly (state c.args.disk) (state d) (MeansAsBefore (state c.args.disk))) (sym (c.into_disk.ensures.disk ∙ c.in-Err.ensures.disk)) c.in-Ok.ensures.any_moment

pub returns-in-Err-clause-size : goal.returns-in-Err-clause-size
returns-in-Err-clause-size g c = ap (λ d. (g.D.Disk.state d).size) (c.into_disk.ensures.disk ∙ c.in-Err.ensures.disk) ∙ c.in-Ok.ensures.size

pub returns-in-Err-clause-later : goal.returns-in-Err-clause-later
returns-in-Err-clause-later g c =
    let state = g.D.Disk.state in
    subst (λ d. (state c.args.disk).failures ≤ (state d).failures) (sym (c.into_disk.ensures.disk ∙ c.in-Err.ensures.disk)) c.in-Ok.ensures.later

pub returns-in-Err-DiskFault-default-clause-any_moment : goal.returns-in-Err-DiskFault-default-clause-any_moment
returns-in-Err-DiskFault-default-clause-any_moment g c = c.in-Err-DiskFault-default.ensures.any_moment

pub returns-in-Err-DiskFault-default-clause-size : goal.returns-in-Err-DiskFault-default-clause-size
returns-in-Err-DiskFault-default-clause-size g c = c.in-Err-DiskFault-default.ensures.size

pub returns-in-Err-DiskFault-default-clause-later : goal.returns-in-Err-DiskFault-default-clause-later
returns-in-Err-DiskFault-default-clause-later g c = c.in-Err-DiskFault-default.ensures.later

pub returns-in-Err-clause-cause : goal.returns-in-Err-clause-cause
returns-in-Err-clause-cause g c = λ device. absurd cc

pub returns-in-Err-DiskFault-default-clause-cause : goal.returns-in-Err-DiskFault-default-clause-cause
returns-in-Err-DiskFault-default-clause-cause g c = λ device. c.in-Err-DiskFault-default.ensures.cause c.in-Err-DiskFault-default.field-0-0-is

pub unreachable-requires : goal.unreachable-requires
unreachable-requires g c =
    let fault = c.in-Err-BadCommitSector-default in
    let disk = g.D.Disk.state c.args.disk in
    fault.ensures.invalid fault.field-0-0-is (subst (λ n. HasValidCommit n disk.seen) (g.met.D.Disk.seen_is_image c.args.disk).size c.requires.3.commit_is)
