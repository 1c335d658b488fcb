use Rattle.fs_model.specs.declared.reply.Reply.TheVariants.{Shown}
use Rattle.bit_alloc.proofs.Transactions.{unchanged_nothing}
use Rattle.call_parts.proofs.ByDescriptor.{reached_as, open_refused, open_used, told}
use Rattle.file_calls.proofs.DescriptorRows.{fstat_by, shows_keep, fstat_told}
use Rattle.file_calls.proofs.show.fstat.Goals as goal

pub returns-in_err-descriptor-clause-performs : goal.returns-in_err-descriptor-clause-performs
returns-in_err-descriptor-clause-performs g c =
    let r = c.from_residual.ensures in
    let x = c.in_err-descriptor.ensures in
    open_refused (fstat_by c.args.place c.requires.start) c.from_residual.result c.in_err-descriptor.field-0.0 r.0 r.1 x.same.store x.refused

pub status-requires : goal.status-requires
status-requires g c = record { used = open_used c.in_ok-descriptor.ensures.opened }

pub returns-clause-performs : goal.returns-clause-performs
returns-clause-performs g c =
    let x = reached_as c.descriptor.view_is c.in_ok-descriptor.ensures.opened in
    told (fstat_by c.args.place c.requires.start) c.in_ok-descriptor.ensures.same x.is_open (shows_keep c.args.place) (g.S.Sectors.state c.reach_open.new.s) unchanged_nothing (Shown c.status.result)
    (fstat_told x.is_open.opened c.in_ok-descriptor.inode c.status.result x.inode c.status.ensures)
