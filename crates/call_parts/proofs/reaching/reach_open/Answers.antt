use Rattle.std.proofs.Common.{◌≡◌, ap, ◌∙◌}
use Rattle.fs_model.specs.Processes.{Descriptor}
use Rattle.fs_layout.specs.Bytes.{SectorMap}
use Rattle.fs_layout.specs.Images.{inode_at}
use Rattle.path_walk.proofs.Kept.{failed_with, kept}
use Rattle.call_parts.proofs.ByDescriptor.{open_as, not_open, open_below, unread_open}
use Rattle.call_parts.proofs.Reachings.{ready_kept}
use Rattle.call_parts.proofs.reaching.reach_open.Goals as goal

pub returns-in_err-descriptor-clause-refused : goal.returns-in_err-descriptor-clause-refused
returns-in_err-descriptor-clause-refused g c =
    let r = c.from_residual.ensures in
    let old = g.S.Sectors.state c.args.s.now in
    failed_with c.from_residual.result c.in_err-descriptor.field-0.0 _ r.0 r.1
    (λ s at. not_open s c.args.place c.args.purpose at.same_tables old.disk old.disk (c.in_err-descriptor.ensures.refused s at.same_tables))

pub load_inode-requires-clause-below : goal.load_inode-requires-clause-below
load_inode-requires-clause-below g c =
    let w = open_as c.descriptor.view_is c.in_ok-descriptor.ensures.is_open in
    open_below w.opened c.requires.ready.state c.requires.ready.is_state

pub returns-in_err-inode-clause-refused : goal.returns-in_err-inode-clause-refused
returns-in_err-inode-clause-refused g c =
    let r = c.from_residual-in_err-inode.ensures in
    let old = g.S.Sectors.state c.args.s.now in
    let new = g.S.Sectors.state c.load_inode.new.s in
    let e = c.in_err-inode.field-0.0 in
    failed_with c.from_residual-in_err-inode.result e _ r.0 r.1
    (λ s at. unread_open s c.args.place c.args.purpose at.same_tables old.disk new.disk e c.in_ok-descriptor.ensures.is_open c.in_err-inode.ensures.fault)

pub returns-clause-opened : goal.returns-clause-opened
returns-clause-opened g c =
    let same = c.in_ok-inode.ensures.same in
    record {
      ready = ready_kept same c.requires.ready;
      table = c.in_ok-descriptor.ensures.table;
      is_open = c.in_ok-descriptor.ensures.is_open;
      inode = kept (λ (m : SectorMap). c.in_ok-inode.inode ≡ inode_at c.args.geometry m c.in_ok-descriptor.descriptor.ino) same
          (c.in_ok-inode.ensures.found ∙ ap (λ (d : Descriptor). inode_at c.args.geometry (g.S.Sectors.state c.args.s.now).sectors d.ino) c.descriptor.view_is);
    }
