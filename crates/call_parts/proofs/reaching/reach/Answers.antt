use Rattle.std.proofs.Common.{ℕ}
use Rattle.fs_layout.specs.declared.inode.Inode.{Inode}
use Rattle.fs_layout.specs.Images.{inode_at}
use Rattle.fs_model.specs.Scenes.{found_ino}
use Rattle.path_walk.proofs.Kept.{failed_with}
use Rattle.block_map.proofs.Runs.{unchanged_joined}
use Rattle.call_parts.proofs.Reachings.{walk_reaches, unreached, walk_kept, walked_below, inode_later}
use Rattle.call_parts.proofs.Shown.{is_inode}
use Rattle.call_parts.proofs.reaching.reach.Goals as goal

pub returns-in_err-process-clause-refused : goal.returns-in_err-process-clause-refused
returns-in_err-process-clause-refused g c =
    let r = c.from_residual.ensures in
    failed_with c.from_residual.result c.in_err-process.field-0.0 _ r.0 r.1
    (λ s at. walk_reaches (c.in_err-process.ensures.refused s at))

pub inode_found-requires : goal.inode_found-requires
inode_found-requires g c =
    let w = c.in_ok-process.ensures.walked in
    record { sound = w.ready.sound; below = walked_below w }

pub returns-in_err-ino-clause-refused : goal.returns-in_err-ino-clause-refused
returns-in_err-ino-clause-refused g c =
    let r = c.from_residual-in_err-ino.ensures in
    let mid = g.S.Sectors.state c.walk_path.new.s in
    let new = g.S.Sectors.state c.inode_found.new.s in
    let f = c.in_ok-process.field-0.found in
    let e = c.in_err-ino.field-0.0 in
    failed_with c.from_residual-in_err-ino.result e _ r.0 r.1
    (unreached new.disk e {A = ℕ × Inode} (found_ino f, inode_at c.args.caller.now.geometry mid.sectors (found_ino f)) c.in_ok-process.ensures.same c.in_ok-process.ensures.walked
    c.in_err-ino.ensures.each)

pub returns-clause-reached : goal.returns-clause-reached
returns-clause-reached g c =
    let same = c.in_ok-ino.ensures.same in
    let mid = g.S.Sectors.state c.walk_path.new.s in
    record {
      walked = walk_kept same c.in_ok-process.ensures.walked;
      inode = inode_later same (is_inode c.args.caller.now.geometry mid.sectors c.in_ok-process.field-0.found c.in_ok-ino.ino c.in_ok-ino.inode c.in_ok-ino.ensures.each);
    }

pub returns-in_err-ino-clause-same : goal.returns-in_err-ino-clause-same
returns-in_err-ino-clause-same g c = unchanged_joined c.in_ok-process.ensures.same c.in_err-ino.ensures.same

pub returns-clause-same : goal.returns-clause-same
returns-clause-same g c = unchanged_joined c.in_ok-process.ensures.same c.in_ok-ino.ensures.same
