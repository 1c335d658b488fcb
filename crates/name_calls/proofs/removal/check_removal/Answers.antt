use Rattle.std.proofs.Common.{sym}
use Rattle.block_map.proofs.Runs.{unchanged_joined}
use Rattle.call_parts.proofs.Calling.{met_ok}
use Rattle.path_walk.proofs.HeldNodes.{number_below}
use Rattle.path_walk.proofs.Kept.{sound_kept}
use Rattle.call_parts.proofs.MakeAsked.{directory_met}
use Rattle.call_parts.proofs.Refuses.{passed_later, refused_by, answered_ok, tree_kept}
use Rattle.call_parts.proofs.Shown.{is_inode}
use Rattle.name_calls.proofs.RemovalAsked.{removal_slashed, removal_denied, removal_sticky, removal_met}
use Rattle.name_calls.proofs.removal.check_removal.Goals as goal

pub inode_found-requires : goal.inode_found-requires
inode_found-requires g c = let x = c.requires.there in record { sound = c.requires.sound; below = λ n some. number_below x.1 n (x.2.found n some) }

pub returns-in_err-check_slash : goal.returns-in_err-check_slash
returns-in_err-check_slash g c = record {
  each = λ t h named.
      let old = g.S.Sectors.state c.args.s.now in
      let i = is_inode c.args.caller.now.geometry old.sectors c.args.walked.now.found c.in_ok-ino.ino c.in_ok-ino.inode c.in_ok-ino.ensures.each in
      refused_by old.disk (g.S.Sectors.state c.inode_found.new.s).disk _ _ _ c.from_residual-in_err-check_slash.ensures
      (removal_slashed h named c.args.walked.now.process.cred i) (sym c.in_err-check_slash.ensures);
  same = c.in_ok-ino.ensures.same;
}

pub ask_directory-requires : goal.ask_directory-requires
ask_directory-requires g c =
    let x = c.requires.there in
    let same = c.in_ok-ino.ensures.same in
    record { sound = sound_kept same c.requires.sound; there = (x.0, tree_kept same x.1, x.2.directory) }

pub returns-in_err-directory : goal.returns-in_err-directory
returns-in_err-directory g c = record {
  each = λ t h named.
      let same = c.in_ok-ino.ensures.same in
      let i = is_inode c.args.caller.now.geometry (g.S.Sectors.state c.args.s.now).sectors c.args.walked.now.found c.in_ok-ino.ino c.in_ok-ino.inode c.in_ok-ino.ensures.each in
      passed_later (g.S.Sectors.state c.ask_directory.new.s).disk _ _ _ c.from_residual-in_err-directory.ensures same
      (removal_denied h named c.args.walked.now.process.cred i (sym c.in_ok-check_slash.ensures)) _ (c.in_err-directory.ensures.each t (tree_kept same h) named.directory);
  same = unchanged_joined c.in_ok-ino.ensures.same c.in_err-directory.ensures.same;
}

pub returns-in_err-check_sticky : goal.returns-in_err-check_sticky
returns-in_err-check_sticky g c = record {
  each = λ t h named.
      let old = g.S.Sectors.state c.args.s.now in
      let same = c.in_ok-ino.ensures.same in
      let i = is_inode c.args.caller.now.geometry old.sectors c.args.walked.now.found c.in_ok-ino.ino c.in_ok-ino.inode c.in_ok-ino.ensures.each in
      let d = directory_met c.args.caller.now.geometry c.args.walked.now.found.dir_ino _ same (c.in_ok-directory.ensures.each t (tree_kept same h) named.directory) in
      refused_by old.disk (g.S.Sectors.state c.ask_directory.new.s).disk _ _ _ c.from_residual-in_err-check_sticky.ensures
      (removal_sticky h named c.args.walked.now.process.cred i (sym c.in_ok-check_slash.ensures) d.0 d.1) (sym c.in_err-check_sticky.ensures);
  same = unchanged_joined c.in_ok-ino.ensures.same c.in_ok-directory.ensures.same;
}

pub returns : goal.returns
returns g c = record {
  each = λ t h named.
      let i = is_inode c.args.caller.now.geometry (g.S.Sectors.state c.args.s.now).sectors c.args.walked.now.found c.in_ok-ino.ino c.in_ok-ino.inode c.in_ok-ino.ensures.each in
      let same = c.in_ok-ino.ensures.same in
      let d = directory_met c.args.caller.now.geometry c.args.walked.now.found.dir_ino _ same (c.in_ok-directory.ensures.each t (tree_kept same h) named.directory) in
      answered_ok (removal_met h named c.args.walked.now.process.cred i (sym c.in_ok-check_slash.ensures) d.0 d.1 (sym c.in_ok-check_sticky.ensures))
      (met_ok _ _ _ c.in_ok-ino.ensures.each).1;
  same = unchanged_joined c.in_ok-ino.ensures.same c.in_ok-directory.ensures.same;
}
