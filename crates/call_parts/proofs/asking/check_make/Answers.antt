use Rattle.std.proofs.Common.{sym}
use Rattle.fs_layout.specs.Images.{inode_at}
use Rattle.fs_layout.specs.Version.{max_directory_size}
use Rattle.fs_model.specs.Demands.{permission_on, write_and_search}
use Rattle.block_map.proofs.Runs.{unchanged_joined}
use Rattle.path_walk.proofs.Kept.{sound_kept}
use Rattle.call_parts.proofs.MakeAsked.{denied_refuses, crowded_refuses, few_later, none_later, make_granted, make_enough, make_some, make_met, answered_as, size_as}
use Rattle.call_parts.proofs.Refuses.{passed, passed_later, refused_by, answered_ok}
use Rattle.call_parts.proofs.asking.check_make.Goals as goal

pub ask_in_directory-requires : goal.ask_in_directory-requires
ask_in_directory-requires g c = c.requires

pub returns-in_err-directory : goal.returns-in_err-directory
returns-in_err-directory g c = record {
  each = λ t h d.
      let old = g.S.Sectors.state c.args.s.now in
      let v = inode_at c.args.caller.now.geometry old.sectors c.args.dir_ino in
      passed old.disk (g.S.Sectors.state c.ask_in_directory.new.s).disk v _ _ c.from_residual.ensures
      (denied_refuses h c.args.dir_ino d c.args.cred.now c.args.step) v (c.in_err-directory.ensures.each t h d);
  same = c.in_err-directory.ensures.same;
}

pub ask_for_sectors-requires : goal.ask_for_sectors-requires
ask_for_sectors-requires g c = (sound_kept c.in_ok-directory.ensures.same c.requires.sound).bitmaps

pub returns-in_err-ask_for_sectors : goal.returns-in_err-ask_for_sectors
returns-in_err-ask_for_sectors g c = record {
  each = λ t h d.
      let asked = c.in_ok-directory.ensures in
      passed_later (g.S.Sectors.state c.ask_for_sectors.new.s).disk _ _ _ c.from_residual-in_err-ask_for_sectors.ensures asked.same
      (few_later h c.args.dir_ino d c.args.cred.now c.args.step asked.same (make_granted h c.args.dir_ino d c.args.cred.now c.args.step _ _ (asked.each t h d))) tt
      c.in_err-ask_for_sectors.ensures.each;
  same = unchanged_joined c.in_ok-directory.ensures.same c.in_err-ask_for_sectors.ensures.same;
}

pub ask_for_inode-requires : goal.ask_for_inode-requires
ask_for_inode-requires g c =
    (sound_kept (unchanged_joined c.in_ok-directory.ensures.same c.in_ok-ask_for_sectors.ensures.same) c.requires.sound).bitmaps

pub returns-in_err-ask_for_inode : goal.returns-in_err-ask_for_inode
returns-in_err-ask_for_inode g c =
    let asked = c.in_ok-directory.ensures in
    let joined = unchanged_joined asked.same c.in_ok-ask_for_sectors.ensures.same in
    record {
      each = λ t h d.
          passed_later (g.S.Sectors.state c.ask_for_inode.new.s).disk _ _ _ c.from_residual-in_err-ask_for_inode.ensures joined
          (none_later h c.args.dir_ino d c.args.cred.now c.args.step joined (make_granted h c.args.dir_ino d c.args.cred.now c.args.step _ _ (asked.each t h d))
          (make_enough h c.args.dir_ino d c.args.cred.now c.args.step asked.same c.in_ok-ask_for_sectors.ensures.each)) tt
          c.in_err-ask_for_inode.ensures.each;
      same = unchanged_joined joined c.in_err-ask_for_inode.ensures.same;
    }

pub returns-in_err-check_names : goal.returns-in_err-check_names
returns-in_err-check_names g c =
    let asked = c.in_ok-directory.ensures in
    let joined = unchanged_joined asked.same c.in_ok-ask_for_sectors.ensures.same in
    record {
      each = λ t h d.
          refused_by (g.S.Sectors.state c.args.s.now).disk (g.S.Sectors.state c.ask_for_inode.new.s).disk _ _ _ c.from_residual-in_err-check_names.ensures
          (crowded_refuses h c.args.dir_ino d c.args.cred.now c.args.step (make_granted h c.args.dir_ino d c.args.cred.now c.args.step _ _ (asked.each t h d))
          (make_enough h c.args.dir_ino d c.args.cred.now c.args.step asked.same c.in_ok-ask_for_sectors.ensures.each)
          (make_some h c.args.dir_ino d c.args.cred.now c.args.step joined c.in_ok-ask_for_inode.ensures.each) (answered_as _ (asked.each t h d)))
          (sym c.in_err-check_names.ensures);
      same = unchanged_joined joined c.in_ok-ask_for_inode.ensures.same;
    }

pub returns : goal.returns
returns g c =
    let asked = c.in_ok-directory.ensures in
    let joined = unchanged_joined asked.same c.in_ok-ask_for_sectors.ensures.same in
    record {
      each = λ t h d.
          let is = answered_as (permission_on c.args.cred.now t c.args.dir_ino write_and_search 1 c.args.step) (asked.each t h d) in
          answered_ok
          (make_met h c.args.dir_ino d c.args.cred.now c.args.step (make_granted h c.args.dir_ino d c.args.cred.now c.args.step _ _ (asked.each t h d))
          (make_enough h c.args.dir_ino d c.args.cred.now c.args.step asked.same c.in_ok-ask_for_sectors.ensures.each)
          (make_some h c.args.dir_ino d c.args.cred.now c.args.step joined c.in_ok-ask_for_inode.ensures.each)
          (size_as (max_directory_size c.args.caller.now.geometry.version) is (sym c.in_ok-check_names.ensures))) (sym is);
      same = unchanged_joined joined c.in_ok-ask_for_inode.ensures.same;
    }
