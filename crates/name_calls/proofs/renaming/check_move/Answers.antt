use Rattle.std.proofs.Common.{◌≡◌, sym}
use Rattle.fs_layout.specs.Bytes.{SectorMap}
use Rattle.fs_layout.specs.Images.{inode_at}
use Rattle.fs_model.specs.States.{State}
use Rattle.block_map.proofs.Runs.{unchanged_joined}
use Rattle.call_parts.proofs.Calling.{state_tree}
use Rattle.path_walk.proofs.Kept.{kept, sound_kept}
use Rattle.call_parts.proofs.Refuses.{passed, passed_later, refused_by, tree_kept}
use Rattle.name_calls.specs.Replacing.{Renames}
use Rattle.name_calls.proofs.ReplaceAsked.{MeetsThree, to_rename_kept, permissions_refuse, directory_told, kinds_refuse, below_refuses, replaced_refuses, three_parts, moved_refuses, space_refuses, all_five}
use Rattle.name_calls.proofs.renaming.check_move.Given as given
use Rattle.name_calls.proofs.renaming.check_move.Goals as goal
use Rattle.name_calls.proofs.renaming.check_move.Goals.{After-check_moved}

-- both names, before anything is asked
abbrev Names : (g : given.Over) → goal.After-check_moved g → State → Type 0
Names g c = Renames c.args.caller.now (g.S.Sectors.state c.args.s.now).sectors c.args.walked.now c.args.ino c.args.inode.now c.args.replaced.now

-- what is met before the last two parts
met : (g : given.Over) (c : goal.After-check_moved g) (st : State) → Names g c st → MeetsThree st c.args.walked.now.process c.args.walked.now.first c.args.walked.now.second
met g c st r =
    three_parts r c.args.walked.now.process (c.in_ok-to_directory.ensures.each st (c.args.ino, r)) (sym c.in_ok-check_kinds.ensures)
    (c.in_ok-check_below.ensures.each st.tree (tree_kept c.in_ok-to_directory.ensures.same (state_tree r.is_state)) r.second.directory)
    (sym (c.in_ok-check_replaced.ensures c.args.caller.now.geometry (g.S.Sectors.state c.args.s.now).sectors st.tree c.args.walked.now.second (state_tree r.is_state) r.second.found r.replaced_is))

pub check_permissions-requires : goal.check_permissions-requires
check_permissions-requires g c = let x = c.requires.found in record { sound = c.requires.sound; found = (x.0, (c.args.ino, x.1)) }

pub returns-in_err-to_directory : goal.returns-in_err-to_directory
returns-in_err-to_directory g c = record {
  each = λ st r.
      passed (g.S.Sectors.state c.args.s.now).disk (g.S.Sectors.state c.check_permissions.new.s).disk _ _ _ c.from_residual.ensures
      (permissions_refuse r c.args.walked.now.process) _ (c.in_err-to_directory.ensures.each st (c.args.ino, r));
  same = c.in_err-to_directory.ensures.same;
}

pub returns-in_err-check_kinds : goal.returns-in_err-check_kinds
returns-in_err-check_kinds g c = record {
  each = λ st r.
      refused_by (g.S.Sectors.state c.args.s.now).disk (g.S.Sectors.state c.check_permissions.new.s).disk _ _ _ c.from_residual-in_err-check_kinds.ensures
      (kinds_refuse r c.args.walked.now.process (c.in_ok-to_directory.ensures.each st (c.args.ino, r))) (sym c.in_err-check_kinds.ensures);
  same = c.in_ok-to_directory.ensures.same;
}

pub check_below-requires : goal.check_below-requires
check_below-requires g c =
    let x = c.requires.found in
    let same = c.in_ok-to_directory.ensures.same in
    record { sound = sound_kept same c.requires.sound; there = (x.0.tree, tree_kept same (state_tree x.1.is_state), x.1.second.directory) }

pub returns-in_err-check_below : goal.returns-in_err-check_below
returns-in_err-check_below g c =
    let same = c.in_ok-to_directory.ensures.same in
    record {
      each = λ st r.
          passed_later (g.S.Sectors.state c.check_below.new.s).disk _ _ _ c.from_residual-in_err-check_below.ensures same
          (below_refuses r c.args.walked.now.process (c.in_ok-to_directory.ensures.each st (c.args.ino, r)) (sym c.in_ok-check_kinds.ensures)) tt
          (c.in_err-check_below.ensures.each st.tree (tree_kept same (state_tree r.is_state)) r.second.directory);
      same = unchanged_joined same c.in_err-check_below.ensures.same;
    }

pub returns-in_err-check_replaced : goal.returns-in_err-check_replaced
returns-in_err-check_replaced g c =
    let same = c.in_ok-to_directory.ensures.same in
    record {
      each = λ st r.
          let old = g.S.Sectors.state c.args.s.now in
          let h = state_tree r.is_state in
          refused_by old.disk (g.S.Sectors.state c.check_below.new.s).disk _ _ _ c.from_residual-in_err-check_replaced.ensures
          (replaced_refuses r c.args.walked.now.process (c.in_ok-to_directory.ensures.each st (c.args.ino, r)) (sym c.in_ok-check_kinds.ensures)
          (c.in_ok-check_below.ensures.each st.tree (tree_kept same h) r.second.directory))
          (sym (c.in_err-check_replaced.ensures c.args.caller.now.geometry old.sectors st.tree c.args.walked.now.second h r.second.found r.replaced_is));
      same = unchanged_joined same c.in_ok-check_below.ensures.same;
    }

pub check_moved-requires : goal.check_moved-requires
check_moved-requires g c =
    let x = c.requires.found in
    let joined = unchanged_joined c.in_ok-to_directory.ensures.same c.in_ok-check_below.ensures.same in
    record { sound = sound_kept joined c.requires.sound; found = (x.0, (c.args.ino, c.args.replaced.now, to_rename_kept joined x.1)) }

pub returns-in_err-check_moved : goal.returns-in_err-check_moved
returns-in_err-check_moved g c =
    let joined = unchanged_joined c.in_ok-to_directory.ensures.same c.in_ok-check_below.ensures.same in
    record {
      each = λ st r.
          passed_later (g.S.Sectors.state c.check_moved.new.s).disk _ _ _ c.from_residual-in_err-check_moved.ensures joined
          (moved_refuses (met g (goal.at.returns-in_err-check_moved g c).After-check_moved st r)) tt
          (c.in_err-check_moved.ensures.each st (c.args.ino, c.args.replaced.now, to_rename_kept joined r));
      same = unchanged_joined joined c.in_err-check_moved.ensures.same;
    }

pub check_space-requires : goal.check_space-requires
check_space-requires g c =
    let x = c.requires.found in
    let all = unchanged_joined (unchanged_joined c.in_ok-to_directory.ensures.same c.in_ok-check_below.ensures.same) c.in_ok-check_moved.ensures.same in
    record {
      sound = sound_kept all c.requires.sound;
      directory = kept (λ (m : SectorMap). c.in_ok-to_directory.to_directory ≡ inode_at c.args.caller.now.geometry m c.args.walked.now.second.dir_ino) all
          (directory_told x.1 c.args.walked.now.process (c.in_ok-to_directory.ensures.each x.0 (c.args.ino, x.1)));
    }

pub returns-in_err-check_space : goal.returns-in_err-check_space
returns-in_err-check_space g c =
    let joined = unchanged_joined c.in_ok-to_directory.ensures.same c.in_ok-check_below.ensures.same in
    let all = unchanged_joined joined c.in_ok-check_moved.ensures.same in
    record {
      each = λ st r.
          passed_later (g.S.Sectors.state c.check_space.new.s).disk _ _ _ c.from_residual-in_err-check_space.ensures all
          (space_refuses (met g (goal.at.returns-in_err-check_space g c).After-check_moved st r)
          (c.in_ok-check_moved.ensures.each st (c.args.ino, c.args.replaced.now, to_rename_kept joined r))) tt
          (c.in_err-check_space.ensures.each st (c.args.ino, c.args.inode.now, c.args.replaced.now, to_rename_kept all r));
      same = unchanged_joined all c.in_err-check_space.ensures.same;
    }

pub returns : goal.returns
returns g c =
    let joined = unchanged_joined c.in_ok-to_directory.ensures.same c.in_ok-check_below.ensures.same in
    let all = unchanged_joined joined c.in_ok-check_moved.ensures.same in
    record {
      each = λ st r.
          all_five (met g (goal.at.returns g c).After-check_moved st r)
          (c.in_ok-check_moved.ensures.each st (c.args.ino, c.args.replaced.now, to_rename_kept joined r))
          (c.in_ok-check_space.ensures.each st (c.args.ino, c.args.inode.now, c.args.replaced.now, to_rename_kept all r));
      same = unchanged_joined all c.in_ok-check_space.ensures.same;
    }
