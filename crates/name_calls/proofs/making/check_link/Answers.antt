use Rattle.std.proofs.Common.{◌≡◌, ◌-◌, ℕ, Ok, sym, ap, ◌∙◌}
use Rattle.fs_layout.specs.declared.inode.Inode.{Inode}
use Rattle.fs_layout.specs.Bytes.{SectorMap}
use Rattle.fs_layout.specs.Images.{inode_at}
use Rattle.fs_model.specs.Demands.{first_of}
use Rattle.fs_model.specs.NameCalls.{link_demands}
use Rattle.block_map.proofs.Runs.{unchanged_joined}
use Rattle.path_walk.specs.Answers.{refused_or}
use Rattle.call_parts.proofs.Calling.{state_tree, met_ok}
use Rattle.path_walk.proofs.Kept.{kept, kept_back, sound_kept}
use Rattle.call_parts.proofs.Refuses.{Refuses, passed, passed_later, refused_by, answered_ok, tree_kept}
use Rattle.name_calls.specs.Linking.{place_asked}
use Rattle.call_parts.specs.TwoPaths.{scene_with}
use Rattle.name_calls.proofs.BornLinks.{is_link_name}
use Rattle.call_parts.proofs.FoundBoth.{first_there}
use Rattle.name_calls.proofs.LinkAsked.{source_refuses, name_refuses, place_refuses, link_asked_met, source_inode}
use Rattle.name_calls.proofs.Linkings.{name_dir}
use Rattle.name_calls.proofs.making.check_link.Goals as goal

pub check_source-requires : goal.check_source-requires
check_source-requires g c = let x = c.requires.found in record { sound = c.requires.sound; there = (x.0.tree, state_tree x.1.is_state, first_there x.1) }

pub returns-in_err-ino : goal.returns-in_err-ino
returns-in_err-ino g c = record {
  each = λ st i.
      passed (g.S.Sectors.state c.args.s.now).disk (g.S.Sectors.state c.check_source.new.s).disk _ _ _ c.from_residual.ensures (source_refuses i) _
      (c.in_err-ino.ensures.each st.tree (state_tree i.is_state) (first_there i));
  same = c.in_err-ino.ensures.same;
}

pub returns-in_err-check_link_name : goal.returns-in_err-check_link_name
returns-in_err-check_link_name g c = record {
  each = λ st i.
      let met = (met_ok _ _ _ (c.in_ok-ino.ensures.each st.tree (state_tree i.is_state) (first_there i))).0 in
      refused_by (g.S.Sectors.state c.args.s.now).disk (g.S.Sectors.state c.check_source.new.s).disk _ _ _ c.from_residual-in_err-check_link_name.ensures
      (name_refuses i met) (sym c.in_err-check_link_name.ensures);
  same = c.in_ok-ino.ensures.same;
}

pub check_place-requires : goal.check_place-requires
check_place-requires g c =
    let x = c.requires.found in
    let same = c.in_ok-ino.ensures.same in
    record {
      sound = sound_kept same c.requires.sound;
      there = (x.0.tree, tree_kept same (state_tree x.1.is_state), name_dir x.1 (is_link_name c.args.walked.now.second (sym c.in_ok-check_link_name.ensures)).0);
    }

pub returns-in_err-directory : goal.returns-in_err-directory
returns-in_err-directory g c = record {
  each = λ st i.
      let p = c.args.caller.now.geometry in
      let h = c.args.walked.now.second in
      let q = c.args.walked.now.process in
      let same = c.in_ok-ino.ensures.same in
      let source = source_inode st.tree c.args.walked.now.first p (g.S.Sectors.state c.args.s.now).sectors (c.in_ok-ino.ensures.each st.tree (state_tree i.is_state) (first_there i)) in
      let name = (is_link_name h (sym c.in_ok-check_link_name.ensures)).0 in
      passed_later (g.S.Sectors.state c.check_place.new.s).disk _ _ _ c.from_residual-in_err-directory.ensures same
      (kept (λ (m : SectorMap). Refuses (first_of (place_asked p m q.cred st.tree h.dir_ino (h.step - 1) c.in_ok-ino.inode.names)) (first_of (link_demands (scene_with st q c.args.walked.now.first h)))) same
      (place_refuses i source.0 name source.1)) _
      (c.in_err-directory.ensures.each st.tree (tree_kept same (state_tree i.is_state)) (name_dir i name));
  same = unchanged_joined c.in_ok-ino.ensures.same c.in_err-directory.ensures.same;
}

pub returns : goal.returns
returns g c = record {
  each = λ st i.
      let p = c.args.caller.now.geometry in
      let f = c.args.walked.now.first in
      let h = c.args.walked.now.second in
      let old = (g.S.Sectors.state c.args.s.now).sectors in
      let same = c.in_ok-ino.ensures.same in
      let told = c.in_ok-ino.ensures.each st.tree (state_tree i.is_state) (first_there i) in
      let source = source_inode st.tree f p old told in
      let name = (is_link_name h (sym c.in_ok-check_link_name.ensures)).0 in
      let last = met_ok {A = Inode} (first_of (place_asked p old c.args.walked.now.process.cred st.tree h.dir_ino (h.step - 1) c.in_ok-ino.inode.names)) (inode_at p old h.dir_ino) c.in_ok-directory.directory
      (kept_back (λ (m : SectorMap). refused_or {A = Inode} (first_of (place_asked p m c.args.walked.now.process.cred st.tree h.dir_ino (h.step - 1) c.in_ok-ino.inode.names)) (Ok (inode_at p m h.dir_ino)) ≡ Ok c.in_ok-directory.directory)
      same (c.in_ok-directory.ensures.each st.tree (tree_kept same (state_tree i.is_state)) (name_dir i name))) in
      answered_ok (link_asked_met i source.0 name source.1 last.0)
      (ap (λ (x : ℕ × Inode). (x.0, x.1, inode_at p old h.dir_ino)) (met_ok {A = ℕ × Inode} _ _ _ told).1 ∙ ap (λ (w : Inode). (c.in_ok-ino.ino, c.in_ok-ino.inode, w)) last.1);
  same = unchanged_joined c.in_ok-ino.ensures.same c.in_ok-directory.ensures.same;
}
