use Rattle.std.proofs.Common.{◌≡◌, ◌-◌, Ok, sym}
use Rattle.fs_layout.specs.Bytes.{SectorMap}
use Rattle.fs_layout.specs.Images.{inode_at}
use Rattle.fs_model.specs.Demands.{first_of}
use Rattle.bit_alloc.proofs.Transactions.{unchanged_joined}
use Rattle.call_parts.proofs.Calling.{met_ok}
use Rattle.path_walk.proofs.Kept.{kept, kept_back, sound_kept}
use Rattle.call_parts.specs.Telling.{checked}
use Rattle.call_parts.specs.Makings.{room_asked}
use Rattle.call_parts.proofs.Refuses.{Refuses, passed, passed_later, refused_by, answered_ok, tree_kept}
use Rattle.name_calls.specs.Linking.{place_asked}
use Rattle.name_calls.proofs.LinkAsked.{place_denied, place_many, place_full, place_met}
use Rattle.name_calls.proofs.making.check_place.Goals as goal

pub ask_directory-requires : goal.ask_directory-requires
ask_directory-requires g c = record { sound = c.requires.sound; there = c.requires.there }

pub returns-in_err-directory : goal.returns-in_err-directory
returns-in_err-directory g c = record {
  each = λ t h d.
      let f = c.args.found.now in
      let old = g.S.Sectors.state c.args.s.now in
      passed old.disk (g.S.Sectors.state c.ask_directory.new.s).disk _ _ _ c.from_residual.ensures
      (place_denied c.args.caller.now.geometry old.sectors c.args.process.now.cred t f.dir_ino (f.step - 1) c.args.names) _ (c.in_err-directory.ensures.each t h d);
  same = c.in_err-directory.ensures.same;
}

pub returns-in_err-check_count : goal.returns-in_err-check_count
returns-in_err-check_count g c = record {
  each = λ t h d.
      let f = c.args.found.now in
      let old = g.S.Sectors.state c.args.s.now in
      let granted = (met_ok _ _ _ (c.in_ok-directory.ensures.each t h d)).0 in
      refused_by old.disk (g.S.Sectors.state c.ask_directory.new.s).disk _ _ _ c.from_residual-in_err-check_count.ensures
      (place_many c.args.caller.now.geometry old.sectors c.args.process.now.cred t f.dir_ino (f.step - 1) c.args.names granted) (sym c.in_err-check_count.ensures);
  same = c.in_ok-directory.ensures.same;
}

pub ask_for_name-requires : goal.ask_for_name-requires
ask_for_name-requires g c = (sound_kept c.in_ok-directory.ensures.same c.requires.sound).bitmaps

pub returns-in_err-ask_for_name : goal.returns-in_err-ask_for_name
returns-in_err-ask_for_name g c = record {
  each = λ t h d.
      let p = c.args.caller.now.geometry in
      let f = c.args.found.now in
      let cred = c.args.process.now.cred in
      let old = g.S.Sectors.state c.args.s.now in
      let same = c.in_ok-directory.ensures.same in
      let both = met_ok _ _ _ (c.in_ok-directory.ensures.each t h d) in
      passed_later (g.S.Sectors.state c.ask_for_name.new.s).disk _ _ _ c.from_residual-in_err-ask_for_name.ensures same
      (kept (λ (m : SectorMap). Refuses (first_of (room_asked p m t f.dir_ino)) (first_of (place_asked p old.sectors cred t f.dir_ino (f.step - 1) c.args.names))) same
      (place_full p old.sectors cred t f.dir_ino (f.step - 1) c.args.names both.0 (sym c.in_ok-check_count.ensures))) tt
      (c.in_err-ask_for_name.ensures.each t f.dir_ino (tree_kept same h) d (kept (λ (m : SectorMap). c.in_ok-directory.directory ≡ inode_at p m f.dir_ino) same (sym both.1)));
  same = unchanged_joined c.in_ok-directory.ensures.same c.in_err-ask_for_name.ensures.same;
}

pub returns : goal.returns
returns g c = record {
  each = λ t h d.
      let p = c.args.caller.now.geometry in
      let f = c.args.found.now in
      let same = c.in_ok-directory.ensures.same in
      let both = met_ok _ _ _ (c.in_ok-directory.ensures.each t h d) in
      answered_ok
      (place_met p (g.S.Sectors.state c.args.s.now).sectors c.args.process.now.cred t f.dir_ino (f.step - 1) c.args.names both.0 (sym c.in_ok-check_count.ensures)
      (kept_back (λ (m : SectorMap). checked (first_of (room_asked p m t f.dir_ino)) ≡ Ok tt) same
      (c.in_ok-ask_for_name.ensures.each t f.dir_ino (tree_kept same h) d (kept (λ (m : SectorMap). c.in_ok-directory.directory ≡ inode_at p m f.dir_ino) same (sym both.1)))))
      both.1;
  same = unchanged_joined c.in_ok-directory.ensures.same c.in_ok-ask_for_name.ensures.same;
}
