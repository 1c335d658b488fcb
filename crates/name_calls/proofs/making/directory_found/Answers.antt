use Rattle.std.proofs.Common.{◌≡◌, sym}
use Rattle.fs_layout.specs.Images.{inode_at}
use Rattle.block_map.proofs.Runs.{unchanged_joined}
use Rattle.path_walk.proofs.HeldNodes.{number_below}
use Rattle.path_walk.proofs.Kept.{kept, sound_kept}
use Rattle.call_parts.proofs.Refuses.{passed, passed_later, refused_by, answered_ok}
use Rattle.call_parts.proofs.Shown.{is_inode}
use Rattle.name_calls.proofs.Entered.{absent_refuses, other_kind_refuses, searchable, search_refuses, entered}
use Rattle.name_calls.proofs.making.directory_found.Goals as goal

pub inode_found-requires : goal.inode_found-requires
inode_found-requires g c = let x = c.requires.there in record { sound = c.requires.sound; below = λ n some. number_below x.1 n (x.2 n some) }

pub returns-in_err-ino : goal.returns-in_err-ino
returns-in_err-ino g c = record {
  each = λ t h there.
      passed (g.S.Sectors.state c.args.s.now).disk (g.S.Sectors.state c.inode_found.new.s).disk _ _ _ c.from_residual.ensures
      (absent_refuses c.args.cred.now t c.args.found.now) _ c.in_err-ino.ensures.each;
  same = c.in_err-ino.ensures.same;
}

pub returns-in_err-check_is_directory : goal.returns-in_err-check_is_directory
returns-in_err-check_is_directory g c = record {
  each = λ t h there.
      let old = g.S.Sectors.state c.args.s.now in
      let i = is_inode c.args.caller.now.geometry old.sectors c.args.found.now c.in_ok-ino.ino c.in_ok-ino.inode c.in_ok-ino.ensures.each in
      refused_by old.disk (g.S.Sectors.state c.inode_found.new.s).disk _ _ _ c.from_residual-in_err-check_is_directory.ensures
      (other_kind_refuses h _ _ _ i (there _ i.some) c.args.cred.now) (sym c.in_err-check_is_directory.ensures);
  same = c.in_ok-ino.ensures.same;
}

pub search-requires : goal.search-requires
search-requires g c =
    let x = c.requires.there in
    let n = c.in_ok-ino.ino in
    let v = c.in_ok-ino.inode in
    let same = c.in_ok-ino.ensures.same in
    let i = is_inode c.args.caller.now.geometry (g.S.Sectors.state c.args.s.now).sectors c.args.found.now n v c.in_ok-ino.ensures.each in
    record {
      sound = sound_kept same c.requires.sound;
      there = (n, number_below x.1 n (x.2 n i.some), kept (λ m. v ≡ inode_at c.args.caller.now.geometry m n) same i.inode);
      has = (_, searchable same x.1 i (x.2 _ i.some) c.args.cred.now (sym c.in_ok-check_is_directory.ensures));
    }

pub returns-in_err-search : goal.returns-in_err-search
returns-in_err-search g c =
    let same = c.in_ok-ino.ensures.same in
    record {
      each = λ t h there.
          let is = sym c.in_ok-check_is_directory.ensures in
          let i = is_inode c.args.caller.now.geometry (g.S.Sectors.state c.args.s.now).sectors c.args.found.now c.in_ok-ino.ino c.in_ok-ino.inode c.in_ok-ino.ensures.each in
          passed_later (g.S.Sectors.state c.search.new.s).disk _ _ _ c.from_residual-in_err-search.ensures same
          (search_refuses h _ _ _ i (there _ i.some) c.args.cred.now is) tt (c.in_err-search.ensures.each _ (searchable same h i (there _ i.some) c.args.cred.now is));
      same = unchanged_joined same c.in_err-search.ensures.same;
    }

pub returns : goal.returns
returns g c =
    let same = c.in_ok-ino.ensures.same in
    record {
      each = λ t h there.
          let is = sym c.in_ok-check_is_directory.ensures in
          let i = is_inode c.args.caller.now.geometry (g.S.Sectors.state c.args.s.now).sectors c.args.found.now c.in_ok-ino.ino c.in_ok-ino.inode c.in_ok-ino.ensures.each in
          answered_ok
          (entered h _ _ _ i (there _ i.some) c.args.cred.now is (c.in_ok-search.ensures.each _ (searchable same h i (there _ i.some) c.args.cred.now is))) i.number;
      same = unchanged_joined same c.in_ok-search.ensures.same;
    }
