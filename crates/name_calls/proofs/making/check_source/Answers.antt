use Rattle.std.proofs.Common.{sym}
use Rattle.call_parts.proofs.Calling.{met_ok}
use Rattle.path_walk.proofs.HeldNodes.{number_below}
use Rattle.call_parts.proofs.Refuses.{passed, refused_by, answered_ok}
use Rattle.call_parts.proofs.Shown.{is_inode}
use Rattle.name_calls.proofs.LinkAsked.{node_found, source_absent, source_other, source_all_met}
use Rattle.name_calls.proofs.making.check_source.Goals as goal

pub inode_found-requires : goal.inode_found-requires
inode_found-requires g c = let x = c.requires.there in record { sound = c.requires.sound; below = λ n some. number_below x.1 n (x.2 n some) }

pub returns-in_err-ino : goal.returns-in_err-ino
returns-in_err-ino g c = record {
  each = λ t h there.
      passed (g.S.Sectors.state c.args.s.now).disk (g.S.Sectors.state c.inode_found.new.s).disk _ _ _ c.from_residual.ensures
      (source_absent t c.args.found.now) _ c.in_err-ino.ensures.each;
  same = c.in_err-ino.ensures.same;
}

pub returns-in_err-check_kind : goal.returns-in_err-check_kind
returns-in_err-check_kind g c = record {
  each = λ t h there.
      let old = g.S.Sectors.state c.args.s.now in
      let i = is_inode c.args.geometry old.sectors c.args.found.now c.in_ok-ino.ino c.in_ok-ino.inode c.in_ok-ino.ensures.each in
      refused_by old.disk (g.S.Sectors.state c.inode_found.new.s).disk _ _ _ c.from_residual-in_err-check_kind.ensures
      (source_other t c.args.found.now i (node_found h i there)) (sym c.in_err-check_kind.ensures);
  same = c.in_ok-ino.ensures.same;
}

pub returns : goal.returns
returns g c = record {
  each = λ t h there.
      let f = c.args.found.now in
      let i = is_inode c.args.geometry (g.S.Sectors.state c.args.s.now).sectors f c.in_ok-ino.ino c.in_ok-ino.inode c.in_ok-ino.ensures.each in
      answered_ok (source_all_met t f i (node_found h i there) (sym c.in_ok-check_kind.ensures)) (met_ok _ _ _ c.in_ok-ino.ensures.each).1;
  same = c.in_ok-ino.ensures.same;
}
