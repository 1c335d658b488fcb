use Rattle.std.proofs.Common.{ℕ, Option, sym, ap, ◌∙◌}
use Rattle.fs_layout.specs.declared.inode.Inode.{Inode}
use Rattle.bit_alloc.proofs.Transactions.{unchanged_nothing, unchanged_joined}
use Rattle.call_parts.proofs.Calling.{met_ok}
use Rattle.path_walk.proofs.HeldNodes.{number_below}
use Rattle.path_walk.proofs.Kept.{sound_kept, interrupted, interrupts_later}
use Rattle.call_parts.specs.Telling.{checked}
use Rattle.call_parts.proofs.Refuses.{passed, refused_by, broken, answered_ok, tree_kept}
use Rattle.call_parts.proofs.Shown.{is_inode}
use Rattle.name_calls.specs.Renaming.{inode_there}
use Rattle.name_calls.proofs.RenameAsked.{ends_refuse, first_absent, slashes_refuse, slashes_are, replaced_told, names_met}
use Rattle.name_calls.proofs.renaming.check_renamed.Goals as goal

pub returns-in_err-check_ends : goal.returns-in_err-check_ends
returns-in_err-check_ends g c = record {
  each = λ t h there.
      let disk = (g.S.Sectors.state c.args.s.now).disk in
      refused_by disk disk _ _ _ c.from_residual.ensures (ends_refuse t c.args.first.now c.args.second.now) (sym c.in_err-check_ends.ensures);
  same = unchanged_nothing;
}

pub inode_found-requires : goal.inode_found-requires
inode_found-requires g c = let x = c.requires.there in record { sound = c.requires.sound; below = λ n some. number_below x.1 n (x.2.first n some) }

pub returns-in_err-ino : goal.returns-in_err-ino
returns-in_err-ino g c = record {
  each = λ t h there.
      passed (g.S.Sectors.state c.args.s.now).disk (g.S.Sectors.state c.inode_found.new.s).disk _ _ _ c.from_residual-in_err-ino.ensures
      (first_absent t c.args.first.now c.args.second.now (sym c.in_ok-check_ends.ensures)) _ c.in_err-ino.ensures.each;
  same = c.in_err-ino.ensures.same;
}

pub inode_replaced-requires : goal.inode_replaced-requires
inode_replaced-requires g c =
    let x = c.requires.there in
    let same = c.in_ok-ino.ensures.same in
    record { sound = sound_kept same c.requires.sound; there = (x.0, tree_kept same x.1, x.2.second) }

pub returns-in_err-replaced : goal.returns-in_err-replaced
returns-in_err-replaced g c = record {
  each = λ t h there.
      let mid = g.S.Sectors.state c.inode_found.new.s in
      let new = (g.S.Sectors.state c.inode_replaced.new.s).disk in
      broken (g.S.Sectors.state c.args.s.now).disk new _ _ _ c.from_residual-in_err-replaced.ensures
      (interrupts_later new c.in_ok-ino.ensures.same (interrupted mid.disk new (inode_there c.args.geometry mid.sectors c.args.second.now.ino) _ (c.in_err-replaced.ensures.each t (tree_kept c.in_ok-ino.ensures.same h) there.second)));
  same = unchanged_joined c.in_ok-ino.ensures.same c.in_err-replaced.ensures.same;
}

pub returns-in_err-check_slashes : goal.returns-in_err-check_slashes
returns-in_err-check_slashes g c = record {
  each = λ t h there.
      let old = g.S.Sectors.state c.args.s.now in
      let b = c.args.second.now in
      let k = is_inode c.args.geometry old.sectors c.args.first.now c.in_ok-ino.ino c.in_ok-ino.inode c.in_ok-ino.ensures.each in
      let is = replaced_told c.args.geometry b.ino c.in_ok-replaced.replaced c.in_ok-ino.ensures.same (c.in_ok-replaced.ensures.each t (tree_kept c.in_ok-ino.ensures.same h) there.second) in
      refused_by old.disk (g.S.Sectors.state c.inode_replaced.new.s).disk _ _ _ c.from_residual-in_err-check_slashes.ensures
      (slashes_refuse t c.args.first.now b (sym c.in_ok-check_ends.ensures) k.met) (ap checked (slashes_are h k there.first b there.second is) ∙ sym c.in_err-check_slashes.ensures);
  same = unchanged_joined c.in_ok-ino.ensures.same c.in_ok-replaced.ensures.same;
}

pub returns : goal.returns
returns g c = record {
  each = λ t h there.
      let a = c.args.first.now in
      let b = c.args.second.now in
      let old = (g.S.Sectors.state c.args.s.now).sectors in
      let k = is_inode c.args.geometry old a c.in_ok-ino.ino c.in_ok-ino.inode c.in_ok-ino.ensures.each in
      let is = replaced_told c.args.geometry b.ino c.in_ok-replaced.replaced c.in_ok-ino.ensures.same (c.in_ok-replaced.ensures.each t (tree_kept c.in_ok-ino.ensures.same h) there.second) in
      answered_ok (names_met t a b (sym c.in_ok-check_ends.ensures) k.met (ap checked (slashes_are h k there.first b there.second is) ∙ sym c.in_ok-check_slashes.ensures))
      (ap (λ (x : ℕ × Inode). (x.0, x.1, inode_there c.args.geometry old b.ino)) (met_ok _ _ _ c.in_ok-ino.ensures.each).1
      ∙ ap (λ (w : Option (ℕ × Inode)). (c.in_ok-ino.ino, c.in_ok-ino.inode, w)) (sym is));
  same = unchanged_joined c.in_ok-ino.ensures.same c.in_ok-replaced.ensures.same;
}
