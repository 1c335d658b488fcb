use Rattle.std.proofs.Common.{◌≡◌, ℕ, ◌<◌, List, refl, sym, ap, subst, ◌∙◌, inl}
use Rattle.std.specs.Prelude.{IfErr}
use Rattle.fs_model.specs.Parts.{parts_of, start_of}
use Rattle.path_walk.specs.Answers.{Interrupts}
use Rattle.path_walk.proofs.Walking.{start_below}
use Rattle.path_walk.proofs.Kept.{is_err, interrupted, same_ok}
use Rattle.path_walk.proofs.walker.Walker.start.Goals as goal

pub load_inode-requires-clause-below : goal.load_inode-requires-clause-below
load_inode-requires-clause-below g c =
    let is : c.start_of-here.result ≡ start_of (parts_of c.args.path.now) c.args.cwd =
    c.start_of-here.ensures ∙ ap (λ (l : List ℕ). start_of (parts_of l) c.args.cwd) c.bytes-bytes.ensures.all in
    subst (λ (n : ℕ). n < c.args.geometry.inodes) (sym is) (start_below (parts_of c.args.path.now) c.args.geometry c.args.cwd c.requires.sound.consistent.geometry c.requires.below)

pub returns-in_err-inode-clause-err : goal.returns-in_err-inode-clause-err
returns-in_err-inode-clause-err g c =
    let old = g.S.Sectors.state c.args.s.now in
    let new = g.S.Sectors.state c.load_inode.new.s in
    let r = c.from_residual.ensures in
    subst (λ q. IfErr q (Interrupts old.disk new.disk)) (sym (is_err c.from_residual.result c.in_err-inode.field-0.0 r.0 r.1))
    (interrupted old.disk new.disk _ c.in_err-inode.field-0.0 c.in_err-inode.ensures.each)

pub returns-in_default-clause-err : goal.returns-in_default-clause-err
returns-in_default-clause-err g c = inl c.out_of_memory.ensures

pub returns-clause-ok : goal.returns-clause-ok
returns-clause-ok g c = record {
  number_is = refl;
  here = c.start_of-here.ensures ∙ ap (λ (l : List ℕ). start_of (parts_of l) c.args.cwd) c.bytes-bytes.ensures.all;
  rest = c.in-Ok.ensures.items ∙ c.bytes-bytes.ensures.all;
  at = refl;
  slash = c.ends_with_slash.ensures ∙ ap (λ (l : List ℕ). (parts_of l).slash_at_end) c.bytes-bytes.ensures.all;
  links = refl;
  step = refl;
  dir_ino = refl;
  name = c.new.ensures.items;
}

pub returns-clause-at : goal.returns-clause-at
returns-clause-at g c =
    let is : c.start_of-here.result ≡ start_of (parts_of c.args.path.now) c.args.cwd =
    c.start_of-here.ensures ∙ ap (λ (l : List ℕ). start_of (parts_of l) c.args.cwd) c.bytes-bytes.ensures.all in
    record {
      below = subst (λ (n : ℕ). n < c.args.geometry.inodes) (sym is)
          (start_below (parts_of c.args.path.now) c.args.geometry c.args.cwd c.requires.sound.consistent.geometry c.requires.below);
      inode = sym (same_ok _ _ c.in_ok-inode.ensures.each);
    }
