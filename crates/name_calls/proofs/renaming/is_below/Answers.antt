use Rattle.std.proofs.Common.{◌≡◌, ◌<◌, ◌⊎◌, length, Bool, Ok, sym, ap, subst, ◌∙◌, inl, inr}
use Rattle.fs_layout.specs.declared.inode.Inode.{Inode}
use Rattle.fs_layout.specs.Bytes.{SectorMap}
use Rattle.fs_layout.specs.Images.{inode_at}
use Rattle.fs_model.specs.Limits.{root}
use Rattle.fs_model.specs.Trees.{is_within, IsDirectoryAt}
use Rattle.block_map.proofs.Runs.{unchanged_joined}
use Rattle.path_walk.proofs.HeldNodes.{number_below, is_there}
use Rattle.path_walk.proofs.Kept.{kept_back, sound_kept, interrupts_later}
use Rattle.call_parts.proofs.Refuses.{broken}
use Rattle.name_calls.proofs.Upward.{height, way_ends, field_up, field_one_up, lower}
use Rattle.name_calls.proofs.renaming.is_below.Goals as goal
use Rattle.name_calls.proofs.renaming.is_below.Goals.{then-loop-at-test+else-at-ne-ROOT, else-loop-at-test}

pub load_inode-requires-clause-sound : goal.load_inode-requires-clause-sound
load_inode-requires-clause-sound g c = sound_kept c.loop-at.invariant.same c.requires.sound

pub load_inode-requires-clause-below : goal.load_inode-requires-clause-below
load_inode-requires-clause-below g c =
    let x = c.requires.there in
    let d = (c.loop-at.invariant.each x.0 x.1 x.2).0 in
    number_below x.1 c.loop-at.at (is_there x.0 c.loop-at.at d.node d.is_there)

pub loop-at-smaller : goal.loop-at-smaller
loop-at-smaller g c =
    let x = c.requires.there in
    let p = c.args.geometry in
    let old = g.S.Sectors.state c.args.s.now in
    let inv = c.loop-at.invariant in
    let at = c.loop-at.at in
    let v = c.in_ok-at.field-0 in
    let is = kept_back (λ (m : SectorMap). v ≡ inode_at p m at) inv.same c.in_ok-at.ensures.found in
    subst (λ (w : Inode). height p old.sectors p.inodes w.parent < height p old.sectors p.inodes at) (sym is)
    (lower x.1 at (inv.each x.0 x.1 x.2).0 c.if-at-ne-ROOT.true)

pub loop-at-preserved : goal.loop-at-preserved
loop-at-preserved g c =
    let inv = c.loop-at.invariant in
    let at = c.loop-at.at in
    let v = c.in_ok-at.field-0 in
    let is = kept_back (λ (m : SectorMap). v ≡ inode_at c.args.geometry m at) inv.same c.in_ok-at.ensures.found in
    record {
      same = unchanged_joined inv.same c.in_ok-at.ensures.same;
      each = λ t h d.
          let e = inv.each t h d in (
            subst (λ (w : Inode). IsDirectoryAt t w.parent) (sym is) (field_up h at e.0 c.if-at-ne-ROOT.true),
            e.1 ∙ field_one_up h c.args.ino at e.0 c.loop-at-test.true c.if-at-ne-ROOT.true
                ∙ ap (λ (w : Inode). is_within (length t) t c.args.ino w.parent) (sym is),
          );
    }

pub returns-in_err-at-clause-told : goal.returns-in_err-at-clause-told
returns-in_err-at-clause-told g c =
    let new = (g.S.Sectors.state c.load_inode.new.s).disk in
    let same = c.loop-at.invariant.same in
    record {
      each = λ t h d.
          broken (g.S.Sectors.state c.args.s.now).disk new _ _ _ c.from_residual.ensures (interrupts_later new same (inr c.in_err-at.ensures.fault));
      same = unchanged_joined same c.in_err-at.ensures.same;
    }

pub returns-clause-told : goal.returns-clause-told
returns-clause-told g c = record {
  each = λ t h d.
      let at = c.loop-at.at in
      let end : (at ≡ c.args.ino) ⊎ (at ≡ root) = elim c.loop-at-test.branch [
        | then-loop-at-test+else-at-ne-ROOT w ↦ inr w.if-at-ne-ROOT.false
        | else-loop-at-test w ↦ inl w.loop-at-test.false
      ] in
      ap (λ (b : Bool). Ok b) ((c.loop-at.invariant.each t h d).1 ∙ way_ends t c.args.ino (length t) at end);
  same = c.loop-at.invariant.same;
}
