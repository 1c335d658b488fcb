use Rattle.std.proofs.Common.{rules, ◌≡◌, ◌≢◌, sym, ap, subst, ◌∙◌}
use Rattle.fs_layout.specs.declared.inode.Inode.{Inode}
use Rattle.fs_layout.specs.declared.inode.Kind.TheVariants as kinds
use Rattle.bit_alloc.proofs.Transactions.{spare_unchanged}
use Rattle.path_walk.proofs.Kept.{sound_kept}
use Rattle.call_parts.specs.Dropping.{goes}
use Rattle.call_parts.proofs.Leavings.{dropped_after}
use Rattle.call_parts.proofs.changing.leave.Goals as goal

pub drop_node-requires-clause-ready : goal.drop_node-requires-clause-ready
drop_node-requires-clause-ready g c =
    let same = c.in_ok-inode.ensures.same in
    record {
      sound = sound_kept same c.requires.sound;
      spare = spare_unchanged c.args.geometry 1 (g.S.Sectors.state c.args.s.now) (g.S.Sectors.state c.load_inode.new.s) c.requires.spare same;
    }

pub returns-clause-leaves : goal.returns-clause-leaves
returns-clause-leaves g c =
    let found = c.in_ok-inode.ensures.found in
    let none : c.in_ok-inode.inode.names ≡ 0 = search rules in
    let used : c.in_ok-inode.inode.kind ≢ kinds.Free = search rules in
    goes c.if-stays_open.false (sym (ap (λ (v : Inode). v.names) found) ∙ none) (subst (λ (v : Inode). v.kind ≢ kinds.Free) found used)
    (dropped_after c.in_ok-inode.ensures.same c.in_ok-drop_node.ensures.made)
