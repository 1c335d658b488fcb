use Rattle.std.proofs.Common.{[], sym}
use Rattle.bit_alloc.proofs.Transactions.{unchanged_nothing}
use Rattle.call_parts.proofs.Calling.{state_tree, met_ok}
use Rattle.call_parts.proofs.Refuses.{passed, refused_by, answered_ok}
use Rattle.name_calls.proofs.RemovalRows.{name_told, last_refuses, removal_refuses, target_refuses, all_told, node_held, inode_told}
use Rattle.name_calls.proofs.removal.check_target.Goals as goal

pub returns-in_err-check_last : goal.returns-in_err-check_last
returns-in_err-check_last g c = record {
  each = λ st i.
      let disk = (g.S.Sectors.state c.args.s.now).disk in
      refused_by disk disk _ _ _ c.from_residual.ensures (last_refuses i c.args.what) (sym c.in_err-check_last.ensures);
  same = unchanged_nothing;
}

pub check_removal-requires : goal.check_removal-requires
check_removal-requires g c =
    let x = c.requires.found in
    record { sound = c.requires.sound; there = (x.0.tree, state_tree x.1.is_state, name_told x.1 c.args.what (sym c.in_ok-check_last.ensures)) }

pub returns-in_err-ino : goal.returns-in_err-ino
returns-in_err-ino g c = record {
  each = λ st i.
      let first = sym c.in_ok-check_last.ensures in
      passed (g.S.Sectors.state c.args.s.now).disk (g.S.Sectors.state c.check_removal.new.s).disk _ _ _ c.from_residual-in_err-ino.ensures
      (removal_refuses i c.args.what first) _ (c.in_err-ino.ensures.each st.tree (state_tree i.is_state) (name_told i c.args.what first));
  same = c.in_err-ino.ensures.same;
}

pub returns-in_err-check_kind : goal.returns-in_err-check_kind
returns-in_err-check_kind g c = record {
  each = λ st i.
      let old = g.S.Sectors.state c.args.s.now in
      let first = sym c.in_ok-check_last.ensures in
      let told = c.in_ok-ino.ensures.each st.tree (state_tree i.is_state) (name_told i c.args.what first) in
      let k = inode_told i [] [] told in
      refused_by old.disk (g.S.Sectors.state c.check_removal.new.s).disk _ _ _ c.from_residual-in_err-check_kind.ensures
      (target_refuses i k c.args.what first (met_ok _ _ _ told).0) (sym (c.in_err-check_kind.ensures c.args.caller.now.geometry.version old.sectors _ (node_held i k)));
  same = c.in_ok-ino.ensures.same;
}

pub returns : goal.returns
returns g c = record {
  each = λ st i.
      let first = sym c.in_ok-check_last.ensures in
      let told = c.in_ok-ino.ensures.each st.tree (state_tree i.is_state) (name_told i c.args.what first) in
      let k = inode_told i [] [] told in
      answered_ok (all_told i k c.args.what first (met_ok _ _ _ told).0 (sym (c.in_ok-check_kind.ensures c.args.caller.now.geometry.version (g.S.Sectors.state c.args.s.now).sectors _ (node_held i k))))
      (met_ok _ _ _ told).1;
  same = c.in_ok-ino.ensures.same;
}
