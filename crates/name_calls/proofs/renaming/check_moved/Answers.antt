use Rattle.std.proofs.Common.{rules, ◌≡◌, false, ap}
use Rattle.fs_layout.specs.declared.inode.Kind.TheVariants as kinds
use Rattle.bit_alloc.proofs.Transactions.{unchanged_nothing}
use Rattle.fs_model.specs.Rules.{is_directory_kind}
use Rattle.call_parts.proofs.Calling.{state_tree}
use Rattle.path_walk.proofs.HeldNodes.{number_below}
use Rattle.call_parts.proofs.Refuses.{passed}
use Rattle.call_parts.specs.Telling.{checked}
use Rattle.name_calls.proofs.ReplaceAsked.{other_moved, same_moved, moved_access, moved_held, moved_denied, moved_met}
use Rattle.name_calls.proofs.renaming.check_moved.Goals as goal

pub returns-then-ne : goal.returns-then-ne
returns-then-ne g c =
    let other : is_directory_kind c.args.inode.now.kind ≡ false = search rules in
    record { each = λ st x. ap checked (other_moved x.2 c.args.walked.now.process other); same = unchanged_nothing }

pub returns-then-first-second : goal.returns-then-first-second
returns-then-first-second g c =
    record { each = λ st x. ap checked (same_moved x.2 c.args.walked.now.process c.if-first-second.true); same = unchanged_nothing }

pub permitted-requires : goal.permitted-requires
permitted-requires g c =
    let x = c.requires.found.1 in
    let r = x.2 in
    let q = c.args.walked.now.process in
    let kind : c.args.inode.now.kind ≡ kinds.Directory = search rules in
    record {
      sound = c.requires.sound;
      there = (x.0, number_below (state_tree r.is_state) x.0 (r.first.found x.0 r.leads), r.inode);
      has = (moved_access r q kind, moved_held r q kind);
    }

pub returns-in_err-permitted : goal.returns-in_err-permitted
returns-in_err-permitted g c =
    let q = c.args.walked.now.process in
    let kind : c.args.inode.now.kind ≡ kinds.Directory = search rules in
    record {
      each = λ st x.
          passed (g.S.Sectors.state c.args.s.now).disk (g.S.Sectors.state c.permitted.new.s).disk _ _ _ c.from_residual.ensures
          (moved_denied x.2 q kind c.if-first-second.false c.cred-cred.ensures) _ (c.in_err-permitted.ensures.each (moved_access x.2 q kind) (moved_held x.2 q kind));
      same = c.in_err-permitted.ensures.same;
    }

pub returns : goal.returns
returns g c =
    let q = c.args.walked.now.process in
    let kind : c.args.inode.now.kind ≡ kinds.Directory = search rules in
    record {
      each = λ st x.
          ap checked (moved_met x.2 q kind c.if-first-second.false c.in_ok-permitted.field-0 c.cred-cred.ensures (c.in_ok-permitted.ensures.each (moved_access x.2 q kind) (moved_held x.2 q kind)));
      same = c.in_ok-permitted.ensures.same;
    }
