use Rattle.std.proofs.Common.{rules, ap, inr, sym, ◌∙◌, Option, Some, Ok, ℕ}
use Rattle.fs_layout.specs.declared.inode.Inode.{Inode}
use Rattle.bit_alloc.proofs.Transactions.{unchanged_nothing}
use Rattle.path_walk.proofs.HeldNodes.{number_below}
use Rattle.call_parts.proofs.Refuses.{broken}
use Rattle.name_calls.specs.Renaming.{inode_there}
use Rattle.name_calls.proofs.renaming.inode_replaced.Goals as goal

pub returns-in_default : goal.returns-in_default
returns-in_default g c = record { each = λ t h there. search rules; same = unchanged_nothing }

pub load_inode-requires : goal.load_inode-requires
load_inode-requires g c =
    let x = c.requires.there in
    record { sound = c.requires.sound; below = number_below x.1 c.in-Some.ino (x.2 c.in-Some.ino c.in-Some.is) }

pub returns-in_err-inode : goal.returns-in_err-inode
returns-in_err-inode g c = record {
  each = λ t h there.
      broken (g.S.Sectors.state c.args.s.now).disk (g.S.Sectors.state c.load_inode.new.s).disk _ _ _ c.from_residual.ensures (inr c.in_err-inode.ensures.fault);
  same = c.in_err-inode.ensures.same;
}

pub returns : goal.returns
returns g c = record {
  each = λ t h there.
      ap (λ (o : Option ℕ). Ok (inode_there c.args.geometry (g.S.Sectors.state c.args.s.now).sectors o)) c.in-Some.is
      ∙ ap (λ (v : Inode). Ok (Some (c.in-Some.ino, v))) (sym c.in_ok-inode.ensures.found);
  same = c.in_ok-inode.ensures.same;
}
