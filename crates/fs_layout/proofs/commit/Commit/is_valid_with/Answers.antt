use Rattle.std.proofs.Common.{sym, subst, arith}
use Rattle.fs_layout.specs.Commit.{AreDistinct, AreTargets}
use Rattle.fs_layout.proofs.commit.Commit.is_valid_with.Goals as goal

pub returns : goal.returns
returns c =
    let is = c.targets-targets.ensures.value in (
      λ apart. subst (λ targets. AreTargets c.args.header c.args.sectors targets) is (record {
        few = omega (arith, c.max_targets.ensures);
        in_range = λ k d lt. c.loop-target.invariant k d (omega arith);
        apart = c.are_apart.ensures.0 apart;
      }),
      λ are. c.are_apart.ensures.1 (subst (λ targets. AreDistinct targets) (sym is) are.apart),
    )
