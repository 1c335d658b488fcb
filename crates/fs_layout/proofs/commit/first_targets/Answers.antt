use Rattle.std.proofs.Common.{arith, sym}
use Rattle.std.proofs.lemmas.List.{take_all}
use Rattle.fs_layout.proofs.commit.first_targets.Goals as goal

pub returns-then-targets-lt-MAX_TARGETS-clause-first : goal.returns-then-targets-lt-MAX_TARGETS-clause-first
returns-then-targets-lt-MAX_TARGETS-clause-first c = sym (take_all 126 c.args.targets.now (omega (arith, c.if-targets-lt-MAX_TARGETS.true)))
