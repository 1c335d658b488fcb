use Rattle.std.specs.Prelude.{ℕ, ◌==◌}
use Rattle.std.proofs.Common.{ap}
use Rattle.std.proofs.lemmas.Bool.{ne_eqb}
use Rattle.fuse_steps.proofs.Steps.{machine-ok, machine-attempts, machine-result, machine-true, machine-false, machine-gives}
use Rattle.fuse_steps.proofs.directory.nothing_to_replace.Goals as goal

pub returns-then-flags-eq0-clause-did : goal.returns-then-flags-eq0-clause-did
returns-then-flags-eq0-clause-did g c = machine-true _ _ (ap (λ (n : ℕ). n == 0) c.if-flags-eq0.true) (machine-gives _ _)

pub returns-clause-did : goal.returns-clause-did
returns-clause-did g c =
    machine-false _ _ (ne_eqb _ _ c.if-flags-eq0.false) (machine-ok _ (machine-attempts _ c.inside.ensures) (machine-result c.none_there-there.ensures))
