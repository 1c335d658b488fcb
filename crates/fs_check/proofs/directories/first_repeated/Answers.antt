use Rattle.std.proofs.Common.{sym, ◌∙◌}
use Rattle.fs_layout.specs.Directories.{HaveDistinctNames}
use Rattle.fs_check.proofs.Tests.{refuses}
use Rattle.fs_check.proofs.Tallies.{stays_first, none_yet, is_first}
use Rattle.fs_check.proofs.directories.first_repeated.Goals as goal

pub returns-then-is_some : goal.returns-then-is_some
returns-then-is_some c = λ p m x test. stays_first p m c.args.dir_ino c.args.first (sym c.is_some.ensures ∙ c.if-is_some.true) x

pub returns-then-are_names_apart : goal.returns-then-are_names_apart
returns-then-are_names_apart c = λ p m x test.
    none_yet p m c.args.dir_ino c.args.first (sym c.is_some.ensures ∙ c.if-is_some.false) x (test.0 (c.are_names_apart.ensures.0 c.if-are_names_apart.true))

pub returns : goal.returns
returns c = λ p m x test.
    is_first p m c.args.dir_ino c.args.first (sym c.is_some.ensures ∙ c.if-is_some.false) x
    (λ obeys. refuses (HaveDistinctNames c.args.slots.now) c.are_names_apart.result c.if-are_names_apart.false c.are_names_apart.ensures (test.1 obeys))
