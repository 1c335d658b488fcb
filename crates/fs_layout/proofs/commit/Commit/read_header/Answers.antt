use Rattle.std.proofs.Common.{◌+◌, ◌*◌, arith, ap, ◌∙◌, length, get_or}
use Rattle.std.proofs.lemmas.List.{length-take}
use Rattle.fs_layout.proofs.HeaderLaw.{read_at, read_before, read_count}
use Rattle.fs_layout.proofs.commit.Commit.read_header.Goals as goal

pub returns-clause-read : goal.returns-clause-read
returns-clause-read c = λ k low lt.
    let inside = c.self.inside in
    let few = ap length c.self.view_is in
    read_at inside.count (126 + 128 * c.args.at) 128 _ k inside.targets c.get_u32s.new.to c.args.from.now (omega (arith, c.self.told, c.requires)) (omega arith) c.get_u32s.ensures (omega (arith, low))
    (omega (arith, lt, few, length-take inside.count inside.targets))

pub returns-clause-count : goal.returns-clause-count
returns-clause-count c =
    let inside = c.self.inside in
    read_count inside.count (126 + 128 * c.args.at) 128 _ inside.targets c.get_u32s.new.to c.args.from.now
    (omega (arith, c.self.told, c.requires)) (omega arith) c.get_u32s.ensures
    ∙ ap length c.self.view_is

pub returns-clause-before : goal.returns-clause-before
returns-clause-before c = λ i low.
    let inside = c.self.inside in
    read_before inside.count (126 + 128 * c.args.at) _ i inside.targets c.get_u32s.new.to
    (omega (arith, c.self.told, c.requires)) low
    ∙ ap (λ targets. get_or targets i 0) c.self.view_is
