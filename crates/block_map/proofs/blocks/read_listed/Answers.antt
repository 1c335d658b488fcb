use Rattle.std.proofs.Common.{sym, ap, ◌∙◌, arith, inr}
use Rattle.block_map.proofs.Numbers.{listed_within}
use Rattle.block_map.proofs.Rewritten.{all_zeros}
use Rattle.block_map.proofs.blocks.read_listed.Goals as goal

pub get-requires-clause-part : goal.get-requires-clause-part
get-requires-clause-part g c =
    let is = c.number-number.ensures (g.S.Sectors.state c.args.s.now).sectors c.requires.listed in
    inr (listed_within (g.S.Sectors.state c.args.s.now).header c.args.inode.now c.args.level c.args.i c.requires.within is c.if-number-eq0.false).0

pub get-requires-clause-on_disk : goal.get-requires-clause-on_disk
get-requires-clause-on_disk g c =
    let is = c.number-number.ensures (g.S.Sectors.state c.args.s.now).sectors c.requires.listed in
    (listed_within (g.S.Sectors.state c.args.s.now).header c.args.inode.now c.args.level c.args.i c.requires.within is c.if-number-eq0.false).1

pub returns-then-number-eq0-clause-number : goal.returns-then-number-eq0-clause-number
returns-then-number-eq0-clause-number g c =
    let is = c.number-number.ensures (g.S.Sectors.state c.args.s.now).sectors c.requires.listed in
    sym c.if-number-eq0.true ∙ is

pub returns-then-number-eq0-clause-content : goal.returns-then-number-eq0-clause-content
returns-then-number-eq0-clause-content g c =
    let is = c.number-number.ensures (g.S.Sectors.state c.args.s.now).sectors c.requires.listed in
    record { is = λ some. absurd (some (sym is ∙ c.if-number-eq0.true)); none = λ none. all_zeros (c.fill.ensures.after (λ y e. e)) (omega arith) }

pub returns-clause-number : goal.returns-clause-number
returns-clause-number g c = c.number-number.ensures (g.S.Sectors.state c.args.s.now).sectors c.requires.listed

pub returns-clause-content : goal.returns-clause-content
returns-clause-content g c =
    let image = (g.S.Sectors.state c.args.s.now).sectors in
    let is = c.number-number.ensures image c.requires.listed in
    record { is = λ some. c.in_ok-get.ensures.content ∙ ap image is; none = λ none. absurd (c.if-number-eq0.false (is ∙ none)) }
