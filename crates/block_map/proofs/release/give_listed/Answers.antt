use Rattle.std.proofs.Common.{◌≡◌, ◌+◌, ◌-◌, ◌<◌, ℕ, List, length, take, ◌∙◌, arith}
use Rattle.std.proofs.lemmas.List.{get_or-take, length-set, length-take-le}
use Rattle.fs_layout.specs.Images.{number_on}
use Rattle.block_map.proofs.Givings.{listed_inside, numbers_given, one_listed}
use Rattle.block_map.proofs.release.give_listed.Goals as goal

pub loop-i-preserved : goal.loop-i-preserved
loop-i-preserved g c =
    let old = g.S.Sectors.state c.args.s.now in
    let v = c.args.inode.now in
    let level = c.args.level in
    let first = c.args.first in
    let few = c.requires.few in
    let most = few.1 in
    let x = c.loop-i.invariant in
    let i : ℕ = c.loop-i.i in
    let numbers : List ℕ = c.loop-i.numbers in
    let n : ℕ = c.number.result in
    let low : i < length numbers = omega (arith, c.loop-i-test.true, x.long, most) in
    let is : n ≡ number_on old.sectors v level (first + i) =
    c.number.ensures old.sectors (c.requires.listed (first + i) (omega arith) (omega (arith, c.loop-i-test.true))) in
    record {
      most = omega (arith, c.loop-i-test.true);
      long = length-set numbers i n ∙ x.long;
      each = one_listed numbers i n (λ j. number_on old.sectors v level (first + j)) low is x.each;
    }

pub give_all-requires-clause-numbers : goal.give_all-requires-clause-numbers
give_all-requires-clause-numbers g c =
    let old = g.S.Sectors.state c.args.s.now in
    let most = c.requires.few.1 in
    let x = c.loop-i.invariant in
    let count : ℕ = c.args.end - c.args.first in
    let len : length (take count c.loop-i.numbers) ≡ count = length-take-le count c.loop-i.numbers (omega (arith, most, x.long)) in
    listed_inside c.args.geometry c.args.inode.now c.args.level c.args.first c.requires.inside
    (λ i lt. get_or-take count c.loop-i.numbers i 0 (omega (arith, lt, len)) ∙ x.each i (omega (arith, lt, len, c.loop-i-test.false)))

pub returns-clause-given : goal.returns-clause-given
returns-clause-given g c =
    let old = g.S.Sectors.state c.args.s.now in
    let few = c.requires.few.0 in
    let most = c.requires.few.1 in
    let x = c.loop-i.invariant in
    let count : ℕ = c.args.end - c.args.first in
    let len : length (take count c.loop-i.numbers) ≡ count = length-take-le count c.loop-i.numbers (omega (arith, most, x.long)) in
    numbers_given c.requires.inside (omega (arith, few, len))
    (λ i lt. get_or-take count c.loop-i.numbers i 0 (omega (arith, lt, len)) ∙ x.each i (omega (arith, lt, len, c.loop-i-test.false)))
    c.in_ok-give_all.ensures.bitmaps c.in_ok-give_all.ensures.given c.in_ok-give_all.ensures.puts
