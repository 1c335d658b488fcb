use Rattle.std.proofs.Common.{◌≡◌, ◌+◌, ◌<◌, ◌-◌, ◌++◌, ℕ, List, length, take, drop, arith, rules, subst, ◌∙◌, length-drop}
use Rattle.std.specs.Prelude.{Contains}
use Rattle.std.specs.List.{slice_split, slice_index}
use Rattle.std.proofs.lemmas.List.{take_all}
use Rattle.fuse_serving.specs.Status.{HasLine, ends_line}
use Rattle.fuse_serving.proofs.Lines.{lines_behind, if_some_then}
use Rattle.fuse_serving.proofs.status.line_of.Goals as goal

pub returns-then-starts_with : goal.returns-then-starts_with
returns-then-starts_with c =
    let start = c.args.start.now in
    let name : take (length start - 1) (drop 1 start) ≡ drop 1 start = take_all (length start - 1) (drop 1 start) (omega (arith, length-drop 1 start)) in
    if_some_then c.first_line_of.result c.first_line_of.ensures (λ rest is. subst (λ (n : List ℕ). HasLine c.args.text.now n rest.now) name is)

pub returns : goal.returns
returns c =
    let found = c.in_ok-at.ensures in
    let text = c.args.text.now in
    let start = c.args.start.now in
    let at = c.in_ok-at.at in
    let name : take (length start - 1) (drop 1 start) ≡ drop 1 start = take_all (length start - 1) (drop 1 start) (omega (arith, length-drop 1 start)) in
    let first : slice_index start 0 ≡ 10 = search rules in
    let below : at < length text = omega (arith, found.1.fits, c.in-10.len_at_least) in
    let same : at + 0 ≡ at = omega arith in
    let byte : slice_index text at ≡ 10 = subst (λ (n : ℕ). slice_index text n ≡ 10) same (found.1.reads 0 (omega (arith, c.in-10.len_at_least)) ∙ first) in
    if_some_then c.first_line_of-2.result c.first_line_of-2.ensures (λ rest is.
    lines_behind text at below byte (drop 1 start ++ rest.now)
    (subst (λ (behind : List ℕ). Contains (slice_split ends_line behind) (drop 1 start ++ rest.now)) c.split_at.ensures.back
    (subst (λ (n : List ℕ). HasLine c.split_at.result.1.now n rest.now) name is)))
