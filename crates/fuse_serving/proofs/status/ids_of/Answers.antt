use Rattle.std.proofs.Common.{◌≡◌, ◌<◌, [], List, ℕ, length, arith, rules, tests, subst}
use Rattle.std.proofs.lemmas.Iterator.Consumers.{YieldsList-end}
use Rattle.std.proofs.lemmas.Iterator.Splits.{YieldsList-from_slice_split}
use Rattle.fuse_serving.specs.Status.{is_blank_byte, known_groups_limit, SaysIds, no_word}
use Rattle.fuse_serving.proofs.Lines.{no_bytes, one_empty_more, one_id_more, one_longer}
use Rattle.fuse_serving.proofs.status.ids_of.Goals as goal

pub loop-word-init : goal.loop-word-init
loop-word-init c = rw (c.new-groups.ensures) (no_word, omega arith)

pub loop-word-preserved-then-is_empty : goal.loop-word-preserved-then-is_empty
loop-word-preserved-then-is_empty c =
    let none : c.in-Some.word.now ≡ [] = no_bytes c.in-Some.word.now (search (rules, tests, arith)) in
    (one_empty_more (λ x. x.now) c.loop-word.yielded c.in-Some.word c.loop-word.groups c.loop-word.invariant.0 none, c.loop-word.invariant.1)

pub loop-word-preserved : goal.loop-word-preserved
loop-word-preserved c =
    let few : length c.loop-word.groups < known_groups_limit = search (rules, tests, arith) in (
      one_id_more (λ x. x.now) c.loop-word.yielded c.in-Some.word c.loop-word.groups c.push.new.self c.in-Some-id_of.id c.loop-word.invariant.0 c.in-Some-id_of.ensures c.in_ok-push.ensures,
      one_longer c.loop-word.groups c.push.new.self c.in-Some-id_of.id known_groups_limit c.in_ok-push.ensures few,
    )

pub returns-clause-ids : goal.returns-clause-ids
returns-clause-ids c =
    let end = YieldsList-end (YieldsList-from_slice_split _ is_blank_byte c.args.text.now (cc) (cc) (cc) (λ x r q k. search (rules, tests)))
    c.loop-word.yielded _ c.loop-word.yielded_by _ _ c.in-None.is c.next.ensures.steps in
    subst (λ (words : List (List ℕ)). SaysIds words c.loop-word.groups) end.0 c.loop-word.invariant.0
