use Rattle.std.proofs.Common.{◌≡◌, length, sym, ap, ◌∙◌, rules, tests, nat_lt, true, false}
use Rattle.std.specs.List.{slice_split}
use Rattle.std.proofs.lemmas.Iterator.Consumers.{YieldsList-end}
use Rattle.std.proofs.lemmas.Iterator.Splits.{YieldsList-from_slice_split}
use Rattle.std.proofs.lemmas.Result.{err_from_is_err_and}
use Rattle.fs_cred.specs.Capabilities.{no_caps}
use Rattle.posix_acl.specs.Text.{is_comma}
use Rattle.fs_lines.specs.Words.{cap_named, caps_with}
use Rattle.fs_lines.proofs.Each.{yields_next}
use Rattle.fs_lines.proofs.Capabilities.{caps_push, caps_unknown, caps_fall}
use Rattle.fs_lines.proofs.forms.caps_named.Goals as goal

pub returns-in_err-cap : goal.returns-in_err-cap
returns-in_err-cap c =
    let next = yields_next (YieldsList-from_slice_split _ is_comma c.args.names.now (cc) (cc) (cc) (λ x r q k. search (rules, tests)))
    c.loop-name.yielded _ c.loop-name.yielded_by _ _ c.in-Some.name c.in-Some.is c.next.ensures.steps in
    let p = err_from_is_err_and c.from_residual.result c.from_residual.ensures.1 in
    p.1 ∙ sym (caps_unknown (slice_split is_comma c.args.names.now) (length c.loop-name.yielded) c.in-Some.name.now c.loop-name.caps p.0
    (ap (caps_with no_caps) (sym next.0) ∙ c.loop-name.invariant) next.1
    (ap cap_named (sym next.2) ∙ sym c.cap_named.ensures ∙ search rules))

pub returns-then-bits : goal.returns-then-bits
returns-then-bits c =
    let next = yields_next (YieldsList-from_slice_split _ is_comma c.args.names.now (cc) (cc) (cc) (λ x r q k. search (rules, tests)))
    c.loop-name.yielded _ c.loop-name.yielded_by _ _ c.in-Some.name c.in-Some.is c.next.ensures.steps in
    let falls : nat_lt c.loop-name.caps.0 c.in_ok-cap.cap.0 ≡ false = search rules in
    sym (caps_fall (slice_split is_comma c.args.names.now) (length c.loop-name.yielded) c.in-Some.name.now c.loop-name.caps c.in_ok-cap.cap
    (ap (caps_with no_caps) (sym next.0) ∙ c.loop-name.invariant) next.1
    (ap cap_named (sym next.2) ∙ sym c.cap_named.ensures ∙ search rules) falls)

pub loop-name-preserved : goal.loop-name-preserved
loop-name-preserved c =
    let above : nat_lt c.loop-name.caps.0 c.in_ok-cap.cap.0 ≡ true = search rules in
    caps_push (λ x. x.now) c.loop-name.yielded c.in-Some.name c.loop-name.caps c.in_ok-cap.cap _ c.loop-name.invariant
    (sym c.cap_named.ensures ∙ search rules) above (search rules)

pub returns : goal.returns
returns c =
    let end = YieldsList-end (YieldsList-from_slice_split _ is_comma c.args.names.now (cc) (cc) (cc) (λ x r q k. search (rules, tests)))
    c.loop-name.yielded _ c.loop-name.yielded_by _ _ c.in-None.is c.next.ensures.steps in
    sym (ap (caps_with no_caps) (sym end.0) ∙ c.loop-name.invariant)
