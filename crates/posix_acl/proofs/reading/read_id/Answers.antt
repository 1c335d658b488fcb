use Rattle.std.proofs.Common.{◌≡◌, sym, ap, ◌∙◌, subst, arith, rules, false}
use Rattle.std.specs.Fmt.{decimal}
use Rattle.std.specs.Result.{result_ok}
use Rattle.std.proofs.lemmas.Bool.{false≢true}
use Rattle.std.proofs.lemmas.Fmt.{IsAscii-decimal, parse-decimal}
use Rattle.std.proofs.lemmas.Str.{IsUtf8-from_ascii}
use Rattle.std.specs.Str.{IsUtf8}
use Rattle.posix_acl.specs.Numbers.{StartsPlainly}
use Rattle.posix_acl.proofs.Ids.{decimal_starts, parsed_is_read}
use Rattle.posix_acl.proofs.reading.read_id.Goals as goal

pub returns-then-not-starts_plainly-clause-only : goal.returns-then-not-starts_plainly-clause-only
returns-then-not-starts_plainly-clause-only c = λ id fits same.
    let starts : StartsPlainly c.args.name.now = subst StartsPlainly (sym same) (decimal_starts id fits) in
    let refused : c.starts_plainly.result ≡ false = search rules in
    absurd (false≢true (sym refused ∙ c.starts_plainly.ensures.1 starts))

pub returns-in_default-clause-only : goal.returns-in_default-clause-only
returns-in_default-clause-only c = λ id fits same.
    let text : IsUtf8 c.args.name.now = subst IsUtf8 (sym same) (IsUtf8-from_ascii (decimal id) (IsAscii-decimal id (omega arith))) in
    absurd (c.in_default.ensures.cases.0 text)

pub returns-clause-found : goal.returns-clause-found
returns-clause-found c =
    let starts : StartsPlainly c.args.name.now = c.starts_plainly.ensures.0 (search rules) in
    let same : c.in-Ok.digits.now ≡ c.args.name.now = c.in-Ok.ensures.cases.0 in
    rw c.ok.ensures.value (parsed_is_read c.args.name.now c.parse.result (rw same at c.parse.ensures.value.0) starts)

pub returns-clause-only : goal.returns-clause-only
returns-clause-only c = λ id fits same.
    c.ok.ensures.value ∙ ap result_ok (parse-decimal 32 id c.in-Ok.digits.now c.parse.result fits (omega arith) (c.in-Ok.ensures.cases.0 ∙ same) c.parse.ensures.value.0)
