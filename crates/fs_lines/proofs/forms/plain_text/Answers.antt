use Rattle.std.proofs.Common.{◌≡◌, false, sym, subst, ◌∙◌, rules}
use Rattle.std.specs.Fmt.{decimal}
use Rattle.std.specs.Str.{IsUtf8}
use Rattle.std.proofs.lemmas.Bool.{false≢true}
use Rattle.std.proofs.lemmas.Fmt.{IsAscii-decimal}
use Rattle.std.proofs.lemmas.Str.{IsUtf8-from_ascii}
use Rattle.posix_acl.specs.Numbers.{StartsPlainly}
use Rattle.fs_lines.proofs.Numbers.{decimal_starts}
use Rattle.fs_lines.proofs.forms.plain_text.Goals as goal

pub returns-then-not-starts_plainly-clause-none : goal.returns-then-not-starts_plainly-clause-none
returns-then-not-starts_plainly-clause-none c = λ n small same.
    let starts : StartsPlainly c.args.word.now = subst StartsPlainly (sym same) (decimal_starts n small) in
    let refused : c.starts_plainly.result ≡ false = search rules in
    absurd (false≢true (sym refused ∙ c.starts_plainly.ensures.1 starts))

pub returns-in-Err-clause-none : goal.returns-in-Err-clause-none
returns-in-Err-clause-none c = λ n small same.
    let text : IsUtf8 c.args.word.now = subst IsUtf8 (sym same) (IsUtf8-from_ascii (decimal n) (IsAscii-decimal n small)) in
    absurd (c.in-Err.ensures.cases.0 text)
