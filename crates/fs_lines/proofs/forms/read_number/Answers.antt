use Rattle.std.proofs.Common.{◌≡◌, sym, arith}
use Rattle.fs_lines.proofs.Numbers.{no_number, parsed, not_parsed}
use Rattle.fs_lines.proofs.forms.read_number.Goals as goal

pub returns-in_default : goal.returns-in_default
returns-in_default c = sym (no_number 64 c.args.word.now (λ n fits. c.in_default.ensures.none n (omega arith)))

pub returns-in-Ok : goal.returns-in-Ok
returns-in-Ok c =
    let same : c.in-Some.digits.now ≡ c.args.word.now = c.in-Some.ensures.found in
    sym (parsed 64 c.args.word.now c.in-Ok.number c.parse.result (rw same at c.parse.ensures.value.0) c.in-Ok.is c.in-Some.ensures.plain (λ m h. omega arith))

pub returns-in-Err : goal.returns-in-Err
returns-in-Err c =
    let same : c.in-Some.digits.now ≡ c.args.word.now = c.in-Some.ensures.found in
    sym (not_parsed 64 c.args.word.now _ c.parse.result (rw same at c.parse.ensures.value.0) c.in-Err.is (λ m h. omega arith))
