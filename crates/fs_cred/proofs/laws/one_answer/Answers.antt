use Rattle.std.proofs.Common.{◌≡◌, sym, ap, ◌∙◌}
use Rattle.fs_cred.specs.Verdicts.{verdict, verdict_of}
use Rattle.fs_cred.proofs.OneAnswer.{verdict_decides, only_verdict}
use Rattle.fs_cred.proofs.laws.one_answer.Goals as goal

pub returns-clause-some : goal.returns-clause-some
returns-clause-some c = λ cred node want valid.
    ((verdict cred node want).yes, (verdict cred node want).rule, verdict_decides cred node want valid)

pub returns-clause-one : goal.returns-clause-one
returns-clause-one c = λ cred node want valid a b r s d e.
    let same : verdict_of a r ≡ verdict_of b s = sym (only_verdict cred node want valid a r d) ∙ only_verdict cred node want valid b s e in
    (ap (λ v. v.yes) same, ap (λ v. v.rule) same)

pub returns-clause-computed : goal.returns-clause-computed
returns-clause-computed c = λ cred node want valid. verdict_decides cred node want valid
