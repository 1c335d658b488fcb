use Rattle.posix_acl.specs.Text.{text_pieces}
use Rattle.posix_acl.proofs.Laws.{reads_back}
use Rattle.posix_acl.proofs.OneReading.{texts_same}
use Rattle.posix_acl.proofs.acl.Acl.parse_text.Goals as goal

pub returns-clause-one : goal.returns-clause-one
returns-clause-one c = λ es fs a b. texts_same (text_pieces c.args.text.now) es fs a b

pub returns-clause-back : goal.returns-clause-back
returns-clause-back c = λ a form valid same. reads_back c.args.text.now a form c.parse.result valid same c.parse.ensures.ok c.parse.ensures.err
