use Rattle.std.proofs.Common.{refl, subst, Result, Ok, Err}
use Rattle.fs_access.specs.declared.fault.AccessFault.{AccessFault}
use Rattle.fs_access.specs.declared.question.Answer.{Answer}
use Rattle.fs_program.specs.Answering.{AnswersSo}
use Rattle.fs_program.proofs.answering.answer_mounted.Goals as goal

pub returns-in-Ok : goal.returns-in-Ok
returns-in-Ok g c = record {
  found = Ok c.in-Ok.answer;
  answers = subst (λ (found : Result Answer AccessFault). AnswersSo g.D.Disk.state c.args.fs c.args.question.now found) c.in-Ok.is c.ask_mounted.ensures;
  told = c.tell_answer.ensures;
}

pub returns-in-Err : goal.returns-in-Err
returns-in-Err g c = record {
  found = Err c.in-Err.fault;
  answers = subst (λ (found : Result Answer AccessFault). AnswersSo g.D.Disk.state c.args.fs c.args.question.now found) c.in-Err.is c.ask_mounted.ensures;
  told = (refl, refl);
}
