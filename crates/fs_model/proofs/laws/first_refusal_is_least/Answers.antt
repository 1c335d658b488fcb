use Rattle.fs_model.proofs.Least.{refuses_least, none_refuses}
use Rattle.fs_model.proofs.laws.first_refusal_is_least.Goals as goal

pub returns : goal.returns
returns c = record {
  least = λ cred t walk lookups r h. refuses_least cred t walk lookups r h;
  none = λ cred t walk lookups h k l g. none_refuses cred t walk lookups h k l g;
}
