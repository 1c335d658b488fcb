use Rattle.fs_layout.proofs.RecoveryLaw.{recovered-invalid, recovered-other, recovered-target}
use Rattle.fs_layout.proofs.laws.recovery.Goals as goal

pub returns : goal.returns
returns c = λ size small. record {
  target = λ image targets k is lt. recovered-target size image targets k small is lt;
  other = λ image targets s is none. recovered-other size image targets s small is none;
  invalid = λ image s none. recovered-invalid size image s none;
}
