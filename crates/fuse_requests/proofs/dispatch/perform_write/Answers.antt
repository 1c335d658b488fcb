use Rattle.fuse_requests.proofs.Answerings.{told-answers}
use Rattle.std.proofs.Common.{refl}
use Rattle.fuse_requests.proofs.dispatch.perform_write.Goals as goal

pub returns : goal.returns
returns g c = told-answers refl c.tell_time.ensures.did (rw c.bytes.ensures at c.write_file-wrote.ensures) c.response_of.ensures
