use Rattle.fuse_plans.specs.Serving.{requests_plan}
use Rattle.fs_fuse.proofs.Performings.{performed}
use Rattle.fs_fuse.proofs.laws.what_is_carried_out_is_served.Goals as goal

pub returns : goal.returns
returns g c = λ requests old new before after responses carried.
    performed g.D.Disk.state (requests_plan requests before) old new (responses, after) carried
