use Rattle.std.proofs.Common.{rules, ◌≡◌, subst}
use Rattle.fs_model.specs.declared.event.Event.TheVariants.{CallAt}
use Rattle.fs_fuse.specs.Performing.{ServesOne}
use Rattle.fs_fuse.proofs.mounted.MountedMachine.call_at.Goals as goal

pub returns : goal.returns
returns g c =
    let is : c.self.inside.fs ≡ c.args.self.now = search rules in
    subst (λ f. ServesOne g.D.Disk.state f (CallAt c.args.actor.now c.args.call.now) c.serve_call_at.result c.serve_call_at.new.self) is c.serve_call_at.ensures
