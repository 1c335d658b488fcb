use Rattle.std.proofs.Common.{rules, ◌≡◌, subst}
use Rattle.fs_model.specs.declared.event.Event.TheVariants.{CallBy}
use Rattle.fs_fuse.specs.Performing.{ServesOne}
use Rattle.fs_fuse.proofs.mounted.MountedMachine.call_by.Goals as goal

pub returns : goal.returns
returns g c =
    let is : c.self.inside.fs ≡ c.args.self.now = search rules in
    subst (λ f. ServesOne g.D.Disk.state f (CallBy c.args.handle c.args.call.now) c.serve_call_by.result c.serve_call_by.new.self) is c.serve_call_by.ensures
