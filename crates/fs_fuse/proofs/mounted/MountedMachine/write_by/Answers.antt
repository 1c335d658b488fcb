use Rattle.std.proofs.Common.{rules, ◌≡◌, subst}
use Rattle.fs_model.specs.declared.event.Event.TheVariants.{CallBy}
use Rattle.fs_model.specs.declared.event.HandleCall.TheVariants.{Write}
use Rattle.fs_fuse.specs.Performing.{ServesOne}
use Rattle.fs_fuse.proofs.mounted.MountedMachine.write_by.Goals as goal

pub returns : goal.returns
returns g c =
    let is : c.self.inside.fs ≡ c.args.self.now = search rules in
    subst (λ f. ServesOne g.D.Disk.state f (CallBy c.args.handle (Write c.args.offset c.args.bytes.now)) c.serve_write_by.result c.serve_write_by.new.self) is c.serve_write_by.ensures
