use Rattle.std.proofs.Common.{rules, ◌≡◌, subst}
use Rattle.fs_fuse.specs.Performing.{ServesOne}
use Rattle.fs_program.proofs.copying.CopyingFileSystem.serve.Goals as goal

pub returns : goal.returns
returns g c =
    let is : c.self.inside.fs ≡ c.args.self.now = search rules in
    subst (λ f. ServesOne g.D.Disk.state f c.args.event.now c.serve.result c.serve.new.self) is c.serve.ensures
