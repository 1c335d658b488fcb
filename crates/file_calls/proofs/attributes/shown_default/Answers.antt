use Rattle.std.proofs.Common.{◌≡◌, rules}
use Rattle.fs_layout.specs.declared.inode.Kind.TheVariants as kinds
use Rattle.fs_model.specs.Nodes.{default_in}
use Rattle.call_parts.proofs.Readings.{not_read}
use Rattle.file_calls.proofs.ShownAcls.{default_of_directory}
use Rattle.file_calls.proofs.attributes.shown_default.Goals as goal

pub default_of-requires : goal.default_of-requires
default_of-requires g c =
    let is : c.args.inode.now.kind ≡ kinds.Directory = search rules in
    let b = c.requires.has in
    record {
      sound = c.requires.sound;
      there = c.requires.there;
      has = (default_in b.0, default_of_directory (g.S.Sectors.state c.args.s.now).sectors c.args.inode.now b.0 b.1 is);
    }

pub returns-in_err-default : goal.returns-in_err-default
returns-in_err-default g c = not_read _ _ c.from_residual.ensures c.in_err-default.ensures.interrupts c.in_err-default.ensures.same

pub returns : goal.returns
returns g c =
    let is : c.args.inode.now.kind ≡ kinds.Directory = search rules in
    record {
      found = λ b h. c.in_ok-default.ensures.found (default_in b) (default_of_directory (g.S.Sectors.state c.args.s.now).sectors c.args.inode.now b h is);
      interrupts = tt;
      same = c.in_ok-default.ensures.same;
    }
