use Rattle.fs_layout.specs.Images.{inode_at}
use Rattle.call_parts.proofs.NameAsked.{asked_as}
use Rattle.call_parts.proofs.asking.ask_directory.Goals as goal

pub ask_in_directory-requires : goal.ask_in_directory-requires
ask_in_directory-requires g c = c.requires

pub returns : goal.returns
returns g c = record {
  each = λ t h d.
      let dir_ino = c.args.found.now.dir_ino in
      let old = g.S.Sectors.state c.args.s.now in
      asked_as t dir_ino c.args.walk (inode_at c.args.caller.now.geometry old.sectors dir_ino) c.ask_in_directory.result old.disk (g.S.Sectors.state c.ask_in_directory.new.s).disk
      c.cred-cred.ensures c.saturating_sub-step.ensures (c.ask_in_directory.ensures.each t h d);
  same = c.ask_in_directory.ensures.same;
}
