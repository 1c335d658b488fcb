use Rattle.std.proofs.Common.{◌≡◌, sym, inr}
use Rattle.fs_layout.specs.Bytes.{SectorMap}
use Rattle.fs_layout.specs.Images.{inode_at}
use Rattle.block_map.proofs.Runs.{unchanged_joined}
use Rattle.path_walk.proofs.HeldNodes.{number_below, is_there}
use Rattle.path_walk.proofs.Kept.{kept, sound_kept}
use Rattle.call_parts.proofs.MakeAsked.{dir_access, held_later}
use Rattle.call_parts.proofs.NameAsked.{dir_refuses, dir_granted}
use Rattle.call_parts.proofs.Refuses.{passed_later, broken, answered_ok}
use Rattle.call_parts.proofs.asking.ask_in_directory.Goals as goal

pub load_inode-requires : goal.load_inode-requires
load_inode-requires g c =
    let x = c.requires.there in
    record { sound = c.requires.sound; below = number_below x.1 c.args.dir_ino (is_there x.0 c.args.dir_ino x.2.node x.2.is_there) }

pub returns-in_err-directory : goal.returns-in_err-directory
returns-in_err-directory g c = record {
  each = λ t h d.
      broken (g.S.Sectors.state c.args.s.now).disk (g.S.Sectors.state c.load_inode.new.s).disk _ _ _ c.from_residual.ensures (inr c.in_err-directory.ensures.fault);
  same = c.in_err-directory.ensures.same;
}

pub permitted-requires : goal.permitted-requires
permitted-requires g c =
    let x = c.requires.there in
    let same = c.in_ok-directory.ensures.same in
    record {
      sound = sound_kept same c.requires.sound;
      there = (
        c.args.dir_ino,
        number_below x.1 c.args.dir_ino (is_there x.0 c.args.dir_ino x.2.node x.2.is_there),
        kept (λ (m : SectorMap). c.in_ok-directory.directory ≡ inode_at c.args.caller.now.geometry m c.args.dir_ino) same c.in_ok-directory.ensures.found,
      );
      has = ((dir_access x.1 c.args.dir_ino x.2 c.args.cred.now c.args.step).access, held_later x.1 c.args.dir_ino x.2 c.args.cred.now c.args.step same c.in_ok-directory.directory c.in_ok-directory.ensures.found);
    }

pub returns-in_err-permitted : goal.returns-in_err-permitted
returns-in_err-permitted g c = record {
  each = λ t h d.
      let same = c.in_ok-directory.ensures.same in
      passed_later (g.S.Sectors.state c.permitted.new.s).disk _ _ _ c.from_residual-in_err-permitted.ensures same
      (dir_refuses h c.args.dir_ino d c.args.cred.now c.args.walk c.args.step) _
      (c.in_err-permitted.ensures.each _ (held_later h c.args.dir_ino d c.args.cred.now c.args.step same c.in_ok-directory.directory c.in_ok-directory.ensures.found));
  same = unchanged_joined c.in_ok-directory.ensures.same c.in_err-permitted.ensures.same;
}

pub returns : goal.returns
returns g c = record {
  each = λ t h d.
      let same = c.in_ok-directory.ensures.same in
      answered_ok
      (dir_granted h c.args.dir_ino d c.args.cred.now c.args.walk c.args.step c.in_ok-permitted.field-0
      (c.in_ok-permitted.ensures.each _ (held_later h c.args.dir_ino d c.args.cred.now c.args.step same c.in_ok-directory.directory c.in_ok-directory.ensures.found)))
      (sym c.in_ok-directory.ensures.found);
  same = unchanged_joined c.in_ok-directory.ensures.same c.in_ok-permitted.ensures.same;
}
