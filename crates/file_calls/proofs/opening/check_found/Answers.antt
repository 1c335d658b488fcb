use Rattle.std.proofs.Common.{◌≡◌, sym, subst, inr}
use Rattle.fs_layout.specs.declared.inode.Inode.{Inode}
use Rattle.fs_layout.specs.Images.{inode_at}
use Rattle.fs_layout.specs.Bytes.{SectorMap}
use Rattle.block_map.proofs.Runs.{unchanged_joined}
use Rattle.path_walk.specs.HeldTrees.{HasAccess}
use Rattle.path_walk.proofs.HeldNodes.{number_below}
use Rattle.path_walk.proofs.Kept.{kept, sound_kept, answered_err}
use Rattle.call_parts.proofs.Calling.{answered_later}
use Rattle.call_parts.proofs.Refuses.{broken, answered_ok}
use Rattle.file_calls.proofs.OpenFound.{kind_met, kind_refuses, kind_access, kind_held, found_refuses, found_met}
use Rattle.file_calls.proofs.opening.check_found.Goals as goal

pub load_inode-requires : goal.load_inode-requires
load_inode-requires g c = let x = c.requires.there in record { sound = c.requires.sound; below = number_below x.1 c.args.ino x.2 }

pub returns-in_err-inode : goal.returns-in_err-inode
returns-in_err-inode g c = record {
  each = λ t h there.
      broken (g.S.Sectors.state c.args.s.now).disk (g.S.Sectors.state c.load_inode.new.s).disk _ _ _ c.from_residual.ensures (inr c.in_err-inode.ensures.fault);
  same = c.in_err-inode.ensures.same;
}

pub returns-in_err-check_kind : goal.returns-in_err-check_kind
returns-in_err-check_kind g c = record {
  each = λ t h there.
      let r = c.from_residual-in_err-check_kind.ensures in
      let old = g.S.Sectors.state c.args.s.now in
      let new = g.S.Sectors.state c.load_inode.new.s in
      answered_err old.disk new.disk _ c.from_residual-in_err-check_kind.result c.in_err-check_kind.field-0.0 r.0 r.1
      (kind_refuses h c.args.ino there c.args.flags c.args.cred.now c.args.step (inode_at c.args.caller.now.geometry old.sectors c.args.ino) c.in_err-check_kind.field-0.0 old.disk new.disk
      (kind_met c.args.flags c.in_ok-inode.ensures.found (sym c.in_err-check_kind.ensures)));
  same = c.in_ok-inode.ensures.same;
}

pub permitted-requires : goal.permitted-requires
permitted-requires g c =
    let x = c.requires.there in
    let same = c.in_ok-inode.ensures.same in
    let met = kind_met c.args.flags c.in_ok-inode.ensures.found (sym c.in_ok-check_kind.ensures) in
    let access = kind_access x.1 c.args.ino x.2 c.args.flags c.args.cred.now c.args.step met in
    record {
      sound = sound_kept same c.requires.sound;
      there = (c.args.ino, number_below x.1 c.args.ino x.2, kept (λ (m : SectorMap). c.in_ok-inode.inode ≡ inode_at c.args.caller.now.geometry m c.args.ino) same c.in_ok-inode.ensures.found);
      has = (
        access.access,
        kept (λ (m : SectorMap). HasAccess m c.in_ok-inode.inode access.access) same
            (subst (λ (v : Inode). HasAccess (g.S.Sectors.state c.args.s.now).sectors v access.access) (sym c.in_ok-inode.ensures.found)
            (kind_held x.1 c.args.ino x.2 c.args.flags c.args.cred.now c.args.step met)),
      );
    }

pub returns-in_err-permitted : goal.returns-in_err-permitted
returns-in_err-permitted g c =
    let same = c.in_ok-inode.ensures.same in
    record {
      each = λ t h there.
          let r = c.from_residual-in_err-permitted.ensures in
          let old = g.S.Sectors.state c.args.s.now in
          let new = g.S.Sectors.state c.permitted.new.s in
          let v = inode_at c.args.caller.now.geometry old.sectors c.args.ino in
          let met = kind_met c.args.flags c.in_ok-inode.ensures.found (sym c.in_ok-check_kind.ensures) in
          let access = kind_access h c.args.ino there c.args.flags c.args.cred.now c.args.step met in
          let held = kept (λ (m : SectorMap). HasAccess m c.in_ok-inode.inode access.access) same
          (subst (λ (w : Inode). HasAccess old.sectors w access.access) (sym c.in_ok-inode.ensures.found)
          (kind_held h c.args.ino there c.args.flags c.args.cred.now c.args.step met)) in
          answered_err old.disk new.disk _ c.from_residual-in_err-permitted.result c.in_err-permitted.field-0.0 r.0 r.1
          (found_refuses h c.args.ino there c.args.flags c.args.cred.now c.args.step met v c.wanted.result c.in_err-permitted.field-0.0 old.disk new.disk c.wanted.ensures
          (answered_later new.disk same (c.in_err-permitted.ensures.each access.access held)));
      same = unchanged_joined same c.in_err-permitted.ensures.same;
    }

pub returns : goal.returns
returns g c =
    let same = c.in_ok-inode.ensures.same in
    record {
      each = λ t h there.
          let met = kind_met c.args.flags c.in_ok-inode.ensures.found (sym c.in_ok-check_kind.ensures) in
          let access = kind_access h c.args.ino there c.args.flags c.args.cred.now c.args.step met in
          let held = kept (λ (m : SectorMap). HasAccess m c.in_ok-inode.inode access.access) same
          (subst (λ (w : Inode). HasAccess (g.S.Sectors.state c.args.s.now).sectors w access.access) (sym c.in_ok-inode.ensures.found)
          (kind_held h c.args.ino there c.args.flags c.args.cred.now c.args.step met)) in
          answered_ok (found_met h c.args.ino there c.args.flags c.args.cred.now c.args.step met c.wanted.result c.in_ok-permitted.field-0 c.wanted.ensures
          (c.in_ok-permitted.ensures.each access.access held)) (sym c.in_ok-inode.ensures.found);
      same = unchanged_joined same c.in_ok-permitted.ensures.same;
    }
