use Rattle.std.proofs.Common.{◌≢◌, ◌+◌, ℕ, List, sym, ap, arith, subst, ◌∙◌}
use Rattle.fs_layout.specs.declared.inode.Inode.{Inode}
use Rattle.fs_layout.specs.declared.inode.Kind.TheVariants as kinds
use Rattle.call_parts.specs.NewNodes.{MayBeNamed, NamesInode}
use Rattle.call_parts.proofs.Alterings.{altered, not_altered, not_altered_then}
use Rattle.name_calls.proofs.Linkings.{target_below, target_used, dir_same, dir_room, link_holds}
use Rattle.name_calls.proofs.making.add_name.Goals as goal

pub set_names-requires : goal.set_names-requires
set_names-requires g c =
    let x = c.requires.may in
    let old = g.S.Sectors.state c.args.s.now in
    let spare = x.0.spare in
    record {
      loaded = record {
        sound = x.0.sound;
        below = target_below old x.0.is_state x.1;
        inode = c.requires.inode;
        used = subst (λ (v : Inode). v.kind ≢ kinds.Free) (sym c.requires.inode) (target_used old x.0.is_state x.1);
      };
      spare = omega (arith, spare);
    }

pub returns-in_err-set_names : goal.returns-in_err-set_names
returns-in_err-set_names g c = not_altered _ _ c.from_residual.ensures c.in_err-set_names.ensures.store c.in_err-set_names.ensures.fault

pub name_inode-requires : goal.name_inode-requires
name_inode-requires g c =
    let x = c.requires.may in
    let old = g.S.Sectors.state c.args.s.now in
    let counts = c.in_ok-set_names.ensures.made in
    let more = ap (λ (v : Inode). v.names + 1) c.requires.inode in
    let spare = x.0.spare in
    let taken = counts.touches.puts.room in
    record {
      ready = record { sound = counts.sound; spare = omega (arith, spare, taken) };
      inode = c.requires.directory ∙ sym (dir_same old x.0.is_state x.1 more counts);
      room = subst (MayBeNamed c.args.caller.now.geometry (g.S.Sectors.state c.set_names.new.s).sectors c.args.found.now.dir_ino) (sym c.bytes-name.ensures.all)
          (dir_room old x.0.is_state x.1 more counts);
    }

pub returns-in_err-name_inode : goal.returns-in_err-name_inode
returns-in_err-name_inode g c =
    not_altered_then _ _ c.from_residual-in_err-name_inode.ensures c.in_ok-set_names.ensures.store c.in_err-name_inode.ensures

pub returns : goal.returns
returns g c =
    let new = (g.S.Sectors.state c.name_inode.new.s).sectors in
    let counts = c.in_ok-set_names.ensures.made in
    let done = c.in_ok-name_inode.ensures in
    let named = subst (λ (q : List ℕ). NamesInode c.args.caller.now.geometry c.args.found.now.dir_ino q c.args.ino (g.S.Sectors.state c.set_names.new.s).sectors new)
    c.bytes-name.ensures.all done.made in
    altered tt 1 4 (omega arith) c.in_ok-set_names.ensures.store counts.touches.puts.room done.store done.sound done.taken
    (record {
      super = named.super ∙ counts.touches.super;
      holds = λ st at may. link_holds (g.S.Sectors.state c.args.s.now) at may (ap (λ (v : Inode). v.names + 1) c.requires.inode) counts new named;
    })
