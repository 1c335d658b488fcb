use Rattle.call_parts.specs.BothTables.{users_of, tables_of}
use Rattle.std.proofs.Common.{◌≢◌, ◌≤◌, refl, sym, arith, subst, ◌∙◌}
use Rattle.fs_layout.specs.declared.inode.Inode.{Inode}
use Rattle.fs_layout.specs.declared.inode.Kind.TheVariants as kinds
use Rattle.fs_layout.specs.Images.{inode_at}
use Rattle.fs_model.specs.Processes.{is_open}
use Rattle.fs_model.proofs.OneNode.{body_not_free}
use Rattle.call_parts.proofs.Alterings.{altered, not_altered, not_altered_later}
use Rattle.name_calls.proofs.Droppings.{lost_sound, lost_touches}
use Rattle.name_calls.proofs.Takings.{may_remove, is_number, target_same, target_held, target_named, taken_holds}
use Rattle.name_calls.proofs.removal.take_name.Goals as goal

pub remove_found-requires : goal.remove_found-requires
remove_found-requires g c = let x = c.requires.may in may_remove c.args.found.now x.0 x.1

pub returns-in_err-remove_found : goal.returns-in_err-remove_found
returns-in_err-remove_found g c = not_altered _ _ c.from_residual.ensures c.in_err-remove_found.ensures.store c.in_err-remove_found.ensures.fault

pub lose_name-requires : goal.lose_name-requires
lose_name-requires g c =
    let x = c.requires.may in
    let p = c.args.caller.now.geometry in
    let old = g.S.Sectors.state c.args.s.now in
    let mid = g.S.Sectors.state c.remove_found.new.s in
    let at = x.0.is_state in
    let removes = c.in_ok-remove_found.ensures.made in
    let is = c.requires.inode ∙ sym (target_same old at x.1 removes) in
    let number = is_number old at x.1 in
    let spare = x.0.spare in
    let taken = removes.touches.puts.room in
    record {
      loaded = record {
        sound = removes.sound;
        below = number.1;
        inode = is;
        used = subst (λ (v : Inode). v.kind ≢ kinds.Free) (sym is)
            (λ e. body_not_free p.version mid.sectors (inode_at p mid.sectors c.args.ino) x.1.target.body (target_held old at x.1 removes).body e);
      };
      number = number;
      named = subst (λ (v : Inode). 1 ≤ v.names) (sym is) (target_named old at x.1 removes);
      spare = omega (arith, spare, taken);
    }

pub returns-in_err-lose_name : goal.returns-in_err-lose_name
returns-in_err-lose_name g c =
    not_altered_later _ _ c.from_residual-in_err-lose_name.ensures c.in_ok-remove_found.ensures.store c.in_err-lose_name.ensures.store c.in_err-lose_name.ensures.fault

pub returns : goal.returns
returns g c =
    let old = g.S.Sectors.state c.args.s.now in
    let removes = c.in_ok-remove_found.ensures.made in
    let lost = c.in_ok-lose_name.ensures in
    let touches = lost_touches lost.made in
    altered tt 5 1 (omega arith) c.in_ok-remove_found.ensures.store removes.touches.puts.room lost.store (lost_sound lost.made) touches.puts.room
    (record {
      super = touches.super ∙ removes.touches.super;
      holds = λ st at may. taken_holds old at may removes (is_open (users_of (tables_of c.args.caller.now)) c.args.ino) refl lost.made;
    })
