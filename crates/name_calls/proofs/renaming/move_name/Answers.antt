use Rattle.call_parts.specs.BothTables.{users_of, tables_of}
use Rattle.std.proofs.Common.{◌≢◌, ◌≤◌, refl, subst, sym, arith, ◌∙◌}
use Rattle.fs_layout.specs.declared.inode.Inode.{Inode}
use Rattle.fs_layout.specs.declared.inode.Kind.TheVariants as kinds
use Rattle.sector_txn.proofs.TransactionRuns.{store_joined}
use Rattle.fs_model.specs.Processes.{is_open}
use Rattle.call_parts.proofs.Alterings.{not_altered, not_altered_later, not_altered_then}
use Rattle.name_calls.proofs.Droppings.{lost_sound, lost_touches}
use Rattle.name_calls.proofs.Movings.{follow_super, there_is, nothing_there, moved_below, moved_used, entry_super, moved_same, moved_none, replaced_number, replaced_same, replaced_used, replaced_named, replaced_holds}
use Rattle.name_calls.proofs.renaming.move_name.Goals as goal

pub follow-requires : goal.follow-requires
follow-requires g c =
    let x = c.requires.may in
    let old = g.S.Sectors.state c.args.s.now in
    let entry = c.in_ok-move_entry.ensures in
    let spare = x.0.spare in
    let taken = entry.taken in
    record {
      loaded = record {
        sound = entry.sound;
        below = moved_below old x.0.is_state x.1;
        inode = c.requires.inode ∙ sym (moved_same old x.0.is_state x.1 entry.made);
        used = subst (λ (v : Inode). v.kind ≢ kinds.Free) (sym c.requires.inode) (moved_used old x.0.is_state x.1);
      };
      spare = omega (arith, spare, taken);
    }

pub returns-in_err-move_entry : goal.returns-in_err-move_entry
returns-in_err-move_entry g c = not_altered _ _ c.from_residual.ensures c.in_err-move_entry.ensures.store c.in_err-move_entry.ensures.fault

pub returns-in_err-follow : goal.returns-in_err-follow
returns-in_err-follow g c =
    not_altered_then _ _ c.from_residual-in_err-follow.ensures c.in_ok-move_entry.ensures.store c.in_err-follow.ensures

pub lose_name-requires : goal.lose_name-requires
lose_name-requires g c =
    let x = c.requires.may in
    let old = g.S.Sectors.state c.args.s.now in
    let at = x.0.is_state in
    let entry = c.in_ok-move_entry.ensures in
    let follows = c.in_ok-follow.ensures in
    let there = there_is c.args.caller.now.geometry old.sectors c.args.walked.now.second.ino c.in-Some.m c.in-Some.inode (sym c.in-Some.is ∙ c.requires.replaced) in
    let number = replaced_number old at x.1 entry.made follows.made there.0 in
    let spare = x.0.spare in
    let first = entry.taken in
    let then = follows.taken in
    record {
      loaded = record {
        sound = follows.sound;
        below = number.1;
        inode = there.1 ∙ sym (replaced_same old at x.1 entry.made follows.made there.0);
        used = subst (λ (v : Inode). v.kind ≢ kinds.Free) (sym there.1) (replaced_used old at x.1 entry.made follows.made there.0);
      };
      number = number;
      named = subst (λ (v : Inode). 1 ≤ v.names) (sym there.1) (replaced_named old at x.1 entry.made follows.made there.0);
      spare = omega (arith, spare, first, then);
    }

pub returns-in_err-lose_name : goal.returns-in_err-lose_name
returns-in_err-lose_name g c =
    not_altered_later _ _ c.from_residual-in_err-lose_name.ensures (store_joined c.in_ok-move_entry.ensures.store c.in_ok-follow.ensures.store) c.in_err-lose_name.ensures.store c.in_err-lose_name.ensures.fault

pub returns-in_ok-lose_name : goal.returns-in_ok-lose_name
returns-in_ok-lose_name g c =
    let x = c.requires.may in
    let old = g.S.Sectors.state c.args.s.now in
    let entry = c.in_ok-move_entry.ensures in
    let follows = c.in_ok-follow.ensures in
    let lost = c.in_ok-lose_name.ensures in
    let there = there_is c.args.caller.now.geometry old.sectors c.args.walked.now.second.ino c.in-Some.m c.in-Some.inode (sym c.in-Some.is ∙ c.requires.replaced) in
    record {
      store = store_joined (store_joined entry.store follows.store) lost.store;
      sound = lost_sound lost.made;
      taken = (let first = entry.taken in let then = follows.taken in let last = (lost_touches lost.made).puts.room in omega (arith, first, then, last));
      made = record {
        super = (lost_touches lost.made).super ∙ follow_super follows.made ∙ entry_super old x.0.is_state x.1 entry.made;
        holds = λ st at may. replaced_holds old at may entry.made follows.made there.0 (is_open (users_of (tables_of c.args.caller.now)) c.in-Some.m) refl lost.made;
      };
      fault = tt;
    }

pub returns-in_default : goal.returns-in_default
returns-in_default g c =
    let x = c.requires.may in
    let old = g.S.Sectors.state c.args.s.now in
    let entry = c.in_ok-move_entry.ensures in
    let follows = c.in_ok-follow.ensures in
    let none = nothing_there c.args.caller.now.geometry old.sectors c.args.walked.now.second.ino c.args.replaced.now c.requires.replaced c.in_default.not-Some in
    record {
      store = store_joined entry.store follows.store;
      sound = follows.sound;
      taken = (let first = entry.taken in let then = follows.taken in omega (arith, first, then));
      made = record {
        super = follow_super follows.made ∙ entry_super old x.0.is_state x.1 entry.made;
        holds = λ st at may. moved_none old at may entry.made follows.made none;
      };
      fault = tt;
    }
