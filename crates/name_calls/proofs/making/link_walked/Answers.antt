use Rattle.call_parts.specs.BothTables.{tables_of}
use Rattle.std.proofs.Common.{refl, ◌≡◌, arith, ◌∙◌}
use Rattle.fs_layout.specs.Bytes.{SectorMap}
use Rattle.fs_layout.specs.Images.{inode_at}
use Rattle.fs_model.specs.declared.reply.Reply.TheVariants.{Done}
use Rattle.sector_txn.proofs.TransactionRuns.{store_joined}
use Rattle.path_walk.proofs.Kept.{kept}
use Rattle.call_parts.proofs.ByTwoPaths.{both_refused, both_broken, both_broken_later, both_performs}
use Rattle.call_parts.proofs.Changed.{may_touch}
use Rattle.call_parts.proofs.FoundBoth.{finds_each}
use Rattle.call_parts.proofs.Removed.{taken_after}
use Rattle.name_calls.specs.Linking.{MayLinkAt}
use Rattle.call_parts.proofs.Alterings.{ready_later}
use Rattle.name_calls.proofs.Linkings.{link_by_two, link_told, link_may, few_names, linked_below, link_changed}
use Rattle.bit_alloc.proofs.Transactions.{unchanged_nothing}
use Rattle.name_calls.proofs.making.link_walked.Goals as goal

pub check_link-requires : goal.check_link-requires
check_link-requires g c =
    let w = c.requires.2 in
    let ready = w.ready in
    record { sound = ready.sound; found = (ready.state, finds_each w ready.state ready.is_state) }

pub returns-in_err-add_name : goal.returns-in_err-add_name
returns-in_err-add_name g c = λ old_path new_path w.
    both_broken (link_by_two old_path new_path) unchanged_nothing w (g.S.Sectors.state c.add_name.new.s) _ _ c.from_residual-in_err-add_name.ensures
    c.in_ok-ino.ensures.same c.in_err-add_name.ensures.store c.in_err-add_name.ensures.fault

pub add_name-requires : goal.add_name-requires
add_name-requires g c =
    let same = c.in_ok-ino.ensures.same in
    let w = c.requires.2 in
    let ready = w.ready in
    let h = c.args.walked.now.second in
    let p = c.args.caller.now.geometry in
    let finds = finds_each w ready.state ready.is_state in
    let told = link_told ready.state (c.in_ok-ino.ensures.each ready.state finds) in
    record {
      inode = kept (λ (m : SectorMap). c.in_ok-ino.inode ≡ inode_at p m c.in_ok-ino.ino) same told.inode.inode;
      few = few_names finds told;
      directory = kept (λ (m : SectorMap). c.in_ok-ino.directory ≡ inode_at p m h.dir_ino) same told.directory;
      may = ready_later same ready (MayLinkAt p (g.S.Sectors.state c.check_link.new.s).sectors h c.in_ok-ino.ino)
          (kept (λ (m : SectorMap). MayLinkAt p m h c.in_ok-ino.ino ready.state) same (link_may finds told));
    }

pub returns-in_err-ino : goal.returns-in_err-ino
returns-in_err-ino g c = λ old_path new_path w.
    let r = c.from_residual.ensures in
    both_refused (link_by_two old_path new_path) unchanged_nothing w (g.S.Sectors.state c.check_link.new.s) _ _ r.0 r.1 c.in_err-ino.ensures.same.store _
    (λ s has at. c.in_err-ino.ensures.each s (finds_each w s at))

pub touch-requires : goal.touch-requires
touch-requires g c =
    let w = c.requires.2 in
    let same = c.in_ok-ino.ensures.same in
    let added = c.in_ok-add_name.ensures in
    let finds = finds_each w w.ready.state w.ready.is_state in
    let told = link_told w.ready.state (c.in_ok-ino.ensures.each w.ready.state finds) in
    may_touch {now = tables_of c.args.caller.now} w.ready (store_joined same.store added.store) (link_changed same added.made finds told)
    (linked_below (g.S.Sectors.state c.args.s.now) w.ready.is_state (link_may finds told)) 5 (taken_after c.args.caller.now.geometry 5 (g.S.Sectors.state c.add_name.new.s) same added.taken) (omega arith)

pub returns-in_err-touch : goal.returns-in_err-touch
returns-in_err-touch g c = λ old_path new_path w.
    both_broken_later (link_by_two old_path new_path) unchanged_nothing w (g.S.Sectors.state c.touch.new.s) _ _ c.from_residual-in_err-touch.ensures
    (store_joined c.in_ok-ino.ensures.same.store c.in_ok-add_name.ensures.store) c.in_err-touch.ensures.store c.in_err-touch.ensures.fault

pub returns : goal.returns
returns g c = λ old_path new_path w.
    let same = c.in_ok-ino.ensures.same in
    let added = c.in_ok-add_name.ensures in
    both_performs (link_by_two old_path new_path) unchanged_nothing w refl (g.S.Sectors.state c.add_name.new.s) (store_joined same.store added.store)
    (added.made.super ∙ same.sectors 0) c.in_ok-touch.ensures.made Done
    (λ s has at.
    let finds = finds_each w s at in
    link_changed same added.made finds (link_told s (c.in_ok-ino.ensures.each s finds)))
