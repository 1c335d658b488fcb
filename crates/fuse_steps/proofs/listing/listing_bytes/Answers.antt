use Rattle.std.proofs.Common.{◌≡◌, ◌+◌, ◌≤◌, ◌∙◌, refl, sym, ap, arith, length, vec_len}
use Rattle.fs_model.specs.declared.listing.Named.{Named}
use Rattle.fuse_protocol.specs.Entries.{entry_size}
use Rattle.fuse_plans.specs.DirectoryPlans.{listing_bytes}
use Rattle.fuse_steps.proofs.Listings.{next-entry, shown-length, told-first, told-more, told-crowded, told-done, length-more, within-more}
use Rattle.fuse_steps.proofs.listing.listing_bytes.Goals as goal

pub loop-at-init : goal.loop-at-init
loop-at-init c =
    let empty : vec_len c.args.room ≡ 0 = omega (arith, c.args.room.ok.0, ap length c.requires.empty) in
    record {
      at = refl;
      small = c.behind-cursor.ensures.small;
      room = c.requires.capacity;
      within = omega (arith, empty);
      told =
          ap (listing_bytes c.args.extent.size) c.behind-cursor.ensures.behind
          ∙ told-first c.args.room.items c.args.extent.size (vec_len c.args.room) _ c.requires.empty empty;
    }

pub returns-then-not-push_named : goal.returns-then-not-push_named
returns-then-not-push_named c =
    let next = next-entry c.names-names.result.now c.loop-at.at c.index-names-at.result c.loop-at.cursor.before c.after-next.result.before _
    c.names-names.ensures c.loop-at-test.true c.index-names-at.is c.after-next.ensures.offset c.bytes.ensures.all in
    c.new.ensures ∙ told-crowded c.loop-at.bytes.items c.args.extent.size (vec_len c.loop-at.bytes) _ _ next c.loop-at.invariant.told
    c.push_named.ensures.fits c.push_named.ensures.bytes c.loop-at.invariant.within c.if-not-push_named.true

pub loop-at-preserved : goal.loop-at-preserved
loop-at-preserved c =
    let next = next-entry c.names-names.result.now c.loop-at.at c.index-names-at.result c.loop-at.cursor.before c.after-next.result.before _
    c.names-names.ensures c.loop-at-test.true c.index-names-at.is c.after-next.ensures.offset c.bytes.ensures.all in
    let named : Named = c.index-names-at.result in
    let added = c.push_named.ensures in
    let more : length c.push_named.new.to.items ≡ length c.loop-at.bytes.items + entry_size (length named.name) =
    length-more c.loop-at.bytes.items c.args.extent.size (vec_len c.loop-at.bytes) _ _ next c.loop-at.invariant.told
    added.fits added.bytes c.if-not-push_named.false in
    let later : vec_len c.push_named.new.to ≡ vec_len c.loop-at.bytes + entry_size (length named.name) =
    omega (arith, more, c.push_named.new.to.ok.0, c.loop-at.bytes.ok.0) in
    let fits : vec_len c.loop-at.bytes + entry_size (length named.name) ≤ c.args.extent.size =
    within-more c.loop-at.bytes.items c.args.extent.size (vec_len c.loop-at.bytes) _ _ next c.loop-at.invariant.told
    added.fits added.bytes c.if-not-push_named.false in
    record {
      at = omega (arith, c.after-next.ensures.at, c.loop-at.invariant.at);
      small = c.after-next.ensures.small;
      room = added.capacity;
      within = omega (arith, later, fits);
      told = told-more c.loop-at.bytes.items c.args.extent.size (vec_len c.loop-at.bytes) _ _ next c.loop-at.invariant.told
          added.fits added.bytes (vec_len c.push_named.new.to) later c.if-not-push_named.false;
    }

pub returns : goal.returns
returns c =
    let behind : length c.args.listing.now ≤ c.loop-at.at =
    omega (arith, c.loop-at-test.false, shown-length c.names-names.result.now c.names-names.ensures) in
    c.new-2.ensures ∙ sym (told-done c.loop-at.bytes.items c.args.extent.size (vec_len c.loop-at.bytes) c.loop-at.cursor.before c.loop-at.at c.args.listing.now
    behind c.loop-at.invariant.told)
