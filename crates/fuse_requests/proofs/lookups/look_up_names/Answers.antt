use Rattle.std.specs.Prelude.{◌≡◌, ◌+◌, ◌-◌, ◌<◌, ◌≤◌, ℕ, List, [], ◌∷◌, ◌++◌, length, drop, slice_get, option_and_then, Some, Ok, vec_len}
use Rattle.std.proofs.Common.{refl, sym, ap, subst, ◌∙◌, arith, append_assoc}
use Rattle.std.proofs.lemmas.List.{append-nil}
use Rattle.fuse_protocol.specs.Entries.{directory_record_bytes, record_size}
use Rattle.fuse_state.specs.Servers.{listing_of}
use Rattle.fuse_plans.specs.ListingOrder.{behind, with_offsets}
use Rattle.fuse_plans.specs.ListingPlans.{LookedUp, look_up_names, names_within, records_bytes, told_record}
use Rattle.fuse_steps.proofs.Cursors.{next-offset}
use Rattle.fuse_sessions.specs.Performing.{Did}
use Rattle.fuse_sessions.proofs.Doings.{same-work}
use Rattle.fuse_requests.proofs.Listings.{has-some, length-told, next-named, records-more, tells-end, tells-next}
use Rattle.fuse_requests.proofs.lookups.look_up_names.Goals as goal

pub loop-next-init : goal.loop-next-init
loop-next-init g c =
    let empty : vec_len c.args.room ≡ 0 = omega (arith, c.args.room.ok.0, ap length c.requires.fits.0) in
    let all : c.args.extent.size - vec_len c.args.room ≡ c.args.extent.size = omega (arith, empty) in
    record {
      told = λ listing is. (
        [],
        c.requires.fits.0,
        λ fin rest did.
            same-work (ap (λ k. look_up_names c.args.needs_nobody c.args.place (names_within k (behind c.args.extent.offset listing))) (sym all))
            (same-work (ap (λ names. look_up_names c.args.needs_nobody c.args.place (names_within (c.args.extent.size - vec_len c.args.room) names))
            (c.begin_behind-cursor.ensures.behind listing is)) did),
      );
      kept = refl;
      capacity = c.requires.fits.1;
      within = omega (arith, empty);
      names = omega (arith, empty, c.requires.fits.2);
      small = c.begin_behind-cursor.ensures.small;
    }

pub loop-next-preserved : goal.loop-next-preserved
loop-next-preserved g c =
    let at = c.loop-next.cursor.at in
    let held = vec_len c.loop-next.bytes in
    let ends = c.in-Some.ensures in
    let e = has-some _ (ends.there refl) in
    let next = ends.told e.0 e.1 in
    let l : LookedUp = ((c.in-Some.next.before, e.0), next.0.found) in
    record {
      told = λ listing is.
          let old = c.loop-next.invariant.told listing is in
          let there : listing_of c.loop-next.session.server.server c.args.extent.handle ≡ Some listing =
          ap (λ s. listing_of s.server c.args.extent.handle) c.loop-next.invariant.kept ∙ is in
          let named : slice_get listing at ≡ Some e.0 = sym (ap (λ o. option_and_then (λ names. slice_get names at) o) there) ∙ e.1 in
          let rest_is : with_offsets c.loop-next.cursor.before (drop at listing) ≡ (c.in-Some.next.before, e.0) ∷ with_offsets c.in-Some.next.before (drop c.in-Some.next.at listing) =
          next-offset c.loop-next.cursor.before c.in-Some.next.before e.0 next.1
          (next-named listing at e.0 named ∙ ap (λ (k : ℕ). e.0 ∷ drop k listing) (sym (ends.next.0))) in
          let bytes : c.tell_named.new.bytes.items ≡ c.loop-next.bytes.items ++ directory_record_bytes (told_record l) =
          next.0.bytes ∙ ap (λ (offset : ℕ). c.loop-next.bytes.items ++ directory_record_bytes (told_record ((offset, e.0), next.0.found))) (sym next.1) in
          let more : length c.tell_named.new.bytes.items ≡ length c.loop-next.bytes.items + record_size (length e.0.0) =
          length-told l c.loop-next.bytes.items bytes in
          let later : vec_len c.tell_named.new.bytes ≡ held + record_size (length e.0.0) =
          omega (arith, more, c.tell_named.new.bytes.ok.0, c.loop-next.bytes.ok.0) in
          let fits : held + record_size (length e.0.0) ≤ c.args.extent.size = omega (arith, next.0.fits, c.loop-next.bytes.ok.0) in (
            old.0 ++ (l ∷ []),
            bytes ∙ ap (λ b. b ++ directory_record_bytes (told_record l)) old.1 ∙ sym (records-more old.0 l),
            λ fin rest did.
                subst (λ (all : List LookedUp). Did g.M.Machine.Serves
                (look_up_names c.args.needs_nobody c.args.place (names_within c.args.extent.size (behind c.args.extent.offset listing)))
                c.args.session.now fin (Ok all))
                (sym (append_assoc old.0 (l ∷ []) rest))
                (old.2 fin (l ∷ rest)
                (same-work (ap (λ names. look_up_names c.args.needs_nobody c.args.place (names_within (c.args.extent.size - held) names)) rest_is)
                (tells-next g.M.Machine.Serves c.args.needs_nobody c.args.place c.args.extent.size held (vec_len c.tell_named.new.bytes)
                (c.in-Some.next.before, e.0) _ fits later next.0.did did))),
          );
      kept = ends.kept ∙ c.loop-next.invariant.kept;
      capacity = ends.capacity;
      within = ends.within refl;
      names = omega (arith, ends.longer refl, ends.names, c.loop-next.invariant.names);
      small = ends.next.1;
    }

pub returns : goal.returns
returns g c listing is =
    let at = c.loop-next.cursor.at in
    let held = vec_len c.loop-next.bytes in
    let ends = c.in_default.ensures in
    let old = c.loop-next.invariant.told listing is in
    let there : listing_of c.loop-next.session.server.server c.args.extent.handle ≡ Some listing =
    ap (λ s. listing_of s.server c.args.extent.handle) c.loop-next.invariant.kept ∙ is in
    let crowds : (e : List ℕ × ℕ) → slice_get listing at ≡ Some e → c.args.extent.size < held + record_size (length e.0) =
    λ e named. omega (arith, ends.crowded e (ap (λ o. option_and_then (λ names. slice_get names at) o) there ∙ named) refl, c.loop-next.bytes.ok.0) in
    let done : Did g.M.Machine.Serves (look_up_names c.args.needs_nobody c.args.place (names_within c.args.extent.size (behind c.args.extent.offset listing)))
    c.args.session.now c.loop-next.session (Ok (old.0 ++ [])) =
    old.2 c.loop-next.session []
    (tells-end g.M.Machine.Serves c.args.needs_nobody c.args.place c.args.extent.size held c.loop-next.cursor.before at listing c.loop-next.session
    c.loop-next.invariant.within crowds) in (
      old.0 ++ [],
      c.new.ensures ∙ ends.unwritten refl ∙ old.1 ∙ ap records_bytes (sym (append-nil old.0)),
      subst (λ s. Did g.M.Machine.Serves (look_up_names c.args.needs_nobody c.args.place (names_within c.args.extent.size (behind c.args.extent.offset listing)))
          c.args.session.now s (Ok (old.0 ++ []))) (sym (ends.same refl)) done,
    )
