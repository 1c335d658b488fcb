use Rattle.std.proofs.Common.{◌≡◌, ◌+◌, ◌≤◌, drop, ℕ, sym, ap, ◌∙◌, arith}
use Rattle.fs_model.specs.declared.listing.Named.{Named}
use Rattle.fuse_plans.specs.ListingOrder.{with_offsets, offset_behind}
use Rattle.fuse_steps.proofs.Cursors.{stops-here, goes-past, those_behind}
use Rattle.fuse_steps.proofs.Listings.{next-name}
use Rattle.fuse_steps.proofs.cursor.Cursor.behind.Goals as goal

pub returns-then-next-offset-clause-behind : goal.returns-then-next-offset-clause-behind
returns-then-next-offset-clause-behind c =
    let named : Named = c.index-names-at.result in
    let before : ℕ = c.loop-at.cursor.before in
    let offset : c.after-next.result.before ≡ offset_behind before named.name =
    c.after-next.ensures.offset ∙ ap (offset_behind before) c.bytes.ensures.all in
    stops-here c.args.offset before (named.name, named.ino) _
    (ap (λ (i : ℕ). drop i c.args.listing.now) c.loop-at.invariant.at
    ∙ next-name c.names-names.result.now c.loop-at.at named c.names-names.ensures c.loop-at-test.true c.index-names-at.is)
    (omega (arith, offset, c.if-next-offset.true)) c.loop-at.invariant.behind

pub loop-at-preserved : goal.loop-at-preserved
loop-at-preserved c =
    let named : Named = c.index-names-at.result in
    let before : ℕ = c.loop-at.cursor.before in
    let offset : c.after-next.result.before ≡ offset_behind before named.name =
    c.after-next.ensures.offset ∙ ap (offset_behind before) c.bytes.ensures.all in
    let past : offset_behind before named.name ≤ c.args.offset = omega (arith, offset, c.if-next-offset.false) in
    let at : c.after-next.result.at ≡ c.loop-at.at + 1 = omega (arith, c.after-next.ensures.at, c.loop-at.invariant.at) in
    record {
      at = at;
      small = c.after-next.ensures.small;
      behind =
          goes-past c.args.offset before (named.name, named.ino) _
          (ap (λ (i : ℕ). drop i c.args.listing.now) c.loop-at.invariant.at
          ∙ next-name c.names-names.result.now c.loop-at.at named c.names-names.ensures c.loop-at-test.true c.index-names-at.is)
          past c.loop-at.invariant.behind
          ∙ ap (λ (next : ℕ). those_behind c.args.offset (with_offsets next (drop (c.loop-at.at + 1) c.args.listing.now))) (sym offset)
          ∙ ap (λ (i : ℕ). those_behind c.args.offset (with_offsets c.after-next.result.before (drop i c.args.listing.now))) (sym at);
    }
