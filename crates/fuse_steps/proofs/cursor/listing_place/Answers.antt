use Rattle.std.proofs.Common.{◌≡◌, ◌+◌, ◌/◌, true, false, refl, sym, ap, ◌∙◌, codes, bytes_eq}
use Rattle.std.specs.Hash.DefaultHasher as sip
use Rattle.fuse_plans.specs.ListingOrder.{listing_place}
use Rattle.fuse_steps.proofs.cursor.listing_place.Goals as goal

pub returns-then-eq-clause-place : goal.returns-then-eq-clause-place
unfolding listing_place
returns-then-eq-clause-place c =
    let dot : bytes_eq c.args.name.now (codes ".") ≡ true = ap (bytes_eq c.args.name.now) (sym c.as_slice.ensures) ∙ sym c.eq.ensures ∙ c.if-eq.true in
    rw dot refl

pub returns-then-eq-2-clause-place : goal.returns-then-eq-2-clause-place
unfolding listing_place
returns-then-eq-2-clause-place c =
    let dot : bytes_eq c.args.name.now (codes ".") ≡ false = ap (bytes_eq c.args.name.now) (sym c.as_slice.ensures) ∙ sym c.eq.ensures ∙ c.if-eq.false in
    let dots : bytes_eq c.args.name.now (codes "..") ≡ true = ap (bytes_eq c.args.name.now) (sym c.as_slice-2.ensures) ∙ sym c.eq-2.ensures ∙ c.if-eq-2.true in
    rw dot (rw dots refl)

pub returns-clause-place : goal.returns-clause-place
unfolding listing_place
returns-clause-place c =
    let dot : bytes_eq c.args.name.now (codes ".") ≡ false = ap (bytes_eq c.args.name.now) (sym c.as_slice.ensures) ∙ sym c.eq.ensures ∙ c.if-eq.false in
    let dots : bytes_eq c.args.name.now (codes "..") ≡ false = ap (bytes_eq c.args.name.now) (sym c.as_slice-2.ensures) ∙ sym c.eq-2.ensures ∙ c.if-eq-2.false in
    rw dot (rw dots (ap (λ hash. 3 + hash / 4) (c.finish.ensures ∙ ap sip.finish (c.write.ensures ∙ ap (λ state. sip.write state c.args.name.now) c.new-hasher.ensures))))
