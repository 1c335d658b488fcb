use Rattle.fuse_plans.specs.Serving.{agreed, begin}
use Rattle.fuse_sessions.proofs.Doings.{gives-as, has-failed, keeps, reads-last, where-false, where-true}
use Rattle.fuse_state.specs.declared.settings.Settings.{Settings}
use Rattle.std.proofs.Common.{ap, refl, ◌∙◌}
use Rattle.std.proofs.lemmas.Bool.{le-ltb, lt-ltb}
use Rattle.fuse_requests.proofs.beginning.begin.Goals as goal

pub returns-then-offer-lt-VERSION : goal.returns-then-offer-lt-VERSION
unfolding begin
returns-then-offer-lt-VERSION g c = where-true _ _ (lt-ltb _ _ c.if-offer-lt-VERSION.true) (has-failed _ _)

pub returns-then-offer-gt-VERSION : goal.returns-then-offer-gt-VERSION
unfolding begin
returns-then-offer-gt-VERSION g c =
    where-false _ _ (le-ltb _ _ c.if-offer-lt-VERSION.false) (where-true _ _ (lt-ltb _ _ c.if-offer-gt-VERSION.true) (gives-as c.terms.ensures))

pub returns : goal.returns
unfolding begin
returns g c =
    where-false _ _ (le-ltb _ _ c.if-offer-lt-VERSION.false) (where-false _ _ (le-ltb _ _ c.if-offer-gt-VERSION.false)
    (keeps _ _ refl (rw c.offers_acls.ensures at c.agree_on_acls.ensures.kept)
    (reads-last _ _ (c.agreed.ensures ∙ ap (λ (k : Settings). agreed c.args.offer.now k) c.settings.ensures))))
