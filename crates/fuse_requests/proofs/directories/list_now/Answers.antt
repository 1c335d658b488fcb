use Rattle.fuse_plans.specs.ListingOrder.{in_order}
use Rattle.fuse_requests.proofs.Listings.{listing-kept}
use Rattle.fuse_sessions.proofs.Doings.{gives, has-failed, if-fails, keeps, then-err, then-ok, where-false, where-true}
use Rattle.fuse_state.specs.Servers.{directory_of, listing_of, with_listing}
use Rattle.std.proofs.Common.{ap, refl, subst, sym, ◌∙◌}
use Rattle.std.proofs.lemmas.Bool.{eq-eqb, ne_eqb}
use Rattle.std.specs.Prelude.{IsSome}
use Rattle.fuse_requests.proofs.directories.list_now.Goals as goal

pub returns-in_err-ino-clause-failed : goal.returns-in_err-ino-clause-failed
returns-in_err-ino-clause-failed g c = if-fails _ c.from_residual.ensures (then-err _ c.in_err-ino.ensures)

pub returns-then-node-opened-clause-failed : goal.returns-then-node-opened-clause-failed
returns-then-node-opened-clause-failed g c =
    then-ok _ c.in_ok-ino.ensures (then-err _ (where-false _ _ (ne_eqb _ _ c.if-node-opened.true) (has-failed _ _)))

pub returns-in_err-names-clause-failed : goal.returns-in_err-names-clause-failed
returns-in_err-names-clause-failed g c =
    if-fails _ c.from_residual-in_err-names.ensures
    (then-ok _ c.in_ok-ino.ensures
    (then-ok _ (where-true _ _ (eq-eqb _ _ c.if-node-opened.false) (gives _ _)) (then-err _ c.in_err-names.ensures.did)))

pub returns-clause-listed : goal.returns-clause-listed
returns-clause-listed g c =
    let listed = c.set_listing.ensures.kept ∙ ap
    (λ names. with_listing c.args.handle names c.list_all.new.session.server.server) c.in_order.ensures in
    record {
      names = in_order c.in_ok-names.names;
      did =
          then-ok _ c.in_ok-ino.ensures
          (then-ok _ (where-true _ _ (eq-eqb _ _ c.if-node-opened.false) (gives _ _))
          (then-ok _ c.in_ok-names.ensures.did (keeps _ _ refl listed (gives _ _))));
      kept =
          ap (λ s. listing_of s c.args.handle) listed
          ∙ listing-kept c.args.handle (in_order c.in_ok-names.names) c.list_all.new.session.server.server
          (subst (λ s. IsSome (directory_of s.server c.args.handle)) (sym c.in_ok-names.ensures.kept) c.requires.known);
    }
