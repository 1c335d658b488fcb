use Rattle.std.specs.Prelude.{◌≡◌, ◌<◌, ◌≤◌, length}
use Rattle.std.proofs.Common.{subst}
use Rattle.std.proofs.lemmas.Bool.{le-leb, lt-leb}
use Rattle.fuse_plans.specs.ListingPlans.{find_in_place, longest_name}
use Rattle.fuse_sessions.specs.Listings.{IsCopy}
use Rattle.fuse_requests.proofs.Answerings.{with-name}
use Rattle.fuse_sessions.proofs.Doings.{attempts, gives, has-failed, then-err, then-ok, where-false, where-true}
use Rattle.fuse_requests.proofs.lookups.find_copy.Goals as goal

pub returns-in-Some-clause-did : goal.returns-in-Some-clause-did
returns-in-Some-clause-did g c name copied =
    let is : (c.in-Some.name ≡ name) × (length name ≤ longest_name) = subst (IsCopy name) c.in-Some.is copied in
    attempts _ (then-ok _ (where-true _ _ (le-leb (length name) longest_name is.1) (gives _ _))
    (with-name (find_in_place c.args.needs_nobody c.args.place) is.0 c.find_in_place.ensures.did))

pub returns-in-None-clause-did : goal.returns-in-None-clause-did
returns-in-None-clause-did g c name copied =
    let is : longest_name < length name = subst (IsCopy name) c.in-None.is copied in
    attempts _ (then-err _ (where-false _ _ (lt-leb (length name) longest_name is) (has-failed _ _)))
