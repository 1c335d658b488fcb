use Rattle.std.proofs.Common.{◌≡◌, ◌==◌, refl, sym, ap, rules, tests}
use Rattle.std.proofs.lemmas.Bool.{ne_eqb}
use Rattle.fuse_state.specs.Servers.{listing_of}
use Rattle.fuse_plans.specs.DirectoryPlans.{list_now, listed, list_kept}
use Rattle.fuse_sessions.proofs.Doings.{gives, needs-none, needs-some, reads, same-work}
use Rattle.fuse_requests.proofs.Listings.{has-none, has-some, then-listed, then-unlisted}
use Rattle.fuse_steps.proofs.Listings.{listed-before, listed-anew, listed-first}
use Rattle.fuse_requests.proofs.directories.list_kept.Given as given
use Rattle.fuse_requests.proofs.directories.list_kept.Goals as goal
use Rattle.fuse_requests.proofs.directories.list_kept.Goals.{else-extent-ne0-via-then-extent-ne0+else-is_some, else-extent-ne0-via-else-extent-ne0}

pub returns-in_default-clause-failed : goal.returns-in_default-clause-failed
unfolding list_kept
returns-in_default-clause-failed g c = reads _ _ refl (needs-none _ _ _ (sym c.in_default.ensures))

pub returns-then-is_some-clause-listed : goal.returns-then-is_some-clause-listed
unfolding list_kept
returns-then-is_some-clause-listed g c =
    let has = has-some (listing_of c.args.session.now.server.server c.args.extent.handle) (search (rules, tests)) in
    record {
      names = has.0;
      did =
          reads _ _ refl
          (needs-some _ _ (sym c.in-Some.ensures)
          (reads _ _ refl
          (same-work (listed-before c.args.node c.args.extent.handle c.in-Some.open.now (ne_eqb _ _ c.if-extent-ne0.true) has.1) (gives has.0 c.args.session.now))));
      kept = has.1;
    }

-- nothing is kept, or it is the beginning
lists-now : (g : given.Over) (c : goal.After-list_now g)
    → let d = c.in-Some.open.now in
    listed c.args.node c.args.extent.handle d (c.args.extent.offset == 0) (listing_of c.args.session.now.server.server c.args.extent.handle)
    ≡ list_now c.args.node c.args.extent.handle d.node
lists-now g c =
    let d = c.in-Some.open.now in
    let made = listing_of c.args.session.now.server.server c.args.extent.handle in
    elim c.else-extent-ne0.branch [
      | else-extent-ne0-via-then-extent-ne0+else-is_some w ↦
          listed-first c.args.node c.args.extent.handle d (c.args.extent.offset == 0) (has-none made (search (rules, tests)))
      | else-extent-ne0-via-else-extent-ne0 w ↦
          listed-anew c.args.node c.args.extent.handle d made (ap (λ n. n == 0) w.if-extent-ne0.false)
    ]

pub returns-clause-listed : goal.returns-clause-listed
unfolding list_kept
returns-clause-listed g c =
    then-listed c.args.extent.handle c.list_now.result
    (λ names did. reads _ _ refl (needs-some _ _ (sym c.in-Some.ensures) (reads _ _ refl (same-work (lists-now g c) did))))
    c.list_now.ensures.listed

pub returns-clause-failed : goal.returns-clause-failed
unfolding list_kept
returns-clause-failed g c =
    then-unlisted c.list_now.result
    (λ e did. reads _ _ refl (needs-some _ _ (sym c.in-Some.ensures) (reads _ _ refl (same-work (lists-now g c) did))))
    c.list_now.ensures.failed
