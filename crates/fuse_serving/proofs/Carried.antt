-- Plans that are carried out: where nothing is asked, and one after another.
use Rattle.std.proofs.Common.{◌≡◌, List, [], ◌∷◌, Ok, sym, subst}
use Rattle.fs_model.specs.declared.event.Event.{Event}
use Rattle.fs_model.specs.declared.reply.Reply.{Reply}
use Rattle.fuse_state.specs.Servers.{Server}
use Rattle.fuse_plans.specs.declared.reply.Response.{Response}
use Rattle.fuse_plans.specs.Plans.{Plan, Finish, followed_by, CarriesOut, finishes, asks}
use Rattle.fuse_plans.specs.Requests.{Request}
use Rattle.fuse_plans.specs.declared.request.WhoCounts.{WhoCounts}
use Rattle.fuse_plans.specs.Nobody.{who_counts_in, is_nobody}
use Rattle.fuse_plans.specs.Serving.{answered_as, keep_due_in, request_plan, served_plan, requests_plan}
use Rattle.fuse_serving.specs.Rounds.{IsOfUser, IsFoundSo, IsAnsweredSo}

pub nothing_asked : {M X : Type 0} (Serves : M → Event → Reply → M → Type 0) (plan : Plan X) (old new : M) (x y : X)
    → plan ≡ Finish x → new ≡ old → y ≡ x → CarriesOut Serves plan old new y
nothing_asked {M} {X} Serves plan old new x y is machine same =
    let first : CarriesOut Serves (Finish x) old old x = finishes x old in
    let second : CarriesOut Serves plan old old x = subst (λ (p : Plan X). CarriesOut Serves p old old x) (sym is) first in
    let third : CarriesOut Serves plan old new x = subst (λ (m : M). CarriesOut Serves plan old m x) (sym machine) second in
    subst (λ (z : X). CarriesOut Serves plan old new z) (sym same) third

pub carried_then : {M X Y : Type 0} (Serves : M → Event → Reply → M → Type 0) (p : Plan X) (f : X → Plan Y) (old mid new : M) (x : X) (y : Y)
    → CarriesOut Serves p old mid x → CarriesOut Serves (f x) mid new y → CarriesOut Serves (followed_by p f) old new y
carried_then Serves p f old mid new x y (finishes _ _) rest = rest
carried_then Serves p f old mid new x y (asks e next reply _ after _ _ serves first) rest =
    asks e (λ r. followed_by (next r) f) reply old after new y serves (carried_then Serves (next reply) f after mid new x y first rest)

-- ---- requests

module _ {M : Type 0} (Serves : M → Event → Reply → M → Type 0) where
  pub whole : (r : Request) (who : WhoCounts) (response : Response) (before after : Server) (old new : M) → IsAnsweredSo Serves r who response before after old new
      → CarriesOut Serves (served_plan r before) old new (response, after)
  unfolding served_plan request_plan
  whole r who response before after old new is =
      carried_then Serves (keep_due_in r.operation r.now before) (λ u. request_plan r u.1) old is.found.mid new (Ok tt, is.kept) (response, after) is.found.keeps
      (carried_then Serves (who_counts_in r.node r.uid r.operation is.kept) _ is.found.mid is.mid new who (response, after) is.found.finds is.answers)

  pub found_after : (r : Request) (who : WhoCounts) {before kept : Server} {old mid new : M}
      → CarriesOut Serves (keep_due_in r.operation r.now before) old mid (Ok tt, kept)
      → CarriesOut Serves (who_counts_in r.node r.uid r.operation kept) mid new who → IsFoundSo Serves r who before kept old new
  found_after r who {before} {kept} {old} {mid} {new} keeps finds = record { mid = mid; keeps = keeps; finds = finds }

  -- who counts was found first, and the server kept what it kept
  pub answered_after : (r : Request) (who : WhoCounts) (response : Response) {before kept found after : Server} {old mid new : M}
      → IsFoundSo Serves r who before kept old mid → found ≡ kept → IsOfUser who r.cred
      → CarriesOut Serves (answered_as (is_nobody who) r found) mid new (response, after) → IsAnsweredSo Serves r who response before after old new
  answered_after r who response {before} {kept} {found} {after} {old} {mid} {new} first same user answers = record {
    kept = kept;
    mid = mid;
    found = first;
    of_user = user;
    answers = subst (λ (s : Server). CarriesOut Serves (answered_as (is_nobody who) r s) mid new (response, after)) same answers;
  }

  pub carried_on : (r : Request) (rs : List Request) (before mid after : Server) (old next new : M) (first : Response) (rest : List Response)
      → CarriesOut Serves (served_plan r before) old next (first, mid) → CarriesOut Serves (requests_plan rs mid) next new (rest, after)
      → CarriesOut Serves (requests_plan (r ∷ rs) before) old new (first ∷ rest, after)
  unfolding requests_plan
  carried_on r rs before mid after old next new first rest one more =
      carried_then Serves (served_plan r before) _ old next new (first, mid) (first ∷ rest, after) one
      (carried_then Serves (requests_plan rs mid) _ next new new (rest, after) (first ∷ rest, after) more (finishes _ _))

  pub carried_none : (s : Server) (m : M) → CarriesOut Serves (requests_plan [] s) m m ([], s)
  unfolding requests_plan
  carried_none s m = finishes ([], s) m
