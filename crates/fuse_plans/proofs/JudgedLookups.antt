-- Where the kernel judges before it asks, look-ups are refused in one kind of directory only.
--     masked-shown        what the server was shown of a directory that is masked
--     judged_lookups_are_granted
use Rattle.std.specs.Prelude.{◌≡◌, ℕ, Bool, true, false, List, [], ◌∷◌, ◌++◌, Option, None, Some, Ok, Err, IsTrue, if◌then◌else◌}
use Rattle.std.proofs.Common.{refl, sym, subst}
use Rattle.posix_acl.specs.AccessList.{AccessList, is_extended}
use Rattle.fs_cred.specs.declared.errno.Errno.TheVariants.{EACCES}
use Rattle.fs_model.specs.declared.call.AclType.TheVariants.{Access as AccessAcl}
use Rattle.fs_model.specs.declared.event.Event.{Event}
use Rattle.fs_model.specs.declared.reply.Reply.{Reply}
use Rattle.fs_model.specs.declared.reply.Reply.TheVariants.{Shown, Acl}
use Rattle.fs_model.specs.declared.reply.Status.{Status}
use Rattle.fuse_protocol.specs.declared.operation.Operation.TheVariants.{Lookup}
use Rattle.fuse_state.specs.Servers.{Server}
use Rattle.fuse_plans.specs.declared.reply.ReplyBody.{ReplyBody}
use Rattle.fuse_plans.specs.declared.reply.Response.{Response}
use Rattle.fuse_plans.specs.declared.reply.Response.TheVariants.{Silence, Says, Fails}
use Rattle.fuse_plans.specs.RequestErrors.{is_for}
use Rattle.fuse_plans.specs.Plans.{Plan, IsRunOf, at_once, later}
use Rattle.fuse_plans.specs.Works.{give, goes_on, ◌>>=◌}
use Rattle.fuse_plans.specs.Masks.{told_acl, acl_of, may_hide, hides, asks_list, list_hides, is_masked}
use Rattle.fuse_plans.specs.Requests.{Request, asked_of}
use Rattle.fuse_plans.specs.Nobody.{unless_masked, is_judged}
use Rattle.fuse_plans.specs.NamePlans.{find_name}
use Rattle.fuse_plans.specs.Serving.{Replying, answered, response_of, request_plan}
use Rattle.fuse_plans.specs.Laws.{MayBeRefused, is_masked as masked, server_refused, JudgedLookupsAreGranted}
use Rattle.fuse_plans.proofs.EachRun.{EachRun, each-run, each-weaker, each->>=, each-any, each-both, each-itself, each-ends, asked-before, asked-after, Ends, looked, listed, stat, get_list}
use Rattle.fuse_plans.proofs.Searches.{refused-before, numbered, plan_for, search_then, searches, Explained, explained}

-- ---- directories that are masked

abbrev MaskShown : List Event → List Reply → Ends Bool → Type 0
MaskShown es replies (Ok true, t) = MayBeRefused es replies
MaskShown es replies (Ok false, t) = Unit {0}
MaskShown es replies (Err e, t) = Unit {0}

told-hides : (acl : Option AccessList) → hides (told_acl AccessAcl acl) ≡ true → (a : AccessList) × (acl ≡ Some a) × (hides (Some a) ≡ true)
told-hides None is = absurd (cc)
told-hides (Some a) is = choose (is_extended a) is
  where
    choose : (b : Bool) → hides (if b then Some a else None) ≡ true → (c : AccessList) × (Some a ≡ Some c) × (hides (Some c) ≡ true)
    choose true is = (a, refl, is)
    choose false is = absurd (cc)

module _ (n : ℕ) (s : Server) where
  both-shown : (status : Status) → may_hide status.mode ≡ true → (acl : Option AccessList) (b : Bool) → hides (told_acl AccessAcl acl) ≡ b
      → MaskShown (stat n ∷ get_list n AccessAcl ∷ []) (Shown status ∷ Acl acl ∷ []) (Ok b, s)
  both-shown status may acl false is = tt
  both-shown status may acl true is =
      let list = told-hides acl is in
      subst (λ a. MayBeRefused (stat n ∷ get_list n AccessAcl ∷ []) (Shown status ∷ Acl a ∷ [])) (sym list.1)
      (masked n status list.0 (get_list n AccessAcl ∷ []) [] (at_once (Acl (Some list.0) ∷ [])) may
      (later (stat n) (Shown status) (get_list n AccessAcl ∷ []) (Acl (Some list.0) ∷ []) (at_once [])) list.2)

  list-shown : (status : Status) (b : Bool) → may_hide status.mode ≡ b
      → EachRun (λ es replies q. MaskShown (stat n ∷ es) (Shown status ∷ replies) q) ((if b then (acl_of n AccessAcl >>= (λ acl. give (hides acl))) else give false) s)
  unfolding give
  list-shown status false may = tt
  list-shown status true may =
      each->>= (λ es replies q. MaskShown (stat n ∷ es) (Shown status ∷ replies) q) (acl_of n AccessAcl) (λ acl. give (hides acl)) s
      (listed (λ es replies r. EachRun (λ fs rest q. MaskShown (stat n ∷ (es ++ fs)) (Shown status ∷ (replies ++ rest)) q) (goes_on (λ acl. give (hides acl)) r))
      n AccessAcl (λ acl. give (told_acl AccessAcl acl)) s (λ acl. both-shown status may acl (hides (told_acl AccessAcl acl)) refl) (λ reply e. tt))

  masked-shown : EachRun MaskShown (list_hides n s)
  masked-shown = looked MaskShown n (asks_list n) s (λ status. list-shown status (may_hide status.mode) refl) (λ reply e. tt)

node-shown : (node : ℕ) (s : Server) → EachRun MaskShown (is_masked node s)
unfolding is_masked
node-shown node s = numbered MaskShown node list_hides s (λ n of_node. masked-shown n s) tt

abbrev JudgedSo : List Event → List Reply → Bool → Type 0
JudgedSo es replies true = Unit {0}
JudgedSo es replies false = MayBeRefused es replies

judged-so : (node : ℕ) (s : Server) → EachRun JudgedSo (is_judged node true s)
judged-so node s =
    each-ends JudgedSo (is_masked node s) (λ r. unless_masked r.0)
    (each-weaker MaskShown (λ es replies r. JudgedSo es replies (unless_masked r.0)) (is_masked node s) (node-shown node s) so)
  where
    so : (es : List Event) (replies : List Reply) (r : Ends Bool) → MaskShown es replies r → JudgedSo es replies (unless_masked r.0)
    so es replies (Ok true, t) shown = shown
    so es replies (Ok false, t) shown = tt
    so es replies (Err e, t) shown = tt

-- ---- look-ups

may_be_more : {es : List Event} {replies : List Reply} (fs : List Event) (rest : List Reply) → MayBeRefused es replies → MayBeRefused (es ++ fs) (replies ++ rest)
may_be_more fs rest (masked n status acl after acl_after shown may list hid) =
    masked n status acl (after ++ fs) (acl_after ++ fs) (asked-after fs rest shown) may (asked-after fs rest list) hid
may_be_more fs rest (server_refused was) =
    server_refused (record { event = was.event; is_by = was.is_by; refusal = was.refusal; after = was.after ++ fs; asked = asked-after fs rest was.asked; for_it = was.for_it })

may_be_later : {X : Type 0} {fs : List Event} {rest : List Reply} (p : Plan X) (es : List Event) (replies : List Reply) (x : X) → IsRunOf p es replies x
    → MayBeRefused fs rest → MayBeRefused (es ++ fs) (replies ++ rest)
may_be_later p es replies x runs (masked n status acl after acl_after shown may list hid) =
    masked n status acl after acl_after (asked-before p es replies x runs shown) may (asked-before p es replies x runs list) hid
may_be_later p es replies x runs (server_refused was) = server_refused (refused-before p es replies x runs was)

abbrev RefusedIn : List Event → List Reply → Response × Server → Type 0
RefusedIn es replies (Silence, t) = Unit {0}
RefusedIn es replies (Says body, t) = Unit {0}
RefusedIn es replies (Fails e, t) = IsTrue (is_for EACCES e) → MayBeRefused es replies

module _ (r : Request) (name : List ℕ) (s : Server) where
  -- by the server
  found-so : (memory : Bool) → EachRun RefusedIn (answered memory (Replying (find_name (asked_of r true) name)) s)
  found-so false = λ is. absurd (cc)
  found-so true =
      each-ends RefusedIn (find_name (asked_of r true) name s) (λ q. (response_of q.0, q.1))
      (each-weaker Explained (λ es replies q. RefusedIn es replies (response_of q.0, q.1)) (find_name (asked_of r true) name s) (explained r name s) so)
    where
      so : (es : List Event) (replies : List Reply) (q : Ends ReplyBody) → Explained es replies q → RefusedIn es replies (response_of q.0, q.1)
      so es replies (Ok body, t) why = tt
      so es replies (Err e, t) why = λ denied. server_refused (why denied)

  refused-more : {es : List Event} {replies : List Reply} → MayBeRefused es replies → (fs : List Event) (rest : List Reply) (q : Response × Server) → RefusedIn (es ++ fs) (replies ++ rest) q
  refused-more may fs rest (Silence, t) = tt
  refused-more may fs rest (Says body, t) = tt
  refused-more may fs rest (Fails e, t) = λ denied. may_be_more fs rest may

  refused-later : (p : Plan Bool) (es : List Event) (replies : List Reply) (b : Bool) → IsRunOf p es replies b
      → (fs : List Event) (rest : List Reply) (q : Response × Server) → RefusedIn fs rest q → RefusedIn (es ++ fs) (replies ++ rest) q
  refused-later p es replies b runs fs rest (Silence, t) refused = tt
  refused-later p es replies b runs fs rest (Says body, t) refused = tt
  refused-later p es replies b runs fs rest (Fails e, t) refused = λ denied. may_be_later p es replies b runs (refused denied)

  -- once it is known whether the kernel follows the list
  then-refused : (es : List Event) (replies : List Reply) (nobody : Bool) → IsRunOf (is_judged r.node true s) es replies nobody × JudgedSo es replies nobody
      → EachRun (λ fs rest q. RefusedIn (es ++ fs) (replies ++ rest) q) (search_then r name s nobody)
  then-refused es replies true judged =
      each-weaker RefusedIn (λ fs rest q. RefusedIn (es ++ fs) (replies ++ rest) q) (search_then r name s true) (found-so r.memory)
      (refused-later (is_judged r.node true s) es replies true judged.0)
  then-refused es replies false judged = each-any (λ fs rest q. RefusedIn (es ++ fs) (replies ++ rest) q) (search_then r name s false) (refused-more judged.1)

  searched-so : IsTrue s.settings.posix_acl → EachRun RefusedIn (plan_for r (Some (Lookup name)) s)
  searched-so judges =
      searches RefusedIn r name s
      (subst (λ b. EachRun (λ es replies nobody. EachRun (λ fs rest q. RefusedIn (es ++ fs) (replies ++ rest) q) (search_then r name s nobody)) (is_judged r.node b s)) (sym judges)
      (each-weaker (λ es replies nobody. IsRunOf (is_judged r.node true s) es replies nobody × JudgedSo es replies nobody)
      (λ es replies nobody. EachRun (λ fs rest q. RefusedIn (es ++ fs) (replies ++ rest) q) (search_then r name s nobody)) (is_judged r.node true s)
      (each-both (IsRunOf (is_judged r.node true s)) JudgedSo (is_judged r.node true s) (each-itself (is_judged r.node true s)) (judged-so r.node s)) then-refused))

pub judged_lookups_are_granted : JudgedLookupsAreGranted
unfolding request_plan
judged_lookups_are_granted r s t name es replies e asks judges denied runs =
    each-run RefusedIn (plan_for r (Some (Lookup name)) s) es replies (Fails e, t) (searched-so r name s judges)
    (subst (λ o. IsRunOf {X = Response × Server} (plan_for r o s) es replies (Fails e, t)) asks runs) denied
