-- What the kernel may keep of names.
--     valid-seen, new-sees        for how long a new name may be kept, and what was seen of its directory
--     told-kept        the same where the machine is told the time first
--     names_are_kept_where_judged, only_missing_names_are_absent
use Rattle.std.specs.Prelude.{◌≡◌, ℕ, ◌<◌, ◌==◌, Bool, true, false, not, List, [], ◌∷◌, ◌++◌, bit_and, Option, None, Some, Ok, Err, IsTrue, if◌then◌else◌}
use Rattle.std.proofs.Common.{refl, sym, subst, ◌∙◌, arith}
use Rattle.fs_layout.proofs.FirstEntries.{left as and-first}
use Rattle.fs_cred.specs.declared.errno.Errno.TheVariants.{EINVAL, EPERM}
use Rattle.fs_model.specs.declared.call.Call.TheVariants.{Open as OpenCall}
use Rattle.fs_model.specs.declared.event.Event.{Event}
use Rattle.fs_model.specs.declared.event.Event.TheVariants.{Clock}
use Rattle.fs_model.specs.declared.reply.Reply.{Reply}
use Rattle.fuse_protocol.specs.declared.operation.Operation.{Operation}
use Rattle.fuse_protocol.specs.declared.operation.Operation.TheVariants.{Lookup, SymLink, MkNod, MkDir, Create}
use Rattle.fuse_state.specs.Servers.{Server, number_of_node}
use Rattle.fuse_state.specs.Stamps.{stamp_of}
use Rattle.fuse_plans.specs.declared.reply.ReplyBody.{ReplyBody}
use Rattle.fuse_plans.specs.declared.reply.ReplyBody.TheVariants.{Absent}
use Rattle.fuse_plans.specs.declared.reply.Response.{Response}
use Rattle.fuse_plans.specs.declared.reply.Response.TheVariants.{Silence, Says, Fails}
use Rattle.fuse_plans.specs.RequestErrors.{failed}
use Rattle.fuse_plans.specs.Plans.{IsRunOf}
use Rattle.fuse_plans.specs.Works.{Work, give, fail, kept, goes_on, ◌>>=◌, ◌>>◌, attempt, ask}
use Rattle.fuse_plans.specs.Flags.{mode_in, making}
use Rattle.fuse_plans.specs.Masks.{list_hides}
use Rattle.fuse_plans.specs.Times.{tell_time_if, tell_time}
use Rattle.fuse_plans.specs.NamePlans.{keeps_names, unless_hidden, new_valid_if, new_valid, make_link, make_directory, is_of_file, make_file, make_closed, directory_for, find_name}
use Rattle.fuse_plans.specs.FilePlans.{create_file}
use Rattle.fuse_plans.specs.Requests.{Request, asked_of}
use Rattle.fuse_plans.specs.Nobody.{is_judged}
use Rattle.fuse_plans.specs.Serving.{Replying, answered, response_of, request_plan}
use Rattle.fuse_plans.specs.Laws.{names_an_object}
use Rattle.fuse_plans.specs.KeepingLaws.{name_valid_in, MayKeepName, is_looked_up, is_new, NamesAreKeptWhereJudged, IsMissing, OnlyMissingNamesAreAbsent}
use Rattle.fuse_plans.proofs.EachRun.{EachRun, each-run, each-weaker, each-any, each-all, each-itself, each-ends, each->>=, ended, Ends}
use Rattle.fuse_plans.proofs.Searches.{refused-before, needs, numbered, in-directory, plain, plan_for, search_then, searches, is_absent, Explained, explained}
use Rattle.fuse_plans.proofs.ToldNames.{EndsSo, so-after, IsFor, Leads, TellsFor, for-tell_made, for-create_by, plain-plan, IsThere, there-plan, SaysSo, all-planned, all-unjudged}

positive : (n : ℕ) → 0 < n → n ≡ 0 → ⊥
positive n lt is = omega (arith, lt, is)

-- ---- a new name

module _ (r : Request) (s : Server) where
  -- the kernel judges, and it was found that it follows the list of the directory
  record Followed (d : ℕ) (es : List Event) (replies : List Reply) : Type 0 where
    judges : s.settings.posix_acl ≡ true
    afterwards : Server
    runs : IsRunOf (list_hides d s) es replies (Ok false, afterwards)

  abbrev ValidSeen : ℕ → List Event → List Reply → Ends ℕ → Type 0
  ValidSeen d es replies (Ok valid, t) = 0 < valid → Followed d es replies
  ValidSeen d es replies (Err e, t) = Unit {0}

  not-valid : {d : ℕ} {es : List Event} {replies : List Reply} → 0 < 0 → Followed d es replies
  not-valid lt = absurd (positive 0 lt refl)

  -- it was asked of the list
  list-seen : (d : ℕ) → keeps_names s.settings ≡ true → (es : List Event) (replies : List Reply) (q : Ends Bool) → IsRunOf (list_hides d s) es replies q
      → ValidSeen d es replies (Ok (unless_hidden s.settings.keeping.names q.0), q.1)
  list-seen d keeps es replies (Ok true, t) runs = not-valid
  list-seen d keeps es replies (Ok false, t) runs =
      λ lt. record { judges = and-first s.settings.posix_acl (not (s.settings.keeping.names == 0)) keeps; afterwards = t; runs = runs }
  list-seen d keeps es replies (Err e, t) runs = not-valid

  tried-seen : (d : ℕ) → keeps_names s.settings ≡ true
      → EachRun (λ es replies q. EachRun (λ fs rest z. ValidSeen d (es ++ fs) (replies ++ rest) z) (goes_on (λ hides. give (unless_hidden s.settings.keeping.names hides)) q)) (attempt (list_hides d) s)
  unfolding attempt give
  tried-seen d keeps =
      each-ends (λ es replies q. EachRun (λ fs rest z. ValidSeen d (es ++ fs) (replies ++ rest) z) (goes_on (λ hides. give (unless_hidden s.settings.keeping.names hides)) q))
      (list_hides d s) (λ q. (Ok q.0, q.1))
      (each-weaker (IsRunOf (list_hides d s)) (λ es replies q. ValidSeen d (es ++ []) (replies ++ []) (Ok (unless_hidden s.settings.keeping.names q.0), q.1)) (list_hides d s)
      (each-itself (list_hides d s))
      (λ es replies q runs. ended (ValidSeen d) es replies (Ok (unless_hidden s.settings.keeping.names q.0), q.1) (list-seen d keeps es replies q runs)))

  valid-seen : (d : ℕ) → EachRun (ValidSeen d) (new_valid d s)
  unfolding new_valid kept give ◌>>=◌
  valid-seen d = choose (keeps_names s.settings) refl
    where
      choose : (b : Bool) → keeps_names s.settings ≡ b → EachRun (ValidSeen d) (new_valid_if d s.settings.keeping.names b s)
      choose false keeps = not-valid
      choose true keeps = each->>= (ValidSeen d) (attempt (list_hides d)) (λ hides. give (unless_hidden s.settings.keeping.names hides)) s (tried-seen d keeps)

  -- with the first replies the list was seen
  data SeesList : List Event → List Reply → Type 0 where
    sees : (d : ℕ) (t : Server) (first after : List Event) (replied rest : List Reply) → s.settings.posix_acl ≡ true → number_of_node s r.node ≡ Some d
        → IsRunOf (list_hides d s) first replied (Ok false, t) → SeesList (first ++ after) (replied ++ rest)

  abbrev SeesIn : List Event → List Reply → Ends ReplyBody → Type 0
  SeesIn es replies (Ok body, t) = 0 < name_valid_in body → SeesList es replies
  SeesIn es replies (Err e, t) = Unit {0}

  new-sees : (d : ℕ) (rest : ℕ → Work ReplyBody) → number_of_node s r.node ≡ Some d → ((valid : ℕ) → TellsFor valid (rest valid))
      → EachRun SeesIn ((new_valid d >>= rest) s)
  new-sees d rest of_node tells =
      each->>= SeesIn (new_valid d) rest s
      (each-weaker (ValidSeen d) (λ es replies q. EachRun (λ fs others z. SeesIn (es ++ fs) (replies ++ others) z) (goes_on rest q)) (new_valid d s) (valid-seen d) go)
    where
      says : (es : List Event) (replies : List Reply) (valid : ℕ) → (0 < valid → Followed d es replies) → (fs : List Event) (others : List Reply) (z : Ends ReplyBody)
          → EndsSo (λ body t. IsFor valid body t × Leads body t) z → SeesIn (es ++ fs) (replies ++ others) z
      says es replies valid seen fs others (Ok body, t) is =
          λ lt. (let found = seen (subst (λ n. 0 < n) is.0.0 lt) in sees d found.afterwards es fs replies others found.judges of_node found.runs)
      says es replies valid seen fs others (Err e, t) any = tt

      go : (es : List Event) (replies : List Reply) (q : Ends ℕ) → ValidSeen d es replies q → EachRun (λ fs others z. SeesIn (es ++ fs) (replies ++ others) z) (goes_on rest q)
      go es replies (Ok valid, u) seen =
          each-all (EndsSo (λ body t. IsFor valid body t × Leads body t)) (λ fs others z. SeesIn (es ++ fs) (replies ++ others) z) (rest valid u) ((tells valid).at u) (says es replies valid seen)
      go es replies (Err e, u) seen = tt

  -- ---- what may be kept

  abbrev Kept : List Event → List Reply → Type 0
  Kept es replies = IsTrue s.settings.posix_acl × MayKeepName r s es replies

  abbrev KeptIn : List Event → List Reply → Response × Server → Type 0
  KeptIn es replies (Silence, t) = Unit {0}
  KeptIn es replies (Says body, t) = 0 < name_valid_in body → Kept es replies
  KeptIn es replies (Fails e, t) = Unit {0}

  abbrev KeptAt : List Event → List Reply → Ends ReplyBody → Type 0
  KeptAt es replies q = KeptIn es replies (response_of q.0, q.1)

  -- the machine is told the time first, where it keeps it
  told-kept : (w : Work ReplyBody) → EachRun SeesIn (w s) → EachRun KeptAt ((tell_time r.now >> w) s)
  unfolding tell_time kept give ask ◌>>=◌
  told-kept w each = choose s.settings.keeps_times refl
    where
      at-once : s.settings.keeps_times ≡ false → {es : List Event} {replies : List Reply} → SeesList es replies → Kept es replies
      at-once keeps (sees d t first after replied rest judges of_node runs) =
          (judges, is_new d t first after replied rest of_node (subst (λ b. IsRunOf ((tell_time_if b r.now >> list_hides d) s) first replied (Ok false, t)) (sym keeps) runs))

      once-told : s.settings.keeps_times ≡ true → (reply : Reply) {es : List Event} {replies : List Reply} → SeesList es replies
          → Kept (Clock (stamp_of r.now) ∷ es) (reply ∷ replies)
      once-told keeps reply (sees d t first after replied rest judges of_node runs) = (
        judges,
        is_new d t (Clock (stamp_of r.now) ∷ first) after (reply ∷ replied) rest of_node
            (subst (λ b. IsRunOf ((tell_time_if b r.now >> list_hides d) s) (Clock (stamp_of r.now) ∷ first) (reply ∷ replied) (Ok false, t)) (sym keeps) (refl, runs)),
      )

      now : s.settings.keeps_times ≡ false → (es : List Event) (replies : List Reply) (q : Ends ReplyBody) → SeesIn es replies q → KeptAt es replies q
      now keeps es replies (Ok body, t) seen = λ lt. at-once keeps (seen lt)
      now keeps es replies (Err e, t) seen = tt

      then_so : s.settings.keeps_times ≡ true → (reply : Reply) (es : List Event) (replies : List Reply) (q : Ends ReplyBody) → SeesIn es replies q
          → KeptAt (Clock (stamp_of r.now) ∷ es) (reply ∷ replies) q
      then_so keeps reply es replies (Ok body, t) seen = λ lt. once-told keeps reply (seen lt)
      then_so keeps reply es replies (Err e, t) seen = tt

      choose : (b : Bool) → s.settings.keeps_times ≡ b → EachRun KeptAt ((tell_time_if b r.now >> w) s)
      choose false keeps = each-weaker SeesIn KeptAt (w s) each (now keeps)
      choose true keeps = λ reply. each-weaker SeesIn (λ es replies q. KeptAt (Clock (stamp_of r.now) ∷ es) (reply ∷ replies) q) (w s) each (then_so keeps reply)

  answered-kept : (memory : Bool) (w : Work ReplyBody) → EachRun SeesIn (w s) → EachRun KeptIn (answered memory (Replying (tell_time r.now >> w)) s)
  answered-kept false w each = tt
  answered-kept true w each = each-ends KeptIn ((tell_time r.now >> w) s) (λ q. (response_of q.0, q.1)) (told-kept w each)

  -- ---- each request that makes a name

  abbrev file_in : List ℕ → ℕ → ℕ → Work ReplyBody
  file_in name mode umask = directory_for r.node name >>= (λ d. make_closed (asked_of r false) d (bit_and umask 0o777) (OpenCall name making (bit_and mode 0o777)))

  file_in-sees : (name : List ℕ) (mode umask : ℕ) → EachRun SeesIn (file_in name mode umask s)
  file_in-sees name mode umask =
      in-directory SeesIn r.node name _ s
      (λ d of_node. new-sees d _ of_node (λ valid. so-after _ (λ cred. so-after _ (λ reply. so-after _ (λ opened. so-after _ (λ closed. for-tell_made r.now valid d opened.1))))))
      (λ e. tt)

  file-sees : (name : List ℕ) (mode umask : ℕ) → EachRun SeesIn (make_file (asked_of r false) name mode umask s)
  unfolding give fail ◌>>=◌
  file-sees name mode umask = choose (is_of_file mode)
    where
      choose : (b : Bool) → EachRun SeesIn (((if b then give {X = Unit {0}} tt else fail (failed EPERM)) >>= (λ _. file_in name mode umask)) s)
      choose true = file_in-sees name mode umask
      choose false = tt

  name-kept : (operation : Operation) → names_an_object operation ≡ true → ((name : List ℕ) → operation ≡ Lookup name → ⊥) → EachRun KeptIn (plan_for r (Some operation) s)
  name-kept (Lookup name) is other = absurd (other name refl)
  name-kept (SymLink name target) is other =
      answered-kept r.memory (make_link (asked_of r false) name target)
      (in-directory SeesIn r.node name _ s (λ d of_node. new-sees d _ of_node (λ valid. so-after _ (λ cred. so-after _ (λ reply. so-after _ (λ n. for-tell_made r.now valid d n))))) (λ e. tt))
  name-kept (MkDir name mode umask) is other =
      answered-kept r.memory (make_directory (asked_of r false) name mode umask)
      (in-directory SeesIn r.node name _ s (λ d of_node. new-sees d _ of_node (λ valid. so-after _ (λ cred. so-after _ (λ reply. so-after _ (λ n. for-tell_made r.now valid d n))))) (λ e. tt))
  name-kept (MkNod name mode umask) is other = answered-kept r.memory (make_file (asked_of r false) name mode umask) (file-sees name mode umask)
  name-kept (Create name flags mode umask) is other =
      answered-kept r.memory (create_file (asked_of r false) name flags.0 mode umask)
      (plain SeesIn name _ s
      (needs SeesIn (failed EINVAL) (mode_in flags.0) _ s
      (λ way is_way. numbered SeesIn r.node _ s (λ d of_node. new-sees d _ of_node (λ valid. so-after _ (λ cred.
      for-create_by r.now valid cred (bit_and umask 0o777) d name way flags.0 mode))) tt) tt) tt)
  name-kept _ is other = absurd (cc)

  -- no name is told for any time
  for-kept : (es : List Event) (replies : List Reply) (q : Response × Server) → SaysSo (IsFor 0) q → KeptIn es replies q
  for-kept es replies (Silence, t) any = tt
  for-kept es replies (Says body, t) is = λ lt. absurd (positive (name_valid_in body) lt is.0)
  for-kept es replies (Fails e, t) any = tt

  -- ---- look-ups

  none-kept : (name es : _) (replies : List Reply) → EachRun (λ fs rest q. KeptIn (es ++ fs) (replies ++ rest) q) (search_then r name s false)
  none-kept name es replies =
      each-all (SaysSo (IsFor 0)) (λ fs rest q. KeptIn (es ++ fs) (replies ++ rest) q) (search_then r name s false) (all-unjudged r name s)
      (λ fs rest q so. for-kept (es ++ fs) (replies ++ rest) q so)

  searched-kept : (name : List ℕ) → r.operation ≡ Some (Lookup name) → EachRun KeptIn (plan_for r (Some (Lookup name)) s)
  searched-kept name asked = searches KeptIn r name s (choose s.settings.posix_acl refl)
    where
      judged : s.settings.posix_acl ≡ true → (es : List Event) (replies : List Reply) → IsRunOf (is_judged r.node true s) es replies true
          → (fs : List Event) (rest : List Reply) (q : Response × Server) → KeptIn (es ++ fs) (replies ++ rest) q
      judged judges es replies runs fs rest (Silence, t) = tt
      judged judges es replies runs fs rest (Says body, t) = λ lt. (judges, is_looked_up name es fs replies rest asked runs)
      judged judges es replies runs fs rest (Fails e, t) = tt

      go : s.settings.posix_acl ≡ true → (es : List Event) (replies : List Reply) (nobody : Bool) → IsRunOf (is_judged r.node true s) es replies nobody
          → EachRun (λ fs rest q. KeptIn (es ++ fs) (replies ++ rest) q) (search_then r name s nobody)
      go judges es replies true runs = each-any (λ fs rest q. KeptIn (es ++ fs) (replies ++ rest) q) (search_then r name s true) (judged judges es replies runs)
      go judges es replies false runs = none-kept name es replies

      choose : (b : Bool) → s.settings.posix_acl ≡ b
          → EachRun (λ es replies nobody. EachRun (λ fs rest q. KeptIn (es ++ fs) (replies ++ rest) q) (search_then r name s nobody)) (is_judged r.node b s)
      choose false judges = none-kept name [] []
      choose true judges =
          each-weaker (IsRunOf (is_judged r.node true s)) (λ es replies nobody. EachRun (λ fs rest q. KeptIn (es ++ fs) (replies ++ rest) q) (search_then r name s nobody))
          (is_judged r.node true s) (each-itself (is_judged r.node true s)) (go judges)

  -- ---- each request

  plain-kept : (operation : Operation) → names_an_object operation ≡ false → EachRun KeptIn (plan_for r (Some operation) s)
  plain-kept operation is =
      each-all (SaysSo (IsFor 0)) KeptIn (plan_for r (Some operation) s)
      (all-planned (IsFor 0) r operation s (λ nobody. plain-plan (asked_of r nobody) r.value operation is)) for-kept

  operation-kept : (operation : Operation) → r.operation ≡ Some operation → (b : Bool) → names_an_object operation ≡ b → EachRun KeptIn (plan_for r (Some operation) s)
  operation-kept operation asked false is = plain-kept operation is
  operation-kept (Lookup name) asked true is = searched-kept name asked
  operation-kept operation asked true is = name-kept operation is (λ name same. cc)

  request-kept : (o : Option Operation) → r.operation ≡ o → EachRun KeptIn (plan_for r o s)
  unfolding fail
  request-kept None asked = choose r.memory
    where
      choose : (memory : Bool) → EachRun KeptIn (answered memory (Replying (fail (failed EINVAL))) s)
      choose true = tt
      choose false = tt
  request-kept (Some operation) asked = operation-kept operation asked (names_an_object operation) refl

pub names_are_kept_where_judged : NamesAreKeptWhereJudged
unfolding request_plan
names_are_kept_where_judged r s t body es replies lt runs =
    each-run (KeptIn r s) (plan_for r r.operation s) es replies (Says body, t) (request-kept r s r.operation refl) runs lt

-- ---- nothing has the name

abbrev MissingIn : List Event → List Reply → Response × Server → Type 0
MissingIn es replies (Silence, t) = Unit {0}
MissingIn es replies (Says body, t) = is_absent body ≡ true → IsMissing es replies
MissingIn es replies (Fails e, t) = Unit {0}

there-missing : (es : List Event) (replies : List Reply) (q : Response × Server) → SaysSo (λ body t. IsThere body t × Leads body t) q → MissingIn es replies q
there-missing es replies (Silence, t) any = tt
there-missing es replies (Says body, t) is = λ absent. absurd (let no : true ≡ false = sym absent ∙ is.0 in cc)
there-missing es replies (Fails e, t) any = tt

for-missing : (es : List Event) (replies : List Reply) (q : Response × Server) → SaysSo (IsFor 0) q → MissingIn es replies q
for-missing es replies (Silence, t) any = tt
for-missing es replies (Says body, t) is = λ absent. absurd (let no : true ≡ false = sym absent ∙ is.1 in cc)
for-missing es replies (Fails e, t) any = tt

module _ (r : Request) (s : Server) where
  found-missing : (name : List ℕ) (memory : Bool) → EachRun MissingIn (answered memory (Replying (find_name (asked_of r true) name)) s)
  found-missing name false = tt
  found-missing name true =
      each-ends MissingIn (find_name (asked_of r true) name s) (λ q. (response_of q.0, q.1))
      (each-weaker Explained (λ es replies q. MissingIn es replies (response_of q.0, q.1)) (find_name (asked_of r true) name s) (explained r name s) so)
    where
      so : (es : List Event) (replies : List Reply) (q : Ends ReplyBody) → Explained es replies q → MissingIn es replies (response_of q.0, q.1)
      so es replies (Ok body, t) why = why
      so es replies (Err e, t) why = tt

  searched-missing : (name : List ℕ) → EachRun MissingIn (plan_for r (Some (Lookup name)) s)
  searched-missing name =
      searches MissingIn r name s
      (each-weaker (IsRunOf (is_judged r.node s.settings.posix_acl s)) (λ es replies nobody. EachRun (λ fs rest q. MissingIn (es ++ fs) (replies ++ rest) q) (search_then r name s nobody))
      (is_judged r.node s.settings.posix_acl s) (each-itself (is_judged r.node s.settings.posix_acl s)) go)
    where
      later_on : (es : List Event) (replies : List Reply) → IsRunOf (is_judged r.node s.settings.posix_acl s) es replies true
          → (fs : List Event) (rest : List Reply) (q : Response × Server) → MissingIn fs rest q → MissingIn (es ++ fs) (replies ++ rest) q
      later_on es replies runs fs rest (Silence, t) missing = tt
      later_on es replies runs fs rest (Says body, t) missing = λ is. refused-before (is_judged r.node s.settings.posix_acl s) es replies true runs (missing is)
      later_on es replies runs fs rest (Fails e, t) missing = tt

      go : (es : List Event) (replies : List Reply) (nobody : Bool) → IsRunOf (is_judged r.node s.settings.posix_acl s) es replies nobody
          → EachRun (λ fs rest q. MissingIn (es ++ fs) (replies ++ rest) q) (search_then r name s nobody)
      go es replies true runs =
          each-weaker MissingIn (λ fs rest q. MissingIn (es ++ fs) (replies ++ rest) q) (search_then r name s true) (found-missing name r.memory) (later_on es replies runs)
      go es replies false runs =
          each-all (SaysSo (IsFor 0)) (λ fs rest q. MissingIn (es ++ fs) (replies ++ rest) q) (search_then r name s false) (all-unjudged r name s)
          (λ fs rest q is. for-missing (es ++ fs) (replies ++ rest) q is)

  operation-missing : (operation : Operation) (b : Bool) → names_an_object operation ≡ b → EachRun MissingIn (plan_for r (Some operation) s)
  operation-missing operation false is =
      each-all (SaysSo (IsFor 0)) MissingIn (plan_for r (Some operation) s)
      (all-planned (IsFor 0) r operation s (λ nobody. plain-plan (asked_of r nobody) r.value operation is)) for-missing
  operation-missing (Lookup name) true is = searched-missing name
  operation-missing operation true is =
      each-all (SaysSo (λ body t. IsThere body t × Leads body t)) MissingIn (plan_for r (Some operation) s)
      (all-planned (λ body t. IsThere body t × Leads body t) r operation s (λ nobody. there-plan (asked_of r nobody) r.value operation is (λ name same. cc))) there-missing

  request-missing : (o : Option Operation) → EachRun MissingIn (plan_for r o s)
  unfolding fail
  request-missing None = choose r.memory
    where
      choose : (memory : Bool) → EachRun MissingIn (answered memory (Replying (fail (failed EINVAL))) s)
      choose true = tt
      choose false = tt
  request-missing (Some operation) = operation-missing operation (names_an_object operation) refl

pub only_missing_names_are_absent : OnlyMissingNamesAreAbsent
unfolding request_plan
only_missing_names_are_absent r s t valid es replies runs =
    each-run MissingIn (plan_for r r.operation s) es replies (Says (Absent valid), t) (request-missing r s r.operation) runs refl
