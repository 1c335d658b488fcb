-- For how long each answer tells a name, and that only a look-up tells that there is none.
--     TellsSo        work whose answer is of some kind, whatever is replied
--     TellsFor, for-tell_named, ..        a name is told for so many seconds, and its node leads to what was shown
--     plain-plan        requests that tell no name
--     there-plan        requests that name what they make
--     for-unjudged        look-ups of which who asks counts
--     leads-plan        the node that is told of a name leads to the object
--     SaysSo, all-planned, all-unjudged        the same of whole requests
use Rattle.std.specs.Prelude.{◌≡◌, ℕ, ◌<◌, ◌^◌, Bool, true, false, List, Option, Some, unwrap_or, Result, Ok, Err, if◌then◌else◌, bit_and}
use Rattle.std.proofs.Common.{refl, sym, ap, subst}
use Rattle.posix_acl.specs.declared.entry.Perms.{Perms}
use Rattle.posix_acl.specs.AccessList.{AccessList}
use Rattle.posix_acl.specs.Entries.{perms_of}
use Rattle.fs_cred.specs.Credentials.{Credential}
use Rattle.fs_model.specs.declared.call.AclType.{AclType}
use Rattle.fs_model.specs.declared.reply.Status.{Status}
use Rattle.fuse_protocol.specs.declared.operation.Operation.{Operation}
use Rattle.fuse_protocol.specs.declared.operation.Operation.TheVariants.{GetAttr, Lookup, Forget, SymLink, MkNod, MkDir, Create, Interrupt, BatchForget}
use Rattle.fuse_protocol.specs.declared.reply.Time.{Time}
use Rattle.fuse_state.specs.declared.removed.RemovedDirectory.{RemovedDirectory}
use Rattle.fuse_state.specs.Servers.{Server, number_of_node}
use Rattle.fuse_state.proofs.StateLaws.{lead_back}
use Rattle.fuse_plans.specs.declared.mode.Mode.{Mode}
use Rattle.fuse_plans.specs.declared.request.Asked.{Asked}
use Rattle.fuse_plans.specs.declared.reply.Attributes.{Attributes}
use Rattle.fuse_plans.specs.declared.reply.ReplyBody.{ReplyBody}
use Rattle.fuse_plans.specs.declared.reply.Response.{Response}
use Rattle.fuse_plans.specs.declared.reply.Response.TheVariants.{Silence, Says, Fails}
use Rattle.fuse_plans.specs.declared.request_error.RequestError.{RequestError}
use Rattle.fuse_plans.specs.Plans.{Plan, Finish, Ask, followed_by}
use Rattle.fuse_plans.specs.Works.{Work, give, fail, kept, goes_on, ◌>>=◌, attempt}
use Rattle.fuse_plans.specs.Alterations.{says_change}
use Rattle.fuse_plans.specs.AttributePlans.{tell_attributes, removed_body}
use Rattle.fuse_plans.specs.RemovedPlans.{removed_instead, or_of_removed}
use Rattle.fuse_plans.specs.NamePlans.{found_or_absent, find_name, tell_named, tell_made}
use Rattle.fuse_plans.specs.FilePlans.{tell_created, create_by}
use Rattle.fuse_plans.specs.ListingPlans.{read_directory_plus}
use Rattle.fuse_plans.specs.DirectoryPlans.{take_directory, take_directory_if, read_directory, close_directory, sync_all}
use Rattle.fuse_plans.specs.AclPlans.{sized, set_acl}
use Rattle.fuse_plans.specs.Requests.{Request, asked_of}
use Rattle.fuse_plans.specs.Nobody.{is_granted, or_process, or_user, who_counts_in, is_nobody}
use Rattle.fuse_plans.specs.Serving.{Task, Replying, Silent, begin, count_space, end, plan_of, asked_for, answered, response_of}
use Rattle.fuse_plans.specs.Laws.{told_entry, names_an_object}
use Rattle.fuse_plans.specs.KeepingLaws.{name_valid_in}
use Rattle.fuse_plans.proofs.AllEnds.{AllEnd, all-weaker, all-followed_by}
use Rattle.fuse_plans.proofs.Said.{said-so}
use Rattle.fuse_plans.proofs.PlanLaws.{IfReplies, replies-told}
use Rattle.fuse_plans.proofs.Searches.{is_absent, plan_for, search_then}

-- ---- answers

abbrev pub EndsSo : (ReplyBody → Server → Type 0) → Result ReplyBody RequestError × Server → Type 0
EndsSo P (Ok body, t) = P body t
EndsSo P (Err e, t) = Unit {0}

-- where it ends well, P holds of what it tells and of the server then
pub record TellsSo (P : ReplyBody → Server → Type 0) (w : Work ReplyBody) : Type 0 where
  pub at : (s : Server) → AllEnd (EndsSo P) (w s)

all-anyhow : {X : Type 0} (p : Plan X) → AllEnd (λ x. Unit {0}) p
all-anyhow (Finish x) = tt
all-anyhow (Ask e next) = λ reply. all-anyhow (next reply)

module _ {P : ReplyBody → Server → Type 0} where
  pub so-after : {X : Type 0} (w : Work X) {f : X → Work ReplyBody} → ((x : X) → TellsSo P (f x)) → TellsSo P (w >>= f)
  unfolding ◌>>=◌
  so-after {X} w {f} rest = record { at = λ s. all-followed_by (λ r. Unit {0}) (EndsSo P) (w s) (goes_on f) (all-anyhow (w s)) after }
    where
      after : (r : Result X RequestError × Server) → Unit {0} → AllEnd (EndsSo P) (goes_on f r)
      after (Ok x, t) any = (rest x).at t
      after (Err e, t) any = tt

  so-give : (body : ReplyBody) → ((s : Server) → P body s) → TellsSo P (give body)
  unfolding give
  so-give body is = record { at = is }

  so-kept : (f : Server → ReplyBody) → ((s : Server) → P (f s) s) → TellsSo P (kept f)
  unfolding kept
  so-kept f is = record { at = is }

  so-fail : (e : RequestError) → TellsSo P (fail e)
  unfolding fail
  so-fail e = record { at = λ s. tt }

  so-if : (b : Bool) (w v : Work ReplyBody) → TellsSo P w → TellsSo P v → TellsSo P (if b then w else v)
  so-if true w v first second = first
  so-if false w v first second = second

  pub so-weaker : {Q : ReplyBody → Server → Type 0} {w : Work ReplyBody} → ((body : ReplyBody) (t : Server) → P body t → Q body t) → TellsSo P w → TellsSo Q w
  so-weaker {Q} {w} weaker so = record { at = λ s. all-weaker (EndsSo P) (EndsSo Q) (w s) (so.at s) ends }
    where
      ends : (r : Result ReplyBody RequestError × Server) → EndsSo P r → EndsSo Q r
      ends (Ok body, t) is = weaker body t is
      ends (Err e, t) any = tt

-- a name is told for so many seconds
abbrev pub IsFor : ℕ → ReplyBody → Server → Type 0
IsFor valid body t = (name_valid_in body ≡ valid) × (is_absent body ≡ false)

-- its node leads to what was shown
abbrev pub Leads : ReplyBody → Server → Type 0
Leads body t = (node : ℕ) (shown : Attributes) → told_entry body ≡ Some (node, shown) → shown.status.ino < 2 ^ 32 → number_of_node t node ≡ Some shown.status.ino

abbrev pub TellsFor : ℕ → Work ReplyBody → Type 0
TellsFor valid w = TellsSo (λ body t. IsFor valid body t × Leads body t) w

-- the entry is that which was told
entry-is : (t : Server) (told_node node : ℕ) (told_shown shown : Attributes) → ◌≡◌ {A = Option (ℕ × Attributes)} (Some (told_node, told_shown)) (Some (node, shown))
    → shown.status.ino < 2 ^ 32 → (told_shown.status.ino < 2 ^ 32 → number_of_node t told_node ≡ Some told_shown.status.ino)
    → number_of_node t node ≡ Some shown.status.ino
entry-is t told_node node told_shown shown is lt leads =
    subst (λ (e : ℕ × Attributes). e.1.status.ino < 2 ^ 32 → number_of_node t e.0 ≡ Some e.1.status.ino)
    (ap (λ (o : Option (ℕ × Attributes)). unwrap_or o (node, shown)) is) leads lt

-- ---- new names

for-tell_named : (valid n : ℕ) → TellsFor valid (tell_named valid n)
for-tell_named valid n =
    so-after _ (λ status. so-after _ (λ stamps. so-kept _ (λ t. ((refl, refl), λ node shown is lt. entry-is t _ node _ shown is lt (lead_back t status.ino)))))

pub for-tell_made : (now : Time) (valid d n : ℕ) → TellsFor valid (tell_made now valid d n)
unfolding tell_made
for-tell_made now valid d n = so-after _ (λ counted. for-tell_named valid n)

pub for-create_by : (now : Time) (valid : ℕ) (cred : Credential) (umask d : ℕ) (name : List ℕ) (mode : Mode) (flags file_mode : ℕ)
    → TellsFor valid (create_by now valid cred umask d name mode flags file_mode)
unfolding tell_created
for-create_by now valid cred umask d name mode flags file_mode =
    so-after _ (λ opened. so-after _ (λ handle. so-after _ (λ told. so-after _ (λ seen.
    so-kept _ (λ t. ((refl, refl), λ node shown is lt. entry-is t _ node _ shown is lt (lead_back t seen.0.ino)))))))

-- ---- look-ups

unjudged : (seen : Result Status RequestError) → TellsSo (IsFor 0) (found_or_absent false seen)
unjudged (Ok status) = so-after _ (λ stamps. so-kept _ (λ s. (refl, refl)))
unjudged (Err e) = so-after _ (λ settings. so-fail e)

for-unjudged : (r : Request) (name : List ℕ) → TellsSo (IsFor 0) (find_name (asked_of r false) name)
for-unjudged r name = so-after _ (λ d. so-after _ (λ cred. so-after _ unjudged))

leads-found_or_absent : (nobody : Bool) (seen : Result Status RequestError) → TellsSo Leads (found_or_absent nobody seen)
leads-found_or_absent nobody (Ok status) =
    so-after _ (λ stamps. so-kept _ (λ t node shown is lt. entry-is t _ node _ shown is lt (lead_back t status.ino)))
leads-found_or_absent nobody (Err e) = so-after _ (λ settings. so-if _ _ _ (so-give _ (λ t node shown is lt. absurd (cc))) (so-fail e))

leads-find_name : (r : Asked) (name : List ℕ) → TellsSo Leads (find_name r name)
leads-find_name r name = so-after _ (λ d. so-after _ (λ cred. so-after _ (leads-found_or_absent r.needs_nobody)))

-- ---- requests that tell no name

-- work that tells so
abbrev pub IfTellsSo : (ReplyBody → Server → Type 0) → Task → Type 0
IfTellsSo P task = IfReplies (TellsSo P) task

pub if-weaker : {P Q : ReplyBody → Server → Type 0} → ((body : ReplyBody) (t : Server) → P body t → Q body t) → (task : Task) → IfTellsSo P task → IfTellsSo Q task
if-weaker weaker (Silent nodes) so = tt
if-weaker weaker (Replying w) so = so-weaker weaker so

for-sized : (size has : ℕ) (body : ReplyBody) → ((s : Server) → IsFor 0 body s) → TellsSo (IsFor 0) (sized size has body)
for-sized size has body is = so-if _ _ _ (so-give _ (λ s. (refl, refl))) (so-if _ _ _ (so-fail _) (so-give body is))

for-take_directory_if : (uid node : ℕ) (may : Bool) → TellsSo (IsFor 0) (take_directory_if uid node may)
for-take_directory_if uid node false = so-fail _
for-take_directory_if uid node true = so-after _ (λ handle. so-after _ (λ opened. so-kept _ (λ s. (refl, refl))))

for-set_acl : (r : Asked) (which : AclType) (acl : Option AccessList) → TellsSo (IsFor 0) (set_acl r which acl)
for-set_acl r which acl =
    so-after _ (λ n. so-after _ (λ cred. so-after _ (λ list. so-after _ (λ set. so-after _ (λ may. so-after _ (λ changed. so-give _ (λ s. (refl, refl))))))))

-- what is gone may be a directory that was removed
so-or_of_removed : {P : ReplyBody → Server → Type 0} (node : ℕ) (f : RemovedDirectory → Server → ReplyBody) {w : Work ReplyBody}
    → TellsSo P w → ((d : RemovedDirectory) (s : Server) → P (f d s) s) → TellsSo P (attempt w >>= or_of_removed node f)
unfolding give attempt ◌>>=◌
so-or_of_removed {P} node f {w} so is = record { at = λ s. all-twice s (w s) (so.at s) }
  where
    later : (e : RequestError) → TellsSo P (removed_instead node e >>= (λ removed. kept (f removed)))
    later e = so-after _ (λ removed. so-kept _ (is removed))

    all-twice : (s : Server) (p : Plan (Result ReplyBody RequestError × Server)) → AllEnd (EndsSo P) p
        → AllEnd (EndsSo P) (followed_by (followed_by p (λ r. Finish (Ok r.0, r.1))) (goes_on (or_of_removed node f)))
    all-twice s (Finish (Ok body, t)) says = says
    all-twice s (Finish (Err e, t)) says = (later e).at t
    all-twice s (Ask e next) says = λ reply. all-twice s (next reply) (says reply)

for-tell_attributes : (status : Status) → TellsSo (IsFor 0) (tell_attributes status)
for-tell_attributes status = so-after _ (λ stamps. so-kept _ (λ s. (refl, refl)))

plain-give : (body : ReplyBody) → name_valid_in body ≡ 0 → is_absent body ≡ false → TellsSo (IsFor 0) (give body)
plain-give body valid there = so-give body (λ s. (valid, there))

plain-kept : (f : Server → ReplyBody) → ((s : Server) → name_valid_in (f s) ≡ 0) → ((s : Server) → is_absent (f s) ≡ false) → TellsSo (IsFor 0) (kept f)
plain-kept f valid there = so-kept f (λ s. (valid s, there s))

for-linked : (n : ℕ) → TellsSo (IsFor 0) (tell_named 0 n)
for-linked n = so-weaker (λ body t is. is.0) (for-tell_named 0 n)

-- each piece of a plan that tells no name, for a search
ruleset plain = (for-sized, for-take_directory_if, for-set_acl, for-tell_attributes, for-linked, plain-give, plain-kept, so-fail, so-if, so-after)

pub plain-plan : (r : Asked) (value : Option (Option AccessList)) (operation : Operation) → names_an_object operation ≡ false
    → IfTellsSo (IsFor 0) (plan_of r value operation)
unfolding take_directory read_directory read_directory_plus close_directory sync_all end count_space begin
plain-plan r value (Lookup name) is = said-so is
plain-plan r value (SymLink name target) is = said-so is
plain-plan r value (MkNod name mode umask) is = said-so is
plain-plan r value (MkDir name mode umask) is = said-so is
plain-plan r value (Create name flags mode umask) is = said-so is
plain-plan r value (Forget count) is = tt
plain-plan r value (BatchForget batch) is = tt
plain-plan r value Interrupt is = tt
plain-plan r value GetAttr is = so-or_of_removed r.node removed_body (search plain depth 24) (λ d s. (refl, refl))
plain-plan r value operation is = search plain depth 24

-- ---- requests that name what they make

abbrev pub IsThere : ReplyBody → Server → Type 0
IsThere body t = is_absent body ≡ false

so-there : {valid : ℕ} {w : Work ReplyBody} → TellsFor valid w → TellsSo (λ body t. IsThere body t × Leads body t) w
so-there so = so-weaker (λ body t is. (is.0.1, is.1)) so

pub there-plan : (r : Asked) (value : Option (Option AccessList)) (operation : Operation) → names_an_object operation ≡ true
    → ((name : List ℕ) → operation ≡ Lookup name → ⊥) → IfTellsSo (λ body t. IsThere body t × Leads body t) (plan_of r value operation)
there-plan r value (Lookup name) is other = absurd (other name refl)
there-plan r value (SymLink name target) is other =
    so-after _ (λ d. so-after _ (λ valid. so-after _ (λ cred. so-after _ (λ reply. so-after _ (λ n. so-there (for-tell_made r.now valid d n))))))
there-plan r value (MkNod name mode umask) is other =
    so-after _ (λ file. so-after _ (λ d. so-after _ (λ valid. so-after _ (λ cred. so-after _ (λ reply. so-after _ (λ opened. so-after _ (λ closed.
    so-there (for-tell_made r.now valid d opened.1))))))))
there-plan r value (MkDir name mode umask) is other =
    so-after _ (λ d. so-after _ (λ valid. so-after _ (λ cred. so-after _ (λ reply. so-after _ (λ n. so-there (for-tell_made r.now valid d n))))))
there-plan r value (Create name flags mode umask) is other =
    so-after _ (λ plain. so-after _ (λ way. so-after _ (λ d. so-after _ (λ valid. so-after _ (λ cred.
    so-there (for-create_by r.now valid cred (bit_and umask 0o777) d name way flags.0 mode))))))
there-plan r value _ is other = absurd (cc)

-- what is told of a name leads to the object
pub leads-plan : (r : Asked) (value : Option (Option AccessList)) (operation : Operation) → names_an_object operation ≡ true → IfTellsSo Leads (plan_of r value operation)
leads-plan r value (Lookup name) is = leads-find_name r name
leads-plan r value operation is = if-weaker {P = λ body t. IsThere body t × Leads body t} {Q = Leads} (λ body t is. is.1) (plan_of r value operation) (there-plan r value operation is (λ name same. cc))

-- ---- whole requests

abbrev pub SaysSo : (ReplyBody → Server → Type 0) → Response × Server → Type 0
SaysSo P (Silence, t) = Unit {0}
SaysSo P (Says body, t) = P body t
SaysSo P (Fails e, t) = Unit {0}

all-answered : (P : ReplyBody → Server → Type 0) (memory : Bool) (task : Task) (s : Server) → IfTellsSo P task → AllEnd (SaysSo P) (answered memory task s)
all-answered P true (Silent nodes) s so = tt
all-answered P false (Silent nodes) s so = tt
all-answered P false (Replying w) s so = tt
all-answered P true (Replying w) s so = all-followed_by (EndsSo P) (SaysSo P) (w s) (λ r. Finish (response_of r.0, r.1)) (so.at s) says
  where
    says : (r : Result ReplyBody RequestError × Server) → EndsSo P r → SaysSo P (response_of r.0, r.1)
    says (Ok body, t) is = is
    says (Err e, t) any = tt

pub all-planned : (P : ReplyBody → Server → Type 0) (r : Request) (operation : Operation) (s : Server)
    → ((nobody : Bool) → IfTellsSo P (plan_of (asked_of r nobody) r.value operation)) → AllEnd (SaysSo P) (plan_for r (Some operation) s)
all-planned P r operation s so =
    all-followed_by (λ who. Unit {0}) (SaysSo P) (who_counts_in r.node r.uid (Some operation) s)
    (λ who. answered r.memory (asked_for (asked_of r (is_nobody who)) r.value (Some operation)) s) (all-anyhow (who_counts_in r.node r.uid (Some operation) s))
    (λ who any. all-answered P r.memory _ s (replies-told (TellsSo P) r.now (λ w so. so-after _ (λ told. so)) (says_change operation) _ (so (is_nobody who))))

-- where who asks counts
all-somebody : (want : Perms) (node uid : ℕ) (s : Server) → AllEnd (λ who. is_nobody who ≡ false) (or_user false (Some want) node uid s)
all-somebody want node uid s =
    all-followed_by (λ q. Unit {0}) (λ who. is_nobody who ≡ false) (is_granted node uid want s) (λ q. Finish (or_process q.0)) (all-anyhow (is_granted node uid want s))
    (λ q any. somebody q.0)
  where
    somebody : (r : Result Bool RequestError) → is_nobody (or_process r) ≡ false
    somebody (Ok true) = refl
    somebody (Ok false) = refl
    somebody (Err e) = refl

pub all-unjudged : (r : Request) (name : List ℕ) (s : Server) → AllEnd (SaysSo (IsFor 0)) (search_then r name s false)
all-unjudged r name s =
    all-followed_by (λ who. is_nobody who ≡ false) (SaysSo (IsFor 0)) (or_user false (Some (perms_of 1)) r.node r.uid s)
    (λ who. answered r.memory (Replying (find_name (asked_of r (is_nobody who)) name)) s) (all-somebody (perms_of 1) r.node r.uid s)
    (λ who counts. all-answered (IsFor 0) r.memory (Replying (find_name (asked_of r (is_nobody who)) name)) s
    (subst (λ b. TellsSo (IsFor 0) (find_name (asked_of r b) name)) (sym counts) (for-unjudged r name)))
