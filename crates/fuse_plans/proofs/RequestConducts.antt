-- How requests behave, and what that says of the events that were asked.
--     Told, Ended, requests_last        all that is known of each
--     past_of, run-does, run-leaves        the same of a run
--     requests_behave, runs_behave        who calls, and on what
--     clock_stays, others_keep_times        what the server keeps then
--     requests_change_what_they_say, runs_change_what_requests_say        no more is changed than a request says
use Rattle.std.specs.Prelude.{◌≡◌, ℕ, Bool, true, false, List, [], ◌∷◌, All, Option, None, Some, unwrap_or, Result, Ok, Err}
use Rattle.std.specs.Ordering.{nat_cmp}
use Rattle.std.proofs.Common.{refl, sym, ap, subst, ◌∙◌}
use Rattle.std.proofs.lemmas.List.Elements.{All-nil, All-cons}
use Rattle.posix_acl.specs.AccessList.{AccessList}
use Rattle.fs_layout.specs.Maps.{get}
use Rattle.fs_model.specs.declared.event.Event.{Event}
use Rattle.fs_model.specs.declared.reply.Reply.{Reply}
use Rattle.fuse_protocol.specs.declared.operation.Operation.{Operation}
use Rattle.fuse_protocol.specs.declared.operation.Operation.TheVariants.{Lookup, Forget, GetAttr, SetAttr, ReadLink, SymLink, MkNod, MkDir, Unlink, RmDir, Rename, Link, Open, Read, Write, StatFs, Release, FSync, SetXAttr, GetXAttr, ListXAttr, RemoveXAttr, Init, OpenDir, ReadDir, ReadDirPlus, ReleaseDir, FSyncDir, Access, Create, Interrupt, Destroy, BatchForget, SyncFs, Unknown}
use Rattle.fuse_protocol.specs.declared.reply.Time.{Time}
use Rattle.fuse_state.specs.declared.times.Times.{Times}
use Rattle.fuse_state.specs.Servers.{Server, without_nodes}
use Rattle.fuse_state.proofs.Holders.{same_within}
use Rattle.fuse_plans.specs.declared.request.Asked.{Asked}
use Rattle.fuse_plans.specs.declared.reply.ReplyBody.{ReplyBody}
use Rattle.fuse_plans.specs.declared.reply.Response.{Response}
use Rattle.fuse_plans.specs.declared.reply.Response.TheVariants.{Silence, Says, Fails}
use Rattle.fuse_plans.specs.declared.request_error.RequestError.{RequestError}
use Rattle.fuse_plans.specs.Plans.{Plan, Finish, Ask, IsRunOf, KeepsTo, after_all, MayAskAll}
use Rattle.fuse_plans.specs.Requests.{Request, asked_of}
use Rattle.fuse_plans.specs.Alterations.{says_change, MayBeAsked, AsksOnly}
use Rattle.fuse_plans.specs.Nobody.{who_counts_in, is_nobody}
use Rattle.fuse_plans.specs.Acts.{AskedBefore, name_of_operation, given_name}
use Rattle.fuse_plans.specs.Conduct.{releases_in, releases, conduct}
use Rattle.fuse_plans.specs.Serving.{Task, Replying, Silent, plan_of, asked_for, response_of, answered, answered_as, request_plan}
use Rattle.fuse_plans.specs.KeepingDue.{RequestsLeaveTheClock}
use Rattle.fuse_plans.specs.Laws.{handle_of_operation, handle_in, rights_of, Ends, RequestsBehave, RunsBehave, OthersKeepTimes, RequestsChangeWhatTheySay, RunsChangeWhatRequestsSay}
use Rattle.fuse_plans.proofs.PlanLaws.{Whatever, IfReplies, replies-told, keeps-followed_by, keeps-follows}
use Rattle.fuse_plans.proofs.Said.{told-by}
use Rattle.fuse_plans.proofs.Roles.{Role, rights_in, role_of, doing}
use Rattle.fuse_plans.proofs.Conducts.{CleanIf, Fits, spared, still, begins, Left, EndsTo, LastsTo, left, does-fail, does-lasts, lasts->>=}
use Rattle.fuse_plans.proofs.Calls.{IsFor, does-tell_time}
use Rattle.fuse_plans.proofs.NobodyConducts.{NoneMade, keeps-who_counts_in}
use Rattle.fuse_plans.proofs.NameConducts.{does-find_name, lasts-make_link, lasts-make_directory, lasts-make_file, lasts-remove, lasts-move_name, does-add_link}
use Rattle.fuse_plans.proofs.FileConducts.{IsKept, Opens, lasts-open_file, lasts-create_file, does-read_file, does-write_file, does-close_file}
use Rattle.fuse_plans.proofs.AttributeConducts.{HandleIs, does-get_attributes, does-set_attributes, does-read_link, does-ask_access, does-get_xattr, does-list_xattrs, lasts-set_xattr, lasts-remove_xattr}
use Rattle.fuse_plans.proofs.DirectoryConducts.{does-open_directory, does-read_directory, does-close_directory, does-read_directory_plus, does-begin, does-sync_all, does-count_space, does-end}

-- what is known of the body: of an OPEN, what was opened
abbrev pub Told : Role → Option Operation → AskedBefore → ReplyBody → Type 0
Told rights (Some (Open flags)) past body = Opens rights past body
Told rights _ past body = Unit {0}

abbrev LastsIfAny : Role → Option Operation → Task → Type 0
LastsIfAny rights o task = IfReplies (λ w. LastsTo rights still [] (Told rights o) w) task

-- the handle of a request that isn't a RELEASE
module _ (rights : Role) (operation : Operation) (asked : rights.subject.operation ≡ Some operation) (stays : releases_in operation ≡ false) where
  kept_handle : (handle : ℕ) → rights.handle ≡ Some handle → IsKept rights handle
  kept_handle handle is = record { is = is; stays = sym (ap releases asked ∙ stays) }

  handle_is : (o : Option ℕ) → rights.handle ≡ o → HandleIs rights o
  handle_is None is = tt
  handle_is (Some handle) is = kept_handle handle is

-- for who asks, of this node
module _ (rights : Role) (r : Asked) (of : IsFor rights r) where
  gives_name : (operation : Operation) → rights.subject.operation ≡ Some operation → (name : List ℕ) → name_of_operation operation ≡ Some name
      → given_name rights.subject.operation ≡ Some name
  gives_name operation asked name given = ap given_name asked ∙ given

  lasts-plan : (value : Option (Option AccessList)) (operation : Operation) → rights.subject.operation ≡ Some operation → rights.handle ≡ handle_of_operation operation
      → LastsIfAny rights (Some operation) (plan_of r value operation)
  lasts-plan value (Lookup name) asked given = does-lasts (does-find_name r of name (gives_name _ asked name refl))
  lasts-plan value (Forget count) asked given = tt
  lasts-plan value GetAttr asked given = does-lasts (does-get_attributes r of)
  lasts-plan value (SetAttr changes) asked given = does-lasts (does-set_attributes r of changes asked (handle_is rights _ asked refl changes.handle given))
  lasts-plan value ReadLink asked given = does-lasts (does-read_link r of)
  lasts-plan value (SymLink name target) asked given = lasts-make_link r of name (gives_name _ asked name refl) (told-by asked refl) target
  lasts-plan value (MkNod name mode umask) asked given = lasts-make_file r of name (gives_name _ asked name refl) (told-by asked refl) mode umask given
  lasts-plan value (MkDir name mode umask) asked given = lasts-make_directory r of name (gives_name _ asked name refl) (told-by asked refl) mode umask
  lasts-plan value (Unlink name) asked given = lasts-remove r of name (gives_name _ asked name refl) false refl (λ reply. refl) (λ takes. (takes, tt)) (told-by asked refl)
  lasts-plan value (RmDir name) asked given = lasts-remove r of name (gives_name _ asked name refl) true refl (λ reply. refl) (λ takes. (takes, tt)) (told-by asked refl)
  lasts-plan value (Rename name new_directory new_name flags) asked given = lasts-move_name r of name new_directory new_name flags asked
  lasts-plan value (Link node name) asked given = does-lasts (does-add_link r of node name asked)
  lasts-plan value (Open flags) asked given = lasts-open_file r of flags.0 (λ is. told-by asked (is, refl))
  lasts-plan value (Read extent) asked given = does-lasts (does-read_file extent (kept_handle rights _ asked refl _ given))
  lasts-plan value (Write handle offset bytes) asked given = does-lasts (does-write_file handle (kept_handle rights _ asked refl _ given) (told-by asked refl) r.now offset bytes)
  lasts-plan value StatFs asked given = does-lasts does-count_space
  lasts-plan value (Release handle) asked given = does-lasts (does-close_file handle given (sym (ap releases asked)))
  lasts-plan value (FSync handle) asked given = does-lasts does-sync_all
  lasts-plan value (SetXAttr name bytes) asked given = lasts-set_xattr r of name bytes value asked
  lasts-plan value (GetXAttr name size) asked given = does-lasts (does-get_xattr r of name size)
  lasts-plan value (ListXAttr size) asked given = does-lasts (does-list_xattrs r of size)
  lasts-plan value (RemoveXAttr name) asked given = lasts-remove_xattr r of name asked
  lasts-plan value (Init offer) asked given = does-lasts (does-begin offer)
  lasts-plan value OpenDir asked given = does-lasts (does-open_directory r of)
  lasts-plan value (ReadDir extent) asked given = does-lasts (does-read_directory r of given extent)
  lasts-plan value (ReadDirPlus extent) asked given = does-lasts (does-read_directory_plus r of given extent asked)
  lasts-plan value (ReleaseDir handle) asked given = does-lasts (does-close_directory handle)
  lasts-plan value FSyncDir asked given = does-lasts does-sync_all
  lasts-plan value (Access mask) asked given = does-lasts (does-ask_access r of mask)
  lasts-plan value (Create name flags mode umask) asked given = lasts-create_file r of name flags.0 (λ is. told-by asked (is, refl)) (told-by asked refl) given mode umask (gives_name _ asked name refl)
  lasts-plan value Interrupt asked given = tt
  lasts-plan value Destroy asked given = does-lasts does-end
  lasts-plan value (BatchForget batch) asked given = tt
  lasts-plan value SyncFs asked given = does-lasts does-sync_all
  lasts-plan value Unknown asked given = does-lasts (does-fail {F = Whatever} _)

  lasts-asked_for : (value : Option (Option AccessList)) (operation : Option Operation) → rights.subject.operation ≡ operation → rights.handle ≡ handle_in operation
      → LastsIfAny rights operation (asked_for r value operation)
  lasts-asked_for value None asked given = does-lasts (does-fail {F = Whatever} _)
  lasts-asked_for value (Some operation) asked given =
      replies-told (λ w. LastsTo rights still [] (Told rights (Some operation)) w) r.now (λ w lasts. lasts->>= (does-tell_time r.now) (λ told. lasts)) (says_change operation) _
      (lasts-plan value operation asked given)

-- so the request ends
abbrev pub Ended : Role → Option Operation → AskedBefore → Response × Server → Type 0
Ended rights o past (Says body, s) = Left rights past s × Told rights o past body
Ended rights o past (Fails e, s) = Left rights past s × CleanIf rights past
Ended rights o past (Silence, s) = Left rights past s

-- nodes that are forgotten count for none of it
left-without : {rights : Role} {known past : AskedBefore} {s : Server} (nodes : List ℕ) → Fits rights still known past s → Left rights past (without_nodes nodes s)
left-without {s = s} nodes fits =
    let whole = left fits in
    record { shares = λ start. same_within s (without_nodes nodes s) refl (whole.shares start); clock = whole.clock; times = whole.times; nodes = whole.nodes }

keeps-answered : (rights : Role) (o : Option Operation) (s : Server) → rights.subject.start ≡ s → (memory : Bool) (task : Task) → LastsIfAny rights o task
    → (past : AskedBefore) → NoneMade rights past s → KeepsTo (doing rights) (Ended rights o) past (answered memory task s)
keeps-answered rights o s start true (Silent nodes) lasts past none = left-without nodes (begins rights s start past none.0 none.1)
keeps-answered rights o s start false (Silent nodes) lasts past none = left (begins rights s start past none.0 none.1)
keeps-answered rights o s start false (Replying w) lasts past none = spared (begins rights s start past none.0 none.1)
keeps-answered rights o s start true (Replying w) lasts past none =
    keeps-followed_by (doing rights) (EndsTo rights (Told rights o)) (Ended rights o) (w s) (λ r. Finish (response_of r.0, r.1)) past
    (lasts.goes past s (begins rights s start past none.0 none.1)) answer
  where
    answer : (n : AskedBefore) (r : Result ReplyBody RequestError × Server) → EndsTo rights (Told rights o) n r → Ended rights o n (response_of r.0, r.1)
    answer n (Ok body, t) ends = ends
    answer n (Err e, t) ends = ends

pub requests_last : (r : Request) (s : Server) → KeepsTo (doing (role_of r s)) (Ended (role_of r s) r.operation) [] (request_plan r s)
unfolding request_plan
requests_last r s =
    keeps-followed_by (doing (role_of r s)) (NoneMade (role_of r s)) (Ended (role_of r s) r.operation) (who_counts_in r.node r.uid r.operation s) (λ who. answered_as (is_nobody who) r s) []
    (keeps-who_counts_in (role_of r s) s refl r.uid r.operation)
    (λ past who none.
    keeps-answered (role_of r s) r.operation s refl r.memory _
    (lasts-asked_for (role_of r s) (asked_of r (is_nobody who)) (record { cred = refl; node = refl; now = refl }) r.value r.operation refl refl) past none)

pub left-so : (rights : Role) (o : Option Operation) (past : AskedBefore) (q : Response × Server) → Ended rights o past q → Left rights past q.1
left-so rights o past (Says body, s) ends = ends.0
left-so rights o past (Fails e, s) ends = ends.0
left-so rights o past (Silence, s) ends = ends

-- ---- how they behave

keeps-conduct : {X : Type 0} (rights : Role) (E F : AskedBefore → X → Type 0) (p : Plan X) (past : AskedBefore) → KeepsTo (doing rights) E past p
    → ((now : AskedBefore) (x : X) → E now x → F now x) → KeepsTo (conduct (rights_in rights)) F past p
keeps-conduct rights E F (Finish x) past keeps weaker = weaker past x keeps
keeps-conduct rights E F (Ask e next) past keeps weaker = (keeps.0.0.may, λ reply. keeps-conduct rights E F (next reply) ((e, reply) ∷ past) (keeps.1 reply) weaker)

pub requests_behave : RequestsBehave
requests_behave r s =
    keeps-conduct (role_of r s) (Ended (role_of r s) r.operation) (Ends s) (request_plan r s) [] (requests_last r s) (λ past q ends. (left-so (role_of r s) r.operation past q ends).shares)

pub runs_behave : RunsBehave
runs_behave r s es replies result runs =
    keeps-follows (conduct (rights_of r s)) (Ends s) (request_plan r s) es replies result [] (requests_behave r s) runs

-- ---- and how they end

-- what is remembered then
abbrev pub past_of : Request → Server → List Event → List Reply → AskedBefore
past_of r s es replies = after_all (doing (role_of r s)) [] es replies

pub run-does : (r : Request) (s : Server) (es : List Event) (replies : List Reply) (result : Response × Server) → IsRunOf (request_plan r s) es replies result
    → MayAskAll (doing (role_of r s)) [] es replies × Ended (role_of r s) r.operation (past_of r s es replies) result
run-does r s es replies result runs =
    keeps-follows (doing (role_of r s)) (Ended (role_of r s) r.operation) (request_plan r s) es replies result [] (requests_last r s) runs

pub run-leaves : (r : Request) (s : Server) (es : List Event) (replies : List Reply) (result : Response × Server) → IsRunOf (request_plan r s) es replies result
    → Left (role_of r s) (past_of r s es replies) result.1
run-leaves r s es replies result runs = left-so (role_of r s) r.operation _ result (run-does r s es replies result runs).1

pub clock_stays : RequestsLeaveTheClock
clock_stays r s t response es replies runs = (run-leaves r s es replies (response, t) runs).clock

pub others_keep_times : OthersKeepTimes
others_keep_times r s t response es replies none runs n =
    let same = (run-leaves r s es replies (response, t) runs).times none in
    ap (λ (k : List (ℕ × Times) × Time). unwrap_or (get nat_cmp k.0 n) (record { atime = k.1; mtime = k.1; ctime = k.1 })) same

-- ---- what they change

keeps-asks : {X : Type 0} (rights : Role) (E : AskedBefore → X → Type 0) (p : Plan X) (past : AskedBefore) → KeepsTo (doing rights) E past p
    → AsksOnly (MayBeAsked rights.subject.operation) p
keeps-asks rights E (Finish x) past keeps = tt
keeps-asks rights E (Ask e next) past keeps = (keeps.0.0.told, λ reply. keeps-asks rights E (next reply) ((e, reply) ∷ past) (keeps.1 reply))

pub requests_change_what_they_say : RequestsChangeWhatTheySay
requests_change_what_they_say r s = keeps-asks (role_of r s) (Ended (role_of r s) r.operation) (request_plan r s) [] (requests_last r s)

asks-run : {X : Type 0} (May : Event → Type 0) (p : Plan X) (es : List Event) (replies : List Reply) (x : X) → AsksOnly May p → IsRunOf p es replies x → All May es
asks-run May (Finish y) [] replies x asks runs = All-nil May
asks-run May (Ask e next) [] replies x asks runs = All-nil May
asks-run May (Ask e next) (f ∷ es) (reply ∷ replies) x asks runs =
    All-cons May f es (subst May (sym runs.0) asks.0) (asks-run May (next reply) es replies x (asks.1 reply) runs.1)
asks-run May p es replies x asks runs = elim runs [ ]

pub runs_change_what_requests_say : RunsChangeWhatRequestsSay
runs_change_what_requests_say r s es replies result runs =
    asks-run (MayBeAsked r.operation) (request_plan r s) es replies result (requests_change_what_they_say r s) runs
