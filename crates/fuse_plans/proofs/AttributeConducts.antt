-- How requests for attributes, access and ACLs behave.
--     does-get_attributes, does-set_attributes, does-read_link, does-ask_access
--     MaySet, gives-may_set_times        times are set by right
--     does-get_xattr, does-list_xattrs, lasts-set_xattr, lasts-remove_xattr
use Rattle.std.specs.Prelude.{◌≡◌, ℕ, Bool, true, false, not, if◌then◌else◌, List, [], ◌∷◌, Option, None, Some, is_some, cond, ◌&&◌, ◌||◌, Result, Ok, Err, IsTrue, IsFalse}
use Rattle.std.proofs.Common.{refl, sym, ap, subst, ◌∙◌}
use Rattle.posix_acl.specs.AccessList.{AccessList}
use Rattle.posix_acl.specs.Entries.{perms_of}
use Rattle.fs_cred.specs.Credentials.{Credential}
use Rattle.fs_cred.specs.Ownership.{counts_as_owner}
use Rattle.fs_cred.specs.declared.errno.Errno.TheVariants.{EPERM, EACCES, ENOTDIR}
use Rattle.fs_model.specs.declared.call.AclType.{AclType}
use Rattle.fs_model.specs.declared.call.AclType.TheVariants.{Access as AccessAcl, Default}
use Rattle.fs_model.specs.declared.call.Call.TheVariants.{Access, Chown, Readlink, SetAcl}
use Rattle.fs_model.specs.declared.event.Event.TheVariants.{CallAt, Stamp}
use Rattle.fs_model.specs.declared.reply.Reply.{Reply}
use Rattle.fs_model.specs.declared.reply.Reply.TheVariants.{Refused}
use Rattle.fs_model.specs.declared.reply.Status.{Status}
use Rattle.fuse_protocol.specs.declared.operation.AttrChanges.{AttrChanges}
use Rattle.fuse_protocol.specs.declared.operation.NewTime.{NewTime}
use Rattle.fuse_protocol.specs.declared.operation.NewTime.TheVariants.{Now, At}
use Rattle.fuse_protocol.specs.declared.operation.Operation.{Operation}
use Rattle.fuse_protocol.specs.declared.operation.Operation.TheVariants.{SetAttr, SetXAttr, RemoveXAttr}
use Rattle.fuse_protocol.specs.declared.reply.Time.{Time}
use Rattle.fuse_state.specs.declared.removed.RemovedDirectory.{RemovedDirectory}
use Rattle.fuse_state.specs.Servers.{Server, with_change_time}
use Rattle.fuse_state.specs.Stamps.{stamp_of}
use Rattle.fuse_plans.specs.declared.reply.ReplyBody.{ReplyBody}
use Rattle.fuse_plans.specs.declared.reply.ReplyBody.TheVariants.{Nothing}
use Rattle.fuse_plans.specs.declared.request_error.RequestError.{RequestError}
use Rattle.fuse_plans.specs.declared.request_error.RequestError.TheVariants.{Lacks}
use Rattle.fuse_plans.specs.declared.request_error.OtherErrno.TheVariants.{EOPNOTSUPP}
use Rattle.fuse_plans.specs.declared.request.Asked.{Asked}
use Rattle.fuse_plans.specs.RequestErrors.{failed, is_for}
use Rattle.fuse_plans.specs.Works.{goes_on, ask, give, keep, fail, attempt, refusal_in, ◌>>=◌}
use Rattle.fuse_plans.specs.Plans.{Finish, followed_by, KeepsTo}
use Rattle.fuse_plans.specs.Callers.{actor_in, object_error, of_object, on}
use Rattle.fuse_plans.specs.AttributePlans.{is_now, stamp_set, tell_attributes, removed_body, get_attributes, resize_object, set_size, set_owners, set_mode, or_not_permitted, may_set_times, set_stamps_if, set_stamps, change_attributes, tell_times, set_attributes, read_link, or_of_link, ask_access}
use Rattle.fuse_plans.specs.RemovedPlans.{removed_instead, or_of_removed}
use Rattle.fuse_plans.specs.AclPlans.{acl_at, sized, get_xattr, names_if, list_xattrs, acl_set, or_not_for_files, set_acl, set_xattr, remove_xattr}
use Rattle.fuse_plans.specs.Acts.{AskedBefore, of_node}
use Rattle.fuse_plans.specs.Alterations.{sets_list, sets_mode, resizes, resizes_open, says_change_in}
use Rattle.fuse_plans.specs.Conduct.{sets}
use Rattle.fuse_plans.proofs.Said.{Told, told-where_so, told-two, told-by, said-so, changing, at_once_in}
use Rattle.fuse_plans.proofs.PlanLaws.{Whatever}
use Rattle.fuse_plans.proofs.Roles.{MayDo, doing, refused-unchanged, Role, may-do, IsShown, MaySetBy, owns_it, writes_it, shown-later}
use Rattle.fuse_plans.proofs.Conducts.{a-look, a-step, left-changed, spared, fits-next, Fits, EndsTo, Lasts, lasts-with, lasts->>=, Nodes, still, DoesTo, Does, OkTo, gives, then->>=, does-give, does-fail, does-kept, does-keep, does-needed, does-if, does-when, forget, with->>=, does->>=, does-attempt}
use Rattle.fuse_plans.proofs.Calls.{do-later, WasGranted, About, looks-at, acts-on, does-ask, does-on, does-look, does-acl_of, does-told_stamps, IsOwn, IsFor, own-object, gives-own, gives-caller}
use Rattle.fuse_plans.proofs.FileConducts.{IsKept, by-kept}

-- ---- what is told, and errors of links

module _ {rights : Role} {k : Nodes} {known : AskedBefore} where
  does-tell_attributes : (status : Status) → Does rights k known (tell_attributes status)
  does-tell_attributes status = does->>= (does-told_stamps _) (λ stamps. does-kept _)

  does-or_of_link : (accessed : Result Reply RequestError) → Does rights k known (or_of_link accessed)
  does-or_of_link (Ok reply) = does-give tt
  does-or_of_link (Err (Lacks EOPNOTSUPP)) = does-give tt
  does-or_of_link _ = does-fail _

-- ---- attributes

-- what is gone may be a directory that was removed
module _ {rights : Role} {k : Nodes} {known : AskedBefore} where
  does-removed_instead : (node : ℕ) (e : RequestError) → Does rights k known (removed_instead node e)
  does-removed_instead node e = does-if _ _ _ (does->>= (does-kept _) (λ removed. forget (does-needed e removed))) (does-fail e)

  does-or_of_removed : {X : Type 0} (node : ℕ) (f : RemovedDirectory → Server → X) (found : Result X RequestError) → Does rights k known (or_of_removed node f found)
  does-or_of_removed node f (Ok x) = does-give x
  does-or_of_removed node f (Err e) = does->>= (does-removed_instead node e) (λ removed. does-kept _)

module _ {rights : Role} {known : AskedBefore} where
  pub does-get_attributes : (r : Asked) → IsFor rights r → Does rights still known (get_attributes r)
  does-get_attributes r of =
      does->>= (does-attempt (with->>= (gives-own of) (λ n own. does->>= (does-look n (own-object own)) does-tell_attributes))) (does-or_of_removed r.node removed_body)

-- the handle that a change of the size is asked by is the one of the request
abbrev pub HandleIs : Role → Option ℕ → Type 0
HandleIs rights None = Unit {0}
HandleIs rights (Some handle) = IsKept rights handle

-- it says a change
setting : {o : Option Operation} {c : AttrChanges} {A : Type 0} → o ≡ Some (SetAttr c) → IsFalse (says_change_in o) → A
setting asked none = said-so (ap says_change_in (sym asked) ∙ none)

-- and is done in steps
setting-steps : {o : Option Operation} {c : AttrChanges} {A : Type 0} → o ≡ Some (SetAttr c) → at_once_in o ≡ true → A
setting-steps asked once = said-so (sym once ∙ ap at_once_in asked)

is_present : (now : Time) (new : Option NewTime) → is_now new ≡ true → stamp_set now new ≡ Some (stamp_of now)
is_present now None is = said-so (sym is)
is_present now (Some Now) is = refl
is_present now (Some (At seconds nanoseconds)) is = said-so (sym is)

-- who asks may set the times
abbrev MaySet : Time → ℕ → Credential → AttrChanges → AskedBefore → Type 0 → Type 0
MaySet now n cred c past is_owner = MaySetBy now past n cred is_owner (stamp_set now c.atime) (stamp_set now c.mtime)

module _ {rights : Role} (cred : Credential) (n : ℕ) (who : rights.cred ≡ Some cred) (own : IsOwn rights n)
    (c : AttrChanges) (asked : rights.subject.operation ≡ Some (SetAttr c)) where
  does-resize_object : {known : AskedBefore} (size : ℕ) (handle : Option ℕ) → c.size ≡ Some size → c.handle ≡ handle → HandleIs rights handle
      → Does rights still known (resize_object cred n size handle)
  does-resize_object size None is_size is_handle is =
      forget (does-on cred n _ (acts-on _ who refl ((told-by {alteration = resizes size} asked is_size).is, tt) (own-object own)) (a-step (λ reply. refl) (setting-steps asked)))
  does-resize_object size (Some handle) is_size is_handle is = forget (by-kept handle _ is refl ((told-by {alteration = resizes_open handle size} asked (is_size, is_handle)).is, tt) (a-step (λ reply. refl) (setting-steps asked)))

  does-set_size : {known : AskedBefore} (handle size : Option ℕ) → c.size ≡ size → c.handle ≡ handle → HandleIs rights handle
      → Does rights still known (set_size rights.now cred n handle size)
  does-set_size handle None is_size is_handle is = does-give tt
  does-set_size handle (Some size) is_size is_handle is =
      does->>= (does-resize_object size handle is_size is_handle is) (λ reply. does-keep _ (λ s. (refl, refl)) (setting asked))

  does-set_owners : {known : AskedBefore} → Does rights still known (set_owners rights.now cred n c)
  does-set_owners =
      does-when (is_some c.uid || is_some c.gid) _ (λ some.
      does->>= (does-on cred n _ (acts-on (Chown [] c.uid c.gid) who (ap (λ b. cond b (Some []) None) some)
      (told-two _ _ _ _ _ (told-by asked) (told-by asked)) (own-object own)) (a-step (λ reply. refl) (setting-steps asked))) (λ reply. does-keep (with_change_time rights.now n) (λ s. (refl, refl)) (setting asked)))

  does-set_mode : {known : AskedBefore} (mode : Option ℕ) → c.mode ≡ mode → Does rights still known (set_mode rights.now cred n mode)
  does-set_mode None is = does-give tt
  does-set_mode (Some mode) is =
      does->>= (does-on cred n _ (acts-on _ who refl ((told-by {alteration = sets_mode} asked (ap is_some is)).is, tt) (own-object own)) (a-step (λ reply. refl) (setting-steps asked))) (λ reply.
      does-keep _ (λ s. (refl, refl)) (setting asked))

  gives-or_not_permitted : {known : AskedBefore} {is_owner : Type 0} → is_now c.atime ≡ true → is_now c.mtime ≡ true → (written : Result Reply RequestError)
      → OkTo (λ past reply. WasGranted past (CallAt (actor_in cred n) (Access [] (perms_of 2))) reply) known written
      → DoesTo rights still known (λ past x. MaySet rights.now n cred c past is_owner) (or_not_permitted written)
  gives-or_not_permitted atime mtime (Ok reply) granted =
      gives tt (λ past more. writes_it reply (is_present rights.now c.atime atime) (is_present rights.now c.mtime mtime) (more.has _ reply granted.was) granted.granted)
  gives-or_not_permitted atime mtime (Err (Lacks EOPNOTSUPP)) granted = does-fail _
  gives-or_not_permitted atime mtime (Err _) granted = does-fail _

  gives-may_set_times : {known : AskedBefore} (owner : Bool) → DoesTo rights still known (λ past x. MaySet rights.now n cred c past (owner ≡ true)) (may_set_times cred n owner c)
  gives-may_set_times true = gives tt (λ past more. owns_it refl)
  gives-may_set_times {known} false = choose (is_now c.atime) (is_now c.mtime) refl refl
    where
      choose : (a b : Bool) → is_now c.atime ≡ a → is_now c.mtime ≡ b → DoesTo rights still known (λ past x. MaySet rights.now n cred c past (false ≡ true))
          (if not (a && b) then fail (failed EPERM) else (attempt (on cred n (Access [] (perms_of 2))) >>= or_not_permitted))
      choose true true atime mtime =
          then->>= (does-attempt (does-on cred n _ (acts-on _ who refl tt (own-object own)) (a-look (λ reply. refl) refl))) (λ written now more granted.
          gives-or_not_permitted atime mtime written granted)
      choose true false atime mtime = does-fail _
      choose false b atime mtime = does-fail _

  -- the machine has the times, or the server
  module _ {known : AskedBefore} (status : Status) (shown : IsShown known n status) (may : MaySet rights.now n cred c known (counts_as_owner cred status.owner ≡ true))
      (some : IsTrue (is_some c.atime || is_some c.mtime)) where
    does-set_stamps_if : (keeps : Bool) → Does rights still known (set_stamps_if keeps rights.now n c)
    does-set_stamps_if false = does-keep _ (λ s. (refl, refl)) (setting asked)
    does-set_stamps_if true =
        does->>= (does-ask (Stamp n _ _ _) (may-do (sets c _ _ _ asked some (of_node own)) (told-where_so _ _ _ (λ is. told-by asked some)))
        (λ set. record { cred = cred; is_who_asks = who; status = status; shown = shown; may = may; is_changed = refl }) (a-step (λ reply. refl) (setting-steps asked))) (λ reply.
        does->>= (does-needed _ _) (λ stamps. does-give tt))

    does-set_stamps : Does rights still known (set_stamps rights.now n c)
    unfolding set_stamps
    does-set_stamps = does->>= (does-kept _) does-set_stamps_if

  does-tell_times : {known : AskedBefore} → Does rights still known (tell_times rights.now cred n c)
  does-tell_times =
      then->>= (does-look n (own-object own)) (λ status now more shown.
      does->>= (does-when (is_some c.atime || is_some c.mtime) _ (λ some.
      then->>= (gives-may_set_times (counts_as_owner cred status.owner)) (λ done later again may. does-set_stamps status (shown-later again shown) may some))) (λ done.
      does-tell_attributes status))

  does-change_attributes : {known : AskedBefore} → HandleIs rights c.handle → Does rights still known (change_attributes rights.now cred n c)
  does-change_attributes is =
      does->>= (does-set_size c.handle c.size refl refl is) (λ size. does->>= does-set_owners (λ owners. does-set_mode c.mode refl))

module _ {rights : Role} {known : AskedBefore} (r : Asked) (of : IsFor rights r) where
  pub does-set_attributes : (c : AttrChanges) → rights.subject.operation ≡ Some (SetAttr c) → HandleIs rights c.handle
      → Does rights still known (set_attributes r c)
  does-set_attributes c asked is =
      with->>= (gives-own of) (λ n own.
      with->>= (gives-caller _ of.cred) (λ cred who.
      subst (λ now. Does rights still known (change_attributes now cred n c >>= (λ changed. tell_times now cred n c))) of.now
      (does->>= (does-change_attributes cred n who own c asked is) (λ changed. does-tell_times cred n who own c asked))))

  -- ---- links and access

  pub does-read_link : Does rights still known (read_link r)
  does-read_link =
      with->>= (gives-own of) (λ n own.
      does->>= (does-on _ n _ (looks-at (Readlink []) refl refl tt (own-object own)) (a-look (λ reply. refl) refl)) (λ reply.
      does->>= (does-needed _ _) (λ target. does-give _)))

  pub does-ask_access : (mask : ℕ) → Does rights still known (ask_access r mask)
  does-ask_access mask =
      with->>= (gives-own of) (λ n own.
      with->>= (gives-caller _ of.cred) (λ cred who.
      does->>= (does->>= (does-attempt (does-on cred n _ (acts-on _ who refl tt (own-object own)) (a-look (λ reply. refl) refl))) does-or_of_link) (λ may. does-give _)))

-- ---- ACLs

module _ {rights : Role} {k : Nodes} {known : AskedBefore} where
  does-sized : (size has : ℕ) (body : ReplyBody) → Does rights k known (sized size has body)
  does-sized size has body = does-if _ _ _ (does-give _) (does-if _ _ _ (does-fail _) (does-give body))

  does-acl_set : (n : ℕ) (which : AclType) (acl : Option AccessList) → About rights known n → Does rights k known (acl_set n which acl)
  does-acl_set n which acl about = does-if _ _ _ (does->>= (does-look n about) (λ status. does-give _)) (does-give _)

module _ {rights : Role} {known : AskedBefore} (r : Asked) (of : IsFor rights r) where
  does-acl_at : (which : AclType) → Does rights still known (acl_at r.node which)
  unfolding acl_at
  does-acl_at which = does->>= (does-attempt (with->>= (gives-own of) (λ n own. does-acl_of n which (own-object own)))) (does-or_of_removed r.node _)

  pub does-get_xattr : (name : List ℕ) (size : ℕ) → Does rights still known (get_xattr r name size)
  does-get_xattr name size =
      does->>= (does-needed _ _) (λ which.
      does->>= (does-acl_at which) (λ found.
      does->>= (does-needed _ found) (λ acl. does-sized size _ _)))

  -- a link has none
  does-names_if : (access : Result (Option AccessList) RequestError) → Does rights still known (names_if r.node access)
  does-names_if (Ok access) = does->>= (does-acl_at Default) (λ default. does-give _)
  does-names_if (Err (Lacks EOPNOTSUPP)) = does-give []
  does-names_if _ = does-fail _

  pub does-list_xattrs : (size : ℕ) → Does rights still known (list_xattrs r size)
  does-list_xattrs size = does->>= (does->>= (does-attempt (does-acl_at AccessAcl)) does-names_if) (λ names. does-sized size _ _)

  -- by what is replied it is known whether it was set
  lasts-acl_set : {n : ℕ} {cred : Credential} (which : AclType) (acl : Option AccessList) → Told rights.subject.operation (sets_list which)
      → MayDo rights known (CallAt (actor_in cred n) (SetAcl [] which acl))
      → Lasts rights known (attempt (on cred n (SetAcl [] which acl)) >>= (λ set. or_not_for_files set >>= (λ done. keep (with_change_time r.now n) >>= (λ noted. give Nothing))))
  unfolding on attempt ask give fail keep ◌>>=◌
  lasts-acl_set {n} {cred} which acl told may = record { goes = λ past s fits. (do-later rights fits.since _ may tt, λ reply. each past s fits reply) }
    where
      each : (past : AskedBefore) (s : Server) → Fits rights still known past s → (reply : Reply)
          → KeepsTo (doing rights) (EndsTo rights Whatever) ((CallAt (actor_in cred n) (SetAcl [] which acl), reply) ∷ past)
          (followed_by (followed_by (of_object reply (refusal_in reply) s) (λ q. Finish (Ok q.0, q.1)))
          (goes_on (λ set. or_not_for_files set >>= (λ done. keep (with_change_time r.now n) >>= (λ noted. give Nothing)))))
      each past s fits (Refused refusal) = choose (is_for ENOTDIR (object_error refusal))
        where
          choose : (b : Bool) → KeepsTo (doing rights) (EndsTo rights Whatever) ((CallAt (actor_in cred n) (SetAcl [] which acl), Refused refusal) ∷ past)
              (((if b then fail {X = Unit {0}} (failed EACCES) else fail (object_error refusal)) >>= (λ done. keep (with_change_time r.now n) >>= (λ noted. give Nothing))) s)
          choose true = spared (fits-next _ _ refl (λ once. refused-unchanged _ refusal) fits)
          choose false = spared (fits-next _ _ refl (λ once. refused-unchanged _ refusal) fits)
      each past s fits reply = (left-changed (with_change_time r.now n) _ reply refl (λ t. (refl, refl)) (changing told) fits, tt)

  lasts-set_acl : (which : AclType) (wanted : Option AccessList) → Told rights.subject.operation (sets_list which) → Lasts rights known (set_acl r which wanted)
  lasts-set_acl which wanted told =
      lasts-with (gives-own of) (λ n own.
      lasts-with (gives-caller _ of.cred) (λ cred who.
      lasts->>= (does-acl_set n which wanted (own-object own)) (λ acl. lasts-acl_set which acl told (acts-on _ who refl (told.is, tt) (own-object own)))))

  pub lasts-set_xattr : (name bytes : List ℕ) (value : Option (Option AccessList)) → rights.subject.operation ≡ Some (SetXAttr name bytes) → Lasts rights known (set_xattr r name value)
  lasts-set_xattr name bytes value asked =
      lasts-with (does-needed _ _) (λ which is. lasts->>= (does-needed _ value) (λ acl. lasts-set_acl which acl (told-by asked is)))

  pub lasts-remove_xattr : (name : List ℕ) → rights.subject.operation ≡ Some (RemoveXAttr name) → Lasts rights known (remove_xattr r name)
  lasts-remove_xattr name asked = lasts-with (does-needed _ _) (λ which is. lasts-set_acl which None (told-by asked is))
