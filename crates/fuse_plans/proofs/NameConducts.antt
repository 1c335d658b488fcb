-- How requests for names behave: LOOKUP, SYMLINK, MKNOD, MKDIR, UNLINK, RMDIR, RENAME and LINK.
--     does-plain_name, does-find_inside, does-new_valid        pieces that other requests have too
--     names-as        who asks may call on a name that is given
--     lasts-made, lasts-made_closed        what is made is counted
--     does-find_name, lasts-make_link, lasts-remove, ..        the requests
use Rattle.std.specs.Prelude.{◌≡◌, ℕ, Bool, true, false, if◌then◌else◌, List, ◌∷◌, Option, None, Some, Result, Ok, Err, IsTrue, bit_and}
use Rattle.std.proofs.Common.{refl, sym, ap, ◌∙◌}
use Rattle.fs_cred.specs.Credentials.{Credential}
use Rattle.fs_model.specs.declared.call.Call.{Call}
use Rattle.fs_model.specs.declared.call.Call.TheVariants.{Open as OpenCall, Lstat, Mkdir, Symlink}
use Rattle.fs_model.specs.declared.call.Flags.{Flags}
use Rattle.fs_model.specs.declared.event.Actor.{Actor}
use Rattle.fs_model.specs.declared.event.Event.TheVariants.{CallAt, CallBy}
use Rattle.fs_model.specs.declared.event.HandleCall.TheVariants as by_handle
use Rattle.fs_model.specs.declared.reply.Reply.{Reply}
use Rattle.fs_model.specs.declared.reply.Reply.TheVariants.{Made, Opened, Refused}
use Rattle.fs_model.specs.declared.reply.Status.{Status}
use Rattle.fuse_protocol.specs.declared.operation.Operation.{Operation}
use Rattle.fuse_protocol.specs.declared.operation.Operation.TheVariants.{Rename, Link}
use Rattle.fuse_protocol.specs.declared.reply.Time.{Time}
use Rattle.fuse_state.specs.declared.removed.RemovedDirectory.{RemovedDirectory}
use Rattle.fuse_state.specs.Servers.{Server, number_of_node, with_new_contents, with_removed_directory}
use Rattle.fuse_state.specs.Changes.{changed_if, with_new_object, removed, moved, linked}
use Rattle.fuse_plans.specs.declared.request_error.RequestError.{RequestError}
use Rattle.fuse_plans.specs.declared.request_error.RequestError.TheVariants.{Lacks}
use Rattle.fuse_plans.specs.declared.request_error.OtherErrno.TheVariants.{ESTALE}
use Rattle.fuse_plans.specs.declared.request.Asked.{Asked}
use Rattle.fuse_plans.specs.Plans.{followed_by, KeepsTo}
use Rattle.fuse_plans.specs.Works.{goes_on, ◌>>=◌, ask, give, fail, keep, give_unless, refusal_in, obtain, number_of_reply, replied_number, replied_opened}
use Rattle.fuse_plans.specs.Flags.{making}
use Rattle.fuse_plans.specs.Laws.{made_by}
use Rattle.fuse_plans.specs.Callers.{inside, server_credential, actor_at, actor_in}
use Rattle.fuse_plans.specs.NamePlans.{plain_name, directory_for, tell_named, or_absent, searched_directory, found_or_absent, find_inside, searcher, find_name, new_valid_if, new_valid, tell_made, make_by, make_link, make_directory, make_file, removal, remove, none_there, nothing_to_replace, may_move, rename, move_name, link_as, add_link}
use Rattle.fuse_plans.specs.RemovedPlans.{inode_seen, look_before_if, look_before, last_shown_if, last_shown}
use Rattle.fuse_plans.specs.Acts.{Subject, AskedBefore, given_name, IsObject, of_old_node, IsGivenName, IsNewName, is_new, path_of, on_name, on_new_name, moves, links}
use Rattle.fuse_plans.specs.Conduct.{only_looks, MayCall, as_who_asks, as_server}
use Rattle.fuse_plans.specs.Alterations.{adds_name, links_name, takes_name, moves_name, alterations_by, IsToldIn, AreTold}
use Rattle.fuse_plans.proofs.Said.{Told, told-by, said-so, changing, at_once_in, adding}
use Rattle.fuse_plans.proofs.Roles.{Role, rights_in, has-last, MayDo, may-do, doing}
use Rattle.fuse_plans.proofs.Conducts.{a-look, a-step, Nodes, still, counted, Fits, fits-now, fits-next, fits-quiet, fits-made, EndsTo, spared, does-lasts, SameAll, DoesTo, Does, Lasts, OkTo, gives, does-give, does-fail, does-kept, does-keep, does-if, does-weaker, then->>=, with->>=, does->>=, does-attempt, lasts-with, lasts->>=}
use Rattle.fuse_plans.proofs.PlanLaws.{Whatever}
use Rattle.fuse_plans.proofs.Calls.{lasts-changed, do-later, IsOpened, About, an_object, was_told, opened-told, may-close, does-obtain, does-inside, does-look_inside, does-look, does-list_hides, does-told_stamps, IsOwn, IsFor, own-object, gives-own, gives-number, gives-caller}

-- ---- what the server keeps

last-same : (last : Option RemovedDirectory) → SameAll (with_removed_directory last)
last-same None s = (refl, refl)
last-same (Some d) s = (refl, refl)

-- one change behind another
both-same : (f g : Server → Server) → SameAll f → SameAll g → SameAll (λ s. g (f s))
both-same f g first later s = ((later (f s)).0 ∙ (first s).0, (later (f s)).1 ∙ (first s).1)

removed-same : (now : Time) (d : ℕ) (gone : Option ℕ) (last : Option RemovedDirectory) → SameAll (removed now d gone last)
removed-same now d gone last = both-same _ (with_removed_directory last) (names gone) (last-same last)
  where
    names : (gone : Option ℕ) → SameAll (λ s. with_new_contents now d (changed_if now gone s))
    names None s = (refl, refl)
    names (Some n) s = (refl, refl)

moved-same : (now : Time) (d new : ℕ) (object replaced : Option ℕ) (last : Option RemovedDirectory) → SameAll (moved now d new object replaced last)
moved-same now d new object replaced last = both-same _ (with_removed_directory last) (names object replaced) (last-same last)
  where
    names : (object replaced : Option ℕ) → SameAll (λ s. with_new_contents now new (with_new_contents now d (changed_if now object (changed_if now replaced s))))
    names None None s = (refl, refl)
    names None (Some k) s = (refl, refl)
    names (Some n) None s = (refl, refl)
    names (Some n) (Some k) s = (refl, refl)

-- a LINK is shown after it was made
linking : {o : Option Operation} {node : ℕ} {name : List ℕ} {A : Type 0} → o ≡ Some (Link node name) → at_once_in o ≡ true → A
linking asked once = said-so (sym once ∙ ap at_once_in asked)

-- ---- what is made

links-made : (target path : List ℕ) (reply : Reply) → made_by (Symlink target path) reply ≡ number_of_reply reply
links-made target path (Made n) = refl
links-made target path _ = refl

directories-made : (path : List ℕ) (mode : ℕ) (reply : Reply) → made_by (Mkdir path mode) reply ≡ number_of_reply reply
directories-made path mode (Made n) = refl
directories-made path mode _ = refl

-- ---- names

-- in the directory of the node
pub in-own : {r : Subject} {d : ℕ} (name : List ℕ) → given_name r.operation ≡ Some name → number_of_node r.start r.node ≡ Some d → IsGivenName r d name
in-own name given own = record { is_name = given; directory = own }

-- who asks may call on a name that is given
pub names-as : {rights : Role} {past : AskedBefore} {d : ℕ} {name : List ℕ} (cred : Credential) (umask : ℕ) (call : Call) → rights.cred ≡ Some cred → path_of call ≡ Some name
    → AreTold rights.subject.operation (alterations_by call) → IsGivenName rights.subject d name → MayDo rights past (CallAt (actor_at cred umask d d) call)
names-as {d = d} {name = name} cred umask call who path told is = may-do (as_who_asks who, on_name d name (record { first = refl; second = refl }) is path) told

-- and the server may look at it
looks-named : {rights : Role} {past : AskedBefore} {d : ℕ} {name : List ℕ} → IsGivenName rights.subject d name → MayDo rights past (CallAt (actor_in server_credential d) (Lstat name))
looks-named {d = d} {name = name} is = may-do (as_server refl refl, on_name d name (record { first = refl; second = refl }) is refl) tt

looks-new : {rights : Role} {past : AskedBefore} {d : ℕ} {name : List ℕ} → IsNewName rights.subject d name → MayDo rights past (CallAt (actor_in server_credential d) (Lstat name))
looks-new {d = d} {name = name} is = may-do (as_server refl refl, on_new_name d name (record { first = refl; second = refl }) is refl) tt

module _ {rights : Role} {k : Nodes} {known : AskedBefore} where
  pub does-plain_name : (name : List ℕ) → Does rights k known (plain_name name)
  does-plain_name name = does-if _ _ _ (does-fail _) (does-give tt)

  does-tell_named : (name_valid n : ℕ) → About rights known n → Does rights k known (tell_named name_valid n)
  does-tell_named name_valid n about = does->>= (does-look n about) (λ status. does->>= (does-told_stamps _) (λ stamps. does-kept _))

  -- a directory that is gone has no names
  gives-or_absent : (found : Result ℕ RequestError) → OkTo (λ past. IsOwn rights) known found → DoesTo rights k known (λ past n. IsOwn rights n) (or_absent found)
  gives-or_absent (Ok n) is = gives n (λ past more. is)
  gives-or_absent (Err (Lacks ESTALE)) is = does-fail _
  gives-or_absent _ is = does-fail _

  -- ---- look-ups

  does-found_or_absent : (nobody : Bool) (seen : Result Status RequestError) → Does rights k known (found_or_absent nobody seen)
  does-found_or_absent nobody (Ok status) = does->>= (does-told_stamps _) (λ stamps. does-kept _)
  does-found_or_absent nobody (Err e) = does->>= (does-kept _) (λ settings. does-if _ _ _ (does-give _) (does-fail _))

  pub does-find_inside : (nobody : Bool) (cred : Credential) (d : ℕ) (name : List ℕ) → MayDo rights known (CallAt (actor_in cred d) (Lstat name))
      → Does rights k known (find_inside nobody cred d name)
  does-find_inside nobody cred d name may = does->>= (does-attempt (does-look_inside cred d name may)) (does-found_or_absent nobody)

  does-new_valid_if : (d name_valid : ℕ) (b : Bool) → About rights known d → Does rights k known (new_valid_if d name_valid b)
  does-new_valid_if d name_valid false about = does-give _
  does-new_valid_if d name_valid true about = does->>= (does-attempt (does-list_hides d about)) (λ hides. does-give _)

  pub does-new_valid : (d : ℕ) → About rights known d → Does rights k known (new_valid d)
  unfolding new_valid
  does-new_valid d about = does->>= (does-kept _) (λ settings. does-new_valid_if d _ _ about)

  does-look_before_if : (has_to : Bool) (d : ℕ) (name : List ℕ) → MayDo rights known (CallAt (actor_in server_credential d) (Lstat name))
      → Does rights k known (look_before_if has_to d name)
  does-look_before_if false d name may = does-give None
  does-look_before_if true d name may = does->>= (does-attempt (does-look_inside server_credential d name may)) (λ seen. does-give _)

  does-look_before : (of_directory : Bool) (d : ℕ) (name : List ℕ) → MayDo rights known (CallAt (actor_in server_credential d) (Lstat name))
      → Does rights k known (look_before of_directory d name)
  unfolding look_before
  does-look_before of_directory d name may = does->>= (does-kept _) (λ keeps. does-look_before_if _ d name may)

  does-last_shown_if : (of_directory : Bool) (now : Time) (status : Status) → Does rights k known (last_shown_if of_directory now status)
  does-last_shown_if false now status = does-give None
  does-last_shown_if true now status = does->>= (does-told_stamps _) (λ stamps. does-kept _)

  does-last_shown : (now : Time) (seen : Option Status) → Does rights k known (last_shown now seen)
  unfolding last_shown
  does-last_shown now None = does-give None
  does-last_shown now (Some status) = does-last_shown_if _ now status

  does-none_there : (there : Result Reply RequestError) → Does rights k known (none_there there)
  does-none_there (Ok reply) = does-fail _
  does-none_there (Err e) = does-if _ _ _ (does-give tt) (does-fail e)

  does-may_move : (name new_name : List ℕ) (flags : ℕ) → Does rights k known (may_move name new_name flags)
  does-may_move name new_name flags =
      does->>= (does-if _ _ _ (does-fail _) (does-give tt)) (λ alone.
      does->>= (does-plain_name name) (λ plain. does-plain_name new_name))

-- someone with the credential may look
abbrev MayLook : Role → Credential → Type 0
MayLook rights c = (past : AskedBefore) (actor : Actor) (call : Call) → actor.cred ≡ c → IsTrue (only_looks call) → MayCall (rights_in rights) past actor call

module _ {rights : Role} (r : Asked) (of : IsFor rights r) where
  gives-searcher : {k : Nodes} {known : AskedBefore} → DoesTo rights k known (λ past c. MayLook rights c) (searcher r)
  gives-searcher =
      does-if _ _ _
      (gives server_credential (λ past more now actor call is only. as_server is only))
      (does-weaker (gives-caller _ of.cred) (λ past c who now actor call is only. as_who_asks (who ∙ ap Some (sym is))))

  module _ {known : AskedBefore} (name : List ℕ) (given : given_name rights.subject.operation ≡ Some name) where
    gives-searched_directory : DoesTo rights still known (λ past d. IsOwn rights d) (searched_directory r.node name)
    gives-searched_directory =
        does->>= (does-plain_name name) (λ plain.
        then->>= (does-attempt (gives-own of)) (λ found now more is. does-weaker (gives-or_absent found is) (λ past n own. own)))

    gives-directory_for : DoesTo rights still known (λ past d. IsOwn rights d) (directory_for r.node name)
    gives-directory_for = does->>= (does-plain_name name) (λ plain. gives-own of)

  module _ {known : AskedBefore} (name : List ℕ) (given : given_name rights.subject.operation ≡ Some name) where
    pub does-find_name : Does rights still known (find_name r name)
    does-find_name =
        with->>= (gives-searched_directory name given) (λ d own.
        with->>= gives-searcher (λ cred may.
        does-find_inside r.needs_nobody cred d name
        (may-do (may known (actor_in cred d) (Lstat name) refl refl, on_name d name (record { first = refl; second = refl }) (in-own name given own) refl) tt)))
    -- ---- what is made

  module _ (name : List ℕ) (given : given_name rights.subject.operation ≡ Some name) (adds : Told rights.subject.operation (adds_name name)) where
    -- by what is replied it is known what was made
    lasts-made : {known : AskedBefore} (name_valid d : ℕ) (actor : Actor) (call : Call) → ((reply : Reply) → made_by call reply ≡ number_of_reply reply)
        → MayDo rights known (CallAt actor call)
        → Lasts rights known (obtain (CallAt actor call) >>= (λ reply. replied_number reply >>= (λ n. tell_made r.now name_valid d n)))
    unfolding ask give fail keep tell_made ◌>>=◌
    lasts-made {known} name_valid d actor call makes may = record { goes = λ past s fits. (do-later rights fits.since _ may tt, λ reply. each past s fits reply) }
      where
        each : (past : AskedBefore) (s : Server) → Fits rights still known past s → (reply : Reply)
            → KeepsTo (doing rights) (EndsTo rights Whatever) ((CallAt actor call, reply) ∷ past)
            (followed_by (give_unless reply (refusal_in reply) s) (goes_on (λ reply. replied_number reply >>= (λ n. tell_made r.now name_valid d n))))
        each past s fits (Made n) =
            (does-lasts (does-tell_named {k = counted} {known = (CallAt actor call, Made n) ∷ past} name_valid n
            (was_told (record { event = CallAt actor call; reply = Made n; was_asked = has-last past _; tells = refl })))).goes _ _
            (fits-now (fits-made (with_new_object r.now d n) (CallAt actor call) (Made n) n adds (λ t. refl) refl (makes (Made n)) fits))
        each past s fits (Refused refusal) = spared (fits-next _ _ (makes (Refused refusal)) (λ once. adding adds once) fits)
        each past s fits reply = spared (fits-next _ _ (makes reply) (λ once. adding adds once) fits)

    lasts-made_closed : {known : AskedBefore} (name_valid d : ℕ) (actor : Actor) (flags : Flags) (mode : ℕ) → flags.create ≡ true → rights.handle ≡ None
        → MayDo rights known (CallAt actor (OpenCall name flags mode))
        → Lasts rights known (obtain (CallAt actor (OpenCall name flags mode)) >>= (λ reply. replied_opened reply >>= (λ opened.
        ask (CallBy opened.0 by_handle.Close) >>= (λ closed. tell_made r.now name_valid d opened.1))))
    unfolding ask give fail keep tell_made ◌>>=◌
    lasts-made_closed {known} name_valid d actor flags mode creates alone may = record { goes = λ past s fits. (do-later rights fits.since _ may tt, λ reply. each past s fits reply) }
      where
        each : (past : AskedBefore) (s : Server) → Fits rights still known past s → (reply : Reply)
            → KeepsTo (doing rights) (EndsTo rights Whatever) ((CallAt actor (OpenCall name flags mode), reply) ∷ past)
            (followed_by (give_unless reply (refusal_in reply) s)
            (goes_on (λ reply. replied_opened reply >>= (λ opened. ask (CallBy opened.0 by_handle.Close) >>= (λ closed. tell_made r.now name_valid d opened.1)))))
        each past s fits (Opened handle n) =
            let is : IsOpened ((CallAt actor (OpenCall name flags mode), Opened handle n) ∷ past) handle n = record { event = CallAt actor (OpenCall name flags mode); was = has-last past _ } in
            let made = fits-made (with_new_object r.now d n) (CallAt actor (OpenCall name flags mode)) (Opened handle n) n adds (λ t. refl) refl (ap (λ b. if b then Some n else None) creates) fits in (
              (may-close alone is, tt),
              λ closed. (does-lasts (does-tell_named {k = counted} name_valid n (was_told (opened-told is)))).goes _ _
                  (fits-quiet (CallBy handle by_handle.Close) closed (a-look (λ reply. refl) refl) (fits-now made)),
            )
        each past s fits (Refused refusal) = spared (fits-next _ _ refl (λ once. adding adds once) fits)
        each past s fits reply = spared (fits-next _ _ refl (λ once. adding adds once) fits)

    lasts-make_by : {known : AskedBefore} (d umask : ℕ) (call : Call) → ((reply : Reply) → made_by call reply ≡ number_of_reply reply) → path_of call ≡ Some name
        → AreTold rights.subject.operation (alterations_by call) → IsOwn rights d → Lasts rights known (make_by r d umask call)
    lasts-make_by d umask call makes path says own =
        lasts->>= (does-new_valid d (own-object own)) (λ name_valid.
        lasts-with (gives-caller _ of.cred) (λ cred who. lasts-made name_valid d _ call makes (names-as cred umask call who path says (in-own name given own))))

    pub lasts-make_link : {known : AskedBefore} (target : List ℕ) → Lasts rights known (make_link r name target)
    lasts-make_link target = lasts-with (gives-directory_for name given) (λ d own. lasts-make_by d _ _ (links-made target name) refl (adds.is, tt) own)

    pub lasts-make_directory : {known : AskedBefore} (mode umask : ℕ) → Lasts rights known (make_directory r name mode umask)
    lasts-make_directory mode umask = lasts-with (gives-directory_for name given) (λ d own. lasts-make_by d _ _ (directories-made name (bit_and mode 0o7777)) refl (adds.is, tt) own)

    pub lasts-make_file : {known : AskedBefore} (mode umask : ℕ) → rights.handle ≡ None → Lasts rights known (make_file r name mode umask)
    lasts-make_file mode umask alone =
        lasts->>= (does-if _ _ _ (does-give tt) (does-fail _)) (λ file.
        lasts-with (gives-directory_for name given) (λ d own.
        lasts->>= (does-new_valid d (own-object own)) (λ name_valid.
        lasts-with (gives-caller _ of.cred) (λ cred who.
        lasts-made_closed name_valid d _ making _ refl alone (names-as cred _ _ who refl (adds.is, tt) (in-own name given own))))))

  module _ {known : AskedBefore} (name : List ℕ) (given : given_name rights.subject.operation ≡ Some name) where
    -- ---- names that go

    pub lasts-remove : (of_directory : Bool) → path_of (removal of_directory name) ≡ Some name → ((reply : Reply) → made_by (removal of_directory name) reply ≡ None)
        → (IsToldIn rights.subject.operation (takes_name name) → AreTold rights.subject.operation (alterations_by (removal of_directory name)))
        → Told rights.subject.operation (takes_name name) → Lasts rights known (remove r of_directory name)
    unfolding inside
    lasts-remove of_directory path none says takes =
        lasts-with (gives-directory_for name given) (λ d own.
        lasts-with (gives-caller _ of.cred) (λ cred who.
        lasts->>= (does-look_before of_directory d name (looks-named (in-own name given own))) (λ gone.
        lasts->>= (does-last_shown r.now gone) (λ last.
        lasts-changed _ (names-as cred 0 (removal of_directory name) who path (says takes.is) (in-own name given own)) tt none _ (removed-same r.now d (inode_seen gone) last)
        (changing takes) _))))

  -- ---- names that lead elsewhere

  module _ {known : AskedBefore} where
    does-nothing_to_replace : (flags : ℕ) (cred : Credential) (d : ℕ) (name : List ℕ) → rights.cred ≡ Some cred → IsNewName rights.subject d name
        → Does rights still known (nothing_to_replace flags cred d name)
    does-nothing_to_replace flags cred d name who renamed =
        does-if _ _ _ (does-give tt)
        (does->>= (does-attempt (does-inside cred d _ (may-do (as_who_asks who, on_new_name d name (record { first = refl; second = refl }) renamed refl) tt) (a-look (λ reply. refl) refl))) does-none_there)

    lasts-rename : (cred : Credential) (d : ℕ) (name : List ℕ) (new : ℕ) (new_name : List ℕ) → rights.cred ≡ Some cred → IsGivenName rights.subject d name → IsNewName rights.subject new new_name
        → Told rights.subject.operation (moves_name name new_name) → Lasts rights known (rename r.now cred d name new new_name)
    lasts-rename cred d name new new_name who given renamed told =
        lasts->>= (does-look_before false d name (looks-named given)) (λ object.
        lasts->>= (does-look_before true new new_name (looks-new renamed)) (λ replaced.
        lasts->>= (does-last_shown r.now replaced) (λ last.
        lasts-changed _ (may-do (as_who_asks who, moves name new_name refl given renamed) (told.is, tt)) tt (λ reply. refl) _
        (moved-same r.now d new (inode_seen object) (inode_seen replaced) last) (changing told) _)))

  module _ {known : AskedBefore} where
    pub lasts-move_name : (name : List ℕ) (new_node : ℕ) (new_name : List ℕ) (flags : ℕ) → rights.subject.operation ≡ Some (Rename name new_node new_name flags)
        → Lasts rights known (move_name r name new_node new_name flags)
    lasts-move_name name new_node new_name flags asked =
        lasts->>= (does-may_move name new_name flags) (λ may.
        lasts-with (gives-own of) (λ d own.
        lasts-with (gives-number new_node) (λ new was.
        lasts-with (gives-caller _ of.cred) (λ cred who.
        lasts->>= (does-nothing_to_replace flags cred new new_name who (is_new name new_node flags asked was)) (λ none.
        lasts-rename cred d name new new_name who (in-own name (ap given_name asked) own) (is_new name new_node flags asked was) (told-by asked (refl, refl)))))))

    -- ---- one more name

    does-link_as : (old_node n d : ℕ) (name : List ℕ) → rights.subject.operation ≡ Some (Link old_node name) → IsObject rights.subject n → IsGivenName rights.subject d name
        → Does rights still known (link_as r n d name)
    does-link_as old_node n d name asked object given =
        let told : Told rights.subject.operation (links_name name) = told-by asked refl in
        with->>= (gives-caller _ of.cred) (λ cred who.
        does->>= (does-obtain _ (may-do (as_who_asks who, links name refl object given) (told.is, tt)) tt (a-step (λ reply. refl) (linking asked))) (λ done.
        does->>= (does-keep (linked r.now d n) (λ s. (refl, refl)) (changing told)) (λ noted. does-tell_named 0 n (an_object object))))

  module _ {known : AskedBefore} where
    pub does-add_link : (old_node : ℕ) (name : List ℕ) → rights.subject.operation ≡ Some (Link old_node name) → Does rights still known (add_link r old_node name)
    does-add_link old_node name asked =
        with->>= (gives-directory_for name (ap given_name asked)) (λ d own.
        with->>= (gives-number old_node) (λ n was.
        does-link_as old_node n d name asked (of_old_node old_node name asked was) (in-own name (ap given_name asked) own)))
