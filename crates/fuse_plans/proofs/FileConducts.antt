-- How requests for files behave: OPEN, CREATE, READ, WRITE and RELEASE.
--     OpenedHere, Opens, lasts-open_file        what is told was opened last, and is the object
--     lasts-create_file        what is made is counted
--     by-given, IsKept, by-kept        what is asked by the handle that is given
--     does-read_file, does-write_file, does-close_file        by a handle
use Rattle.std.specs.Prelude.{◌≡◌, ℕ, ◌+◌, suc, zero, Bool, true, false, not, ◌&&◌, List, [], ◌∷◌, None, Some, Result, Ok, Err, IsTrue, if◌then◌else◌, bit_and}
use Rattle.std.proofs.Common.{refl, ap, ◌∙◌}
use Rattle.posix_acl.specs.Entries.{perms_of}
use Rattle.fs_cred.specs.Credentials.{Credential}
use Rattle.fs_model.specs.declared.call.Call.TheVariants.{Open as OpenCall, Access}
use Rattle.fs_model.specs.declared.call.Flags.{Flags}
use Rattle.fs_model.specs.declared.event.Actor.{Actor}
use Rattle.fs_model.specs.declared.event.Event.{Event}
use Rattle.fs_model.specs.declared.event.Event.TheVariants.{CallAt, CallBy}
use Rattle.fs_model.specs.declared.event.HandleCall.{HandleCall}
use Rattle.fs_model.specs.declared.reply.Reply.{Reply}
use Rattle.fs_model.specs.declared.reply.Reply.TheVariants.{Opened, Refused}
use Rattle.fuse_protocol.specs.declared.flags.OpenedFlags.{OpenedFlags}
use Rattle.fuse_protocol.specs.declared.operation.Extent.{Extent}
use Rattle.fuse_protocol.specs.declared.reply.Time.{Time}
use Rattle.fuse_state.specs.Servers.{Server}
use Rattle.fuse_state.specs.Changes.{opened_or_made}
use Rattle.fuse_plans.specs.declared.mode.Mode.{Mode}
use Rattle.fuse_plans.specs.declared.mode.Mode.TheVariants.{Reads, Writes, Both}
use Rattle.fuse_plans.specs.declared.reply.ReplyBody.{ReplyBody}
use Rattle.fuse_plans.specs.declared.reply.ReplyBody.TheVariants.{Opened as OpenedBody}
use Rattle.fuse_plans.specs.declared.request_error.RequestError.{RequestError}
use Rattle.fuse_plans.specs.declared.request_error.RequestError.TheVariants.{Refuses}
use Rattle.fuse_plans.specs.declared.request.Asked.{Asked}
use Rattle.fuse_plans.specs.Plans.{Finish, followed_by, KeepsTo}
use Rattle.fuse_plans.specs.Works.{goes_on, ◌>>=◌, give, fail, kept, keep, ask, attempt, give_unless, refusal_in, obtain, replied_opened}
use Rattle.fuse_plans.specs.Callers.{server_credential, actor_at, actor_in, of_object, on}
use Rattle.fuse_plans.specs.Flags.{is_exec, is_trunc, opening, creating}
use Rattle.fuse_plans.specs.FilePlans.{when, done, opener, asked_mode, touched_if, opened_body, open_file, or_opened, open_or_make, show_timed, look_open, tell_created, create_by, create_file, read_file, write_piece, or_done, write_pieces, or_by_moves, write_runs, touch_open_if, touch_open, write_file, close_file}
use Rattle.fuse_plans.specs.Acts.{AskedBefore, StartsAt, given_name, IsGivenName}
use Rattle.fuse_plans.specs.Alterations.{resizes, writes_open, adds_name, alterations_by_handle, AreTold}
use Rattle.fuse_plans.specs.Conduct.{MayRun, to_run, is_close, releases, given}
use Rattle.fuse_plans.proofs.Said.{Told, told-where_so, said-so, changing, adding, writing, unopened}
use Rattle.fuse_plans.proofs.Roles.{Role, refused-unchanged, has-last, MayDo, may-do, doing}
use Rattle.fuse_plans.proofs.PlanLaws.{Whatever}
use Rattle.fuse_plans.proofs.Conducts.{Quiet, a-look, a-step, left-changed, spared, Nodes, still, counted, SameAll, SameTimes, Fits, fits-now, fits-next, fits-made, DoesTo, Does, EndsTo, LastsTo, Lasts, gives, does-give, does-fail, does-kept, does-keep, does-needed, does-if, forget, then->>=, does->>=, does-attempt, does-lasts, lasts-then, lasts-with, lasts->>=}
use Rattle.fuse_plans.proofs.Calls.{do-later, run-later, WasGranted, granted-later, IsOpened, opened-told, About, was_told, concerns-about, acts-on, does-obtain, does-on, does-inside, does-replied_opened, does-or_closed, does-look, does-told_stamps, IsOwn, IsFor, own-object, gives-own, gives-caller}
use Rattle.fuse_plans.proofs.NameConducts.{does-plain_name, does-new_valid, names-as, in-own}

touched_if-same : (is_cut : Bool) (now : Time) (n : ℕ) → SameAll (touched_if is_cut now n)
touched_if-same true now n s = (refl, refl)
touched_if-same false now n s = (refl, refl)

-- ---- to open

module _ {rights : Role} {known : AskedBefore} {n : ℕ} (cred : Credential) (who : rights.cred ≡ Some cred) (about : About rights known n) where
  -- where it is to be run, that was granted
  gives-asked : {k : Nodes} (runs : Bool)
      → DoesTo rights k known (λ past x. IsTrue runs → MayRun rights.cred past n) (when runs (done (on cred n (Access [] (perms_of 1)))))
  gives-asked true =
      then->>= (does-on cred n _ (acts-on (Access [] (perms_of 1)) who refl tt about) (a-look (λ reply. refl) refl)) (λ reply now more asked.
      gives tt (λ past again so. run-later again (record { asker = actor_in cred n; is_who_asks = who; starts = refl; reply = reply; was_asked = asked.was; granted = asked.granted })))
  gives-asked false = gives tt (λ past more so. absurd (let no : false ≡ true = so in cc))

-- the request tells that bytes are lost
abbrev CutsTold : Role → Bool → Type 0
CutsTold rights cut = cut ≡ true → Told rights.subject.operation (resizes 0)

-- What is opened for reading alone, and not cut, the server may open where who asks may run it; and who asks may always ask.
module _ {rights : Role} {known : AskedBefore} {n : ℕ} (cred : Credential) (who : rights.cred ≡ Some cred) (about : About rights known n) where
  opens-to_read : (runs cut : Bool) → CutsTold rights cut → (IsTrue runs → MayRun rights.cred known n)
      → MayDo rights known (CallAt (actor_in (if runs && not cut then server_credential else cred) n) (OpenCall [] (opening (if cut then Both else Reads) cut) 0))
  opens-to_read true false told may = may-do (to_run refl (may refl) refl, concerns-about server_credential _ refl about) tt
  opens-to_read true true told may = acts-on _ who refl ((told refl).is, tt) about
  opens-to_read false cut told may = acts-on _ who refl (told-where_so _ cut _ told) about

  opens-to_write : (runs cut : Bool) (mode : Mode) → CutsTold rights cut
      → MayDo rights known (CallAt (actor_in (if runs && false then server_credential else cred) n) (OpenCall [] (opening mode cut) 0))
  opens-to_write true cut mode told = acts-on _ who refl (told-where_so _ cut _ told) about
  opens-to_write false cut mode told = acts-on _ who refl (told-where_so _ cut _ told) about

  opens-by : (flags : ℕ) (mode : Mode) → CutsTold rights (is_trunc flags) → (IsTrue (is_exec flags) → MayRun rights.cred known n)
      → MayDo rights known (CallAt (actor_in (opener cred flags mode) n) (OpenCall [] (opening (asked_mode flags mode) (is_trunc flags)) 0))
  opens-by flags Reads told may = opens-to_read (is_exec flags) (is_trunc flags) told may
  opens-by flags Writes told may = opens-to_write (is_exec flags) (is_trunc flags) Writes told
  opens-by flags Both told may = opens-to_write (is_exec flags) (is_trunc flags) Both told

touches : (rights : Role) (cut : Bool) (now : Time) (n : ℕ) → CutsTold rights cut → SameTimes rights (touched_if cut now n)
touches rights true now n told = changing (told refl)
touches rights false now n told = λ none s. refl

-- the object of the node was opened last, and this is its handle
pub record OpenedHere (rights : Role) (past : AskedBefore) (handle : ℕ) : Type 0 where
  pub number : ℕ
  pub of_node : IsOwn rights number
  pub opener : Actor
  pub starts : StartsAt opener number
  pub flags : Flags
  pub told : ℕ
  pub before : AskedBefore
  pub last : past ≡ (CallAt opener (OpenCall [] flags 0), Opened handle told) ∷ before

abbrev pub Opens : Role → AskedBefore → ReplyBody → Type 0
Opens rights past body = (handle : ℕ) (told : OpenedFlags) → body ≡ OpenedBody handle told → OpenedHere rights past handle

abbrev handle_in_body : ℕ → ReplyBody → ℕ
handle_in_body handle (OpenedBody k flags) = k
handle_in_body handle _ = handle

abbrev opened_as : Credential → ℕ → ℕ → Mode → Event
opened_as cred n flags mode = CallAt (actor_in cred n) (OpenCall [] (opening mode (is_trunc flags)) 0)

module _ {rights : Role} {known : AskedBefore} (now : Time) (cred : Credential) (n flags : ℕ) (mode : Mode) (told : CutsTold rights (is_trunc flags)) (own : IsOwn rights n) where
  -- by what is replied it is known what was opened
  lasts-opened : MayDo rights known (opened_as cred n flags mode)
      → LastsTo rights still known (Opens rights)
      (on cred n (OpenCall [] (opening mode (is_trunc flags)) 0) >>= (λ reply. replied_opened reply >>= (λ opened.
      keep (touched_if (is_trunc flags) now n) >>= (λ touched. kept (opened_body opened.0)))))
  unfolding on ask give fail keep kept ◌>>=◌
  lasts-opened may = record { goes = λ past s fits. (do-later rights fits.since (opened_as cred n flags mode) may tt, λ reply. each past s fits reply) }
    where
      each : (past : AskedBefore) (s : Server) → Fits rights still known past s → (reply : Reply)
          → KeepsTo (doing rights) (EndsTo rights (Opens rights)) (((opened_as cred n flags mode), reply) ∷ past)
          (followed_by (of_object reply (refusal_in reply) s)
          (goes_on (λ reply. replied_opened reply >>= (λ opened. keep (touched_if (is_trunc flags) now n) >>= (λ touched. kept (opened_body opened.0))))))
      each past s fits (Opened handle o) = (
        left-changed (touched_if (is_trunc flags) now n) (opened_as cred n flags mode) (Opened handle o) refl (touched_if-same (is_trunc flags) now n)
            (touches rights (is_trunc flags) now n told) fits,
        λ h kept_flags is. record {
          number = n;
          of_node = own;
          opener = actor_in cred n;
          starts = record { first = refl; second = refl };
          flags = opening mode (is_trunc flags);
          told = o;
          before = past;
          last = ap (λ body. ((opened_as cred n flags mode), Opened (handle_in_body handle body) o) ∷ past) is;
        },
      )
      each past s fits (Refused refusal) = spared (fits-next _ _ refl (λ once. refused-unchanged _ refusal) fits)
      each past s fits reply = spared (fits-next (opened_as cred n flags mode) reply refl (λ once changed. changed.fits) fits)

module _ {rights : Role} {known : AskedBefore} where
  pub lasts-open_file : (r : Asked) → IsFor rights r → (flags : ℕ) → CutsTold rights (is_trunc flags) → LastsTo rights still known (Opens rights) (open_file r flags)
  lasts-open_file r of flags told =
      lasts-with (gives-own of) (λ n own.
      lasts->>= (does-needed _ _) (λ mode.
      lasts-with (gives-caller _ of.cred) (λ cred who.
      lasts-then (gives-asked cred who (own-object own) (is_exec flags)) (λ done_first asked_then more may.
      lasts-opened r.now _ n flags _ told own (opens-by cred who (own-object own) flags mode told may)))))

-- ---- to create

-- what was granted with this reply, and not made
record IsFound (past : AskedBefore) (opened : Reply × Bool) : Type 0 where
  event : Event
  asked : WasGranted past event opened.0
  is_old : opened.1 ≡ false

module _ {rights : Role} {k : Nodes} {known : AskedBefore} where
  gives-found : (cred : Credential) (d : ℕ) (name : List ℕ) (mode : Mode) (flags : ℕ) (e : RequestError) → CutsTold rights (is_trunc flags) → Told rights.subject.operation (adds_name name) → rights.cred ≡ Some cred
      → IsGivenName rights.subject d name → DoesTo rights k known IsFound (or_opened cred d name mode flags (Err e))
  gives-found cred d name mode flags e told adds who in_it =
      does-if _ _ _
      (then->>= (does-inside cred d _ (names-as cred 0 _ who refl (told-where_so _ (is_trunc flags) _ told) in_it)
      (a-step (λ reply. unopened name (opening (asked_mode flags mode) (is_trunc flags)) 0 reply refl) (adding adds))) (λ reply now more again.
      gives (reply, false) (λ past later. record { event = _; asked = granted-later later again; is_old = refl })))
      (does-fail e)

  does-show_timed : (n : ℕ) → About rights known n → Does rights k known (show_timed n)
  does-show_timed n about = does->>= (does-look n about) (λ status. does->>= (does-told_stamps _) (λ stamps. does-give _))

module _ {rights : Role} {k : Nodes} {known : AskedBefore} where
  does-look_open : (handle n : ℕ) → rights.handle ≡ None → IsOpened known handle n → Does rights k known (look_open handle n)
  unfolding look_open
  does-look_open handle n alone opened =
      then->>= (does-attempt (does-show_timed n (was_told (opened-told opened)))) (λ seen now more told.
      does-or_closed handle seen alone (record { event = opened.event; was = more.has _ _ opened.was }))

abbrev made_as : Credential → ℕ → ℕ → List ℕ → Mode → ℕ → Event
made_as cred umask d name mode file_mode = CallAt (actor_at cred umask d d) (OpenCall name (creating mode) (bit_and file_mode 0o777))

found-same : (now : Time) (d n : ℕ) (is_cut : Bool) → SameAll (opened_or_made now d n false is_cut)
found-same now d n true s = (refl, refl)
found-same now d n false s = (refl, refl)

module _ {rights : Role} (r : Asked) (of : IsFor rights r) (name : List ℕ) (flags : ℕ) (told : CutsTold rights (is_trunc flags))
    (adds : Told rights.subject.operation (adds_name name)) (alone : rights.handle ≡ None) where
  lasts-tell_found : {known : AskedBefore} (name_valid d : ℕ) (is_new : Bool) (opened : ℕ × ℕ) → is_new ≡ false → IsOpened known opened.0 opened.1
      → Lasts rights known (tell_created r.now name_valid d is_new (is_trunc flags) opened)
  unfolding tell_created
  lasts-tell_found name_valid d true opened old is = said-so old
  lasts-tell_found name_valid d false opened old is =
      does-lasts
      (does->>= (does-keep (opened_or_made r.now d opened.1 false (is_trunc flags)) (found-same r.now d opened.1 (is_trunc flags)) (changing adds)) (λ kept_so.
      does->>= (does-look_open opened.0 opened.1 alone is) (λ seen. does-kept _)))

  lasts-or_found : {known : AskedBefore} (name_valid : ℕ) (cred : Credential) (d : ℕ) (mode : Mode) (e : RequestError) → rights.cred ≡ Some cred → IsGivenName rights.subject d name
      → Lasts rights known (or_opened cred d name mode flags (Err e) >>= (λ opened. replied_opened opened.0 >>= tell_created r.now name_valid d opened.1 (is_trunc flags)))
  lasts-or_found name_valid cred d mode e who in_it =
      lasts-then (gives-found cred d name mode flags e told adds who in_it) (λ opened found_then more is.
      lasts-then (does-replied_opened is.event opened.0 is.asked) (λ handle told_then again was. lasts-tell_found name_valid d opened.1 handle is.is_old was))

  module _ {known : AskedBefore} (name_valid : ℕ) (cred : Credential) (umask d : ℕ) (mode : Mode) (file_mode : ℕ) (who : rights.cred ≡ Some cred) (in_it : IsGivenName rights.subject d name) where
    -- by what is replied it is known what was made
    lasts-create_by : Lasts rights known (create_by r.now name_valid cred umask d name mode flags file_mode)
    unfolding open_or_make tell_created attempt ask give fail keep ◌>>=◌
    lasts-create_by = record { goes = λ past s fits. (do-later rights fits.since (made_as cred umask d name mode file_mode) (names-as cred umask _ who refl (adds.is, tt) in_it) tt, λ reply. each past s fits reply) }
      where
        each : (past : AskedBefore) (s : Server) → Fits rights still known past s → (reply : Reply)
            → KeepsTo (doing rights) (EndsTo rights Whatever) (((made_as cred umask d name mode file_mode), reply) ∷ past)
            (followed_by (followed_by (followed_by (give_unless reply (refusal_in reply) s) (λ q. Finish (Ok q.0, q.1))) (goes_on (or_opened cred d name mode flags)))
            (goes_on (λ opened. replied_opened opened.0 >>= tell_created r.now name_valid d opened.1 (is_trunc flags))))
        each past s fits (Opened handle n) =
            let is : IsOpened (((made_as cred umask d name mode file_mode), Opened handle n) ∷ past) handle n = record { event = (made_as cred umask d name mode file_mode); was = has-last past _ } in
            (does-lasts (does->>= {F = Whatever} (does-look_open {k = counted} handle n alone is) (λ seen. does-kept _))).goes _ _
            (fits-now (fits-made (opened_or_made r.now d n true (is_trunc flags)) (made_as cred umask d name mode file_mode) (Opened handle n) n adds (λ t. refl) refl refl fits))
        each past s fits (Refused refusal) =
            (lasts-or_found name_valid cred d mode (Refuses refusal) who in_it).goes _ s
            (fits-now (fits-next (made_as cred umask d name mode file_mode) (Refused refusal) refl (λ once. adding adds once) fits))
        each past s fits reply = spared (fits-next (made_as cred umask d name mode file_mode) reply refl (λ once. adding adds once) fits)

  pub lasts-create_file : {known : AskedBefore} (file_mode umask : ℕ) → given_name rights.subject.operation ≡ Some name
      → Lasts rights known (create_file r name flags file_mode umask)
  lasts-create_file file_mode umask named =
      lasts->>= (does-plain_name name) (λ plain.
      lasts->>= (does-needed _ _) (λ mode.
      lasts-with (gives-own of) (λ d own.
      lasts->>= (does-new_valid d (own-object own)) (λ name_valid.
      lasts-with (gives-caller _ of.cred) (λ cred who. lasts-create_by name_valid cred _ d mode file_mode who (in-own name named own))))))

-- ---- by a handle

module _ {rights : Role} {k : Nodes} {known : AskedBefore} where
  -- what is asked by the handle that is given
  pub by-given : (handle : ℕ) (call : HandleCall) → rights.handle ≡ Some handle → is_close call ≡ releases rights.subject.operation
      → AreTold rights.subject.operation (alterations_by_handle handle call) → Quiet rights (CallBy handle call)
      → DoesTo rights k known (λ past reply. WasGranted past (CallBy handle call) reply) (obtain (CallBy handle call))
  by-given handle call is closing told quiet = does-obtain (CallBy handle call) (may-do (given is closing) told) tt quiet

-- the handle that is given, and isn't released
pub record IsKept (rights : Role) (handle : ℕ) : Type 0 where
  pub is : rights.handle ≡ Some handle
  pub stays : false ≡ releases rights.subject.operation

module _ {rights : Role} {k : Nodes} {known : AskedBefore} where
  -- what doesn't close it
  pub by-kept : (handle : ℕ) (call : HandleCall) → IsKept rights handle → is_close call ≡ false
      → AreTold rights.subject.operation (alterations_by_handle handle call) → Quiet rights (CallBy handle call) → DoesTo rights k known (λ past reply. WasGranted past (CallBy handle call) reply) (obtain (CallBy handle call))
  by-kept handle call kept not_closed told quiet = by-given handle call kept.is (not_closed ∙ kept.stays) told quiet

module _ {rights : Role} {k : Nodes} {known : AskedBefore} where
  pub does-read_file : (extent : Extent) → IsKept rights extent.handle → Does rights k known (read_file extent)
  does-read_file extent is =
      does->>= (by-kept extent.handle _ is refl tt (a-look (λ reply. refl) refl)) (λ reply. does->>= (does-needed _ _) (λ bytes. does-give _))

  pub does-close_file : (handle : ℕ) → rights.handle ≡ Some handle → true ≡ releases rights.subject.operation → Does rights k known (close_file handle)
  does-close_file handle is closing = does->>= (by-given handle _ is closing tt (a-look (λ reply. refl) refl)) (λ closed. does-give _)

  does-or_done : (done : ℕ) (wrote : Result ℕ RequestError) → Does rights k known (or_done done wrote)
  does-or_done done (Ok count) = does-give count
  does-or_done zero (Err e) = does-fail e
  does-or_done (suc done) (Err e) = does-give 0

module _ {rights : Role} {known : AskedBefore} (handle : ℕ) (is : IsKept rights handle) (told : Told rights.subject.operation (writes_open handle)) where
  does-write_piece : (offset : ℕ) (piece : List ℕ) → Does rights still known (write_piece handle offset piece)
  unfolding write_piece
  does-write_piece offset piece = does->>= (by-kept handle _ is refl (told.is, tt) (a-step (λ reply. refl) (writing told))) (λ reply. forget (does-needed _ _))

  does-write_pieces : (offset done : ℕ) (pieces : List (List ℕ)) → Does rights still known (write_pieces handle offset done pieces)
  unfolding write_pieces
  does-write_pieces offset done [] = does-give done
  does-write_pieces offset done (piece ∷ pieces) =
      let later = λ (count : ℕ). does-write_pieces offset (done + count) pieces in
      does->>= (does-attempt (does-write_piece (offset + done) piece)) (λ wrote.
      does->>= (does-or_done done wrote) (λ count.
      does-if _ _ _ (does-give _) (later count)))

  does-or_by_moves : (offset : ℕ) (bytes : List ℕ) (wrote : Result ℕ RequestError) → Does rights still known (or_by_moves handle offset bytes wrote)
  does-or_by_moves offset bytes (Ok count) = does-give count
  does-or_by_moves offset bytes (Err e) = does-if _ _ _ (does-write_pieces offset 0 _) (does-fail e)

  does-write_runs : (offset : ℕ) (bytes : List ℕ) → Does rights still known (write_runs handle offset bytes)
  unfolding write_runs
  does-write_runs offset bytes = does->>= (does-attempt (does-write_pieces offset 0 _)) (does-or_by_moves offset bytes)

  does-touch_open_if : (keeps : Bool) (now : Time) → Does rights still known (touch_open_if keeps now handle)
  does-touch_open_if true now = does-give tt
  does-touch_open_if false now =
      does->>= (by-kept handle _ is refl tt (a-look (λ reply. refl) refl)) (λ reply. does->>= (does-needed _ _) (λ status. does-keep _ (λ s. (refl, refl)) (changing told)))

  does-touch_open : (now : Time) → Does rights still known (touch_open now handle)
  unfolding touch_open
  does-touch_open now = does->>= (does-kept _) (λ keeps. does-touch_open_if keeps now)

  pub does-write_file : (now : Time) (offset : ℕ) (bytes : List ℕ) → Does rights still known (write_file now handle offset bytes)
  does-write_file now offset bytes =
      does->>= (does-if _ _ _ (does-give tt) (does-fail _)) (λ within.
      does->>= (does-write_runs offset bytes) (λ count.
      does->>= (does-attempt (does-touch_open now)) (λ touched. does-give _)))
