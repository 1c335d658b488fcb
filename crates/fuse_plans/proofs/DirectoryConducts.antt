-- How requests for directories and for the whole file system behave.
--     does-open_directory, does-read_directory, does-close_directory
--     does-read_directory_plus
--     does-begin, does-sync_all, does-count_space, does-end
use Rattle.std.specs.Prelude.{◌≡◌, ℕ, Bool, true, false, List, [], ◌∷◌, Option, None, Some, Result, Ok, Err}
use Rattle.std.proofs.Common.{refl}
use Rattle.fs_model.specs.declared.call.Call.TheVariants.{Open as OpenCall}
use Rattle.fs_model.specs.declared.event.Event.{Event}
use Rattle.fs_model.specs.declared.event.Event.TheVariants.{Sync, Statfs}
use Rattle.fs_model.specs.declared.reply.Reply.{Reply}
use Rattle.fuse_protocol.specs.declared.operation.Extent.{Extent}
use Rattle.fuse_protocol.specs.declared.operation.Offer.{Offer}
use Rattle.fuse_protocol.specs.declared.operation.Operation.TheVariants.{ReadDirPlus}
use Rattle.fuse_state.specs.Servers.{Server, may_open_directory}
use Rattle.fuse_state.specs.declared.directory.OpenDirectory.{OpenDirectory}
use Rattle.fuse_state.proofs.Holders.{opened_within, listed_within, released_within}
use Rattle.fuse_plans.specs.declared.request_error.RequestError.{RequestError}
use Rattle.fuse_plans.specs.declared.request_error.RequestError.TheVariants.{Lacks}
use Rattle.fuse_plans.specs.declared.request_error.OtherErrno.TheVariants.{ESTALE}
use Rattle.fuse_plans.specs.declared.request.Asked.{Asked}
use Rattle.fuse_plans.specs.Plans.{KeepsTo}
use Rattle.fuse_plans.specs.Works.{give, fail, kept, keep, ◌>>=◌}
use Rattle.fuse_plans.specs.Callers.{server_credential}
use Rattle.fuse_plans.specs.Flags.{listing}
use Rattle.fuse_plans.specs.ListingOrder.{in_order}
use Rattle.fuse_plans.specs.DirectoryPlans.{take_directory_if, take_directory, or_removed, open_directory, tell_names, list_and_close, list_opened, list_all, list_now, listed, list_kept, read_directory, close_directory, sync_all}
use Rattle.fuse_plans.specs.ListingPlans.{find_in_place, find_listed, look_up_names, read_directory_plus}
use Rattle.fuse_plans.specs.Serving.{begin, count_space, end}
use Rattle.fuse_plans.specs.Acts.{AskedBefore, lists}
use Rattle.fuse_plans.specs.Conduct.{as_server}
use Rattle.fuse_plans.proofs.Said.{unopened}
use Rattle.fuse_plans.proofs.Roles.{Role, may-do, doing}
use Rattle.fuse_plans.proofs.Conducts.{a-look, Nodes, still, Fits, LeftTo, Does, OkTo, does-give, does-fail, does-kept, does-keep_within, does-keep, does-of_result, gives-of_result, does-needed, does-if, forget, then->>=, with->>=, does->>=, does-attempt}
use Rattle.fuse_plans.proofs.Calls.{WasGranted, IsOpened, may-close, may-list, About, looks-at, acts-on, does-ask, does-obtain, does-on, does-replied_opened, IsOwn, IsFor, own-object, gives-own, gives-caller}
use Rattle.fuse_plans.proofs.NameConducts.{does-plain_name, does-find_inside}

-- ---- open directories

module _ {rights : Role} {known : AskedBefore} where
  -- none has more than it may
  does-take_directory : (uid node : ℕ) → Does rights still known (take_directory uid node)
  unfolding take_directory kept keep give fail ◌>>=◌
  does-take_directory uid node = record { goes = λ past s fits. takes past s fits (may_open_directory s uid) refl }
    where
      takes : (past : AskedBefore) (s : Server) → Fits rights still known past s → (b : Bool) → may_open_directory s uid ≡ b
          → KeepsTo (doing rights) (LeftTo rights still known (λ past x. Unit {0})) past (take_directory_if uid node b s)
      takes past s fits false is = fits
      takes past s fits true is = (
        record {
          since = fits.since;
          shares = λ start. opened_within s uid node is (fits.shares start);
          clock = fits.clock;
          times = fits.times;
          clean = fits.clean;
          holds = fits.holds;
        },
        tt,
      )

  does-or_removed : (read : Result Reply RequestError) → Does rights still known (or_removed read)
  does-or_removed (Ok reply) = does-give tt
  does-or_removed (Err (Lacks ESTALE)) = does-give tt
  does-or_removed _ = does-fail _

  pub does-open_directory : (r : Asked) → IsFor rights r → Does rights still known (open_directory r)
  does-open_directory r of =
      with->>= (gives-caller _ of.cred) (λ cred who.
      does->>= (does-attempt (with->>= (gives-own of) (λ n own. forget (does-on cred n _ (acts-on _ who refl tt (own-object own)) (a-look (λ reply. refl) refl))))) (λ read.
      does->>= (does-or_removed read) (λ may. does-take_directory cred.uid r.node)))

  pub does-close_directory : (handle : ℕ) → Does rights still known (close_directory handle)
  unfolding close_directory
  does-close_directory handle =
      does->>= (does-keep_within _ (λ s within. released_within s handle within) (λ s. refl) (λ none s. refl) (λ s. refl)) (λ done. does-give _)

-- ---- listings

module _ {rights : Role} {k : Nodes} {known : AskedBefore} where
  does-list_and_close : {n : ℕ} (handle : ℕ) → rights.handle ≡ None → IsOpened known handle n → Does rights k known (list_and_close handle)
  unfolding tell_names
  does-list_and_close handle alone opened =
      does->>= (does-attempt (does->>= (does-obtain _ (may-list alone opened) tt (a-look (λ reply. refl) refl)) (λ reply. forget (does-needed _ _)))) (λ names.
      does->>= (does-ask _ (may-close alone opened) tt (a-look (λ reply. refl) refl)) (λ closed. does-of_result names))

module _ {rights : Role} {k : Nodes} {known : AskedBefore} where
  does-list_opened : (event : Event) (opened : Result Reply RequestError) → rights.handle ≡ None → OkTo (λ past reply. WasGranted past event reply) known opened → Does rights k known (list_opened opened)
  does-list_opened event (Ok reply) alone asked = then->>= (does-replied_opened event reply asked) (λ opened now more is. does-list_and_close opened.0 alone is)
  does-list_opened event (Err (Lacks ESTALE)) alone asked = does-give []
  does-list_opened event _ alone asked = does-fail _

module _ {rights : Role} {k : Nodes} {known : AskedBefore} where
  does-list_all : (n : ℕ) → rights.handle ≡ None → About rights known n → Does rights k known (list_all n)
  unfolding list_all
  does-list_all n alone about =
      then->>= (does-attempt (does-on server_credential n _ (looks-at (OpenCall [] listing 0) refl refl tt about) (a-look (λ reply. unopened [] listing 0 reply refl) refl))) (λ opened now more asked. does-list_opened _ opened alone asked)

module _ {rights : Role} {known : AskedBefore} (r : Asked) (of : IsFor rights r) (alone : rights.handle ≡ None) where
  does-list_now : (handle opened : ℕ) → Does rights still known (list_now r.node handle opened)
  does-list_now handle opened =
      with->>= (gives-own of) (λ n own.
      does->>= (does-if _ _ _ (does-give tt) (does-fail _)) (λ same.
      does->>= (does-list_all n alone (own-object own)) (λ names.
      does->>= (does-keep_within _ (λ s within. listed_within s handle (in_order names) within) (λ s. refl) (λ none s. refl) (λ s. refl)) (λ done. does-give _))))

  does-listed : (handle : ℕ) (d : OpenDirectory) (anew : Bool) (made : Option (List (List ℕ × ℕ))) → Does rights still known (listed r.node handle d anew made)
  does-listed handle d false (Some names) = does-give names
  does-listed handle d false None = does-list_now handle d.node
  does-listed handle d true made = does-list_now handle d.node

  does-list_kept : (extent : Extent) → Does rights still known (list_kept r.node extent)
  unfolding list_kept
  does-list_kept extent =
      does->>= (does-kept _) (λ found.
      does->>= (does-needed _ found) (λ d.
      does->>= (does-kept _) (λ made. does-listed extent.handle d _ made)))

  pub does-read_directory : (extent : Extent) → Does rights still known (read_directory r.node extent)
  unfolding read_directory
  does-read_directory extent = does->>= (does-list_kept extent) (λ names. does-give _)

-- ---- listings with what stat(2) shows

module _ {rights : Role} {k : Nodes} {known : AskedBefore} (extent : Extent) (asked : rights.subject.operation ≡ Some (ReadDirPlus extent)) where
  does-find_in_place : (nobody : Bool) (place : Result ℕ RequestError) (name : List ℕ) → OkTo (λ past. IsOwn rights) known place
      → Does rights k known (find_in_place nobody place name)
  does-find_in_place nobody place name is =
      does->>= (does-plain_name name) (λ plain.
      with->>= (gives-of_result place is) (λ d own.
      does-find_inside nobody server_credential d name (may-do (as_server refl refl, lists d name extent (record { first = refl; second = refl }) own asked refl) tt)))

  does-find_listed : (nobody : Bool) (place : Result ℕ RequestError) (name : List ℕ) → OkTo (λ past. IsOwn rights) known place
      → Does rights k known (find_listed nobody place name)
  does-find_listed nobody place name is =
      does->>= (does-if _ _ _ (does-give tt) (does-fail _)) (λ short. does-find_in_place nobody place name is)

  does-look_up_names : (nobody : Bool) (place : Result ℕ RequestError) (names : List (ℕ × (List ℕ × ℕ))) → OkTo (λ past. IsOwn rights) known place
      → Does rights k known (look_up_names nobody place names)
  unfolding look_up_names
  does-look_up_names nobody place [] is = does-give []
  does-look_up_names nobody place (e ∷ es) is =
      does->>= (does-attempt (does-find_listed nobody place e.1.0 is)) (λ found.
      does->>= (does-look_up_names nobody place es is) (λ others. does-give _))

module _ {rights : Role} {known : AskedBefore} (r : Asked) (of : IsFor rights r) (alone : rights.handle ≡ None) where
  pub does-read_directory_plus : (extent : Extent) → rights.subject.operation ≡ Some (ReadDirPlus extent)
      → Does rights still known (read_directory_plus r.needs_nobody r.node extent)
  unfolding read_directory_plus
  does-read_directory_plus extent asked =
      then->>= (does-attempt (gives-own of)) (λ place now more is.
      does->>= (does-list_kept r of alone extent) (λ names.
      does->>= (does-look_up_names extent asked r.needs_nobody place _ is) (λ found. does-give _)))

-- ---- the whole

module _ {rights : Role} {known : AskedBefore} where
  pub does-begin : (offer : Offer) → Does rights still known (begin offer)
  unfolding begin
  does-begin offer =
      does-if _ _ _ (does-fail _)
      (does-if _ _ _ (does-give _)
      (does->>= (does-keep _ (λ s. (refl, refl)) (λ none s. refl)) (λ done. does-kept _)))

  pub does-sync_all : Does rights still known sync_all
  unfolding sync_all
  does-sync_all = does->>= (does-obtain Sync (may-do tt tt) tt (a-look (λ reply. refl) refl)) (λ done. does-give _)

  pub does-count_space : Does rights still known count_space
  unfolding count_space
  does-count_space = does->>= (does-obtain Statfs (may-do tt tt) tt (a-look (λ reply. refl) refl)) (λ reply. does->>= (does-needed _ _) (λ free. does-kept _))

  pub does-end : Does rights still known end
  unfolding end
  does-end = does->>= (does-keep _ (λ s. (refl, refl)) (λ none s. refl)) (λ done. does-sync_all)
