-- What is promised of a listing whose names are looked up.
--     HasListingRoom        there is room for a listing
--     Listed        a session has the names of an open directory
--     ToldOne        one of them was looked up, and its record was added
use Rattle.std.specs.Prelude.{◌≡◌, ℕ, ◌+◌, ◌-◌, ◌*◌, ◌≤◌, Bool, List, [], ◌++◌, length, Some, Result, Ok}
use Rattle.fs_model.specs.declared.event.Event.{Event}
use Rattle.fs_model.specs.declared.reply.Reply.{Reply}
use Rattle.fuse_protocol.specs.Entries.{record_size, directory_record_bytes}
use Rattle.fuse_state.specs.Servers.{listing_of}
use Rattle.fuse_plans.specs.declared.request_error.RequestError.{RequestError}
use Rattle.fuse_plans.specs.declared.reply.ReplyBody.{ReplyBody}
use Rattle.fuse_plans.specs.ListingPlans.{find_listed, told_record}
use Rattle.fuse_plans.specs.Works.{Work, attempt}
use Rattle.fuse_sessions.specs.declared.listing.TheConstants.{LEAST_RECORD}
use Rattle.fuse_sessions.specs.declared.session.Session.{Session}
use Rattle.fuse_sessions.specs.Performing.{Did}

-- so many bytes can be told where none is yet, and copies made of as many names as may have records in them
abbrev pub HasListingRoom : ℕ → List ℕ → ℕ → ℕ → Type 0
HasListingRoom size bytes capacity names = (bytes ≡ []) × (size ≤ capacity) × (size ≤ LEAST_RECORD * names + (LEAST_RECORD - 1))

-- the work has given the names that are kept of the open directory
pub record Listed {M : Type 0} (Serves : M → Event → Reply → M → Type 0) (work : Work (List (List ℕ × ℕ))) (old new : Session M) (handle : ℕ) : Type 0 where
  pub names : List (List ℕ × ℕ)
  pub did : Did Serves work old new (Ok names)
  pub kept : listing_of new.server.server handle ≡ Some names

-- A name and its inode, with the offset behind it: there was room for its record, a look-up has found this, and that was told behind the bytes before.
pub record ToldOne {M : Type 0} (Serves : M → Event → Reply → M → Type 0) (nobody : Bool) (place : Result ℕ RequestError) (most offset : ℕ)
    (e : List ℕ × ℕ) (old new : Session M) (before after : List ℕ) : Type 0 where
  pub found : Result ReplyBody RequestError
  pub fits : length before + record_size (length e.0) ≤ most
  pub did : Did Serves (attempt (find_listed nobody place e.0)) old new (Ok found)
  pub bytes : after ≡ before ++ directory_record_bytes (told_record ((offset, e), found))
