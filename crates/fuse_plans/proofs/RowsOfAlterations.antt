-- What may be asked for some requests, and what may not, whoever calls, and from where.
use Rattle.std.specs.Prelude.{◌≡◌, true, false, [], codes, bytes_eq, None, Some}
use Rattle.std.proofs.Common.{refl, ap}
use Rattle.fs_model.specs.declared.call.AclType.TheVariants.{Access as AccessAcl, Default}
use Rattle.fs_model.specs.declared.call.Call.TheVariants.{Open as OpenCall, Write as WriteCall, Lstat, Truncate, Chmod, SetAcl, Rmdir, Link as LinkCall, Unlink as UnlinkCall, Rename as RenameCall}
use Rattle.fs_model.specs.declared.event.Actor.{Actor}
use Rattle.fs_model.specs.declared.event.Event.TheVariants.{Call as Calls, CallAt, CallBy, Stamp, Clock, Restart}
use Rattle.fs_model.specs.declared.event.HandleCall.TheVariants as by_handle
use Rattle.fuse_protocol.specs.declared.operation.NewTime.TheVariants.{Now}
use Rattle.fuse_protocol.specs.declared.operation.Operation.{Operation}
use Rattle.fuse_protocol.specs.declared.operation.Operation.TheVariants.{Lookup, SetAttr, Unlink, Rename, Open, Write, SetXAttr}
use Rattle.fuse_plans.specs.declared.mode.Mode.TheVariants.{Writes}
use Rattle.fuse_plans.specs.AclPlans.{default_name}
use Rattle.fuse_plans.specs.Flags.{opening, creating}
use Rattle.fuse_plans.specs.Alterations.{MayBeAsked}

-- to open for writing, without O_TRUNC and with it
abbrev keeping : Operation
keeping = Open (record { 0 = 1 })

abbrev cutting : Operation
cutting = Open (record { 0 = 0o1001 })

-- a SETATTR of the size 5
abbrev resizing : Operation
resizing = SetAttr (record { mode = None; uid = None; gid = None; size = Some 5; atime = None; mtime = None; handle = None })

module _ (who : Actor) where
  -- an OPEN opens, makes nothing, and cuts where it says so
  pub open_keeps_bytes : MayBeAsked (Some keeping) (CallAt who (OpenCall [] (opening Writes true) 0)) → ⊥
  open_keeps_bytes told = absurd (let no : false ≡ true = told.0.0 in cc)

  pub open_opens : MayBeAsked (Some keeping) (CallAt who (OpenCall [] (opening Writes false) 0))
  open_opens = tt

  pub open_makes_nothing : MayBeAsked (Some keeping) (CallAt who (OpenCall (codes "f") (creating Writes) 0)) → ⊥
  open_makes_nothing told = told.0

  pub open_cuts : MayBeAsked (Some cutting) (CallAt who (OpenCall [] (opening Writes true) 0))
  open_cuts = ((refl, refl), tt)

  pub open_cuts_to_nothing : MayBeAsked (Some cutting) (CallAt who (Truncate [] 5)) → ⊥
  open_cuts_to_nothing told = absurd (let no : 5 ≡ 0 = told.0.1 in cc)

  -- a look-up only looks
  pub lookup_looks : MayBeAsked (Some (Lookup (codes "f"))) (CallAt who (Lstat (codes "f")))
  lookup_looks = tt

  pub lookup_sets_no_mode : MayBeAsked (Some (Lookup (codes "f"))) (CallAt who (Chmod (codes "f") 0o777)) → ⊥
  lookup_sets_no_mode told = told.0

  -- a SETATTR sets what it gives
  pub set_size : MayBeAsked (Some resizing) (CallAt who (Truncate [] 5))
  set_size = (refl, tt)

  pub set_no_mode : MayBeAsked (Some resizing) (CallAt who (Chmod [] 0o777)) → ⊥
  set_no_mode told = absurd (let no : false ≡ true = told.0 in cc)

  -- the one list alone
  pub set_default_list : MayBeAsked (Some (SetXAttr default_name [])) (CallAt who (SetAcl [] Default None))
  set_default_list = (refl, tt)

  pub set_no_other_list : MayBeAsked (Some (SetXAttr default_name [])) (CallAt who (SetAcl [] AccessAcl None)) → ⊥
  set_no_other_list told = absurd (let no : Some Default ≡ Some AccessAcl = told.0 in cc)

  -- the name that is given
  pub unlink_takes : MayBeAsked (Some (Unlink (codes "f"))) (CallAt who (UnlinkCall (codes "f")))
  unlink_takes = (refl, tt)

  pub unlink_takes_no_other : MayBeAsked (Some (Unlink (codes "f"))) (CallAt who (UnlinkCall (codes "g"))) → ⊥
  unlink_takes_no_other told = absurd (let no : false ≡ true = ap (λ name. bytes_eq name (codes "f")) told.0 in cc)

  -- a RENAME moves, and doesn't link
  pub rename_moves : MayBeAsked (Some (Rename (codes "f") 2 (codes "g") 0)) (CallAt who (RenameCall (codes "f") (codes "g")))
  rename_moves = ((refl, refl), tt)

  pub rename_links_nothing : MayBeAsked (Some (Rename (codes "f") 2 (codes "g") 0)) (CallAt who (LinkCall (codes "f") (codes "g"))) → ⊥
  rename_links_nothing told = told.0

  -- a request that isn't of its form changes nothing
  pub malformed_changes_nothing : MayBeAsked None (CallAt who (Rmdir (codes "d"))) → ⊥
  malformed_changes_nothing told = told.0

-- ---- whoever asks

-- what is opened is cut by that, and nothing by a handle
pub open_cuts_by_no_handle : MayBeAsked (Some cutting) (CallBy 4 (by_handle.Resize 0)) → ⊥
open_cuts_by_no_handle told = told.0

pub set_size_by_no_handle : MayBeAsked (Some resizing) (CallBy 4 (by_handle.Resize 5)) → ⊥
set_size_by_no_handle told = absurd (let no : None ≡ Some 4 = told.0.1 in cc)

pub set_no_times : MayBeAsked (Some resizing) (Stamp 3 (Some 5) None None) → ⊥
set_no_times told = absurd (let no : false ≡ true = told.0 in cc)

-- the present time is told, whatever is asked
pub time_is_told : MayBeAsked (Some resizing) (Clock 5)
time_is_told = tt

-- a look-up is shown times, and sets none
pub lookup_shows_times : MayBeAsked (Some (Lookup (codes "f"))) (Stamp 3 None None None)
lookup_shows_times = tt

pub lookup_sets_no_times : MayBeAsked (Some (Lookup (codes "f"))) (Stamp 3 None None (Some 7)) → ⊥
lookup_sets_no_times told = told.0

-- a WRITE by the handle 4
pub write_by_handle : MayBeAsked (Some (Write 4 0 (codes "abc"))) (CallBy 4 (by_handle.Write 0 (codes "abc")))
write_by_handle = (refl, tt)

pub write_by_no_other : MayBeAsked (Some (Write 4 0 (codes "abc"))) (CallBy 5 (by_handle.Write 0 (codes "abc"))) → ⊥
write_by_no_other told = absurd (let no : 5 ≡ 4 = told.0 in cc)

-- and by no process
pub write_by_no_process : MayBeAsked (Some (Write 4 0 (codes "abc"))) (Calls 2 (WriteCall 0 (codes "abc"))) → ⊥
write_by_no_process told = told

-- a SETATTR of the present atime sets that, and ctime with it
abbrev restamping : Operation
restamping = SetAttr (record { mode = None; uid = None; gid = None; size = None; atime = Some Now; mtime = None; handle = None })

pub set_times : MayBeAsked (Some restamping) (Stamp 3 (Some 5) None (Some 5))
set_times = (refl, tt)

-- the disk isn't stopped
pub nothing_stops : MayBeAsked (Some (Unlink (codes "f"))) (Restart [] None) → ⊥
nothing_stops told = told
