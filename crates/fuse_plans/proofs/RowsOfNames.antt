-- Recorded requests, run on the abstract machine: a name that goes while its file is open; and look-ups where the kernel has judged
-- before it asks.
use Rattle.std.specs.Prelude.{◌≡◌, ℕ, true, false, List, [], ◌∷◌, codes, None, Some}
use Rattle.std.proofs.Common.{refl}
use Rattle.posix_acl.specs.AccessList.{AccessList, entries_of}
use Rattle.posix_acl.specs.Entries.{perms_of}
use Rattle.fs_model.specs.declared.call.AclType.TheVariants.{Access as AccessAcl}
use Rattle.fs_model.specs.declared.call.Call.TheVariants.{Open, Chmod, SetAcl, Mkdir}
use Rattle.fs_model.specs.declared.event.Event.{Event}
use Rattle.fs_model.specs.declared.event.Event.TheVariants.{CallBy}
use Rattle.fs_model.specs.declared.event.HandleCall.TheVariants.{Close as CloseBy}
use Rattle.fs_model.specs.declared.reply.FileType.TheVariants.{File, Directory, Link as LinkType}
use Rattle.fs_model.specs.declared.reply.Status.{Status}
use Rattle.fs_model.specs.States.{State}
use Rattle.fs_model.proofs.Machine.{fresh, state_of, to_write}
use Rattle.fuse_protocol.specs.declared.operation.Operation.{Operation}
use Rattle.fuse_protocol.specs.declared.operation.Operation.TheVariants.{Lookup, Forget, GetAttr, SymLink, Unlink as UnlinkName, Link as AddLink, Open as OpenFile, Read as ReadFile, Write as WriteFile, StatFs, Release, SetXAttr, GetXAttr, RemoveXAttr, Init, OpenDir, ReadDir, ReleaseDir, Access as AskAccess, Create, Unknown}
use Rattle.fuse_protocol.specs.AclValues.{acl_value_bytes}
use Rattle.fuse_state.specs.Servers.{Server, new_server}
use Rattle.fuse_plans.specs.declared.reply.Attributes.{Attributes}
use Rattle.fuse_plans.specs.declared.reply.ReplyBody.TheVariants.{Found, Absent, Shown, Opened, Created, Bytes, Wrote as WroteBytes, Space as SpaceOf}
use Rattle.fuse_plans.specs.declared.request.WhoCounts.TheVariants.{User}
use Rattle.fuse_plans.specs.AclPlans.{access_name}
use Rattle.fuse_plans.specs.Serving.{terms}
use Rattle.fuse_plans.proofs.Replays.{counted_from, all_runs, all_listings, second, asks, asks_with, kernel, root, init, set_mode, set_size_by, flags, reading, at, extent, status, attributes, shown, found, made, created, opened, done, begun, node, entry, entries, acl, ◌hears◌, AreHeardFrom, AreHeard, Silent, Told, Error}

-- A file is unlinked while it is open, and gets a size and a mode then; another gets its number; a third has two names for a while.
pub unlink_open : AreHeard (
    kernel 0 1000000002 init hears begun
    ∷ root 1 1000000003 GetAttr hears shown (status 1 Directory 0o755 1 0 0 0) 1000000001 1000000001 1000000001
    ∷ root 1 1000000004 (AskAccess 1) hears done
    ∷ root 1 1000000005 GetAttr hears shown (status 1 Directory 0o755 1 0 0 0) 1000000001 1000000001 1000000001
    ∷ root 1 1000000006 GetAttr hears shown (status 1 Directory 0o755 1 0 0 0) 1000000001 1000000001 1000000001
    ∷ root 1 1000000007 GetAttr hears shown (status 1 Directory 0o755 1 0 0 0) 1000000001 1000000001 1000000001
    ∷ root 1 1000000008 OpenDir hears opened 0
    ∷ root 1 1000000009 GetAttr hears shown (status 1 Directory 0o755 1 0 0 0) 1000000001 1000000001 1000000001
    ∷ root 1 1000000010 (ReadDir (extent 0 0 32768)) hears Told (entries ((entry (codes ".") 1 1) ∷ (entry (codes "..") 1 2) ∷ []))
    ∷ root 1 1000000011 (ReadDir (extent 0 2 32768)) hears Told (entries [])
    ∷ kernel 1 1000000012 (ReleaseDir 0) hears done
    ∷ root 1 1000000013 (Lookup (codes "u")) hears Error 2
    ∷ root 1 1000000014 (Create (codes "u") (flags 0o100102) 0o100600 0o22) hears created (node 1 2) (status 2 File 0o600 1 0 0 0) 1000000014 1
    ∷ root (node 1 2) 1000000015 (GetXAttr (codes "security.capability") 0) hears Error 95
    ∷ root (node 1 2) 1000000016 (WriteFile 1 0 (codes "abc")) hears Told (WroteBytes 3)
    ∷ root 1 1000000017 (Lookup (codes "u")) hears found (node 1 2) (status 2 File 0o600 1 0 0 3) 1000000014 1000000016 1000000016
    ∷ root 1 1000000018 (UnlinkName (codes "u")) hears done
    ∷ root (node 1 2) 1000000019 GetAttr hears shown (status 2 File 0o600 0 0 0 3) 1000000014 1000000016 1000000018
    ∷ root (node 1 2) 1000000020 (GetXAttr (codes "security.capability") 0) hears Error 95
    ∷ root (node 1 2) 1000000021 (set_size_by 1 5) hears shown (status 2 File 0o600 0 0 0 5) 1000000014 1000000021 1000000021
    ∷ root (node 1 2) 1000000022 GetAttr hears shown (status 2 File 0o600 0 0 0 5) 1000000014 1000000021 1000000021
    ∷ root (node 1 2) 1000000023 (ReadFile (extent 1 0 4096)) hears Told (Bytes (97 ∷ 98 ∷ 99 ∷ 0 ∷ 0 ∷ []))
    ∷ root (node 1 2) 1000000024 (set_mode 0o100644) hears shown (status 2 File 0o644 0 0 0 5) 1000000014 1000000021 1000000024
    ∷ root 1 1000000025 (Lookup (codes "v")) hears Error 2
    ∷ root 1 1000000026 (Create (codes "v") (flags 0o100101) 0o100777 0o22) hears created (node 1 3) (status 3 File 0o755 1 0 0 0) 1000000026 2
    ∷ root (node 1 3) 1000000027 Unknown hears Error 38
    ∷ kernel (node 1 3) 1000000028 (Release 2) hears done
    ∷ kernel (node 1 2) 1000000029 (Release 1) hears done
    ∷ root 1 1000000030 (Lookup (codes "w")) hears Error 2
    ∷ root 1 1000000031 (Create (codes "w") (flags 0o100101) 0o100777 0o22) hears created (node 2 2) (status 2 File 0o755 1 0 0 0) 1000000031 1
    ∷ kernel (node 2 2) 1000000032 (Release 1) hears done
    ∷ root 1 1000000033 (Lookup (codes "v")) hears made (node 1 3) (status 3 File 0o755 1 0 0 0) 1000000026
    ∷ root 1 1000000034 (Lookup (codes "v2")) hears Error 2
    ∷ root 1 1000000035 (AddLink (node 1 3) (codes "v2")) hears found (node 1 3) (status 3 File 0o755 2 0 0 0) 1000000026 1000000026 1000000035
    ∷ root 1 1000000036 (Lookup (codes "v")) hears found (node 1 3) (status 3 File 0o755 2 0 0 0) 1000000026 1000000026 1000000035
    ∷ root (node 1 3) 1000000037 (OpenFile (flags 0o100002)) hears opened 1
    ∷ kernel (node 1 2) 1000000038 (Forget 1) hears Silent
    ∷ root 1 1000000039 (Lookup (codes "v2")) hears found (node 1 3) (status 3 File 0o755 2 0 0 0) 1000000026 1000000026 1000000035
    ∷ root 1 1000000040 (UnlinkName (codes "v2")) hears done
    ∷ root (node 1 3) 1000000041 (set_mode 0o100600) hears shown (status 3 File 0o600 1 0 0 0) 1000000026 1000000026 1000000041
    ∷ root 1 1000000042 (Lookup (codes "v")) hears found (node 1 3) (status 3 File 0o600 1 0 0 0) 1000000026 1000000026 1000000041
    ∷ root 1 1000000043 (UnlinkName (codes "v")) hears done
    ∷ kernel (node 1 3) 1000000044 (Release 1) hears done
    ∷ kernel (node 1 3) 1000000045 (Forget 1) hears Silent
    ∷ root 1 1000000046 GetAttr hears shown (status 1 Directory 0o755 1 0 0 128) 1000000001 1000000043 1000000043
    ∷ root 1 1000000047 StatFs hears Told (SpaceOf 878 877 63 61 120)
    ∷ [])
unfolding all_listings
unlink_open = refl

-- ---- the kernel judges before it asks

abbrev pub default_way : Server
default_way = new_server (record { max_write = 4096; posix_acl = true; keeping = record { names = 60; absent = 2; attributes = 30; pages = true }; sectors = 878; inodes = 63; max_name = 120; keeps_times = false; commit = 0; start = second 1000000001 })

abbrev offer : ℕ → Operation
offer bits = Init (record { major = 7; minor = 45; max_readahead = 131072; flags = record { 0 = bits } })

-- user 1000 is named, and the mask takes what the entry gives
abbrev masked : AccessList
masked = acl (perms_of 7) ((1000, perms_of 5) ∷ []) (perms_of 0) [] (Some (perms_of 0)) (perms_of 3)

-- the directory 2, `/d`, with this list, and the file 3, `/d/f`
abbrev before : List Event
before =
    at 0 0 1 (Chmod [] 0o777) ∷ at 0 0 1 (Mkdir (codes "d") 0o703) ∷ at 0 0 2 (Open (codes "f") to_write 0o644) ∷ CallBy 1 CloseBy
    ∷ at 0 0 2 (SetAcl [] AccessAcl (Some masked)) ∷ []

abbrev with_masked : State
with_masked = state_of fresh before

abbrev attributes_at : ℕ → Status → Attributes
attributes_at now shown = record (attributes shown (second now) (second now) (second now)) { valid = 30 }

abbrev times_at_start : Status → Attributes
times_at_start shown = attributes_at 1000000001 shown

-- Of whom nothing is known a name is looked up. In a directory whose list has the mask `---` a caller is granted it, another is
-- refused, and so is one whose groups aren't known; where the same mode has no such list, nobody is. Names of such a directory may not
-- be kept, those of another may; and so may be that nothing has a name there.
pub judged : AreHeardFrom default_way with_masked (
    kernel 0 1000000002 (offer 1946157051) hears Told (terms 131072 278683721 4096 0)
    ∷ asks 1 1000 1000 None 1000000003 (Lookup (codes "d")) hears Told (Found 2 60 (times_at_start (status 2 Directory 0o703 1 0 0 128)))
    ∷ asks 2 1001 1001 (Some []) 1000000004 (Lookup (codes "f")) hears Told (Found 3 0 (times_at_start (status 3 File 0o644 1 0 0 0)))
    ∷ asks 2 1000 1000 (Some []) 1000000005 (Lookup (codes "f")) hears Error 13
    ∷ asks 2 1001 1001 None 1000000006 (Lookup (codes "f")) hears Error 13
    ∷ root 2 1000000007 (RemoveXAttr access_name) hears done
    ∷ asks 2 1001 1001 None 1000000007 (Lookup (codes "f")) hears Told (Found 3 60 (times_at_start (status 3 File 0o644 1 0 0 0)))
    ∷ asks 1 1001 1001 None 1000000008 (UnlinkName (codes "d")) hears Error 13
    ∷ asks_with (Some masked) 2 0 0 (Some []) 1000000008 (SetXAttr access_name (acl_value_bytes (entries_of masked))) hears done
    ∷ asks 2 1001 1001 (Some []) 1000000009 (Lookup (codes "g")) hears Error 2
    ∷ asks 1 1001 1001 (Some []) 1000000010 (Lookup (codes "g")) hears Told (Absent 2)
    ∷ asks 2 1001 1001 (Some []) 1000000011 (SymLink (codes "l") (codes "f")) hears Told (Found (node 1 4) 0 (attributes_at 1000000011 (status 4 LinkType 0o777 1 1001 1001 1)))
    ∷ asks 1 1001 1001 (Some []) 1000000012 (SymLink (codes "l") (codes "f")) hears Told (Found (node 1 5) 60 (attributes_at 1000000012 (status 5 LinkType 0o777 1 1001 1001 1)))
    ∷ [])
unfolding all_runs acl_value_bytes
judged = refl

-- A kernel that doesn't offer to judge by lists leaves that to the server, who then asks as who asks, and no name may be kept.
pub not_offered : AreHeardFrom default_way with_masked (
    kernel 0 1000000002 (offer 1945108475) hears Told (terms 131072 277610569 4096 0)
    ∷ asks 1 1000 1000 None 1000000003 (Lookup (codes "d")) hears Error 13
    ∷ asks 1 1000 1000 (Some []) 1000000003 (Lookup (codes "d")) hears Told (Found 2 0 (times_at_start (status 2 Directory 0o703 1 0 0 128)))
    ∷ [])
unfolding all_runs
not_offered = refl

-- There everyone may search, so the user counts, whatever its groups are.
pub not_offered_to_a_user :
    counted_from default_way with_masked (kernel 0 1000000002 (offer 1945108475) ∷ []) (asks 1 1000 1000 None 1000000003 (Lookup (codes "d"))) ≡ User
unfolding all_runs
not_offered_to_a_user = refl

-- What the kernel may keep: names and attributes for a while, what it reads of a file, and a listing.
pub kept_by_the_kernel : AreHeardFrom default_way with_masked (
    kernel 0 1000000002 (offer 1946157051) hears Told (terms 131072 278683721 4096 0)
    ∷ root 1 1000000003 (Create (codes "n") (flags 0o101) 0o100644 0) hears Told (Created (node 1 4) 60 (attributes_at 1000000003 (status 4 File 0o644 1 0 0 0)) 1 (record { 0 = 2 }))
    ∷ root 2 1000000004 (Create (codes "n") (flags 0o101) 0o100644 0) hears Told (Created (node 1 5) 0 (attributes_at 1000000004 (status 5 File 0o644 1 0 0 0)) 2 (record { 0 = 2 }))
    ∷ asks 3 1001 1001 (Some []) 1000000005 reading hears Told (Opened 3 (record { 0 = 2 }))
    ∷ asks 1 1001 1001 (Some []) 1000000005 OpenDir hears Told (Opened 0 (record { 0 = 10 }))
    ∷ asks 3 1001 1001 (Some []) 1000000006 GetAttr hears Told (Shown (times_at_start (status 3 File 0o644 1 0 0 0)))
    ∷ [])
unfolding all_runs
kept_by_the_kernel = refl
