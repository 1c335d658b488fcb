-- Who may do what, computed.
use Rattle.std.specs.Prelude.{◌≡◌, ℕ, [], ◌∷◌, codes, None, Some}
use Rattle.std.proofs.Common.{refl}
use Rattle.posix_acl.specs.Entries.{perms_of}
use Rattle.posix_acl.specs.AccessList.{AccessList}
use Rattle.fs_cred.specs.declared.refusal.Need.TheVariants.{Perm, Own, Chown, Chgrp, Remove}
use Rattle.fs_cred.specs.declared.rule.Rule.TheVariants.{Owner, NamedUser, NamedGroup, Mask as MaskRule, Other, Capability, NoExecuteBit, NotOwner, NoCapability, NotMember, Sticky}
use Rattle.fs_cred.specs.Capabilities.{cap_chown, cap_dac_override, cap_dac_read_search, cap_fowner, cap_fsetid, no_caps}
use Rattle.fs_cred.specs.Verdicts.{verdict}
use Rattle.fs_model.specs.declared.call.AclType.TheVariants.{Access as AccessAcl, Default as DefaultAcl}
use Rattle.fs_model.specs.declared.call.Call.TheVariants.{Open, Write, Stat, Access, Chmod, Chown as ChownCall, GetAcl, SetAcl, Mkdir, Unlink, Umask}
use Rattle.fs_model.specs.declared.reply.Reply.TheVariants.{Done, Pid, Fd, Wrote, Mask, Granted, Acl}
use Rattle.fs_model.specs.declared.event.Event.TheVariants.{Call as Calls}
use Rattle.fs_model.specs.Trails.{trail_of}
use Rattle.fs_model.specs.Walks.{first_refusal, found_of}
use Rattle.fs_model.specs.Rows.{row_of}
use Rattle.fs_model.specs.Steps.{firm_refusal, other_refusal, after}
use Rattle.fs_model.proofs.Machine.{fresh, replies, then_replies, user, capable, to_write, to_read_write, denied, shows_file, shows_directory}

-- the empty root is user 0's, and others may read and search it
pub the_empty_root : replies fresh (
    user 0 0 [] ∷ Calls 1 (Stat (codes "/")) ∷ Calls 1 (Access (codes "/") (perms_of 7)) ∷ user 1000 100 []
    ∷ Calls 2 (Access (codes "/") (perms_of 7)) ∷ Calls 2 (Access (codes "/") (perms_of 5)) ∷ []) ≡
    Pid 1 ∷ shows_directory 1 0o755 0 0 0 ∷ Granted (Capability cap_dac_override) ∷ Pid 2
    ∷ denied 1 0 (Perm (perms_of 7)) Other ∷ Granted Other ∷ []
unfolding verdict trail_of first_refusal found_of row_of firm_refusal other_refusal after
the_empty_root = refl

-- the owner has the owner's entry alone, even where others have more
pub owner_before_other : then_replies (
    Calls 2 (Open (codes "/w/f") to_write 0o77) ∷ Calls 2 (Access (codes "/w/f") (perms_of 4)) ∷ Calls 3 (Access (codes "/w/f") (perms_of 4)) ∷ []) ≡
    Fd 0 ∷ denied 1 2 (Perm (perms_of 4)) Owner ∷ Granted Other ∷ []
unfolding verdict trail_of first_refusal found_of row_of firm_refusal other_refusal after
owner_before_other = refl

abbrev read_and_write : AccessList
read_and_write = record {
  owner = perms_of 6;
  users = [];
  group = perms_of 0;
  groups = (5, perms_of 4) ∷ (6, perms_of 2) ∷ [];
  mask = Some (perms_of 7);
  other = perms_of 0;
}

-- the permissions of two groups aren't joined
pub two_groups : then_replies (
    user 1002 5 (6 ∷ []) ∷ Calls 2 (Open (codes "/w/g") to_write 0o600) ∷ Calls 2 (SetAcl (codes "/w/g") AccessAcl (Some read_and_write))
    ∷ Calls 4 (Access (codes "/w/g") (perms_of 6)) ∷ Calls 4 (Access (codes "/w/g") (perms_of 2)) ∷ Calls 2 (Stat (codes "/w/g")) ∷ []) ≡
    Pid 4 ∷ Fd 0 ∷ Done ∷ denied 1 2 (Perm (perms_of 6)) (NamedGroup 5) ∷ Granted (NamedGroup 6) ∷ shows_file 3 0o670 1 1000 100 0 ∷ []
unfolding verdict trail_of first_refusal found_of row_of firm_refusal other_refusal after
two_groups = refl

-- a list with an entry of user 1001 and a mask, by digits
abbrev masked : ℕ → ℕ → ℕ → ℕ → ℕ → AccessList
masked owner user group mask other = record {
  owner = perms_of owner;
  users = (1001, perms_of user) ∷ [];
  group = perms_of group;
  groups = [];
  mask = Some (perms_of mask);
  other = perms_of other;
}

abbrev with_mask : ℕ → AccessList
with_mask mask = masked 6 6 4 mask 0

-- the mask refuses a named user, and chmod changes the mask
pub the_mask : then_replies (
    Calls 2 (Open (codes "/w/g") to_write 0o600) ∷ Calls 2 (SetAcl (codes "/w/g") AccessAcl (Some (with_mask 4))) ∷ Calls 3 (Access (codes "/w/g") (perms_of 2))
    ∷ Calls 2 (Chmod (codes "/w/g") 0o660) ∷ Calls 3 (Access (codes "/w/g") (perms_of 2)) ∷ Calls 2 (GetAcl (codes "/w/g") AccessAcl) ∷ []) ≡
    Fd 0 ∷ Done ∷ denied 1 2 (Perm (perms_of 2)) MaskRule ∷ Done ∷ Granted (NamedUser 1001) ∷ Acl (Some (with_mask 6)) ∷ []
unfolding verdict trail_of first_refusal found_of row_of firm_refusal other_refusal after
the_mask = refl

abbrev handed_down : ℕ → ℕ → AccessList
handed_down owner mask = masked owner 7 5 mask 0

-- a default ACL is handed down, cut by the mode and not by the umask
pub default_acls : then_replies (
    Calls 2 (Mkdir (codes "/w/d") 0o755) ∷ Calls 2 (SetAcl (codes "/w/d") DefaultAcl (Some (handed_down 7 7))) ∷ Calls 2 (Umask 0o77)
    ∷ Calls 2 (Open (codes "/w/d/f") to_write 0o640) ∷ Calls 2 (GetAcl (codes "/w/d/f") AccessAcl) ∷ Calls 2 (GetAcl (codes "/w/d/f") DefaultAcl)
    ∷ Calls 2 (Mkdir (codes "/w/d/e") 0o750) ∷ Calls 2 (GetAcl (codes "/w/d/e") AccessAcl) ∷ Calls 2 (GetAcl (codes "/w/d/e") DefaultAcl) ∷ []) ≡
    Done ∷ Done ∷ Mask 0 ∷ Fd 0 ∷ Acl (Some (handed_down 6 4)) ∷ Acl None ∷ Done ∷ Acl (Some (handed_down 7 5)) ∷ Acl (Some (handed_down 7 7)) ∷ []
unfolding verdict trail_of first_refusal found_of row_of firm_refusal other_refusal after
default_acls = refl

-- by CAP_DAC_OVERRIDE user 0 executes what somebody may execute
pub execute_bits : then_replies (
    Calls 1 (Open (codes "/x") to_write 0o644) ∷ Calls 1 (Access (codes "/x") (perms_of 1)) ∷ Calls 1 (Chmod (codes "/x") 0o1)
    ∷ Calls 1 (Access (codes "/x") (perms_of 1)) ∷ []) ≡
    Fd 0 ∷ denied 1 1 (Perm (perms_of 1)) NoExecuteBit ∷ Done ∷ Granted (Capability cap_dac_override) ∷ []
unfolding verdict trail_of first_refusal found_of row_of firm_refusal other_refusal after
execute_bits = refl

-- in a sticky directory only the owners of the directory and of the object remove it
pub sticky : then_replies (
    Calls 2 (Open (codes "/w/s") to_write 0o666) ∷ Calls 3 (Unlink (codes "/w/s")) ∷ Calls 2 (Unlink (codes "/w/s")) ∷ Calls 2 (Mkdir (codes "/w/t") 0o1777)
    ∷ Calls 3 (Open (codes "/w/t/u") to_write 0o666) ∷ user 1002 102 [] ∷ Calls 4 (Unlink (codes "/w/t/u")) ∷ Calls 2 (Unlink (codes "/w/t/u")) ∷ []) ≡
    Fd 0 ∷ denied 1 1 Remove Sticky ∷ Done ∷ Done ∷ Fd 0 ∷ Pid 4 ∷ denied 1 2 Remove Sticky ∷ Done ∷ []
unfolding verdict trail_of first_refusal found_of row_of firm_refusal other_refusal after
sticky = refl

-- a new object has the group of a directory with S_ISGID; who isn't in that group turns the bit off by chmod
pub set_group_id : then_replies (
    Calls 1 (Mkdir (codes "/g") 0o777) ∷ Calls 1 (ChownCall (codes "/g") (Some 1000) (Some 500)) ∷ Calls 1 (Chmod (codes "/g") 0o2777)
    ∷ Calls 2 (Mkdir (codes "/g/s") 0o755) ∷ Calls 2 (Stat (codes "/g/s")) ∷ Calls 2 (Open (codes "/g/f") to_write 0o644) ∷ Calls 2 (Stat (codes "/g/f"))
    ∷ Calls 2 (Chmod (codes "/g") 0o2770) ∷ Calls 2 (Stat (codes "/g")) ∷ Calls 2 (ChownCall (codes "/g") None (Some 7))
    ∷ Calls 2 (ChownCall (codes "/g") (Some 0) None) ∷ []) ≡
    Done ∷ Done ∷ Done ∷ Done ∷ shows_directory 4 0o2755 1000 500 0 ∷ Fd 0 ∷ shows_file 5 0o644 1 1000 500 0 ∷ Done
    ∷ shows_directory 3 0o770 1000 500 256 ∷ denied 1 1 Chgrp NotMember ∷ denied 1 1 Chown NoCapability ∷ []
unfolding verdict trail_of first_refusal found_of row_of firm_refusal other_refusal after
set_group_id = refl

-- a capability passes what it is named for, and user 0 without any has the rights of its ids alone
pub capabilities : replies fresh (
    user 0 0 [] ∷ Calls 1 (Umask 0) ∷ Calls 1 (Open (codes "/f") to_read_write 0o600) ∷ Calls 1 (Write 0 (codes "hi"))
    ∷ capable 1000 100 cap_dac_read_search ∷ Calls 2 (Access (codes "/f") (perms_of 4)) ∷ Calls 2 (Access (codes "/f") (perms_of 6))
    ∷ capable 0 0 no_caps ∷ Calls 3 (Access (codes "/f") (perms_of 6)) ∷ Calls 3 (ChownCall (codes "/f") (Some 5) None)
    ∷ capable 1001 101 cap_fowner ∷ Calls 4 (Chmod (codes "/f") 0o644) ∷ Calls 4 (ChownCall (codes "/f") None (Some 101))
    ∷ capable 1002 102 cap_chown ∷ Calls 5 (ChownCall (codes "/f") (Some 1002) (Some 102)) ∷ Calls 5 (Stat (codes "/f"))
    ∷ Calls 1 (Mkdir (codes "/g") 0o777) ∷ Calls 1 (ChownCall (codes "/g") (Some 1003) (Some 500))
    ∷ capable 1003 103 cap_fsetid ∷ Calls 6 (Chmod (codes "/g") 0o2770) ∷ Calls 6 (Stat (codes "/g")) ∷ []) ≡
    Pid 1 ∷ Mask 18 ∷ Fd 0 ∷ Wrote 2
    ∷ Pid 2 ∷ Granted (Capability cap_dac_read_search) ∷ denied 1 1 (Perm (perms_of 6)) Other
    ∷ Pid 3 ∷ Granted Owner ∷ denied 1 1 Chown NoCapability
    ∷ Pid 4 ∷ Done ∷ denied 1 1 Own NotOwner
    ∷ Pid 5 ∷ Done ∷ shows_file 2 0o644 1 1002 102 2
    ∷ Done ∷ Done ∷ Pid 6 ∷ Done ∷ shows_directory 3 0o2770 1003 500 0 ∷ []
unfolding verdict trail_of first_refusal found_of row_of firm_refusal other_refusal after
capabilities = refl
