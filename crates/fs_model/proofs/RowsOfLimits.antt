-- The limits on names and on space, computed.
use Rattle.std.specs.Prelude.{◌≡◌, ℕ, zero, suc, ◌+◌, ◌/◌, ◌%◌, false, List, [], ◌∷◌, ◌++◌, codes, None, Some, replicate}
use Rattle.std.proofs.Common.{refl}
use Rattle.posix_acl.specs.Entries.{perms_of}
use Rattle.posix_acl.specs.AccessList.{AccessList, minimal}
use Rattle.fs_cred.specs.declared.errno.Errno.TheVariants.{ENOSPC, EMLINK, ENAMETOOLONG}
use Rattle.fs_cred.specs.Verdicts.{verdict}
use Rattle.fs_model.specs.declared.call.AclType.TheVariants.{Access as AccessAcl, Default as DefaultAcl}
use Rattle.fs_model.specs.declared.call.Call.TheVariants.{Open, Write, Stat, Truncate, SetAcl, Mkdir, Link, Symlink, Rename}
use Rattle.fs_model.specs.declared.reply.Reply.TheVariants.{Done, Pid, Fd, Wrote, Space}
use Rattle.fs_model.specs.declared.event.Event.TheVariants.{Call as Calls, Statfs}
use Rattle.fs_model.specs.Nodes.{Node, Dir, File, no_stamps}
use Rattle.fs_layout.specs.declared.version.Version.TheVariants.{Three}
use Rattle.fs_model.specs.States.{State}
use Rattle.fs_model.specs.Stands.{room_with}
use Rattle.fs_model.specs.Trails.{trail_of}
use Rattle.fs_model.specs.Walks.{first_refusal, found_of}
use Rattle.fs_model.specs.Rows.{row_of}
use Rattle.fs_model.specs.Steps.{firm_refusal, other_refusal, after}
use Rattle.fs_model.proofs.Machine.{fresh, replies, user, to_read, to_write, to_read_write, failed, shows_file, shows_directory}

-- names of two letters, in their order
abbrev name : ℕ → List ℕ
name k = (97 + k / 24) ∷ (97 + k % 24) ∷ []

-- so many names that lead to n, from this one on
abbrev names_of_one : ℕ → ℕ → ℕ → List (List ℕ × ℕ)
names_of_one zero k n = []
names_of_one (suc more) k n = (name k, n) ∷ names_of_one more (k + 1) n

abbrev directory : ℕ → List (List ℕ × ℕ) → Node
directory mode names = record {
  owner = 0;
  group = 0;
  body = Dir (minimal mode) (record { names = names; default = None; set_group_id = false; sticky = false });
  stamps = no_stamps;
}

abbrev empty_file : Node
empty_file = record { owner = 0; group = 0; body = File (minimal 0o644) []; stamps = no_stamps }

-- the directory /n with 499 names of a file and 59 of another
abbrev crowded : State
crowded = record fresh {
  tree =
      (1, directory 0o755 ((codes "n", 2) ∷ [])) ∷ (2, directory 0o755 (names_of_one 499 0 3 ++ names_of_one 59 499 4))
      ∷ (3, empty_file) ∷ (4, empty_file) ∷ [];
}

-- a file has at most 500 names, and a directory at most 560
pub many_names : replies crowded (
    user 0 0 [] ∷ Calls 1 (Link (codes "/n/aa") (codes "/n/" ++ replicate 120 122)) ∷ Calls 1 (Link (codes "/n/aa") (codes "/n/zz"))
    ∷ Calls 1 (Stat (codes "/n/aa")) ∷ Calls 1 (Link (codes "/n/" ++ name 499) (codes "/n/zy")) ∷ Calls 1 (Link (codes "/n/zy") (codes "/n/zz"))
    ∷ Calls 1 (Stat (codes "/n/zy")) ∷ Calls 1 (Stat (codes "/n")) ∷ []) ≡
    Pid 1 ∷ Done ∷ failed EMLINK ∷ shows_file 3 0o644 500 0 0 0 ∷ Done ∷ failed ENOSPC ∷ shows_file 4 0o644 60 0 0 0 ∷ shows_directory 2 0o755 0 0 71680 ∷ []
unfolding verdict trail_of first_refusal found_of row_of firm_refusal other_refusal after
many_names = refl

-- a disk of the third version
abbrev of_version_three : State
of_version_three = record fresh { room = room_with Three 64 878 }

-- names of version 3 have up to 248 bytes, and two of them take a block; 128 bytes each are shown
pub longer_names : replies of_version_three (
    user 0 0 [] ∷ Calls 1 (Mkdir (codes "/" ++ replicate 249 122) 0o755) ∷ Calls 1 (Mkdir (codes "/" ++ replicate 248 122) 0o755)
    ∷ Calls 1 (Mkdir (codes "/a") 0o755) ∷ Statfs ∷ Calls 1 (Mkdir (codes "/b") 0o755) ∷ Statfs ∷ Calls 1 (Stat (codes "/")) ∷ []) ≡
    Pid 1 ∷ failed ENAMETOOLONG ∷ Done ∷ Done ∷ Space 877 60 ∷ Done ∷ Space 876 59 ∷ shows_directory 1 0o755 0 0 384 ∷ []
unfolding verdict trail_of first_refusal found_of row_of firm_refusal other_refusal after
longer_names = refl

-- a disk with 17 data sectors
abbrev of_17_sectors : State
of_17_sectors = record fresh { room = record fresh.room { sectors = 17 }; free = 17 }

abbrev for_one_more : AccessList
for_one_more = record (minimal 0o600) { users = (7, perms_of 4) ∷ []; mask = Some (perms_of 4) }

-- what may take a sector is refused where fewer than 16 are free, whatever it would need, and nothing else is
pub fifteen_free_sectors : replies of_17_sectors (
    user 0 0 [] ∷ Calls 1 (Mkdir (codes "/a") 0o755) ∷ Calls 1 (Open (codes "/f") to_read_write 0o644) ∷ Statfs ∷ Calls 1 (Write 0 (codes "x")) ∷ Statfs
    ∷ Calls 1 (Write 0 (codes "y")) ∷ Calls 1 (Write 0 []) ∷ Calls 1 (Mkdir (codes "/b") 0o755) ∷ Calls 1 (Symlink (codes "t") (codes "/l"))
    ∷ Calls 1 (Link (codes "/f") (codes "/g")) ∷ Calls 1 (Open (codes "/g") to_write 0o644) ∷ Calls 1 (Open (codes "/f") to_read 0)
    ∷ Calls 1 (SetAcl (codes "/f") AccessAcl (Some for_one_more)) ∷ Calls 1 (SetAcl (codes "/f") AccessAcl (Some (minimal 0o600)))
    ∷ Calls 1 (SetAcl (codes "/a") DefaultAcl (Some (minimal 0o700))) ∷ Calls 1 (SetAcl (codes "/a") DefaultAcl None)
    ∷ Calls 1 (Rename (codes "/f") (codes "/g")) ∷ Calls 1 (Rename (codes "/g") (codes "/a/g")) ∷ Calls 1 (Truncate (codes "/g") 0) ∷ Statfs
    ∷ Calls 1 (Rename (codes "/g") (codes "/a/g")) ∷ []) ≡
    Pid 1 ∷ Done ∷ Fd 0 ∷ Space 16 60 ∷ Wrote 1 ∷ Space 15 60
    ∷ failed ENOSPC ∷ Wrote 0 ∷ failed ENOSPC ∷ failed ENOSPC ∷ failed ENOSPC ∷ failed ENOSPC ∷ Fd 1
    ∷ failed ENOSPC ∷ Done ∷ failed ENOSPC ∷ Done ∷ Done ∷ failed ENOSPC ∷ Done ∷ Space 16 60 ∷ Done ∷ []
unfolding verdict trail_of first_refusal found_of row_of firm_refusal other_refusal after
fifteen_free_sectors = refl

-- a disk with 4 inodes, of which 0 isn't used and 1 is the root
abbrev of_4_inodes : State
of_4_inodes = record fresh { room = record fresh.room { inodes = 4 } }

pub no_free_inode : replies of_4_inodes (
    user 0 0 [] ∷ Calls 1 (Mkdir (codes "/a") 0o755) ∷ Statfs ∷ Calls 1 (Open (codes "/f") to_write 0o644) ∷ Statfs
    ∷ Calls 1 (Mkdir (codes "/b") 0o755) ∷ Calls 1 (Symlink (codes "t") (codes "/l")) ∷ Calls 1 (Open (codes "/g") to_write 0o644)
    ∷ Calls 1 (Link (codes "/f") (codes "/g")) ∷ Calls 1 (Rename (codes "/f") (codes "/a/f")) ∷ []) ≡
    Pid 1 ∷ Done ∷ Space 877 1 ∷ Fd 0 ∷ Space 877 0 ∷ failed ENOSPC ∷ failed ENOSPC ∷ failed ENOSPC ∷ Done ∷ Done ∷ []
unfolding verdict trail_of first_refusal found_of row_of firm_refusal other_refusal after
no_free_inode = refl
