-- Newborn nodes: acl(5), OBJECT CREATION AND DEFAULT ACLs, and POSIX.1-2017, open() and mkdir(), on owner and group.
--     the_node, the_directory        what stands at a number, where it is known to be there
--     born_acl        the access ACL of a new object
--     born_file, born_directory, born_link        the object
use Rattle.std.specs.Prelude.{ℕ, ◌/◌, ◌%◌, ◌==◌, false, not, ◌&&◌, List, [], if◌then◌else◌, Option, None, Some, unwrap_or}
use Rattle.posix_acl.specs.declared.entry.Perms.{Perms}
use Rattle.posix_acl.specs.Entries.{perms_of}
use Rattle.posix_acl.specs.AccessList.{AccessList, inherited}
use Rattle.fs_cred.specs.Credentials.{Credential}
use Rattle.fs_model.specs.Nodes.{no_stamps, Node, Body, File, Dir, Link, Directory, directory_in}
use Rattle.fs_model.specs.Trees.{Tree, node_at}
use Rattle.fs_layout.specs.declared.inode.TheConstants.{S_ISVTX}

abbrev pub no_directory : Directory
no_directory = record { names = []; default = None; set_group_id = false; sticky = false }

abbrev pub no_node : Node
no_node = record { owner = 0; group = 0; body = Link []; stamps = no_stamps }

abbrev pub the_node : Tree → ℕ → Node
the_node t n = unwrap_or (node_at t n) no_node

abbrev pub the_directory : Node → Directory
the_directory node = unwrap_or (directory_in node.body) no_directory

-- what p has and q lacks
abbrev pub without_perms : Perms → Perms → Perms
without_perms p q = record { read = p.read && not q.read; write = p.write && not q.write; execute = p.execute && not q.execute }

-- the three base entries of mode without umask
abbrev pub masked_acl : ℕ → ℕ → AccessList
masked_acl mode umask = record {
  owner = without_perms (perms_of (mode / 64)) (perms_of (umask / 64));
  users = [];
  group = without_perms (perms_of (mode / 8)) (perms_of (umask / 8));
  groups = [];
  mask = None;
  other = without_perms (perms_of mode) (perms_of umask);
}

-- The directory's default ACL decides, and the umask only where there is none.
abbrev pub born_acl : Option AccessList → ℕ → ℕ → AccessList
born_acl (Some default) mode umask = inherited default mode
born_acl None mode umask = masked_acl mode umask

-- A new object belongs to the caller. Its group is the directory's where that has S_ISGID, and else the caller's.
abbrev pub born : Credential → Node → Body → Node
born cred directory body = record {
  owner = cred.uid;
  group = if (the_directory directory).set_group_id then directory.group else cred.gid;
  body = body;
  stamps = no_stamps;
}

abbrev pub born_file : Credential → ℕ → ℕ → Node → Node
born_file cred umask mode directory = born cred directory (File (born_acl (the_directory directory).default mode umask) [])

-- A new directory has the default ACL and S_ISGID of its directory, and S_ISVTX as the mode says, whatever the umask.
abbrev pub born_directory : Credential → ℕ → ℕ → Node → Node
born_directory cred umask mode directory =
    let d = the_directory directory in
    born cred directory (Dir (born_acl d.default mode umask) (record {
      names = [];
      default = d.default;
      set_group_id = d.set_group_id;
      sticky = mode / S_ISVTX % 2 == 1;
    }))

abbrev pub born_link : Credential → List ℕ → Node → Node
born_link cred target directory = born cred directory (Link target)
