-- What each call asks depends on no byte of a file.
use Rattle.std.specs.Prelude.{◌≡◌, ℕ, ◌-◌, ◌==◌, nat_le, Bool, true, false, not, List, ◌++◌, length, Option, is_some, if◌then◌else◌, ℤ}
use Rattle.std.proofs.Common.{refl, ap, ◌∙◌}
use Rattle.posix_acl.specs.declared.entry.Perms.{Perms}
use Rattle.posix_acl.specs.AccessList.{AccessList}
use Rattle.fs_cred.specs.declared.errno.Errno.TheVariants.{ENOSPC}
use Rattle.fs_model.specs.declared.call.Whence.{Whence}
use Rattle.fs_model.specs.declared.call.Whence.TheVariants.{Set, Cur, End}
use Rattle.fs_model.specs.declared.call.AclType.{AclType}
use Rattle.fs_model.specs.declared.call.Flags.{Flags}
use Rattle.fs_model.specs.Nodes.{directory_in, is_directory, is_link, names_of_body, bytes_in}
use Rattle.fs_model.specs.Trees.{is_within}
use Rattle.fs_model.specs.Processes.{the_descriptor}
use Rattle.fs_model.specs.Births.{the_node}
use Rattle.fs_model.specs.Demands.{Demand, refuse, perms, only_if}
use Rattle.fs_model.specs.declared.walk.Found.{Found}
use Rattle.fs_model.specs.Scenes.{Scene, found_ino, is_found, permission_at_end, permission_at_dir, sticky_at_dir, own_at_end, no_inodes, no_names, space_to_make}
use Rattle.fs_model.specs.OpenCall.{open_demands, open_found_demands, open_new_demands}
use Rattle.fs_model.specs.DescriptorCalls.{read_demands, write_demands, write_offset, lseek_demands, sought, readdir_demands}
use Rattle.fs_model.specs.AttributeCalls.{access_demands, truncate_demands, chmod_demands, chown_demands, set_acl_demands, chdir_demands}
use Rattle.fs_model.specs.NameCalls.{mkdir_demands, rmdir_demands, unlink_demands, link_demands, symlink_demands, readlink_demands}
use Rattle.fs_model.specs.RenameCall.{rename_demands, rename_name_demands, rename_permissions, rename_kinds, rename_directories, rename_moved, rename_space, is_same}
use Rattle.fs_model.proofs.Veils.{names_in-blotted, directory_in-blotted, is_link-blotted, permission_on-veil, search_on-veil}
use Rattle.fs_model.proofs.VeiledScenes.{veiled_scene, the_node-veil, names_of-veil, size-blotted, is_within-veil, length-veil}

-- what a rename asks, part by part
all_asked : {n names p permissions k kinds d directories m moved s space : List Demand} (b : Bool) → n ≡ names
    → p ≡ permissions → k ≡ kinds → d ≡ directories → m ≡ moved → s ≡ space
    → (n ++ only_if b (p ++ k ++ d ++ m ++ s))
    ≡ (names ++ only_if b (permissions ++ kinds ++ directories ++ moved ++ space))
all_asked b of_names of_permissions of_kinds of_directories of_moved of_space =
    rw (of_names, of_permissions, of_kinds, of_directories, of_moved, of_space) refl

-- what is asked of what is there, and where nothing is
either_asked : {found founds new news : List Demand} (b : Bool) → found ≡ founds → new ≡ news
    → (if b then found else new) ≡ (if b then founds else news)
either_asked b of_found of_new = rw (of_found, of_new) refl

module _ (c : Scene) where
  abbrev v : Scene
  v = veiled_scene c

  -- ---- nodes

  module _ (n : ℕ) where
    directory_at : directory_in (the_node v.state.tree n).body ≡ directory_in (the_node c.state.tree n).body
    directory_at = ap (λ node. directory_in node.body) (the_node-veil c.state.tree n) ∙ directory_in-blotted (the_node c.state.tree n).body

    is_directory_at : is_directory (the_node v.state.tree n).body ≡ is_directory (the_node c.state.tree n).body
    is_directory_at = ap is_some directory_at

    link_at : is_link (the_node v.state.tree n).body ≡ is_link (the_node c.state.tree n).body
    link_at = ap (λ node. is_link node.body) (the_node-veil c.state.tree n) ∙ is_link-blotted (the_node c.state.tree n).body

    names_at : names_of_body (the_node v.state.tree n).body ≡ names_of_body (the_node c.state.tree n).body
    names_at = ap (λ node. names_of_body node.body) (the_node-veil c.state.tree n) ∙ names_in-blotted (the_node c.state.tree n).body

    size_at : length (bytes_in (the_node v.state.tree n).body) ≡ length (bytes_in (the_node c.state.tree n).body)
    size_at = ap (λ node. length (bytes_in node.body)) (the_node-veil c.state.tree n) ∙ size-blotted (the_node c.state.tree n).body

    owner_at : (the_node v.state.tree n).owner ≡ (the_node c.state.tree n).owner
    owner_at = ap (λ node. node.owner) (the_node-veil c.state.tree n)

    group_at : (the_node v.state.tree n).group ≡ (the_node c.state.tree n).group
    group_at = ap (λ node. node.group) (the_node-veil c.state.tree n)

  -- ---- demands

  end : (f : Found) (walk : ℕ) (want : Perms) → permission_at_end v f walk want ≡ permission_at_end c f walk want
  end f walk want = permission_on-veil c.process.cred c.state.tree (found_ino f) want walk f.step

  dir_ino : (f : Found) (walk : ℕ) → permission_at_dir v f walk ≡ permission_at_dir c f walk
  dir_ino f walk = permission_on-veil c.process.cred c.state.tree f.dir_ino (perms false true true) walk (f.step - 1)

  full : (f : Found) → no_names v f ≡ no_names c f
  full f = ap (λ ns. refuse ENOSPC (nat_le c.state.room.entries_limit (length ns))) (names_at f.dir_ino)

  no_room : no_inodes v ≡ no_inodes c
  no_room = ap (λ k. refuse ENOSPC (c.state.room.inodes - 1 - k == 0)) (length-veil c.state.tree)

  pub truncate_asks : (size : ℕ) → truncate_demands size v ≡ truncate_demands size c
  truncate_asks size =
      let a = is_directory_at (found_ino c.first) in
      let b = end c.first 1 (perms false true false) in
      rw (a, b) refl

  space : space_to_make v ≡ space_to_make c
  space = let a = full c.first in let b = no_room in cc

  pub mkdir_asks : mkdir_demands v ≡ mkdir_demands c
  mkdir_asks = let a = dir_ino c.first 1 in let b = space in cc

  sticky : (f : Found) (walk : ℕ) → sticky_at_dir v f walk ≡ sticky_at_dir c f walk
  sticky f walk =
      let a = directory_at f.dir_ino in
      let b = owner_at f.dir_ino in
      let d = owner_at (found_ino f) in
      rw (a, b, d) refl

  own : own_at_end v ≡ own_at_end c
  own = let a = owner_at (found_ino c.first) in cc

  pub unlink_asks : unlink_demands v ≡ unlink_demands c
  unlink_asks = cc (is_directory_at (found_ino c.first), dir_ino c.first 1, sticky c.first 1)

  pub link_asks : link_demands v ≡ link_demands c
  link_asks = cc (is_directory_at (found_ino c.first), dir_ino c.second 2, names_of-veil c.state.tree (found_ino c.first), full c.second)

  pub symlink_asks : symlink_demands v ≡ symlink_demands c
  symlink_asks = let a = dir_ino c.first 1 in let b = space in cc

  pub readlink_asks : readlink_demands v ≡ readlink_demands c
  readlink_asks = let a = link_at (found_ino c.first) in cc

  pub rmdir_asks : rmdir_demands v ≡ rmdir_demands c
  rmdir_asks = cc (is_directory_at (found_ino c.first), dir_ino c.first 1, sticky c.first 1, names_at (found_ino c.first))

  pub access_asks : (want : Perms) → access_demands want v ≡ access_demands want c
  access_asks want = let a = end c.first 1 want in cc

  pub chmod_asks : chmod_demands v ≡ chmod_demands c
  chmod_asks = let a = own in cc

  pub chown_asks : (owner group : Option ℕ) → chown_demands owner group v ≡ chown_demands owner group c
  chown_asks owner group =
      let a = owner_at (found_ino c.first) in
      let b = group_at (found_ino c.first) in
      rw (a, b) refl

  pub set_acl_asks : (which : AclType) (acl : Option AccessList) → set_acl_demands which acl v ≡ set_acl_demands which acl c
  set_acl_asks which acl =
      let a = is_directory_at (found_ino c.first) in
      let b = own in
      rw (a, b) refl

  pub chdir_asks : chdir_demands v ≡ chdir_demands c
  chdir_asks =
      let a = is_directory_at (found_ino c.first) in
      let b = search_on-veil c.process.cred c.state.tree (found_ino c.first) 1 c.first.step in
      rw (a, b) refl

  pub read_asks : (fd : ℕ) → read_demands fd v ≡ read_demands fd c
  read_asks fd = let a = is_directory_at (the_descriptor c.process fd).ino in cc

  pub readdir_asks : (fd : ℕ) → readdir_demands fd v ≡ readdir_demands fd c
  readdir_asks fd = let a = is_directory_at (the_descriptor c.process fd).ino in cc

  pub write_offset-veil : (fd : ℕ) → write_offset v fd ≡ write_offset c fd
  write_offset-veil fd = let a = size_at (the_descriptor c.process fd).ino in cc

  pub write_asks : (most fd : ℕ) (bytes : List ℕ) → write_demands most fd bytes v ≡ write_demands most fd bytes c
  write_asks most fd bytes = let a = write_offset-veil fd in cc

  pub sought-veil : (fd : ℕ) (whence : Whence) (by : ℤ) → sought v fd whence by ≡ sought c fd whence by
  sought-veil fd Set by = refl
  sought-veil fd Cur by = refl
  sought-veil fd End by = let a = size_at (the_descriptor c.process fd).ino in cc

  pub lseek_asks : (fd : ℕ) (whence : Whence) (by : ℤ) → lseek_demands fd whence by v ≡ lseek_demands fd whence by c
  lseek_asks fd whence by =
      let a = is_directory_at (the_descriptor c.process fd).ino in
      let b = sought-veil fd whence by in
      rw (a, b) refl

  open_found_asks : (flags : Flags) → open_found_demands flags v ≡ open_found_demands flags c
  open_found_asks flags =
      let a = is_directory_at (found_ino c.first) in
      let b = link_at (found_ino c.first) in
      let d = end c.first 1 (perms flags.read flags.write false) in
      rw (a, b, d) refl

  open_new_asks : (flags : Flags) → open_new_demands flags v ≡ open_new_demands flags c
  open_new_asks flags = let a = dir_ino c.first 1 in let b = space in cc

  pub open_asks : (flags : Flags) → open_demands flags v ≡ open_demands flags c
  open_asks flags = either_asked (is_found c.first) (open_found_asks flags) (open_new_asks flags)

  rename_names_ask : rename_name_demands v ≡ rename_name_demands c
  rename_names_ask =
      let a = is_directory_at (found_ino c.first) in
      let b = is_directory_at (found_ino c.second) in
      rw (a, b) refl

  rename_permissions_ask : rename_permissions v ≡ rename_permissions c
  rename_permissions_ask =
      let a = dir_ino c.first 1 in
      let b = dir_ino c.second 2 in
      let d = sticky c.first 1 in
      let e = sticky c.second 2 in
      rw (a, b, d, e) refl

  rename_kinds_ask : rename_kinds v ≡ rename_kinds c
  rename_kinds_ask =
      let a = is_directory_at (found_ino c.first) in
      let b = is_directory_at (found_ino c.second) in
      rw (a, b) refl

  within : (far : ℕ) → is_within far v.state.tree (found_ino c.first) c.second.dir_ino ≡ is_within far c.state.tree (found_ino c.first) c.second.dir_ino
  within far = is_within-veil far c.state.tree (found_ino c.first) c.second.dir_ino

  rename_directories_ask : rename_directories v ≡ rename_directories c
  rename_directories_ask =
      let a = is_directory_at (found_ino c.first) in
      let b = is_directory_at (found_ino c.second) in
      let d = names_at (found_ino c.second) in
      let e : is_within (length v.state.tree) v.state.tree (found_ino c.first) c.second.dir_ino
      ≡ is_within (length c.state.tree) c.state.tree (found_ino c.first) c.second.dir_ino =
      ap (λ k. is_within k v.state.tree (found_ino c.first) c.second.dir_ino) (length-veil c.state.tree) ∙ within (length c.state.tree) in
      rw (a, b, d, e) refl

  rename_moved_ask : rename_moved v ≡ rename_moved c
  rename_moved_ask =
      let a = is_directory_at (found_ino c.first) in
      let b = end c.first 1 (perms false true false) in
      rw (a, b) refl

  rename_space_ask : rename_space v ≡ rename_space c
  rename_space_ask = let a = full c.second in cc

  pub rename_asks : rename_demands v ≡ rename_demands c
  rename_asks =
      all_asked (not (is_same c)) rename_names_ask rename_permissions_ask rename_kinds_ask rename_directories_ask
      rename_moved_ask rename_space_ask
