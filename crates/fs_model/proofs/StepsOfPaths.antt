-- What calls on what a path leads to, and on a process itself, leave fits.
use Rattle.fs_model.specs.declared.touch.Touch.TheVariants.{Changed, Modified}
use Rattle.std.specs.Prelude.{◌≡◌, ℕ, ◌%◌, ◌≤◌, nat_lt, true, false, not, Option, None, Some, is_some, unwrap_or}
use Rattle.std.proofs.Common.{refl, arith}
use Rattle.std.proofs.lemmas.Bool.{not-false}
use Rattle.std.proofs.lemmas.Bool.Decides.{nat_tests}
use Rattle.posix_acl.specs.AccessList.{AccessList, IsSomeAcl}
use Rattle.fs_layout.specs.Bytes.{resized}
use Rattle.fs_cred.specs.declared.errno.Errno.TheVariants.{ENOENT, ENOTDIR, EFBIG}
use Rattle.fs_model.specs.declared.call.AclType.{AclType}
use Rattle.fs_model.specs.declared.reply.Reply.TheVariants.{Done, Mask}
use Rattle.fs_model.specs.Nodes.{is_directory, bytes_in}
use Rattle.fs_model.specs.Trees.{node_at, IsNode, IsDirectoryAt}
use Rattle.fs_model.specs.declared.walk.Found.{Found}
use Rattle.fs_model.specs.Scenes.{Scene, is_found, found_ino, node_found, body_found, must_be_there}
use Rattle.fs_model.specs.DescriptorCalls.{resized_node}
use Rattle.fs_model.specs.AttributeCalls.{truncate_demands, truncate_effect, chmod_demands, moded, chmod_effect, chown_demands, owned, chown_effect, with_set_acl, set_acl_demands, set_acl_effect, chdir_demands, chdir_effect, umask_effect}
use Rattle.fs_model.specs.Ranges.{IsSomeId}
use Rattle.fs_model.proofs.StepsBodies.{bytes_are_bytes, length-resized, IsBytes-resized, bytes_may_replace, mode_may_replace, acl_may_replace, owner_may_replace}
use Rattle.fs_model.proofs.StepsDemands.{AreMet, unrefused}
use Rattle.fs_model.proofs.StepsFit.{IsScene, EffectFits, node_is_there, no_change_fits, rewrite_fits}
use Rattle.fs_model.proofs.StepsProcesses.{with_cwd_fits, with_umask_fits}

pub found_number : (o : Option ℕ) → is_some o ≡ true → o ≡ Some (unwrap_or o 0)
found_number None h = absurd cc
found_number (Some n) h = refl

pub is_found_if : (f : Found) → must_be_there f ≡ None → is_found f ≡ true
is_found_if f met = not-false (is_found f) (unrefused ENOENT (not (is_found f)) met)

module _ (c : Scene) (is : IsScene c) where
  pub first_at : is_found c.first ≡ true → node_at c.state.tree (found_ino c.first) ≡ Some (node_found c c.first)
  first_at found = node_is_there c.state.tree (found_ino c.first) (is.first (found_ino c.first) (found_number c.first.ino found))

  pub first_is : is_found c.first ≡ true → IsNode c.state.room c.state.tree (found_ino c.first) (node_found c c.first)
  first_is found = is.state.tree.each (found_ino c.first) (node_found c c.first) (first_at found)

  pub truncate_fits : (size new : ℕ) → AreMet (truncate_demands size c) → EffectFits c.state (truncate_effect size c new)
  truncate_fits size new met =
      let found = is_found_if c.first met.0 in
      let node = node_found c c.first in
      let bytes = bytes_in node.body in
      let e : nat_lt c.state.room.file_limit size ≡ false = unrefused EFBIG _ met.1.1.1.0 in
      let low : size ≤ c.state.room.file_limit = grind (arith, nat_tests) in
      rewrite_fits c.state Modified (found_ino c.first) node (resized_node size node) c.process Done is.state (first_at found)
      (bytes_may_replace c.state.room c.state.tree (found_ino c.first) node (first_is found) (resized bytes size)
      (let len = length-resized bytes size in omega (arith, len, low))
      (IsBytes-resized bytes size (bytes_are_bytes c.state.room c.state.tree node.body (first_is found).body)))
      is.process

  pub chmod_fits : (mode new : ℕ) → AreMet (chmod_demands c) → EffectFits c.state (chmod_effect mode c new)
  chmod_fits mode new met =
      let found = is_found_if c.first met.0 in
      let node = node_found c c.first in
      rewrite_fits c.state Changed (found_ino c.first) node (moded c.process.cred mode node) c.process Done is.state (first_at found)
      (mode_may_replace c.state.room c.state.tree (found_ino c.first) node (first_is found) c.process.cred mode) is.process

  pub chown_fits : (owner group : Option ℕ) (new : ℕ) → IsSomeId owner → IsSomeId group → AreMet (chown_demands owner group c)
      → EffectFits c.state (chown_effect owner group c new)
  chown_fits owner group new o g met =
      let found = is_found_if c.first met.0 in
      let node = node_found c c.first in
      rewrite_fits c.state Changed (found_ino c.first) node (owned owner group node) c.process Done is.state (first_at found)
      (owner_may_replace c.state.room c.state.tree (found_ino c.first) node (first_is found) owner group o g) is.process

  pub set_acl_fits : (which : AclType) (acl : Option AccessList) (new : ℕ) → IsSomeAcl acl → AreMet (set_acl_demands which acl c)
      → EffectFits c.state (set_acl_effect which acl c new)
  set_acl_fits which acl new valid met =
      let found = is_found_if c.first met.0 in
      let node = node_found c c.first in
      rewrite_fits c.state Changed (found_ino c.first) node (record node { body = with_set_acl which acl node.body }) c.process Done is.state (first_at found)
      (acl_may_replace c.state.room c.state.tree (found_ino c.first) node (first_is found) which acl valid) is.process

  pub chdir_fits : (new : ℕ) → AreMet (chdir_demands c) → EffectFits c.state (chdir_effect c new)
  chdir_fits new met =
      let found = is_found_if c.first met.0 in
      let directory : is_directory (body_found c c.first) ≡ true = not-false _ (unrefused ENOTDIR (not (is_directory (body_found c c.first))) met.1.0) in
      let d : IsDirectoryAt c.state.tree (found_ino c.first) = record { node = node_found c c.first; is_there = first_at found; directory = directory } in
      no_change_fits c.state (record c.process { cwd = found_ino c.first }) Done is.state
      (with_cwd_fits c.state.tree c.process is.process (found_ino c.first) d)

  pub umask_fits : (mask new : ℕ) → EffectFits c.state (umask_effect mask c new)
  umask_fits mask new =
      no_change_fits c.state (record c.process { umask = mask % 512 }) (Mask c.process.umask) is.state
      (with_umask_fits c.state.tree c.process is.process mask)
