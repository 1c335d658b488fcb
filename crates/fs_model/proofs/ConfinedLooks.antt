-- Calls that change no tree are confined.
use Rattle.std.specs.Prelude.{◌≡◌, ℕ, true, if◌then◌else◌, List, [], ◌∷◌, Some, IsTrue}
use Rattle.std.proofs.Common.{refl, sym, ap, ◌∙◌}
use Rattle.posix_acl.specs.declared.entry.Perms.{Perms}
use Rattle.fs_model.specs.declared.call.AclType.{AclType}
use Rattle.fs_model.specs.declared.call.AclType.TheVariants.{Access as AccessType, Default as DefaultType}
use Rattle.fs_model.specs.declared.call.Call.{Call}
use Rattle.fs_model.specs.declared.call.Call.TheVariants.{Fstat, Stat, Lstat, Access, GetAcl, Readdir, Readlink, Chdir, Umask}
use Rattle.fs_model.specs.declared.reply.Reply.TheVariants.{Shown, Acl, Target, Names}
use Rattle.fs_model.specs.Nodes.{Node, is_directory, names_of_body, target_in, type_of, shown_mode, shown_size, acl_in, default_in, accessed}
use Rattle.fs_model.specs.Trees.{parent, names_of}
use Rattle.fs_model.specs.Processes.{the_descriptor}
use Rattle.fs_model.specs.Births.{the_node}
use Rattle.fs_model.specs.TreeChanges.{Same, changed, touches}
use Rattle.fs_model.specs.Alike.{sees_into, tree_seen}
use Rattle.fs_model.specs.Rows.{row_of}
use Rattle.fs_model.specs.Actors.{is_look}
use Rattle.fs_model.specs.Scenes.{Scene, Row, found_ino, node_found, body_found}
use Rattle.fs_model.specs.DescriptorCalls.{shown, readdir_row}
use Rattle.fs_model.specs.AttributeCalls.{granted_by, acl_shown}
use Rattle.fs_model.proofs.Veils.{veil, accessed-blotted, target_in-blotted, names_in-blotted, directory_in-blotted, parent-veil}
use Rattle.fs_model.proofs.VeiledScenes.{veiled_scene, veiled_state-seen, the_node-veil, names_of-veil, type_of-blotted, shown_mode-blotted, shown_size-blotted, acl_in-blotted, default_in-blotted}
use Rattle.fs_model.proofs.SeenTrees.{tree_seen-less, sees_no_more}
use Rattle.fs_model.proofs.ConfinedSteps.{seen_scene, IsConfinedAt, Confines}

-- what depends on no byte is the same in what the process sees
pub by_veil : {X : Type 0} (f : Scene → X) → ((c : Scene) → f (veiled_scene c) ≡ f c) → (c : Scene) → f (seen_scene c) ≡ f c
by_veil f same c =
    sym (same (seen_scene c)) ∙ ap (λ s. f (record c { state = s })) (veiled_state-seen (Some c.process) c.state) ∙ same c

-- a row that changes no tree, answers what depends on no byte, and leaves a process that sees no more
pub record IsLook (row : Row) (number : ℕ) : Type 0 where
  pub change : (c : Scene) → (row.effect c number).change ≡ Same
  pub process : (c : Scene) → (row.effect (veiled_scene c) number).process ≡ (row.effect c number).process
  pub reply : (c : Scene) → (row.effect (veiled_scene c) number).reply ≡ (row.effect c number).reply
  pub less : (c : Scene) (n : ℕ) (node : Node) → sees_into (row.effect c number).process n node ≡ true → sees_into c.process n node ≡ true

pub look_confined : (c : Scene) (row : Row) (number : ℕ) → IsLook row number → IsConfinedAt c row number
look_confined c row number is =
    let u = c.state in
    let p = c.process in
    let a = is.change (seen_scene c) in
    let b = is.change c in
    let q = (row.effect c number).process in
    record {
      process = by_veil (λ c. (row.effect c number).process) is.process c;
      reply = by_veil (λ c. (row.effect c number).reply) is.reply c;
      moved = ap (touches u.room (tree_seen p u.tree)) a ∙ ap (touches u.room u.tree) (sym b);
      tree =
          ap (λ ch. tree_seen q (changed (tree_seen p u.tree) ch)) a
          ∙ tree_seen-less p q u.tree (sees_no_more p q (is.less c) u.tree)
          ∙ ap (λ ch. tree_seen q (changed u.tree ch)) (sym b);
    }

-- ---- those that only look

module _ (c : Scene) where
  shown-veil : (n : ℕ) → shown (veil c.state.tree) n ≡ shown c.state.tree n
  shown-veil n =
      let t = c.state.tree in
      let body = (the_node t n).body in
      let a = the_node-veil t n in
      let b = type_of-blotted body in
      let d = shown_mode-blotted body in
      let e = shown_size-blotted body in
      let f = directory_in-blotted body in
      let g = names_of-veil t n in
      ap (λ x. record { ino = n; kind = type_of x.body; mode = shown_mode x.body; links = if is_directory x.body then 1 else names_of (veil t) n; owner = x.owner; group = x.group; size = shown_size x.body }) a
      ∙ cc

  granted-veil : (want : Perms) → granted_by c.process.cred want (accessed (node_found (veiled_scene c) c.first)) ≡ granted_by c.process.cred want (accessed (node_found c c.first))
  granted-veil want =
      let x = node_found c c.first in
      ap (λ node. granted_by c.process.cred want (accessed node)) (the_node-veil c.state.tree (found_ino c.first))
      ∙ ap (granted_by c.process.cred want) (accessed-blotted x.owner x.group x.body)

  acl-veil : (which : AclType) → acl_shown which (body_found (veiled_scene c) c.first) ≡ acl_shown which (body_found c c.first)
  acl-veil AccessType = ap (λ node. acl_in node.body) (the_node-veil c.state.tree (found_ino c.first)) ∙ acl_in-blotted (body_found c c.first)
  acl-veil DefaultType = ap (λ node. default_in node.body) (the_node-veil c.state.tree (found_ino c.first)) ∙ default_in-blotted (body_found c c.first)

  target-veil : target_in (body_found (veiled_scene c) c.first) ≡ target_in (body_found c c.first)
  target-veil = ap (λ node. target_in node.body) (the_node-veil c.state.tree (found_ino c.first)) ∙ target_in-blotted (body_found c c.first)

  listed-veil : (n : ℕ) → names_of_body (the_node (veil c.state.tree) n).body ≡ names_of_body (the_node c.state.tree n).body
  listed-veil n = ap (λ node. names_of_body node.body) (the_node-veil c.state.tree n) ∙ names_in-blotted (the_node c.state.tree n).body

looks : (row : Row) (number : ℕ) → ((c : Scene) → (row.effect c number).change ≡ Same) → ((c : Scene) → (row.effect c number).process ≡ c.process)
    → ((c : Scene) → (row.effect (veiled_scene c) number).reply ≡ (row.effect c number).reply) → IsLook row number
looks row number same stays reply = record {
  change = same;
  process = λ c. stays (veiled_scene c) ∙ sym (stays c);
  reply = reply;
  less = λ c n node. λ e. ap (λ q. sees_into q n node) (sym (stays c)) ∙ e;
}

pub look_at : (call : Call) → ((new : ℕ) → IsLook (row_of call) new) → Confines call
look_at call is c new _ _ _ _ = look_confined c (row_of call) new (is new)

-- each look of somebody
pub each_look : (call : Call) → IsTrue (is_look call) → (new : ℕ) → IsLook (row_of call) new
unfolding row_of
each_look (Stat path) is new = looks (row_of (Stat path)) new (λ c. refl) (λ c. refl) (λ c. ap Shown (shown-veil c (found_ino c.first)))
each_look (Lstat path) is new = looks (row_of (Lstat path)) new (λ c. refl) (λ c. refl) (λ c. ap Shown (shown-veil c (found_ino c.first)))
each_look (Access path want) is new = looks (row_of (Access path want)) new (λ c. refl) (λ c. refl) (λ c. granted-veil c want)
each_look (GetAcl path which) is new = looks (row_of (GetAcl path which)) new (λ c. refl) (λ c. refl) (λ c. ap Acl (acl-veil c which))
each_look (Readlink path) is new = looks (row_of (Readlink path)) new (λ c. refl) (λ c. refl) (λ c. ap Target (target-veil c))
each_look call is new = absurd cc

pub stat_confined : (path : List ℕ) → Confines (Stat path)
unfolding row_of
stat_confined path = look_at (Stat path) (each_look (Stat path) refl)

pub lstat_confined : (path : List ℕ) → Confines (Lstat path)
unfolding row_of
lstat_confined path = look_at (Lstat path) (each_look (Lstat path) refl)

pub fstat_confined : (fd : ℕ) → Confines (Fstat fd)
unfolding row_of
fstat_confined fd = look_at (Fstat fd) (λ new. looks (row_of (Fstat fd)) new (λ c. refl) (λ c. refl) (λ c. ap Shown (shown-veil c (the_descriptor c.process fd).ino)))

pub access_confined : (path : List ℕ) (want : Perms) → Confines (Access path want)
unfolding row_of
access_confined path want = look_at (Access path want) (each_look (Access path want) refl)

pub get_acl_confined : (path : List ℕ) (which : AclType) → Confines (GetAcl path which)
unfolding row_of
get_acl_confined path which = look_at (GetAcl path which) (each_look (GetAcl path which) refl)

pub readlink_confined : (path : List ℕ) → Confines (Readlink path)
unfolding row_of
readlink_confined path = look_at (Readlink path) (each_look (Readlink path) refl)

-- the names that are answered depend on no byte
pub names-veil : (c : Scene) (fd new : ℕ) → ((readdir_row fd).effect (veiled_scene c) new).reply ≡ ((readdir_row fd).effect c new).reply
names-veil c fd new =
    let n = (the_descriptor c.process fd).ino in
    ap (λ up. Names ((46 ∷ [], n) ∷ (46 ∷ 46 ∷ [], up) ∷ names_of_body (the_node (veil c.state.tree) n).body)) (parent-veil c.state.tree n)
    ∙ ap (λ names. Names ((46 ∷ [], n) ∷ (46 ∷ 46 ∷ [], parent c.state.tree n) ∷ names)) (listed-veil c n)

pub readdir_confined : (fd : ℕ) → Confines (Readdir fd)
unfolding row_of
readdir_confined fd = look_at (Readdir fd) (λ new. looks (row_of (Readdir fd)) new (λ c. refl) (λ c. refl) (λ c. names-veil c fd new))

pub chdir_confined : (path : List ℕ) → Confines (Chdir path)
unfolding row_of
chdir_confined path = look_at (Chdir path) (λ new. record { change = λ c. refl; process = λ c. refl; reply = λ c. refl; less = λ c n node e. e })

pub umask_confined : (mask : ℕ) → Confines (Umask mask)
unfolding row_of
umask_confined mask = look_at (Umask mask) (λ new. record { change = λ c. refl; process = λ c. refl; reply = λ c. refl; less = λ c n node e. e })
