-- Calls that rewrite one node are confined.
use Rattle.fs_model.specs.declared.reply.Stamps.{Stamps}
use Rattle.std.specs.Prelude.{◌≡◌, ℕ, ◌+◌, ◌==◌, min, Bool, true, false, ◌||◌, ◌&&◌, cond, List, [], ◌∷◌, length, take, replicate, Option, None, IsFalse}
use Rattle.std.proofs.Common.{refl, sym, ap, ◌∙◌, arith}
use Rattle.std.proofs.lemmas.List.{length-replicate}
use Rattle.fs_model.specs.declared.call.Call.TheVariants.{Truncate, Ftruncate, Chmod, Chown, SetAcl}
use Rattle.fs_model.specs.declared.reply.Reply.TheVariants.{Wrote}
use Rattle.std.proofs.lemmas.Bool.Decides.{nat_tests}
use Rattle.std.specs.List.{list_any}
use Rattle.std.specs.Prelude.{◌-◌}
use Rattle.posix_acl.specs.AccessList.{AccessList}
use Rattle.fs_cred.specs.declared.refusal.Need.{Need}
use Rattle.fs_cred.specs.declared.refusal.Need.TheVariants.{Own}
use Rattle.fs_cred.specs.declared.rule.Rule.{Rule}
use Rattle.fs_cred.specs.declared.rule.Rule.TheVariants.{NotOwner}
use Rattle.fs_cred.specs.Capabilities.{cap_chown, cap_fowner}
use Rattle.fs_cred.specs.Credentials.{is_capable}
use Rattle.fs_cred.specs.Ownership.{allowed_if, may_own, owns_or_may_chown}
use Rattle.fs_model.specs.declared.call.AclType.{AclType}
use Rattle.fs_model.specs.Demands.{allowed_by}
use Rattle.fs_model.specs.AttributeCalls.{moded, owned, with_set_acl}
use Rattle.fs_model.proofs.VeiledDemands.{write_offset-veil}
use Rattle.fs_model.proofs.ConfinedReads.{offset_less}
use Rattle.fs_model.specs.Nodes.{accessed, Node, Body, File, Dir, Link, bytes_in, with_bytes}
use Rattle.fs_model.specs.Trees.{Tree, with_node}
use Rattle.fs_model.specs.Processes.{Process, the_descriptor, with_offset}
use Rattle.fs_model.specs.Births.{the_node}
use Rattle.fs_model.specs.Alike.{may_read, sees_into, node_seen, tree_seen, blotted}
use Rattle.fs_model.specs.Confinement.{IsConfined}
use Rattle.fs_model.specs.Rows.{row_of}
use Rattle.fs_layout.specs.Bytes.{resized, overwritten}
use Rattle.fs_model.specs.DescriptorCalls.{resized_node, written, write_offset, write_within}
use Rattle.fs_model.specs.Scenes.{Scene, found_ino, node_found}
use Rattle.fs_model.proofs.StepsBodies.{length-resized, length-overwritten_all}
use Rattle.fs_model.proofs.Veils.{veiled}
use Rattle.fs_model.proofs.SeenTrees.{sees-veiled, the_node-seen, with_node-seen, tree_seen-less, SeesNoMore, sees_no_more}
use Rattle.fs_model.proofs.ConfinedSteps.{seen_scene, Confines, ConfinesRow}
use Rattle.fs_model.proofs.ConfinedLooks.{by_veil}

-- a node set in what the process sees, and in the tree
pub rewritten_seen : (p q : Process) (t : Tree) (n : ℕ) (x y : Node) → SeesNoMore p q t → node_seen q n x ≡ node_seen q n y
    → tree_seen q (with_node (tree_seen p t) n x) ≡ tree_seen q (with_node t n y)
rewritten_seen p q t n x y less same =
    with_node-seen q (tree_seen p t) n x
    ∙ ap (λ u. with_node u n (node_seen q n x)) (tree_seen-less p q t less)
    ∙ ap (with_node (tree_seen q t) n) same
    ∙ sym (with_node-seen q t n y)

-- bytes that are changed in a way that fixes their number
module _ (g : List ℕ → List ℕ) (even : (bytes : List ℕ) → length (g (replicate (length bytes) 0)) ≡ length (g bytes)) where
  abbrev pub byted : Node → Node
  byted node = record node { body = with_bytes (g (bytes_in node.body)) node.body }

  sees-byted : (p : Process) (n owner group : ℕ) (stamps : Stamps) (body : Body)
      → sees_into p n (byted (record { owner = owner; group = group; stamps = stamps; body = body })) ≡ sees_into p n (record { owner = owner; group = group; stamps = stamps; body = body })
  sees-byted p n owner group stamps (File a bytes) = refl
  sees-byted p n owner group stamps (Dir a d) = refl
  sees-byted p n owner group stamps (Link target) = refl

  veiled-byted : (owner group : ℕ) (stamps : Stamps) (body : Body)
      → veiled (byted (veiled (record { owner = owner; group = group; stamps = stamps; body = body }))) ≡ veiled (byted (record { owner = owner; group = group; stamps = stamps; body = body }))
  veiled-byted owner group stamps (File a bytes) = ap (λ k. record { owner = owner; group = group; stamps = stamps; body = File a (replicate k 0) }) (even bytes)
  veiled-byted owner group stamps (Dir a d) = refl
  veiled-byted owner group stamps (Link target) = refl

  pub byted_seen : (p q : Process) (n : ℕ) (x : Node) → (sees_into q n x ≡ true → sees_into p n x ≡ true)
      → node_seen q n (byted (node_seen p n x)) ≡ node_seen q n (byted x)
  byted_seen p q n x less = go (sees_into p n x) refl
    where
      blind : (b : Bool) → sees_into q n x ≡ b → sees_into p n x ≡ false → b ≡ false
      blind true e f = absurd (let h = less e in cc)
      blind false e f = refl

      go : (b : Bool) → sees_into p n x ≡ b → node_seen q n (byted (cond b x (veiled x))) ≡ node_seen q n (byted x)
      go true e = refl
      go false e =
          let no : sees_into q n x ≡ false = blind (sees_into q n x) refl e in
          let a : sees_into q n (byted (veiled x)) ≡ false = sees-byted q n x.owner x.group x.stamps (blotted x.body) ∙ sees-veiled q n x ∙ no in
          let b : sees_into q n (byted x) ≡ false = sees-byted q n x.owner x.group x.stamps x.body ∙ no in
          ap (λ b. cond b (byted (veiled x)) (veiled (byted (veiled x)))) a
          ∙ veiled-byted x.owner x.group x.stamps x.body
          ∙ ap (λ b. cond b (byted x) (veiled (byted x))) (sym b)

even_resized : (size : ℕ) (bytes : List ℕ) → length (resized (replicate (length bytes) 0) size) ≡ length (resized bytes size)
even_resized size bytes = length-resized (replicate (length bytes) 0) size ∙ sym (length-resized bytes size)

pub ftruncate_confined : (fd size : ℕ) → Confines (Ftruncate fd size)
unfolding row_of
ftruncate_confined fd size c new is confined asked met =
    let u = c.state in
    let p = c.process in
    let n = (the_descriptor p fd).ino in
    let x = the_node u.tree n in
    record {
      process = refl;
      reply = refl;
      moved = refl;
      tree =
          ap (λ y. tree_seen p (with_node (tree_seen p u.tree) n (resized_node size y))) (the_node-seen p u.tree n)
          ∙ rewritten_seen p p u.tree n (resized_node size (node_seen p n x)) (resized_node size x) (sees_no_more p p (λ n node e. e) u.tree)
          (byted_seen (λ bytes. resized bytes size) (even_resized size) p p n x (λ e. e));
    }

pub truncate_confined : (path : List ℕ) (size : ℕ) → Confines (Truncate path size)
unfolding row_of
truncate_confined path size c new is confined asked met =
    let u = c.state in
    let p = c.process in
    let n = found_ino c.first in
    let x = the_node u.tree n in
    record {
      process = refl;
      reply = refl;
      moved = refl;
      tree =
          ap (λ y. tree_seen p (with_node (tree_seen p u.tree) n (resized_node size y))) (the_node-seen p u.tree n)
          ∙ rewritten_seen p p u.tree n (resized_node size (node_seen p n x)) (resized_node size x) (sees_no_more p p (λ n node e. e) u.tree)
          (byted_seen (λ bytes. resized bytes size) (even_resized size) p p n x (λ e. e));
    }

-- ---- write

even_overwritten : (offset : ℕ) (new bytes : List ℕ) → length (overwritten (replicate (length bytes) 0) offset new) ≡ length (overwritten bytes offset new)
even_overwritten offset new bytes =
    omega (
      arith,
      length-overwritten_all (replicate {A = ℕ} (length bytes) 0) offset new,
      length-overwritten_all bytes offset new,
      length-replicate {A = ℕ} (length bytes) 0,
    )

pub write_confined : (most fd : ℕ) (bytes : List ℕ) → ConfinesRow (write_within most fd bytes)
write_confined most fd [] c new is confined asked met = record {
  process = refl;
  reply = refl;
  moved = refl;
  tree = tree_seen-less c.process c.process c.state.tree (sees_no_more c.process c.process (λ n node e. e) c.state.tree);
}
write_confined most fd (b ∷ bs) c new is confined asked met =
    let u = c.state in
    let p = c.process in
    let bytes = b ∷ bs in
    let n = (the_descriptor p fd).ino in
    let x = the_node u.tree n in
    let offset = write_offset c fd in
    let same : write_offset (seen_scene c) fd ≡ offset = by_veil (λ c. write_offset c fd) (λ c. write_offset-veil c fd) c in
    let limit = u.room.file_limit in
    let text = take (min (length bytes) (min most (limit - offset))) bytes in
    let q = with_offset p fd (offset + min (length bytes) (min most (limit - offset))) in
    record {
      process = ap (λ k. with_offset p fd (k + min (length bytes) (min most (limit - k)))) same;
      reply = ap (λ k. Wrote (min (length bytes) (min most (limit - k)))) same;
      moved = refl;
      tree =
          ap (λ k. tree_seen q (with_node (tree_seen p u.tree) n (written (the_node (tree_seen p u.tree) n) k (take (min (length bytes) (min most (limit - k))) bytes)))) same
          ∙ ap (λ y. tree_seen q (with_node (tree_seen p u.tree) n (written y offset text))) (the_node-seen p u.tree n)
          ∙ rewritten_seen p q u.tree n (written (node_seen p n x) offset text) (written x offset text) (sees_no_more p q (λ n node. offset_less p fd _ n node) u.tree)
          (byted_seen (λ old. overwritten old offset text) (even_overwritten offset text) p q n x (offset_less p fd _ n x));
    }

-- ---- what only the owner may do

allowed_yes : (b : Bool) (walk step : ℕ) (need : Need) (rule : Rule) → allowed_by walk step need (allowed_if b rule) ≡ None → b ≡ true
allowed_yes true walk step need rule h = refl
allowed_yes false walk step need rule h = absurd cc

-- the owner, by its user
pub owner_sees : (p : Process) (n : ℕ) (x : Node) → (p.cred.uid == x.owner) ≡ true → sees_into p n x ≡ true
owner_sees p n x own =
    let back : (x.owner == p.cred.uid) ≡ true = grind (arith, nat_tests) in
    ap (λ b. b || may_read p (accessed x) || list_any (λ d. d.1.ino == n && d.1.read) p.descriptors) back

-- who counts as the owner, without CAP_FOWNER
may_own_sees : (p : Process) (n : ℕ) (x : Node) (walk step : ℕ) → IsConfined p.cred → allowed_by walk step Own (may_own p.cred x.owner) ≡ None
    → sees_into p n x ≡ true
may_own_sees p n x walk step confined met =
    let may : (is_capable p.cred cap_fowner || p.cred.uid == x.owner) ≡ true = allowed_yes _ walk step Own NotOwner met in
    owner_sees p n x (or_second (is_capable p.cred cap_fowner) (p.cred.uid == x.owner) confined.no_fowner may)
  where
    or_second : (a b : Bool) → IsFalse a → (a || b) ≡ true → b ≡ true
    or_second true b lacks h = absurd cc
    or_second false b lacks h = h

-- who may ask for another owner, without CAP_CHOWN
may_chown_sees : (p : Process) (n : ℕ) (x : Node) (walk step : ℕ) → IsConfined p.cred → allowed_by walk step Own (owns_or_may_chown p.cred x.owner) ≡ None
    → sees_into p n x ≡ true
may_chown_sees p n x walk step confined met =
    let may : (p.cred.uid == x.owner || is_capable p.cred cap_chown) ≡ true = allowed_yes _ walk step Own NotOwner met in
    owner_sees p n x (or_first (p.cred.uid == x.owner) (is_capable p.cred cap_chown) confined.no_chown may)
  where
    or_first : (a b : Bool) → IsFalse b → (a || b) ≡ true → a ≡ true
    or_first true b lacks h = refl
    or_first false true lacks h = absurd cc
    or_first false false lacks h = h

owned_tree : (c : Scene) (f : Node → Node) → sees_into c.process (found_ino c.first) (node_found c c.first) ≡ true
    → tree_seen c.process (with_node (tree_seen c.process c.state.tree) (found_ino c.first) (f (the_node (tree_seen c.process c.state.tree) (found_ino c.first))))
    ≡ tree_seen c.process (with_node c.state.tree (found_ino c.first) (f (node_found c c.first)))
owned_tree c f sees =
    let t = c.state.tree in
    let p = c.process in
    let n = found_ino c.first in
    let x = node_found c c.first in
    let same : the_node (tree_seen p t) n ≡ x = the_node-seen p t n ∙ ap (λ b. cond b x (veiled x)) sees in
    ap (λ y. tree_seen p (with_node (tree_seen p t) n (f y))) same
    ∙ rewritten_seen p p t n (f x) (f x) (sees_no_more p p (λ n node e. e) t) refl

pub chmod_confined : (path : List ℕ) (mode : ℕ) → Confines (Chmod path mode)
unfolding row_of
chmod_confined path mode c new is confined asked met = record {
  process = refl;
  reply = refl;
  moved = refl;
  tree = owned_tree c (moded c.process.cred mode) (may_own_sees c.process _ (node_found c c.first) 1 c.first.step confined met.1.0);
}

pub chown_confined : (path : List ℕ) (owner group : Option ℕ) → Confines (Chown path owner group)
unfolding row_of
chown_confined path owner group c new is confined asked met = record {
  process = refl;
  reply = refl;
  moved = refl;
  tree = owned_tree c (owned owner group) (may_chown_sees c.process _ (node_found c c.first) 1 c.first.step confined met.1.0);
}

pub set_acl_confined : (path : List ℕ) (which : AclType) (acl : Option AccessList) → Confines (SetAcl path which acl)
unfolding row_of
set_acl_confined path which acl c new is confined asked met = record {
  process = refl;
  reply = refl;
  moved = refl;
  tree =
      owned_tree c (λ node. record node { body = with_set_acl which acl node.body })
      (may_own_sees c.process _ (node_found c c.first) 1 c.first.step confined met.1.0);
}
