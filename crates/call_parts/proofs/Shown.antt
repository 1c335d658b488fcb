-- What is shown of an object, as its inode says it.
use Rattle.std.specs.Prelude.{◌≡◌, ◌≢◌, ℕ, ◌*◌, ◌/◌, List, length, Bool, true, false, not, Option, None, Some, is_some, unwrap_or, if◌then◌else◌, IsTrue, Ok}
use Rattle.std.proofs.Common.{refl, sym, ap, subst, ◌∙◌}
use Rattle.fs_cred.specs.declared.errno.Errno.TheVariants.{ENOENT}
use Rattle.fs_layout.specs.declared.inode.Inode.{Inode}
use Rattle.fs_layout.specs.declared.inode.Kind.{Kind}
use Rattle.fs_layout.specs.declared.inode.Kind.TheVariants as kinds
use Rattle.fs_layout.specs.declared.geometry.Geometry.{Geometry}
use Rattle.fs_layout.specs.declared.slot.TheConstants.{SLOT_SIZE}
use Rattle.fs_layout.specs.declared.version.Version.{Version}
use Rattle.fs_layout.specs.Bytes.{SectorMap}
use Rattle.fs_layout.specs.Directories.{HasNames}
use Rattle.fs_layout.specs.Version.{slot_size}
use Rattle.fs_layout.specs.Images.{inode_at}
use Rattle.fs_model.specs.declared.reply.FileType.{FileType}
use Rattle.fs_model.specs.declared.reply.FileType.TheVariants as types
use Rattle.fs_model.specs.declared.reply.Status.{Status}
use Rattle.fs_model.specs.declared.walk.Found.{Found}
use Rattle.fs_model.specs.Demands.{refuse, first_of}
use Rattle.fs_model.specs.declared.reply.Reply.TheVariants.{Shown}
use Rattle.fs_model.specs.AttributeCalls.{stat_demands, stat_effect}
use Rattle.fs_model.specs.Processes.{Process}
use Rattle.fs_model.specs.States.{State}
use Rattle.fs_model.specs.Scenes.{found_ino, must_be_there, answers}
use Rattle.fs_model.specs.Births.{no_node, the_node}
use Rattle.fs_model.specs.DescriptorCalls.{shown}
use Rattle.fs_model.specs.Kinds.{kind_of_type, type_of_kind}
use Rattle.fs_model.specs.Nodes.{Node, Body, File, Dir, Link, is_directory, shown_mode, shown_size, type_of}
use Rattle.fs_model.specs.Rules.{is_directory_kind}
use Rattle.fs_model.specs.StoredNodes.{HoldsBody, HoldsNode, names_field}
use Rattle.fs_model.specs.Trees.{Tree, node_at, names_of, parent}
use Rattle.path_walk.specs.Answers.{refused_or}
use Rattle.call_parts.specs.Given.{size_shown}
use Rattle.call_parts.specs.Reaching.{IsInodeFound}
use Rattle.path_walk.specs.HeldTrees.{HoldsTree, IsThere}
use Rattle.call_parts.specs.Paths.{scene_at}
use Rattle.call_parts.proofs.Calling.{or_else-none, met_ok}
use Rattle.path_walk.proofs.HeldNodes.{stands, held_node}
use Rattle.fs_layout.proofs.ImageSlots.{length-slots}
use Rattle.fs_layout.proofs.ReadNames.{are_names_of}
use Rattle.fs_layout.proofs.SlotSizes.{slots_counted}

pub body_kind : (version : Version) (image : SectorMap) (v : Inode) (b : Body) → HoldsBody version image v b → v.kind ≡ kind_of_type (type_of b)
body_kind version image v (File a bytes) h = h.kind
body_kind version image v (Dir a d) h = h.names.kind
body_kind version image v (Link target) h = h.kind

type_back : (t : FileType) → type_of_kind (kind_of_type t) ≡ Some t
type_back types.File = refl
type_back types.Directory = refl
type_back types.Link = refl

no_free : (t : FileType) → kind_of_type t ≢ kinds.Free
no_free types.File e = cc
no_free types.Directory e = cc
no_free types.Link e = cc

links_say : (b : Body) (names : ℕ) → names_field b names ≡ (if is_directory b then 1 else names)
links_say (File a bytes) names = refl
links_say (Dir a d) names = refl
links_say (Link target) names = refl

-- a directory has a slot for each name
pub names_size : {version : Version} {image : SectorMap} {v : Inode} {names : List (List ℕ × ℕ)} → HasNames version image v names
    → v.size ≡ slot_size version * length names
names_size {version} {image} {v} {names} h =
    let size = h.holds.size in
    let bytes = length-slots version h.slots h.each in
    let count : length names ≡ length h.slots = ap length h.are ∙ (are_names_of h.slots h.apart).count in
    size ∙ bytes ∙ ap (λ (n : ℕ). slot_size version * n) (sym count)

-- as many bytes are shown for each
slots_shown : (version : Version) (size count : ℕ) → size ≡ slot_size version * count → SLOT_SIZE * (size / slot_size version) ≡ SLOT_SIZE * count
slots_shown version size count e = ap (λ (n : ℕ). SLOT_SIZE * n) (slots_counted version count size e)

module _ (version : Version) (image : SectorMap) (v : Inode) where
  by_kind : {k : Kind} → v.kind ≡ k → size_shown version v ≡ (if is_directory_kind k then SLOT_SIZE * (v.size / slot_size version) else v.size)
  by_kind is = ap (λ (k : Kind). if is_directory_kind k then SLOT_SIZE * (v.size / slot_size version) else v.size) is

  pub size_says : (b : Body) → HoldsBody version image v b → size_shown version v ≡ shown_size b
  size_says (File a bytes) h = by_kind h.kind ∙ h.holds.size
  size_says (Dir a d) h = by_kind h.names.kind ∙ slots_shown version v.size (length d.names) (names_size h.names)
  size_says (Link target) h = by_kind h.kind ∙ h.holds.size

pub the_node_is : (t : Tree) (n : ℕ) (node : Node) → node_at t n ≡ Some node → the_node t n ≡ node
the_node_is t n node at = ap (λ o. unwrap_or o no_node) at

module _ {p : Geometry} {image : SectorMap} {t : Tree} (h : HoldsTree p image t) (n : ℕ) (there : IsThere t n) where
  -- the inode of what is there is used
  pub is_used : (inode_at p image n).kind ≢ kinds.Free
  is_used e =
      let s = stands t n there in
      no_free (type_of s.node.body) (sym (body_kind p.version image (inode_at p image n) s.node.body (held_node h n s.node s.at).body) ∙ e)

  -- and shows it
  pub shown_is : (v : Inode) (status : Status) → v ≡ inode_at p image n
      → ((kind : FileType) → type_of_kind v.kind ≡ Some kind → status
      ≡ record { ino = n; kind = kind; mode = v.mode; links = v.names; owner = v.uid; group = v.gid; size = size_shown p.version v })
      → status ≡ shown t n
  shown_is v status is says =
      let s = stands t n there in
      let held = subst (λ (w : Inode). HoldsNode p.version image w (record { node = s.node; names = names_of t n; parent = parent t n })) (sym is) (held_node h n s.node s.at) in
      let b = s.node.body in
      says (type_of b) (ap type_of_kind (body_kind p.version image v b held.body) ∙ type_back (type_of b))
      ∙ ap (λ m. status_of (type_of b) m v.names v.uid v.gid (size_shown p.version v)) held.mode
      ∙ ap (λ m. status_of (type_of b) (shown_mode b) m v.uid v.gid (size_shown p.version v)) (held.names ∙ links_say b (names_of t n))
      ∙ ap (λ m. status_of (type_of b) (shown_mode b) (links b) m v.gid (size_shown p.version v)) held.owner
      ∙ ap (λ m. status_of (type_of b) (shown_mode b) (links b) s.node.owner m (size_shown p.version v)) held.group
      ∙ ap (λ m. status_of (type_of b) (shown_mode b) (links b) s.node.owner s.node.group m) (size_says p.version image v b held.body)
      ∙ ap (λ (node : Node). status_of (type_of node.body) (shown_mode node.body) (links node.body) node.owner node.group (shown_size node.body)) (sym (the_node_is t n s.node s.at))
    where
      status_of : FileType → ℕ → ℕ → ℕ → ℕ → ℕ → Status
      status_of kind mode links owner group size =
          record { ino = n; kind = kind; mode = mode; links = links; owner = owner; group = group; size = size }

      links : Body → ℕ
      links b = if is_directory b then 1 else names_of t n

-- ---- the inode that a path leads to

-- where it was found, it is there
pub number_of : (f : Found) → IsTrue (is_some f.ino) → f.ino ≡ Some (found_ino f)
number_of f some = go f.ino some
  where
    go : (o : Option ℕ) → is_some o ≡ true → o ≡ Some (unwrap_or o 0)
    go None e = absurd (cc)
    go (Some n) e = refl

there_unless : (b : Bool) → refuse ENOENT (not b) ≡ None → b ≡ true
there_unless true e = refl
there_unless false e = absurd (cc)

pub is_inode : (p : Geometry) (image : SectorMap) (f : Found) (n : ℕ) (v : Inode) → refused_or {A = ℕ × Inode} (must_be_there f) (Ok (found_ino f, inode_at p image (found_ino f))) ≡ Ok (n, v)
    → IsInodeFound p image f n v
is_inode p image f n v e =
    let is = met_ok {A = ℕ × Inode} (must_be_there f) (found_ino f, inode_at p image (found_ino f)) (n, v) e in
    let same : found_ino f ≡ n = ap (λ x. x.0) is.1 in
    let some = number_of f (there_unless (is_some f.ino) is.0) in
    record { some = some ∙ ap Some same; number = same; inode = sym (ap (λ x. x.1) is.1) ∙ ap (inode_at p image) same; met = is.0 }

-- what stat and lstat answer
pub stat_told : {p : Geometry} {map : SectorMap} (s : State) (q : Process) (f : Found) (n : ℕ) (v : Inode) (status : Status) → IsInodeFound p map f n v
    → HoldsTree p map s.tree → IsThere s.tree n
    → ((kind : FileType) → type_of_kind v.kind ≡ Some kind → status
    ≡ record { ino = n; kind = kind; mode = v.mode; links = v.names; owner = v.uid; group = v.gid; size = size_shown p.version v })
    → (first_of (stat_demands (scene_at s q f)) ≡ None) × (stat_effect (scene_at s q f) 0 ≡ answers (scene_at s q f) (Shown status))
stat_told {p} {map} s q f n v status is h there says = (
  or_else-none (must_be_there f) ∙ is.met,
  ap (λ (k : ℕ). answers (scene_at s q f) (Shown (shown s.tree k))) is.number
      ∙ ap (λ (x : Status). answers (scene_at s q f) (Shown x)) (sym (shown_is h n there v status is.inode says)),
)
