-- The laws of the definitions, each the contract of a function.
use Rattle.std.specs.Prelude.{IsFalse, ◌≡◌, ◌≢◌, ℕ, ◌+◌, ◌-◌, ◌<◌, ◌≤◌, ◌==◌, length, nat_eq, nat_le, not, ◌&&◌, ◌||◌, List, slice_get, Option, Some, None, IsTrue, is_some, option_map, count_by}
use Rattle.std.specs.List.{range_with_len}
use Rattle.std.specs.Ordering.{nat_cmp}
use Rattle.fs_cred.specs.declared.errno.Errno.TheVariants.{EIO}
use Rattle.fs_cred.specs.declared.refusal.Refusal.{Refusal}
use Rattle.fs_cred.specs.declared.refusal.Refusal.TheVariants.{Failed}
use Rattle.fs_cred.specs.Credentials.{Credential}
use Rattle.fs_layout.specs.declared.inode.Inode.{Inode}
use Rattle.fs_layout.specs.declared.geometry.Geometry.{Geometry}
use Rattle.fs_layout.specs.declared.geometry.TheConstants.{COMMIT_SECTOR}
use Rattle.fs_layout.specs.declared.superblock.Super.{Super}
use Rattle.fs_layout.specs.declared.version.Version.{Version}
use Rattle.fs_layout.specs.Bytes.{SectorMap}
use Rattle.fs_layout.specs.Commit.{named_start, IsValidCommit, targets_in}
use Rattle.fs_layout.specs.Geometry.{the_geometry}
use Rattle.fs_layout.specs.Superblock.{super_bytes, FitsSuper, with_version}
use Rattle.fs_layout.specs.Version.{max_file_size, slot_size}
use Rattle.fs_layout.specs.Images.{bit, inode_at}
use Rattle.fs_layout.specs.InodeChanges.{ChangesInode}
use Rattle.fs_layout.specs.Ownership.{Agrees}
use Rattle.fs_layout.specs.Header.{header_of, log_end}
use Rattle.fs_layout.specs.Recovered.{recovered}
use Rattle.fs_model.specs.declared.event.Event.{Event}
use Rattle.fs_model.specs.declared.event.EventReply.TheVariants.{Reply as Replies}
use Rattle.fs_model.specs.declared.reply.Reply.TheVariants.{Done, Refused}
use Rattle.fs_model.specs.declared.reply.Reply.{Reply}
use Rattle.fs_model.specs.declared.reply.FileType.{FileType}
use Rattle.fs_layout.specs.Maps.{get, with_entry, IsMap}
use Rattle.fs_model.specs.Nodes.{Node, is_link, names_of_body, sectors_of, type_of, accessed}
use Rattle.fs_model.specs.Kinds.{kind_of_type, type_of_kind, access_kind}
use Rattle.fs_model.specs.Trees.{Tree, Room, node_at, with_node, names_of, parent, sectors_needed, free_inodes, IsTree, IsDirectoryAt}
use Rattle.fs_model.specs.Processes.{Process, ProcessTable, Openings, users, is_open}
use Rattle.fs_model.specs.TreeChanges.{pruned, swept}
use Rattle.fs_model.specs.States.{State, MayBeFree, FitsTree, IsState}
use Rattle.fs_model.specs.declared.walk.Form.{Form}
use Rattle.fs_model.specs.declared.walk.Form.TheVariants.{Follow}
use Rattle.fs_model.specs.Trails.{Lookup, trail_of}
use Rattle.fs_model.specs.Walks.{lookup_refusal, least_refusal, IsLeastRefusal, first_refusal}
use Rattle.fs_model.specs.Steps.{Step, Choice, firm_refusal, other_refusal, after}
use Rattle.fs_model.specs.Stops.{Machine, MachineStep, Stops, asks_stable}
use Rattle.fs_model.specs.Ranges.{IsEvent}
use Rattle.fs_model.specs.StoredNodes.{Placed, HoldsNode}
use Rattle.fs_model.specs.Stands.{HoldsPlaced, HoldsAll, placed, room_of, room_in, Stands}
use Rattle.fs_model.specs.NewDisk.{empty_tree, IsNewImage}
use Rattle.fs_model.specs.Rules.{HasWholeSectors, ObeysAll, IsFinding, is_directory_kind}
use Rattle.fs_model.specs.Summaries.{named_files, nameless_files, directories, links, is_file_kind, is_link_kind, is_used}

-- The lookups of a walk are refused by the least of them that refuses.
abbrev pub RefusesLeast : Type 0
RefusesLeast =
    (cred : Credential) (t : Tree) (walk : ℕ) (lookups : List Lookup) (r : Refusal)
    → least_refusal cred t walk 0 lookups ≡ Some r → IsLeastRefusal cred t walk lookups r

-- Where none of them is found to refuse, none does.
abbrev pub NoneRefuses : Type 0
NoneRefuses =
    (cred : Credential) (t : Tree) (walk : ℕ) (lookups : List Lookup) → least_refusal cred t walk 0 lookups ≡ None
    → (k : ℕ) (l : Lookup) → slice_get lookups k ≡ Some l → lookup_refusal cred t walk k l ≡ None

-- EIO is answered where the disk fails, and for nothing that a call demands: no walk is refused with it,
abbrev pub WalksRefuseOtherwise : Type 0
WalksRefuseOtherwise =
    (room : Room) (t : Tree) (cred : Credential) (walk cwd : ℕ) (form : Form) (path : List ℕ)
    → first_refusal t cred walk form (trail_of room t cwd form path) ≢ Some (Failed EIO)

-- no event early, where nothing stands in for the refusal,
abbrev pub FirmRefusesOtherwise : Type 0
FirmRefusesOtherwise = (s : State) (e : Event) → firm_refusal s e ≢ Some (Failed EIO)

-- and none late.
abbrev pub OtherRefusesOtherwise : Type 0
OtherRefusesOtherwise = (s : State) (e : Event) → other_refusal s e ≢ Some (Failed EIO)

-- Nor is it what an event answers where nothing refuses.
abbrev pub EffectsAnswerOtherwise : Type 0
EffectsAnswerOtherwise = (s : State) (e : Event) (choice : Choice) → (after s e choice).reply ≢ Refused (Failed EIO)

-- Without its nameless files a tree is a tree.
abbrev pub PruningKeeps : Type 0
PruningKeeps = (room : Room) (t : Tree) → IsTree room t → IsTree room (pruned t)

-- A step leads from states to states.
abbrev pub StepsKeep : Type 0
StepsKeep = (old new : State) (e : Event) (reply : Reply) → IsState old → IsEvent e → Step old e reply new → IsState new

-- A state whose users fit its tree has nothing to be dropped.
abbrev pub NothingToDrop : Type 0
NothingToDrop =
    (room : Room) (t : Tree) (processes : ProcessTable) (openings : Openings) → IsTree room t → FitsTree t processes openings
    → swept t (users processes openings) ≡ t

-- Nor is anything where others use it and each node that was open is still open.
abbrev pub OpenStays : Type 0
OpenStays =
    (room : Room) (t : Tree) (processes : ProcessTable) (openings : Openings) (new : ProcessTable) → IsTree room t → FitsTree t processes openings
    → ((n : ℕ) → IsTrue (is_open (users processes openings) n) → IsTrue (is_open new n)) → swept t new ≡ t

-- A process that is written back as it is leaves the table of processes as it is.
abbrev pub SameProcessStays : Type 0
SameProcessStays =
    (processes : ProcessTable) (pid : ℕ) (p : Process) → IsMap nat_cmp processes → get nat_cmp processes pid ≡ Some p
    → with_entry nat_cmp processes pid p ≡ processes

-- A node that is rewritten with the names that it had: a tree has as many nodes as before, each with as many names, in the
-- same directories, and needs more or fewer sectors by those of the node.
pub record IsRewritten (t u : Tree) (old new : Node) : Type 0 where
  pub count : length u ≡ length t
  pub names : (n : ℕ) → names_of u n ≡ names_of t n
  pub parents : (d : ℕ) → parent u d ≡ parent t d
  pub need : (room : Room) → sectors_needed room u + sectors_of room.slot_size old.body
      ≡ sectors_needed room t + sectors_of room.slot_size new.body

abbrev pub RewritingKeeps : Type 0
RewritingKeeps =
    (t : Tree) (n : ℕ) (old new : Node) → IsMap nat_cmp t → node_at t n ≡ Some old → names_of_body new.body ≡ names_of_body old.body
    → IsRewritten t (with_node t n new) old new

-- Where fsync or sync answers ok, a stop right after it leaves the present tree, pruned.
abbrev pub SyncingKeeps : Type 0
SyncingKeeps =
    (old new : Machine) (e : Event) (s : State) → IsTrue (asks_stable e) → MachineStep old e (Replies Done) new
    → Stops new s → s.tree ≡ pruned new.state.tree

-- An object has one kind, in whichever words. A type is had back from the kind of its inodes,
abbrev pub TypesComeBack : Type 0
TypesComeBack = (t : FileType) → type_of_kind (kind_of_type t) ≡ Some t

-- an inode has the kind of the node that it holds,
abbrev pub StoredKindsAgree : Type 0
StoredKindsAgree =
    (version : Version) (image : SectorMap) (v : Inode) (x : Placed) → HoldsNode version image v x
    → v.kind ≡ kind_of_type (type_of x.node.body)

-- and as a node of that kind access to it is decided, if at all.
abbrev pub AccessKindsAgree : Type 0
AccessKindsAgree = (node : Node) → option_map (λ n. n.kind) (accessed node) ≡ access_kind (type_of node.body)

-- An image stands for at most one tree, in one room, with one count of free sectors.
pub record AreSame (room room' : Room) (t t' : Tree) (free free' : ℕ) : Type 0 where
  pub rooms : room ≡ room'
  pub trees : t ≡ t'
  pub counts : free ≡ free'

abbrev pub StandsForOne : Type 0
StandsForOne =
    (sectors : ℕ) (image : SectorMap) (room room' : Room) (t t' : Tree) (free free' : ℕ)
    → Stands sectors image room t free → Stands sectors image room' t' free' → AreSame room room' t t' free free'

-- And that count is one that the machine allows: at most all data sectors, at least those that the tree doesn't need.
abbrev pub CountsFit : Type 0
CountsFit =
    (sectors : ℕ) (image : SectorMap) (room : Room) (t : Tree) (free : ℕ) → Stands sectors image room t free → MayBeFree room t free

-- On a disk of so many sectors two images say the same: superblock, commit sector, header and log sectors that a sealed commit
-- uses, and all sectors behind the log are alike.
pub record SaysSame (sectors : ℕ) (old new : SectorMap) : Type 0 where
  pub super : new 0 ≡ old 0
  pub commit : new COMMIT_SECTOR ≡ old COMMIT_SECTOR
  pub header : (k : ℕ) → k < header_of (old 0) → new (named_start old + k) ≡ old (named_start old + k)
  pub log : (k : ℕ) → k < length (targets_in sectors old)
      → new (named_start old + header_of (old 0) + k) ≡ old (named_start old + header_of (old 0) + k)
  pub others : (s : ℕ) → log_end (header_of (old 0)) ≤ s → s < sectors → new s ≡ old s

-- Then they stand for the same.
abbrev pub StandingRests : Type 0
StandingRests =
    (sectors : ℕ) (old new : SectorMap) (room : Room) (t : Tree) (free : ℕ) → SaysSame sectors old new
    → Stands sectors old room t free → Stands sectors new room t free

-- On a disk of so many sectors, whose parts lie so, the commit sector is valid, and after recovery two images read alike:
-- the superblock, the tables, and the data sectors that are used.
pub record ReadsAlike (sectors : ℕ) (p : Geometry) (old new : SectorMap) : Type 0 where
  pub commit : IsValidCommit sectors new
  pub super : recovered sectors new 0 ≡ recovered sectors old 0
  pub rest : Agrees p (recovered sectors old) (recovered sectors new)

-- Then too, whatever commit and log sectors they have.
abbrev pub StandingRestsOnReading : Type 0
StandingRestsOnReading =
    (sectors : ℕ) (old new : SectorMap) (room : Room) (t : Tree) (free : ℕ) → (stands : Stands sectors old room t free)
    → ReadsAlike sectors stands.geometry old new → Stands sectors new room t free

-- The superblock of the new image says another version, whose files may be as large, and whose slots take as many bytes; else the
-- two are alike. Versions with such slots have names as long, and as many of them, the same disks, and both keep times or neither does.
pub record IsInVersion (version : Version) (sectors : ℕ) (old new : SectorMap) (super : Super) : Type 0 where
  pub was : old 0 ≡ super_bytes super
  pub fits : FitsSuper super
  pub says : new 0 ≡ super_bytes (with_version version super)
  pub larger : max_file_size super.version ≤ max_file_size version
  pub slots : slot_size super.version ≡ slot_size version
  pub others : (s : ℕ) → 1 ≤ s → s < sectors → new s ≡ old s

-- Then the new one stands for the same tree, in a room of larger files.
abbrev pub StandsInVersion : Type 0
StandsInVersion =
    (version : Version) (sectors : ℕ) (old new : SectorMap) (super : Super) (room : Room) (t : Tree) (free : ℕ)
    → Stands sectors old room t free → IsInVersion version sectors old new super → Stands sectors new (room_in version room) t free

-- What a path leads to is in the tree.
abbrev pub FindsAreThere : Type 0
FindsAreThere =
    (room : Room) (t : Tree) (cwd n : ℕ) (form : Form) (path : List ℕ) → IsTree room t → IsTrue (is_some (node_at t cwd))
    → (trail_of room t cwd form path).found ≡ Some n → IsTrue (is_some (node_at t n))

-- Where a link at the end of a path is followed, what is found is none.
abbrev pub FollowedAreNoLinks : Type 0
FollowedAreNoLinks =
    (room : Room) (t : Tree) (cwd n : ℕ) (path : List ℕ) (node : Node) → IsTree room t → IsDirectoryAt t cwd
    → (trail_of room t cwd Follow path).found ≡ Some n → node_at t n ≡ Some node → IsFalse (is_link node.body)

-- One inode changes with what it owns, and holds what it is to hold then; all others are to hold what they held.
pub record OneIsPlaced (p : Geometry) (n : ℕ) (new : SectorMap) (what then : ℕ → Option Placed) : Type 0 where
  pub below : n < p.inodes
  pub here : HoldsPlaced p new n (then n)
  pub marked : bit new p.inode_bitmap n ≡ (nat_eq n 0 || nat_le p.inodes n || is_some (then n))
  pub others : (m : ℕ) → m ≢ n → then m ≡ what m

-- Then all hold what they are to hold.
abbrev pub OneNodeChanges : Type 0
OneNodeChanges =
    (p : Geometry) (n : ℕ) (old new : SectorMap) (what then : ℕ → Option Placed) → HoldsAll p old what
    → ChangesInode p n old new → OneIsPlaced p n new what then → HoldsAll p new then

-- A new disk stands for the tree of an empty root, and all its data sectors are free.
abbrev pub NewDiskStands : Type 0
NewDiskStands =
    (p : Geometry) (image : SectorMap) → IsNewImage p image
    → Stands p.sectors image (room_of p) empty_tree (p.sectors - p.first_data)

-- Each disk that has a geometry has such an image,
abbrev pub NewImagesExist : Type 0
NewImagesExist = (p : Geometry) → the_geometry p.version p.sectors p.inodes ≡ Some p → (image : SectorMap) × IsNewImage p image

-- and so there is an image that stands for a tree.
abbrev pub SomeImageStands : Type 0
SomeImageStands =
    (sectors : ℕ) × (image : SectorMap) × (room : Room) × (t : Tree) × (free : ℕ) × Stands sectors image room t free

-- An image of whole sectors that obeys all rules of the checker stands for a tree,
abbrev pub ObeyingStands : Type 0
ObeyingStands =
    (sectors : ℕ) (image : SectorMap) → HasWholeSectors sectors image → ObeysAll sectors image
    → (room : Room) × (t : Tree) × (free : ℕ) × Stands sectors image room t free

-- and an image that stands for a tree obeys them.
abbrev pub StandingObeys : Type 0
StandingObeys = (sectors : ℕ) (image : SectorMap) (room : Room) (t : Tree) (free : ℕ) → Stands sectors image room t free → ObeysAll sectors image

-- An image has at most one finding,
abbrev pub OneFinding : Type 0
OneFinding =
    (sectors : ℕ) (image : SectorMap) (k l i j : ℕ) → IsFinding sectors image k i → IsFinding sectors image l j → (k ≡ l) × (i ≡ j)

-- and one that has a finding stands for no tree.
abbrev pub FindingRefuses : Type 0
FindingRefuses =
    (sectors : ℕ) (image : SectorMap) (k i : ℕ) (room : Room) (t : Tree) (free : ℕ) → IsFinding sectors image k i
    → Stands sectors image room t free → ⊥

-- The numbers of a tree that a disk with this geometry holds: its named and nameless files, directories, links, and all its
-- nodes, as counts over the inodes.
pub record CountsInodes (p : Geometry) (image : SectorMap) (t : Tree) : Type 0 where
  pub files : named_files t ≡ count_by (λ n. is_file_kind (inode_at p image n).kind && not ((inode_at p image n).names == 0)) (range_with_len 0 p.inodes)
  pub nameless : nameless_files t ≡ count_by (λ n. is_file_kind (inode_at p image n).kind && (inode_at p image n).names == 0) (range_with_len 0 p.inodes)
  pub directories : directories t ≡ count_by (λ n. is_directory_kind (inode_at p image n).kind) (range_with_len 0 p.inodes)
  pub links : links t ≡ count_by (λ n. is_link_kind (inode_at p image n).kind) (range_with_len 0 p.inodes)
  pub nodes : length t ≡ count_by (λ n. is_used (inode_at p image n).kind) (range_with_len 0 p.inodes)

abbrev pub NumbersAreCounts : Type 0
NumbersAreCounts = (p : Geometry) (image : SectorMap) (t : Tree) → HoldsAll p image (placed t) → IsTree (room_of p) t → CountsInodes p image t

-- The inodes that are free are the clear bits of the inode bitmap, below the number of inodes.
abbrev pub FreeAreClear : Type 0
FreeAreClear =
    (p : Geometry) (image : SectorMap) (t : Tree) → HoldsAll p image (placed t) → IsTree (room_of p) t
    → free_inodes (room_of p) t ≡ count_by (λ n. not (bit image p.inode_bitmap n)) (range_with_len 0 p.inodes)
