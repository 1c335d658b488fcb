-- The state of the abstract machine.
--     State        a tree, those who use it, how many data sectors are free, and the time
--     IsRoom        the room of a disk within our own limits
--     MayBeFree        our own bounds on the count of free sectors
--     IsState        what is true of every state
use Rattle.std.specs.Prelude.{◌≡◌, ◌≢◌, ℕ, ◌-◌, ◌^◌, ◌<◌, ◌≤◌, Bool, length, Some, IsTrue, IsFalse}
use Rattle.std.specs.Ordering.{nat_cmp}
use Rattle.fs_cred.specs.Credentials.{IsCredential}
use Rattle.fs_model.specs.Limits.{root, descriptors_limit, processes_limit}
use Rattle.fs_layout.specs.declared.version.Version.TheVariants.{Three}
use Rattle.fs_layout.specs.Version.{max_sectors, max_inodes}
use Rattle.fs_layout.specs.declared.slot.TheConstants.{MAX_NAME}
use Rattle.fs_layout.specs.Maps.{get, IsMap}
use Rattle.fs_model.specs.Nodes.{Node, is_link, is_directory}
use Rattle.fs_model.specs.Trees.{Tree, Room, node_at, names_of, sectors_needed, IsTree, IsDirectoryAt}
use Rattle.fs_model.specs.Processes.{ProcessTable, Process, Descriptor, Openings, users, is_open}

pub record State : Type 0 where
  pub room : Room
  pub tree : Tree
  pub processes : ProcessTable
  pub openings : Openings
  pub free : ℕ
  -- the time as it was told last
  pub now : ℕ
  pub halted : Bool

-- inodes and data sectors of the largest disk; the end of a file is an offset that lseek() can give; a name is at most as long as
-- in any version, and a file or a link may have one name, and no more than its inode can count
pub record IsRoom (room : Room) : Type 0 where
  pub inodes : room.inodes ≤ max_inodes Three
  pub sectors : room.sectors ≤ max_sectors Three
  pub file_limit : room.file_limit < 2 ^ 63
  pub name_limit : room.name_limit ≤ MAX_NAME
  pub some_names : 1 ≤ room.names_limit
  pub names_limit : room.names_limit < 2 ^ 32

-- at least what the tree, written without holes, leaves; at most all
pub record MayBeFree (room : Room) (t : Tree) (free : ℕ) : Type 0 where
  pub least : room.sectors - sectors_needed room t ≤ free
  pub most : free ≤ room.sectors

-- a descriptor is for a file or a directory that is there, and a directory isn't written
pub record IsDescriptor (t : Tree) (fd : ℕ) (d : Descriptor) : Type 0 where
  pub below : fd < descriptors_limit
  pub offset : d.offset < 2 ^ 64
  pub node : Node
  pub is_there : node_at t d.ino ≡ Some node
  pub no_link : IsFalse (is_link node.body)
  pub no_writes : IsTrue (is_directory node.body) → IsFalse d.write

pub record IsProcess (t : Tree) (p : Process) : Type 0 where
  pub cred : IsCredential p.cred
  pub umask : p.umask < 512
  pub cwd : IsDirectoryAt t p.cwd
  pub descriptors : IsMap nat_cmp p.descriptors
  pub each : (fd : ℕ) (d : Descriptor) → get nat_cmp p.descriptors fd ≡ Some d → IsDescriptor t fd d

-- processes and what actors have opened fit the tree, and what has no name is the root or is open
pub record FitsTree (t : Tree) (processes : ProcessTable) (openings : Openings) : Type 0 where
  pub each_process : (pid : ℕ) (p : Process) → get nat_cmp processes pid ≡ Some p → IsProcess t p
  pub each_opening : (handle : ℕ) (d : Descriptor) → get nat_cmp openings handle ≡ Some d → IsDescriptor t 0 d
  pub nameless : (n : ℕ) (node : Node) → node_at t n ≡ Some node → names_of t n ≡ 0 → n ≢ root → IsTrue (is_open (users processes openings) n)

pub record IsState (s : State) : Type 0 where
  pub room : IsRoom s.room
  pub tree : IsTree s.room s.tree
  pub pids : IsMap nat_cmp s.processes
  pub few : length s.processes ≤ processes_limit
  pub handles : IsMap nat_cmp s.openings
  pub free : MayBeFree s.room s.tree s.free
  pub now : s.now < 2 ^ 64
  pub processes : IsFalse s.halted → FitsTree s.tree s.processes s.openings
