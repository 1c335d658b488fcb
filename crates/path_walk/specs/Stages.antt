-- A walker on its way.
--     names_ahead        the components that it still has to look up
--     last_done        its last lookup
--     stage_of        what its walk answers, from there on
--     StandsAt        where it stands
--     bytes_ahead, HasRoom        a bound on its way
--     IsStart, HasTaken, IsNextOf, IsBehind, IsStep, IsWay, arrival_of        what its methods do
use Rattle.std.specs.Prelude.{◌≡◌, ℕ, ◌+◌, ◌-◌, ◌*◌, ◌<◌, ◌≤◌, ◌⊎◌, Bool, true, false, not, ◌&&◌, ◌||◌, List, [], ◌∷◌, ◌++◌, length, drop, None, Some, Result, Ok, Err}
use Rattle.fs_cred.specs.declared.refusal.Refusal.{Refusal}
use Rattle.fs_cred.specs.Credentials.{Credential}
use Rattle.fs_layout.specs.declared.geometry.Geometry.{Geometry}
use Rattle.fs_layout.specs.Bytes.{SectorMap}
use Rattle.fs_layout.specs.Images.{inode_at}
use Rattle.fs_model.specs.declared.walk.Form.{Form}
use Rattle.fs_model.specs.declared.walk.Found.{Found}
use Rattle.fs_model.specs.Parts.{slash, components_of, parts_of, start_of}
use Rattle.fs_model.specs.Limits.{links_limit}
use Rattle.fs_model.specs.Rules.{is_directory_kind}
use Rattle.fs_model.specs.Demands.{refuse}
use Rattle.fs_model.specs.Walks.{is_parent_form}
use Rattle.fs_cred.specs.declared.errno.Errno.TheVariants.{ENOTDIR}
use Rattle.sector_disk.specs.Disk.{DiskState}
use Rattle.fs_model.specs.Trails.{Lookup, trail_with}
use Rattle.fs_model.specs.Trees.{Tree, Room}
use Rattle.path_walk.specs.declared.walker.Walker.{Walker}
use Rattle.path_walk.specs.Answers.{refused_or, Interrupts}
use Rattle.path_walk.specs.HeldTrees.{IsThere}
use Rattle.path_walk.specs.Rests.{rest_of, found_at}

abbrev pub names_ahead : Walker → List (List ℕ)
names_ahead w = components_of (drop w.at w.rest.items)

abbrev pub last_done : Walker → Lookup
last_done w = record { dir_ino = w.dir_ino; name = w.name.items; fault = None }

-- what the walk answers, where these names are still to be looked up
abbrev pub stage_of : Room → Tree → Credential → Form → Bool → Walker → List (List ℕ) → Result Found Refusal
stage_of room t cred form follow w names =
    rest_of t cred w.number form w.step (last_done w) (trail_with room t follow w.links w.here names w.slash)

-- a walk has the inode at which it stands
pub record StandsAt (p : Geometry) (image : SectorMap) (w : Walker) : Type 0 where
  pub below : w.here < p.inodes
  pub inode : w.inode ≡ inode_at p image w.here

-- how many bytes it still has to walk
abbrev pub bytes_ahead : Walker → ℕ
bytes_ahead w = length w.rest.items - w.at

-- A path has at most 1,023 bytes. Each of 40 links adds at most 512 and a slash, so it never has 21,544 ahead.
pub record HasRoom (w : Walker) : Type 0 where
  pub at : w.at ≤ length w.rest.items
  pub ahead : bytes_ahead w + 513 * w.links < 21544
  pub steps : w.step + (bytes_ahead w + 21544 * w.links) < 21544 * 41

-- a walk is at the start of a path
pub record IsStart (cwd : ℕ) (path : List ℕ) (number : ℕ) (w : Walker) : Type 0 where
  pub number_is : w.number ≡ number
  pub here : w.here ≡ start_of (parts_of path) cwd
  pub rest : w.rest.items ≡ path
  pub at : w.at ≡ 0
  pub slash : w.slash ≡ (parts_of path).slash_at_end
  pub links : w.links ≡ links_limit
  pub step : w.step ≡ 0
  pub dir_ino : w.dir_ino ≡ w.here
  pub name : w.name.items ≡ []

-- the next component was taken, or there is none
pub record HasTaken (old new : Walker) : Type 0 where
  pub names : names_ahead old ≡ new.name.items ∷ names_ahead new
  pub later : old.at < new.at
  pub inside : new.at ≤ length new.rest.items
  pub is : new ≡ (record old { dir_ino = old.here; name = new.name; at = new.at })

abbrev pub IsNextOf : Walker → Walker → Bool → Type 0
IsNextOf old new true = HasTaken old new
IsNextOf old new false = (names_ahead old ≡ []) × (new ≡ old)

-- a walk goes on behind a link with this target
pub record IsBehind (target : List ℕ) (is_last : Bool) (old new : Walker) : Type 0 where
  pub here : new.here ≡ start_of (parts_of target) old.here
  pub rest : new.rest.items ≡ target ++ (slash ∷ drop old.at old.rest.items)
  pub links : new.links + 1 ≡ old.links
  pub slash_is : new.slash ≡ (old.slash || (is_last && (parts_of target).slash_at_end))
  pub is : new ≡ (record old { here = new.here; inode = new.inode; rest = new.rest; at = 0; slash = new.slash; links = new.links })

-- one lookup of the component that was taken: it goes on, or has found nothing, or is refused
abbrev pub IsStep : DiskState → DiskState → Room → Tree → Credential → Form → Bool → Walker → Walker → Result Bool Refusal → Type 0
IsStep disk disk' room t cred form follow old new (Ok true) =
    (stage_of room t cred form follow old (old.name.items ∷ names_ahead old) ≡ stage_of room t cred form follow new (names_ahead new)) × IsThere t new.here
IsStep disk disk' room t cred form follow old new (Ok false) =
    stage_of room t cred form follow old (old.name.items ∷ names_ahead old) ≡ Ok (found_at new.step (last_done new) None new.slash)
IsStep disk disk' room t cred form follow old new (Err e) =
    (stage_of room t cred form follow old (old.name.items ∷ names_ahead old) ≡ Err e) ⊎ Interrupts disk disk' e

-- one lookup more, with the same way ahead or behind one link more
pub record IsWay (old new : Walker) : Type 0 where
  pub number : new.number ≡ old.number
  pub step : new.step ≡ old.step + 1
  pub at : new.at ≤ length new.rest.items
  pub ahead : ((new.links ≡ old.links) × (bytes_ahead new ≡ bytes_ahead old))
      ⊎ ((new.links + 1 ≡ old.links) × (bytes_ahead new ≤ bytes_ahead old + 513))

-- what a walk answers at its end
abbrev pub arrival_of : Form → Walker → Result Found Refusal
arrival_of form w =
    refused_or (refuse ENOTDIR (not (is_parent_form form) && w.slash && not (is_directory_kind w.inode.kind)))
    (Ok (found_at w.step (last_done w) (Some w.here) w.slash))
