-- What a trail is to a caller: refused, or something found. path_resolution(7), and our own order of refusals.
--     lookup_refusal, least_refusal        what one lookup refuses with; that of the least lookup that refuses
--     IsLeastRefusal        the lookup with the least number that refuses does so with this
--     first_refusal        the refusal of a walk
--     found_of        what it finds where nothing refuses
use Rattle.std.specs.Prelude.{ℕ, ◌+◌, ◌<◌, ◌≡◌, Bool, true, false, not, ◌&&◌, List, [], ◌∷◌, length, slice_get, if◌then◌else◌, Option, None, Some}
use Rattle.fs_cred.specs.declared.errno.Errno.TheVariants.{ENOTDIR}
use Rattle.fs_cred.specs.declared.refusal.Refusal.{Refusal}
use Rattle.fs_cred.specs.Credentials.{Credential}
use Rattle.fs_model.specs.declared.walk.Last.{Last}
use Rattle.fs_model.specs.declared.walk.Last.TheVariants.{Name, Dot, DotDot, Top}
use Rattle.fs_model.specs.declared.walk.Found.{Found}
use Rattle.fs_model.specs.Nodes.{Node, is_directory}
use Rattle.fs_model.specs.Trees.{Tree, node_at}
use Rattle.fs_model.specs.Demands.{Demand, refuse, or_else, failed_with, search_on}
use Rattle.fs_model.specs.Parts.{is_empty}
use Rattle.fs_model.specs.declared.walk.Form.{Form}
use Rattle.fs_model.specs.declared.walk.Form.TheVariants.{Parent}
use Rattle.fs_model.specs.Trails.{Lookup, Trail, is_dot, is_dot_dot}

-- what lookup k refuses with: its directory refuses search, or it has a fault. What is no directory has that
-- for its fault, and is asked nothing else.
abbrev pub lookup_refusal : Credential → Tree → ℕ → ℕ → Lookup → Demand
lookup_refusal cred t walk k l = or_else (search_on cred t l.dir_ino walk k) (failed_with l.fault)

-- the refusal of the least lookup that refuses; the first of the list has number k
abbrev pub least_refusal : Credential → Tree → ℕ → ℕ → List Lookup → Demand
least_refusal cred t walk k [] = None
least_refusal cred t walk k (l ∷ lookups) = or_else (lookup_refusal cred t walk k l) (least_refusal cred t walk (k + 1) lookups)

-- the lookup with the least number that refuses does so with r
pub record IsLeastRefusal (cred : Credential) (t : Tree) (walk : ℕ) (lookups : List Lookup) (r : Refusal) : Type 0 where
  pub number : ℕ
  pub lookup : Lookup
  pub is_there : slice_get lookups number ≡ Some lookup
  pub refuses : lookup_refusal cred t walk number lookup ≡ Some r
  pub none_before : (j : ℕ) (l : Lookup) → j < number → slice_get lookups j ≡ Some l → lookup_refusal cred t walk j l ≡ None

abbrev pub is_nondirectory_node : Option Node → Bool
is_nondirectory_node None = false
is_nondirectory_node (Some node) = not (is_directory node.body)

abbrev pub is_nondirectory : Tree → Option ℕ → Bool
is_nondirectory t None = false
is_nondirectory t (Some n) = is_nondirectory_node (node_at t n)

abbrev pub is_parent_form : Form → Bool
is_parent_form Parent = true
is_parent_form _ = false

-- a trail that ends in a slash leads to a directory: 4.13 (Pathname Resolution)
abbrev pub slash_refusal : Tree → Form → Trail → Demand
slash_refusal t form trail = refuse ENOTDIR (not (is_parent_form form) && trail.slash && is_nondirectory t trail.found)

-- the refusal of a walk
unfoldable pub first_refusal : Tree → Credential → ℕ → Form → Trail → Demand
first_refusal t cred walk form trail = or_else (least_refusal cred t walk 0 trail.lookups) (slash_refusal t form trail)

abbrev pub last_of_name : List ℕ → Last
last_of_name name = if is_dot name then Dot else (if is_dot_dot name then DotDot else Name)

abbrev pub last_lookup : ℕ → List Lookup → Lookup
last_lookup start [] = record { dir_ino = start; name = []; fault = None }
last_lookup start (l ∷ []) = l
last_lookup start (_ ∷ l ∷ lookups) = last_lookup start (l ∷ lookups)

-- the directory and the name of the last lookup, what was found, the slash, and how many lookups there were
unfoldable pub found_of : Trail → ℕ → Found
found_of trail start =
    let l = last_lookup start trail.lookups in
    record {
      dir_ino = l.dir_ino;
      name = l.name;
      last = if is_empty trail.lookups then Top else last_of_name l.name;
      ino = trail.found;
      slash = trail.slash;
      step = length trail.lookups;
    }
