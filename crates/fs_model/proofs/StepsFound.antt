-- What a walk that isn't refused has found: a name that is new in a directory, or one that stands there.
use Rattle.std.specs.Prelude.{◌≡◌, ℕ, ◌≤◌, ◌==◌, Bool, true, false, ◌||◌, cond, List, [], ◌∷◌, length, Option, None, Some, is_some, IsTrue}
use Rattle.std.proofs.Common.{refl, sym, ap, arith, ◌∙◌, subst}
use Rattle.std.specs.List.{list_any}
use Rattle.fs_cred.specs.Credentials.{Credential}
use Rattle.fs_layout.specs.declared.slot.TheConstants.{MAX_NAME}
use Rattle.fs_layout.specs.Bytes.{IsBytes}
use Rattle.fs_layout.specs.Directories.{IsName}
use Rattle.fs_layout.specs.Maps.{get, name_cmp}
use Rattle.fs_model.specs.Nodes.{Node, is_directory, names_of_body}
use Rattle.fs_model.specs.Trees.{Tree, Room, node_at, parent, IsTree}
use Rattle.fs_model.specs.Parts.{parts_of, start_of, is_empty}
use Rattle.fs_model.specs.declared.walk.Form.{Form}
use Rattle.fs_model.specs.declared.walk.Form.TheVariants.{Parent}
use Rattle.fs_model.specs.Trails.{Lookup, Trail, follows_last, is_dot, is_dot_dot, named_inode, trail_of}
use Rattle.fs_model.specs.declared.walk.Found.{Found}
use Rattle.fs_model.specs.declared.walk.Last.TheVariants.{Top, Dot, DotDot, Name}
use Rattle.fs_model.specs.Walks.{last_of_name, last_lookup, found_of, least_refusal, first_refusal, slash_refusal}
use Rattle.fs_model.specs.Scenes.{is_special, is_top, is_last_dot, is_last_dot_dot}
use Rattle.fs_model.specs.Steps.{trail_in, found_by}
use Rattle.fs_model.proofs.StepsDemands.{first_met}
use Rattle.fs_model.proofs.StepsComponents.{IsComponent, path_bytes, component_is_name}
use Rattle.fs_model.proofs.StepsTrails.{HaveNoFault, unrefused_walk, WasLookedUp, IsEnd, EndsIn, trail_ends}

-- a name in a directory, and what it leads to there
pub record IsNameAt (room : Room) (t : Tree) (dir_ino : ℕ) (name : List ℕ) (o : Option ℕ) : Type 0 where
  pub node : Node
  pub stands : node_at t dir_ino ≡ Some node
  pub directory : IsTrue (is_directory node.body)
  pub is_name : IsName name
  pub short : length name ≤ room.name_limit
  pub bytes : IsBytes name
  pub leads : get name_cmp (names_of_body node.body) name ≡ o

-- a name that isn't there is new; and the last name of a walk that ends before it leads to what was found
pub record IsWalked (room : Room) (t : Tree) (form : Form) (f : Found) : Type 0 where
  pub new : f.ino ≡ None → IsNameAt room t f.dir_ino f.name None
  pub old : form ≡ Parent → is_special f ≡ false → IsNameAt room t f.dir_ino f.name f.ino

-- ---- the last component

-- neither `.` nor `..`
other_number : (t : Tree) (dir_ino : ℕ) (names : List (List ℕ × ℕ)) (name : List ℕ) (o : Option ℕ) → is_dot name ≡ false → is_dot_dot name ≡ false
    → named_inode t dir_ino names name ≡ o → get name_cmp names name ≡ o
other_number t dir_ino names name o dot dots e =
    sym (ap (λ b. cond b (Some dir_ino) (cond (is_dot_dot name) (Some (parent t dir_ino)) (get name_cmp names name))) dot
    ∙ ap (λ b. cond b (Some (parent t dir_ino)) (get name_cmp names name)) dots) ∙ e

absent_dots : (t : Tree) (dir_ino : ℕ) (names : List (List ℕ × ℕ)) (name : List ℕ) → named_inode t dir_ino names name ≡ None
    → (is_dot name ≡ false) × (is_dot_dot name ≡ false)
absent_dots t dir_ino names name e = go (is_dot name) (is_dot_dot name) e
  where
    go : (a b : Bool) → cond a (Some dir_ino) (cond b (Some (parent t dir_ino)) (get name_cmp names name)) ≡ None → (a ≡ false) × (b ≡ false)
    go true b h = absurd cc
    go false true h = absurd cc
    go false false h = (refl, refl)

special_dots : (name : List ℕ) → (is_top (last_of_name name) || is_last_dot (last_of_name name) || is_last_dot_dot (last_of_name name)) ≡ false
    → (is_dot name ≡ false) × (is_dot_dot name ≡ false)
special_dots name h = go (is_dot name) (is_dot_dot name) h
  where
    go : (a b : Bool) → (is_top (cond a Dot (cond b DotDot Name)) || is_last_dot (cond a Dot (cond b DotDot Name)) || is_last_dot_dot (cond a Dot (cond b DotDot Name))) ≡ false
        → (a ≡ false) × (b ≡ false)
    go true b h = absurd cc
    go false true h = absurd cc
    go false false h = (refl, refl)

module _ (room : Room) (limit : room.name_limit ≤ MAX_NAME) (t : Tree) (is : IsTree room t) (follow : Bool) (start : ℕ) where
  -- the end is the last lookup
  last_absent : (lookups : List Lookup) (found : Option ℕ) → EndsIn room t is follow lookups found → found ≡ None
      → IsEnd room t is follow (last_lookup start lookups) found
  last_absent [] found ends none = absurd (let h : is_some found ≡ false = ap is_some none in cc)
  last_absent (l ∷ []) found ends none = ends
  last_absent (_ ∷ l ∷ lookups) found ends none = last_absent (l ∷ lookups) found ends none

  pub last_some : (lookups : List Lookup) (found : Option ℕ) → EndsIn room t is follow lookups found → is_empty lookups ≡ false
      → IsEnd room t is follow (last_lookup start lookups) found
  last_some [] found ends some = absurd cc
  last_some (l ∷ []) found ends some = ends
  last_some (_ ∷ l ∷ lookups) found ends some = last_some (l ∷ lookups) found ends refl

  name_at : (l : Lookup) (o : Option ℕ) → IsComponent l.name → WasLookedUp room t l.dir_ino l.name o → (is_dot l.name ≡ false) × (is_dot_dot l.name ≡ false)
      → IsNameAt room t l.dir_ino l.name o
  name_at l o component was dots = record {
    node = was.node;
    stands = was.stands;
    directory = was.directory;
    is_name = component_is_name l.name component (let few = was.short in omega (arith, few, limit)) dots.0 dots.1;
    short = was.short;
    bytes = component.bytes;
    leads = other_number t l.dir_ino (names_of_body was.node.body) l.name o dots.0 dots.1 was.leads;
  }

  new_at_end : (lookups : List Lookup) (found : Option ℕ) → EndsIn room t is follow lookups found → found ≡ None
      → IsNameAt room t (last_lookup start lookups).dir_ino (last_lookup start lookups).name None
  new_at_end lookups found ends none =
      let l = last_lookup start lookups in
      let end = last_absent lookups found ends none in
      let absent : end.led ≡ None = end.absent none in
      let was : WasLookedUp room t l.dir_ino l.name None = subst (WasLookedUp room t l.dir_ino l.name) absent end.was in
      name_at l None end.name was (absent_dots t l.dir_ino (names_of_body was.node.body) l.name was.leads)

  old_at_end : (lookups : List Lookup) (found : Option ℕ) → EndsIn room t is follow lookups found → follow ≡ false
      → (is_top (cond (is_empty lookups) Top (last_of_name (last_lookup start lookups).name))
      || is_last_dot (cond (is_empty lookups) Top (last_of_name (last_lookup start lookups).name))
      || is_last_dot_dot (cond (is_empty lookups) Top (last_of_name (last_lookup start lookups).name))) ≡ false
      → IsNameAt room t (last_lookup start lookups).dir_ino (last_lookup start lookups).name found
  old_at_end lookups found ends unfollowed special = go (is_empty lookups) refl special
    where
      go : (b : Bool) → is_empty lookups ≡ b
          → (is_top (cond b Top (last_of_name (last_lookup start lookups).name)) || is_last_dot (cond b Top (last_of_name (last_lookup start lookups).name))
          || is_last_dot_dot (cond b Top (last_of_name (last_lookup start lookups).name))) ≡ false
          → IsNameAt room t (last_lookup start lookups).dir_ino (last_lookup start lookups).name found
      go true empty h = absurd cc
      go false some h =
          let l = last_lookup start lookups in
          let end = last_some lookups found ends some in
          let was : WasLookedUp room t l.dir_ino l.name found = subst (WasLookedUp room t l.dir_ino l.name) (end.exact unfollowed) end.was in
          name_at l found end.name was (special_dots l.name h)

-- ---- a walk

parent_follows : (form : Form) (path : List ℕ) → form ≡ Parent → follows_last form (parts_of path) ≡ false
parent_follows form path e = ap (λ f. follows_last f (parts_of path)) e

pub walk_is_clean : (t : Tree) (cred : Credential) (k : ℕ) (form : Form) (trail : Trail) → first_refusal t cred k form trail ≡ None → HaveNoFault trail.lookups
unfolding first_refusal
walk_is_clean t cred k form trail h =
    unrefused_walk cred t k 0 trail.lookups (first_met (least_refusal cred t k 0 trail.lookups) (slash_refusal t form trail) h)

pub is_walked : (room : Room) → room.name_limit ≤ MAX_NAME
    → (t : Tree) (is : IsTree room t) (cred : Credential) (cwd k : ℕ) (walk : Form × List ℕ) → IsBytes walk.1
    → list_any (λ b. b == 0) walk.1 ≡ false → first_refusal t cred k walk.0 (trail_in room t cwd walk) ≡ None
    → IsWalked room t walk.0 (found_by room t cwd walk)
unfolding found_of
is_walked room limit t is cred cwd k walk bytes no_zero unrefused_it =
    let trail = trail_of room t cwd walk.0 walk.1 in
    let start = start_of (parts_of walk.1) cwd in
    let follow = follows_last walk.0 (parts_of walk.1) in
    let clean : HaveNoFault trail.lookups = walk_is_clean t cred k walk.0 trail unrefused_it in
    let ends = trail_ends room t is cwd walk.0 walk.1 (path_bytes walk.1 bytes no_zero) clean in
    record {
      new = λ none. new_at_end room limit t is follow start trail.lookups trail.found ends none;
      old = λ form special. old_at_end room limit t is follow start trail.lookups trail.found ends (parent_follows walk.0 walk.1 form) special;
    }
