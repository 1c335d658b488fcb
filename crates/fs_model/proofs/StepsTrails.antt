-- The last lookup of a trail without a fault: in a directory, of a name that may stand there.
use Rattle.std.specs.Prelude.{◌≡◌, ℕ, zero, suc, ◌+◌, ◌≤◌, nat_lt, Bool, true, false, not, ◌&&◌, ◌||◌, cond, List, [], ◌∷◌, ◌++◌, length, Option, None, Some, is_some, IsTrue}
use Rattle.std.proofs.Common.{refl, sym, ap, arith, ◌∙◌}
use Rattle.std.proofs.lemmas.Bool.Decides.{nat_tests}
use Rattle.std.specs.List.{AllByRecursion}
use Rattle.fs_cred.specs.Credentials.{Credential}
use Rattle.fs_cred.specs.declared.errno.Errno.{Errno}
use Rattle.fs_cred.specs.declared.errno.Errno.TheVariants.{ENOTDIR, ENAMETOOLONG}
use Rattle.fs_model.specs.Limits.{links_limit}
use Rattle.fs_model.specs.Nodes.{Node, Body, File, Dir, Link, is_directory, names_of_body}
use Rattle.fs_model.specs.Trees.{Tree, Room, node_at, IsTree, IsTarget, IsBody}
use Rattle.fs_model.specs.Demands.{failed_with, search_on}
use Rattle.fs_model.specs.Parts.{parts_of, start_of, is_empty}
use Rattle.fs_model.specs.declared.walk.Form.{Form}
use Rattle.fs_model.specs.Trails.{follows_last, Lookup, Trail, Outcome, Faulty, Absent, Reaches, Through, GoesOn, reached_body, reached, named_inode, arrival, looked_up, through_if, onward, lookups_from, trail_with, trail_of}
use Rattle.fs_model.specs.Walks.{least_refusal, lookup_refusal}
use Rattle.fs_model.proofs.StepsDemands.{first_met, then_met}
use Rattle.fs_model.proofs.StepsComponents.{IsComponent, AreComponents, ArePathBytes, parts_are, components_append, target_bytes}

-- ---- faults

abbrev pub HaveNoFault : List Lookup → Type 0
HaveNoFault lookups = AllByRecursion (λ l. l.fault ≡ None) lookups

no_fault : (e : Option Errno) → failed_with e ≡ None → e ≡ None
no_fault None h = refl
no_fault (Some e) h = absurd cc

pub unrefused_walk : (cred : Credential) (t : Tree) (walk k : ℕ) (lookups : List Lookup) → least_refusal cred t walk k lookups ≡ None → HaveNoFault lookups
unrefused_walk cred t walk k [] h = tt
unrefused_walk cred t walk k (l ∷ lookups) h =
    let here = first_met (lookup_refusal cred t walk k l) (least_refusal cred t walk (k + 1) lookups) h in (
      no_fault l.fault (then_met (search_on cred t l.dir_ino walk k) (failed_with l.fault) here),
      unrefused_walk cred t walk (k + 1) lookups (then_met (lookup_refusal cred t walk k l) (least_refusal cred t walk (k + 1) lookups) h),
    )

-- ---- one lookup

-- the name was looked up in a directory, and led to this
pub record WasLookedUp (room : Room) (t : Tree) (dir_ino : ℕ) (name : List ℕ) (o : Option ℕ) : Type 0 where
  pub node : Node
  pub stands : node_at t dir_ino ≡ Some node
  pub directory : IsTrue (is_directory node.body)
  pub short : length name ≤ room.name_limit
  pub leads : named_inode t dir_ino (names_of_body node.body) name ≡ o

module _ (room : Room) (t : Tree) (is : IsTree room t) (follow : Bool) where
  abbrev LooksUp : Bool → ℕ → List ℕ → Outcome → Type 0
  LooksUp is_last dir_ino name (Faulty e) = Unit {0}
  LooksUp is_last dir_ino name Absent = WasLookedUp room t dir_ino name None
  LooksUp is_last dir_ino name (Reaches n) = WasLookedUp room t dir_ino name (Some n)
  LooksUp is_last dir_ino name (Through target) = (n : ℕ) × WasLookedUp room t dir_ino name (Some n) × IsTarget target × ((follow || not is_last) ≡ true)

  reaches_body : (is_last goes : Bool) (dir_ino : ℕ) (name : List ℕ) (n : ℕ) (b : Body) → goes ≡ (follow || not is_last) → IsBody room t b
      → WasLookedUp room t dir_ino name (Some n) → LooksUp is_last dir_ino name (reached_body goes n b)
  reaches_body is_last true dir_ino name n (File a bytes) e body was = was
  reaches_body is_last true dir_ino name n (Dir a d) e body was = was
  reaches_body is_last true dir_ino name n (Link target) e body was = (n, was, body, sym e)
  reaches_body is_last false dir_ino name n (File a bytes) e body was = was
  reaches_body is_last false dir_ino name n (Dir a d) e body was = was
  reaches_body is_last false dir_ino name n (Link target) e body was = was

  reaches_node : (is_last : Bool) (dir_ino : ℕ) (name : List ℕ) (n : ℕ) (o : Option Node) → node_at t n ≡ o
      → WasLookedUp room t dir_ino name (Some n) → LooksUp is_last dir_ino name (reached (follow || not is_last) n o)
  reaches_node is_last dir_ino name n None at was = was
  reaches_node is_last dir_ino name n (Some node) at was =
      reaches_body is_last (follow || not is_last) dir_ino name n node.body refl (is.each n node at).body was

  arrives : (is_last : Bool) (dir_ino : ℕ) (name : List ℕ) (o : Option ℕ) → WasLookedUp room t dir_ino name o
      → LooksUp is_last dir_ino name (arrival t is_last follow o)
  arrives true dir_ino name None was = was
  arrives false dir_ino name None was = tt
  arrives is_last dir_ino name (Some n) was = reaches_node is_last dir_ino name n (node_at t n) refl was

  looks_up : (is_last : Bool) (dir_ino : ℕ) (name : List ℕ) (o : Option Node) → node_at t dir_ino ≡ o
      → LooksUp is_last dir_ino name (looked_up room t is_last follow dir_ino name o)
  looks_up is_last dir_ino name None at = tt
  looks_up is_last dir_ino name (Some node) at = go (is_directory node.body) refl (nat_lt room.name_limit (length name)) refl
    where
      go : (directory : Bool) → is_directory node.body ≡ directory → (long : Bool) → nat_lt room.name_limit (length name) ≡ long
          → LooksUp is_last dir_ino name (cond (not directory) (Faulty ENOTDIR) (cond long (Faulty ENAMETOOLONG) (arrival t is_last follow (named_inode t dir_ino (names_of_body node.body) name))))
      go false d long l = tt
      go true d true l = tt
      go true d false l =
          arrives is_last dir_ino name (named_inode t dir_ino (names_of_body node.body) name)
          (record { node = node; stands = at; directory = d; short = grind (arith, nat_tests); leads = refl })

  -- ---- the last lookup

  -- where nothing was found, or where a final link isn't followed, it led to what was found
  pub record IsEnd (l : Lookup) (found : Option ℕ) : Type 0 where
    pub name : IsComponent l.name
    pub led : Option ℕ
    pub was : WasLookedUp room t l.dir_ino l.name led
    pub absent : found ≡ None → led ≡ None
    pub exact : follow ≡ false → led ≡ found

  abbrev pub EndsIn : List Lookup → Option ℕ → Type 0
  EndsIn [] found = IsTrue (is_some found)
  EndsIn (l ∷ []) found = IsEnd l found
  EndsIn (_ ∷ l ∷ lookups) found = EndsIn (l ∷ lookups) found

  end_after : (l : Lookup) (lookups : List Lookup) (found : Option ℕ) → (is_empty lookups ≡ true → IsEnd l found) → EndsIn lookups found
      → EndsIn (l ∷ lookups) found
  end_after l [] found here rest = here refl
  end_after l (m ∷ lookups) found here rest = rest

  -- how a trail goes on well: its last lookup is an end, and it looks nothing up where no names remain
  abbrev GoesWell : GoesOn → Type 0
  GoesWell go_on =
      (dir_ino : ℕ) (names : List (List ℕ)) (slash : Bool) → AreComponents names → HaveNoFault (go_on dir_ino names slash).lookups
      → EndsIn (go_on dir_ino names slash).lookups (go_on dir_ino names slash).found

  abbrev LooksUpAll : GoesOn → Type 0
  LooksUpAll go_on = (dir_ino : ℕ) (names : List (List ℕ)) (slash : Bool) → is_empty (go_on dir_ino names slash).lookups ≡ is_empty names

  abbrev IfGoes : (GoesOn → Type 0) → Option GoesOn → Type 0
  IfGoes P None = Unit {0}
  IfGoes P (Some go_on) = P go_on

  something : (behind : Option GoesOn) (rest : ℕ → Trail) (dir_ino : ℕ) (name : List ℕ) (names : List (List ℕ)) (slash : Bool) (o : Outcome)
      → is_empty (onward behind rest dir_ino name names slash o).lookups ≡ false
  something behind rest dir_ino name names slash (Faulty e) = refl
  something behind rest dir_ino name names slash Absent = refl
  something behind rest dir_ino name names slash (Reaches n) = refl
  something None rest dir_ino name names slash (Through target) = refl
  something (Some go_on) rest dir_ino name names slash (Through target) = refl

  pub all_looked_up : (behind : Option GoesOn) → LooksUpAll (lookups_from room t follow behind)
  all_looked_up behind dir_ino [] slash = refl
  all_looked_up behind dir_ino (name ∷ names) slash =
      something behind (λ n. lookups_from room t follow behind n names slash) dir_ino name names slash (looked_up room t (is_empty names) follow dir_ino name (node_at t dir_ino))

  not_empty_append : (xs ys : List (List ℕ)) → is_empty ys ≡ false → is_empty (xs ++ ys) ≡ false
  not_empty_append [] ys h = h
  not_empty_append (x ∷ xs) ys h = refl

  or_not : (a b : Bool) → (a || not b) ≡ true → a ≡ false → b ≡ false
  or_not true b h e = absurd cc
  or_not false true h e = absurd cc
  or_not false false h e = refl

  through_ends : (behind : Option GoesOn) (dir_ino : ℕ) (name : List ℕ) (names : List (List ℕ)) (slash : Bool) (target : List ℕ)
      → IfGoes GoesWell behind → IfGoes LooksUpAll behind → IsComponent name → AreComponents names → IsTarget target
      → (follow || not (is_empty names)) ≡ true → (o : Option ℕ) → WasLookedUp room t dir_ino name o
      → HaveNoFault (through_if behind dir_ino name names slash target).lookups
      → EndsIn (through_if behind dir_ino name names slash target).lookups (through_if behind dir_ino name names slash target).found
  through_ends None dir_ino name names slash target goes all is_name are is_target followed o was none = absurd (let h = none.0 in cc)
  through_ends (Some go_on) dir_ino name names slash target goes all is_name are is_target followed o was none =
      let parts = parts_of target in
      let from = start_of parts dir_ino in
      let ahead = parts.names ++ names in
      let at_end = slash || (is_empty names && parts.slash_at_end) in
      let good = components_append parts.names names (parts_are target (target_bytes target is_target)) are in
      let rest = go_on from ahead at_end in
      end_after (record { dir_ino = dir_ino; name = name; fault = None }) rest.lookups rest.found
      (λ empty. ended rest empty (goes from ahead at_end good none.1) (all from ahead at_end))
      (goes from ahead at_end good none.1)
    where
      -- where nothing is looked up behind the link, it was followed as the last name
      ended : (rest : Trail) → is_empty rest.lookups ≡ true → EndsIn rest.lookups rest.found
          → is_empty rest.lookups ≡ is_empty ((parts_of target).names ++ names) → IsEnd (record { dir_ino = dir_ino; name = name; fault = None }) rest.found
      ended rest empty ends same = record {
        name = is_name;
        led = o;
        was = was;
        absent = λ no_find. absurd (none_found rest.lookups rest.found empty ends no_find);
        exact = λ e. absurd (
            let some : is_empty names ≡ false = or_not follow (is_empty names) followed e in
            let ahead : is_empty ((parts_of target).names ++ names) ≡ false = not_empty_append (parts_of target).names names some in
            cc);
      }
        where
          none_found : (lookups : List Lookup) (found : Option ℕ) → is_empty lookups ≡ true → EndsIn lookups found → found ≡ None → ⊥
          none_found [] found empty there gone = let g : is_some found ≡ false = ap is_some gone in cc
          none_found (l ∷ lookups) found empty there gone = cc

  onward_ends : (behind : Option GoesOn) (rest : ℕ → Trail) (dir_ino : ℕ) (name : List ℕ) (names : List (List ℕ)) (slash : Bool) (o : Outcome)
      → IfGoes GoesWell behind → IfGoes LooksUpAll behind → IsComponent name → AreComponents names → LooksUp (is_empty names) dir_ino name o
      → ((n : ℕ) → HaveNoFault (rest n).lookups → EndsIn (rest n).lookups (rest n).found)
      → ((n : ℕ) → is_empty (rest n).lookups ≡ true → (rest n).found ≡ Some n)
      → HaveNoFault (onward behind rest dir_ino name names slash o).lookups
      → EndsIn (onward behind rest dir_ino name names slash o).lookups (onward behind rest dir_ino name names slash o).found
  onward_ends behind rest dir_ino name names slash (Faulty e) goes all is_name are was on last none = absurd (let h = none.0 in cc)
  onward_ends behind rest dir_ino name names slash Absent goes all is_name are was on last none =
      record { name = is_name; led = None; was = was; absent = λ e. refl; exact = λ e. refl }
  onward_ends behind rest dir_ino name names slash (Reaches n) goes all is_name are was on last none =
      end_after (record { dir_ino = dir_ino; name = name; fault = None }) (rest n).lookups (rest n).found
      (λ empty.
      let found : (rest n).found ≡ Some n = last n empty in
      record { name = is_name; led = Some n; was = was; absent = λ e. sym found ∙ e; exact = λ e. sym found })
      (on n none.1)
  onward_ends behind rest dir_ino name names slash (Through target) goes all is_name are was on last none =
      through_ends behind dir_ino name names slash target goes all is_name are was.2 was.3 (Some was.0) was.1 none

  names_end : (behind : Option GoesOn) → IfGoes GoesWell behind → IfGoes LooksUpAll behind → GoesWell (lookups_from room t follow behind)
  names_end behind goes all dir_ino [] slash are none = refl
  names_end behind goes all dir_ino (name ∷ names) slash are none =
      onward_ends behind (λ n. lookups_from room t follow behind n names slash) dir_ino name names slash
      (looked_up room t (is_empty names) follow dir_ino name (node_at t dir_ino)) goes all are.0 are.1
      (looks_up (is_empty names) dir_ino name (node_at t dir_ino) refl)
      (λ n clean. names_end behind goes all n names slash are.1 clean)
      (λ n empty. found_here names slash n empty)
      none
    where
      found_here : (names : List (List ℕ)) (slash : Bool) (n : ℕ) → is_empty (lookups_from room t follow behind n names slash).lookups ≡ true
          → (lookups_from room t follow behind n names slash).found ≡ Some n
      found_here [] slash n empty = refl
      found_here (x ∷ xs) slash n empty = absurd (let h = all_looked_up behind n (x ∷ xs) slash in cc)

  links_end : (links : ℕ) → GoesWell (trail_with room t follow links)
  links_end zero = names_end None tt tt
  links_end (suc links) = names_end (Some (trail_with room t follow links)) (links_end links) (looks_up_links links)
    where
      looks_up_links : (links : ℕ) → LooksUpAll (trail_with room t follow links)
      looks_up_links zero = all_looked_up None
      looks_up_links (suc links) = all_looked_up (Some (trail_with room t follow links))

-- the last lookup of a path's trail
pub trail_ends : (room : Room) (t : Tree) (is : IsTree room t) (cwd : ℕ) (form : Form) (path : List ℕ) → ArePathBytes path
    → HaveNoFault (trail_of room t cwd form path).lookups
    → EndsIn room t is (follows_last form (parts_of path)) (trail_of room t cwd form path).lookups (trail_of room t cwd form path).found
unfolding trail_of
trail_ends room t is cwd form path bytes none =
    let parts = parts_of path in
    links_end room t is (follows_last form parts) links_limit (start_of parts cwd) parts.names parts.slash_at_end (parts_are path bytes) none
