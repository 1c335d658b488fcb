-- How a walk goes on after one lookup.
use Rattle.std.specs.Prelude.{◌≡◌, ◌≢◌, ℕ, zero, suc, ◌+◌, nat_lt, Bool, true, false, not, ◌&&◌, ◌||◌, cond, List, [], ◌∷◌, ◌++◌, length, if◌then◌else◌, Option, None, Some, Result, Ok, Err}
use Rattle.std.proofs.Common.{refl, sym, ap, arith, ◌∙◌}
use Rattle.fs_cred.specs.Credentials.{Credential}
use Rattle.fs_cred.specs.declared.errno.Errno.{Errno}
use Rattle.fs_cred.specs.declared.errno.Errno.TheVariants.{ENOENT, ENOTDIR, ENAMETOOLONG, ELOOP}
use Rattle.fs_cred.specs.declared.refusal.Refusal.{Refusal}
use Rattle.fs_cred.specs.declared.refusal.Refusal.TheVariants.{Failed}
use Rattle.fs_model.specs.declared.walk.Form.{Form}
use Rattle.fs_model.specs.declared.walk.Found.{Found}
use Rattle.fs_model.specs.Demands.{Demand, refuse, or_else, search_on}
use Rattle.fs_model.specs.Nodes.{Node, Body, File, Dir, Link, is_directory, names_of_body}
use Rattle.fs_model.specs.Parts.{parts_of, start_of, is_empty}
use Rattle.fs_model.specs.Trails.{Lookup, Trail, Outcome, Faulty, Absent, Reaches, Through, GoesOn, reached, reached_body, named_inode, arrival, looked_up, after_lookup, ends_at, through_if, onward, lookups_from, trail_with}
use Rattle.fs_model.specs.Trees.{Tree, Room, node_at}
use Rattle.fs_model.specs.Walks.{least_refusal, slash_refusal, is_parent_form, is_nondirectory}
use Rattle.path_walk.specs.Answers.{refused_or}
use Rattle.path_walk.specs.Lookups.{looked_up_alone, found_as, lookup_of}
use Rattle.path_walk.specs.Rests.{last_from, found_at, rest_of}

abbrev pub done : ℕ → List ℕ → Lookup
done dir_ino name = record { dir_ino = dir_ino; name = name; fault = None }

no_slash : (b : Bool) → refuse ENOTDIR (b && false) ≡ None
no_slash true = refl
no_slash false = refl

-- what a link leads to that isn't followed
by_body : (n : ℕ) (b : Body) → reached_body false n b ≡ Reaches n
by_body n (File a bytes) = refl
by_body n (Dir a d) = refl
by_body n (Link target) = refl

pub alone_reaches : (n : ℕ) (o : Option Node) → reached false n o ≡ Reaches n
alone_reaches n None = refl
alone_reaches n (Some node) = by_body n node.body

-- ---- one lookup and the rest
module _ (t : Tree) (cred : Credential) (walk : ℕ) (form : Form) where
  -- a lookup without a fault, and what comes after it
  goes_on : (k : ℕ) (m : Lookup) (dir_ino : ℕ) (name : List ℕ) (rest : Trail)
      → rest_of t cred walk form k m (after_lookup dir_ino name rest) ≡ refused_or (search_on cred t dir_ino walk k) (rest_of t cred walk form (k + 1) (done dir_ino name) rest)
  unfolding rest_of
  goes_on k m dir_ino name rest = go (search_on cred t dir_ino walk k)
    where
      more : k + length (done dir_ino name ∷ rest.lookups) ≡ k + 1 + length rest.lookups
      more = omega arith

      go : (d : Demand) → refused_or (or_else (or_else (or_else d None) (least_refusal cred t walk (k + 1) rest.lookups)) (slash_refusal t form rest))
          (Ok (found_at (k + length (done dir_ino name ∷ rest.lookups)) (last_from (done dir_ino name) rest.lookups) rest.found rest.slash))
          ≡ refused_or d (refused_or (or_else (least_refusal cred t walk (k + 1) rest.lookups) (slash_refusal t form rest))
          (Ok (found_at (k + 1 + length rest.lookups) (last_from (done dir_ino name) rest.lookups) rest.found rest.slash)))
      go (Some r) = refl
      go None =
          ap (λ (n : ℕ). refused_or (or_else (least_refusal cred t walk (k + 1) rest.lookups) (slash_refusal t form rest))
          (Ok (found_at n (last_from (done dir_ino name) rest.lookups) rest.found rest.slash))) more

  -- a lookup with a fault
  stops : (k : ℕ) (m : Lookup) (dir_ino : ℕ) (name : List ℕ) (e : Errno) (slash : Bool)
      → rest_of t cred walk form k m (ends_at dir_ino name (Some e) slash) ≡ refused_or (search_on cred t dir_ino walk k) (Err (Failed e))
  unfolding rest_of
  stops k m dir_ino name e slash = elim (search_on cred t dir_ino walk k) as (λ (d : Demand).
      refused_or (or_else (or_else (or_else d (Some (Failed e))) None) (slash_refusal t form (ends_at dir_ino name (Some e) slash)))
      (Ok (found_at (k + 1) (record { dir_ino = dir_ino; name = name; fault = Some e }) None slash)) ≡ refused_or d (Err (Failed e))) [ None ↦ refl | Some r ↦ refl ]

  -- the last one, without a find
  absent : (k : ℕ) (m : Lookup) (dir_ino : ℕ) (name : List ℕ) (slash : Bool)
      → rest_of t cred walk form k m (ends_at dir_ino name None slash) ≡ refused_or (search_on cred t dir_ino walk k) (Ok (found_at (k + 1) (done dir_ino name) None slash))
  unfolding rest_of
  absent k m dir_ino name slash = goes_on k m dir_ino name (record { lookups = []; found = None; slash = slash }) ∙ ap (refused_or (search_on cred t dir_ino walk k)) ended
    where
      ended : rest_of t cred walk form (k + 1) (done dir_ino name) (record { lookups = []; found = None; slash = slash }) ≡ Ok (found_at (k + 1) (done dir_ino name) None slash)
      ended =
          ap (λ (d : Demand). refused_or d (Ok (found_at (k + 1 + 0) (done dir_ino name) None slash))) (no_slash (not (is_parent_form form) && slash))
          ∙ ap (λ (n : ℕ). Ok (found_at n (done dir_ino name) None slash)) (omega arith)

  -- at the end of the names
  pub arrived : (k : ℕ) (m : Lookup) (here : ℕ) (slash : Bool)
      → rest_of t cred walk form k m (record { lookups = []; found = Some here; slash = slash })
      ≡ refused_or (refuse ENOTDIR (not (is_parent_form form) && slash && is_nondirectory t (Some here))) (Ok (found_at k m (Some here) slash))
  unfolding rest_of
  arrived k m here slash =
      ap (λ (n : ℕ). refused_or (refuse ENOTDIR (not (is_parent_form form) && slash && is_nondirectory t (Some here))) (Ok (found_at n m (Some here) slash)))
      (let none : k + 0 ≡ k = omega arith in none)

  -- ---- by what the lookup leads to

  -- behind a link, if one more may be followed
  abbrev pub behind : ℕ → List ℕ → List (List ℕ) → Bool → ℕ → Option GoesOn → List ℕ → Result Found Refusal
  behind dir_ino name names slash k None target = Err (Failed ELOOP)
  behind dir_ino name names slash k (Some go_on) target =
      rest_of t cred walk form (k + 1) (done dir_ino name)
      (go_on (start_of (parts_of target) dir_ino) ((parts_of target).names ++ names) (slash || (is_empty names && (parts_of target).slash_at_end)))

  abbrev pub after : ℕ → List ℕ → List (List ℕ) → Bool → ℕ → Option GoesOn → (ℕ → Trail) → Outcome → Result Found Refusal
  after dir_ino name names slash k links rest (Faulty e) = Err (Failed e)
  after dir_ino name names slash k links rest Absent = Ok (found_at (k + 1) (done dir_ino name) None slash)
  after dir_ino name names slash k links rest (Reaches n) = rest_of t cred walk form (k + 1) (done dir_ino name) (rest n)
  after dir_ino name names slash k links rest (Through target) = behind dir_ino name names slash k links target

  by_link : (k : ℕ) (m : Lookup) (links : Option GoesOn) (dir_ino : ℕ) (name : List ℕ) (names : List (List ℕ)) (slash : Bool) (target : List ℕ)
      → rest_of t cred walk form k m (through_if links dir_ino name names slash target)
      ≡ refused_or (search_on cred t dir_ino walk k) (behind dir_ino name names slash k links target)
  by_link k m None dir_ino name names slash target = stops k m dir_ino name ELOOP slash
  by_link k m (Some go_on) dir_ino name names slash target =
      goes_on k m dir_ino name
      (go_on (start_of (parts_of target) dir_ino) ((parts_of target).names ++ names) (slash || (is_empty names && (parts_of target).slash_at_end)))

  by_outcome : (k : ℕ) (m : Lookup) (links : Option GoesOn) (rest : ℕ → Trail) (dir_ino : ℕ) (name : List ℕ) (names : List (List ℕ)) (slash : Bool) (o : Outcome)
      → rest_of t cred walk form k m (onward links rest dir_ino name names slash o)
      ≡ refused_or (search_on cred t dir_ino walk k) (after dir_ino name names slash k links rest o)
  by_outcome k m links rest dir_ino name names slash (Faulty e) = stops k m dir_ino name e slash
  by_outcome k m links rest dir_ino name names slash Absent = absent k m dir_ino name slash
  by_outcome k m links rest dir_ino name names slash (Reaches n) = goes_on k m dir_ino name (rest n)
  by_outcome k m links rest dir_ino name names slash (Through target) = by_link k m links dir_ino name names slash target

  -- ---- a name alone, and with what comes after it
  abbrev pub widened : Bool → Bool → Outcome → Outcome
  widened is_last follow (Faulty e) = Faulty e
  widened is_last follow Absent = if is_last then Absent else Faulty ENOENT
  widened is_last follow (Reaches n) = reached (follow || not is_last) n (node_at t n)
  widened is_last follow (Through target) = Through target

  by_arrival : (is_last follow : Bool) (o : Option ℕ) → arrival t is_last follow o ≡ widened is_last follow (arrival t true false o)
  by_arrival is_last follow None = refl
  by_arrival is_last follow (Some n) = sym (ap (widened is_last follow) (alone_reaches n (node_at t n)))

  by_node : (room : Room) (is_last follow : Bool) (dir_ino : ℕ) (name : List ℕ) (o : Option Node)
      → looked_up room t is_last follow dir_ino name o ≡ widened is_last follow (looked_up room t true false dir_ino name o)
  by_node room is_last follow dir_ino name None = refl
  by_node room is_last follow dir_ino name (Some node) = go (is_directory node.body) (nat_lt room.name_limit (length name))
    where
      go : (directory long : Bool)
          → cond (not directory) (Faulty ENOTDIR) (cond long (Faulty ENAMETOOLONG) (arrival t is_last follow (named_inode t dir_ino (names_of_body node.body) name)))
          ≡ widened is_last follow (cond (not directory) (Faulty ENOTDIR) (cond long (Faulty ENAMETOOLONG) (arrival t true false (named_inode t dir_ino (names_of_body node.body) name))))
      go false long = refl
      go true true = refl
      go true false = by_arrival is_last follow (named_inode t dir_ino (names_of_body node.body) name)

  -- alone it never leads through a link
  is_arrival_through : (o : Option ℕ) (target : List ℕ) → arrival t true false o ≢ Through target
  is_arrival_through None target e = cc
  is_arrival_through (Some n) target e = let r : reached false n (node_at t n) ≡ Reaches n = alone_reaches n (node_at t n) in cc

  never_through : (room : Room) (dir_ino : ℕ) (name : List ℕ) (o : Option Node) (target : List ℕ) → looked_up room t true false dir_ino name o ≢ Through target
  never_through room dir_ino name None target e = cc
  never_through room dir_ino name (Some node) target e = go (is_directory node.body) (nat_lt room.name_limit (length name)) e
    where
      go : (directory long : Bool)
          → cond (not directory) (Faulty ENOTDIR) (cond long (Faulty ENAMETOOLONG) (arrival t true false (named_inode t dir_ino (names_of_body node.body) name))) ≡ Through target → ⊥
      go false long e = cc
      go true true e = cc
      go true false e = is_arrival_through (named_inode t dir_ino (names_of_body node.body) name) target e

  -- ---- the walk with so many links
  abbrev pub links_behind : Room → Bool → ℕ → Option GoesOn
  links_behind room follow zero = None
  links_behind room follow (suc links) = Some (trail_with room t follow links)

  pub with_links : (room : Room) (follow : Bool) (links : ℕ) → trail_with room t follow links ≡ lookups_from room t follow (links_behind room follow links)
  with_links room follow zero = refl
  with_links room follow (suc links) = refl

  module _ (room : Room) (follow : Bool) (links k : ℕ) (m : Lookup) (dir_ino : ℕ) (name : List ℕ) (names : List (List ℕ)) (slash : Bool) where
    abbrev whole : Result Found Refusal
    whole = rest_of t cred walk form k m (trail_with room t follow links dir_ino (name ∷ names) slash)

    abbrev rest : ℕ → Trail
    rest n = trail_with room t follow links n names slash

    abbrev then_after : Outcome → Result Found Refusal
    then_after o = after dir_ino name names slash k (links_behind room follow links) rest (widened (is_empty names) follow o)

    pub one_lookup : whole ≡ refused_or (search_on cred t dir_ino walk k) (then_after (looked_up_alone room t dir_ino name))
    one_lookup =
        ap (λ (go_on : GoesOn). rest_of t cred walk form k m (go_on dir_ino (name ∷ names) slash)) (with_links room follow links)
        ∙ by_outcome k m (links_behind room follow links) (λ n. lookups_from room t follow (links_behind room follow links) n names slash) dir_ino name names slash
        (looked_up room t (is_empty names) follow dir_ino name (node_at t dir_ino))
        ∙ ap (λ (o : Outcome). refused_or (search_on cred t dir_ino walk k)
        (after dir_ino name names slash k (links_behind room follow links) (λ n. lookups_from room t follow (links_behind room follow links) n names slash) o))
        (by_node room (is_empty names) follow dir_ino name (node_at t dir_ino))
        ∙ ap (λ (go_on : GoesOn). refused_or (search_on cred t dir_ino walk k)
        (after dir_ino name names slash k (links_behind room follow links) (λ n. go_on n names slash) (widened (is_empty names) follow (looked_up_alone room t dir_ino name))))
        (sym (with_links room follow links))

    -- the lookup is refused
    pub is_refused : (e : Refusal) → lookup_of room t cred walk k dir_ino name ≡ Err e → whole ≡ Err e
    is_refused e h = one_lookup ∙ go (search_on cred t dir_ino walk k) (looked_up_alone room t dir_ino name) (never_through room dir_ino name (node_at t dir_ino)) h
      where
        go : (d : Demand) (o : Outcome) → ((target : List ℕ) → o ≢ Through target) → refused_or d (found_as o) ≡ Err e → refused_or d (then_after o) ≡ Err e
        go (Some r) o never h = let same : r ≡ e = cc in ap (λ (x : Refusal). Err x) same
        go None (Faulty f) never h = let same : Failed f ≡ e = cc in ap (λ (x : Refusal). Err x) same
        go None Absent never h = absurd (cc)
        go None (Reaches n) never h = absurd (cc)
        go None (Through target) never h = absurd (never target refl)

    -- the name leads to nothing
    pub is_absent : lookup_of room t cred walk k dir_ino name ≡ Ok None
        → whole ≡ (if is_empty names then Ok (found_at (k + 1) (done dir_ino name) None slash) else Err (Failed ENOENT))
    is_absent h = one_lookup ∙ go (search_on cred t dir_ino walk k) (looked_up_alone room t dir_ino name) (never_through room dir_ino name (node_at t dir_ino)) h
      where
        last : (b : Bool) → after dir_ino name names slash k (links_behind room follow links) rest (if b then Absent else Faulty ENOENT)
            ≡ (if b then Ok (found_at (k + 1) (done dir_ino name) None slash) else Err (Failed ENOENT))
        last true = refl
        last false = refl

        go : (d : Demand) (o : Outcome) → ((target : List ℕ) → o ≢ Through target) → refused_or d (found_as o) ≡ Ok None
            → refused_or d (then_after o) ≡ (if is_empty names then Ok (found_at (k + 1) (done dir_ino name) None slash) else Err (Failed ENOENT))
        go (Some r) o never h = absurd (cc)
        go None (Faulty f) never h = absurd (cc)
        go None Absent never h = last (is_empty names)
        go None (Reaches n) never h = absurd (cc)
        go None (Through target) never h = absurd (never target refl)

    -- the name leads to inode n
    pub is_found : (n : ℕ) → lookup_of room t cred walk k dir_ino name ≡ Ok (Some n)
        → whole ≡ after dir_ino name names slash k (links_behind room follow links) rest (reached (follow || not (is_empty names)) n (node_at t n))
    is_found n h = one_lookup ∙ go (search_on cred t dir_ino walk k) (looked_up_alone room t dir_ino name) (never_through room dir_ino name (node_at t dir_ino)) h
      where
        go : (d : Demand) (o : Outcome) → ((target : List ℕ) → o ≢ Through target) → refused_or d (found_as o) ≡ Ok (Some n)
            → refused_or d (then_after o) ≡ then_after (Reaches n)
        go (Some r) o never h = absurd (cc)
        go None (Faulty f) never h = absurd (cc)
        go None Absent never h = absurd (cc)
        go None (Reaches j) never h = let same : j ≡ n = cc in ap (λ (x : ℕ). then_after (Reaches x)) same
        go None (Through target) never h = absurd (never target refl)
