-- What a walker does, in the words of the walk.
use Rattle.std.specs.Prelude.{◌≡◌, ℕ, suc, ◌+◌, ◌≤◌, nat_eq, Bool, true, false, not, ◌&&◌, ◌||◌, List, [], ◌∷◌, ◌++◌, length, drop, if◌then◌else◌, Option, None, Some, Result, Ok, Err}
use Rattle.std.proofs.Common.{refl, sym, ap, subst, arith, ◌∙◌}
use Rattle.std.proofs.lemmas.Bool.Decides.{nat_tests}
use Rattle.fs_cred.specs.Credentials.{Credential}
use Rattle.fs_cred.specs.declared.errno.Errno.TheVariants.{ENOENT, ENOTDIR, ELOOP}
use Rattle.fs_cred.specs.declared.refusal.Refusal.{Refusal}
use Rattle.fs_cred.specs.declared.refusal.Refusal.TheVariants.{Failed}
use Rattle.fs_layout.specs.declared.inode.Inode.{Inode}
use Rattle.fs_layout.specs.declared.geometry.Geometry.{Geometry}
use Rattle.fs_layout.specs.declared.version.Version.{Version}
use Rattle.fs_layout.specs.Bytes.{SectorMap}
use Rattle.fs_layout.specs.Images.{inode_at, Holds}
use Rattle.fs_model.specs.declared.walk.Form.{Form}
use Rattle.fs_model.specs.declared.walk.Found.{Found}
use Rattle.fs_model.specs.declared.walk.Last.TheVariants.{Top}
use Rattle.fs_model.specs.Limits.{links_limit}
use Rattle.fs_model.specs.Demands.{refuse, or_else}
use Rattle.fs_model.specs.Nodes.{Body, File, Dir, Link, is_link}
use Rattle.fs_model.specs.Parts.{parts_of, start_of, is_empty, components_of, slash}
use Rattle.fs_model.specs.Rules.{is_directory_kind}
use Rattle.fs_model.specs.Trails.{Lookup, Trail, GoesOn, Through, Reaches, reached, reached_body, follows_last, trail_with, trail_of}
use Rattle.fs_model.specs.Trees.{Tree, Room, node_at, IsBody, IsTarget}
use Rattle.fs_model.specs.Stands.{room_of}
use Rattle.fs_model.specs.StoredNodes.{HoldsBody}
use Rattle.fs_model.specs.Summaries.{is_link_kind}
use Rattle.fs_model.specs.Walks.{first_refusal, least_refusal, slash_refusal, last_lookup, last_of_name, found_of, is_nondirectory, is_nondirectory_node, is_parent_form}
use Rattle.path_walk.specs.declared.walker.Walker.{Walker}
use Rattle.path_walk.specs.Answers.{refused_or}
use Rattle.path_walk.specs.HeldTrees.{HoldsTree, IsThere}
use Rattle.path_walk.specs.Lookups.{lookup_of}
use Rattle.path_walk.specs.Rests.{last_from, found_at, rest_of}
use Rattle.path_walk.specs.Stages.{names_ahead, last_done, stage_of, StandsAt, IsStart, HasTaken, IsBehind, arrival_of}
use Rattle.path_walk.specs.Walked.{walk_of}
use Rattle.path_walk.proofs.Cutting.{components_joined}
use Rattle.path_walk.proofs.HeldNodes.{Stands, stands, held_kind, held_node, held_target}
use Rattle.path_walk.proofs.Onward.{done, arrived, behind, after, links_behind, with_links, one_lookup, is_refused, is_absent, is_found}

-- ---- the start
last_is : (start : ℕ) (lookups : List Lookup) → last_lookup start lookups ≡ last_from (done start []) lookups
last_is start [] = refl
last_is start (l ∷ []) = refl
last_is start (k ∷ l ∷ lookups) = last_is start (l ∷ lookups)

none_done : (lookups : List Lookup) → is_empty lookups ≡ nat_eq (0 + length lookups) 0
none_done [] = refl
none_done (l ∷ lookups) = let e : nat_eq (0 + length (l ∷ lookups)) 0 ≡ false = grind (arith, nat_tests) in sym e

module _ (t : Tree) (cred : Credential) (number : ℕ) (form : Form) where
  started : (start : ℕ) (trail : Trail)
      → refused_or (first_refusal t cred number form trail) (Ok (found_of trail start)) ≡ rest_of t cred number form 0 (done start []) trail
  unfolding first_refusal found_of rest_of
  started start trail =
      let found : Lookup → Bool → ℕ → Result Found Refusal = λ l none n. refused_or (or_else (least_refusal cred t number 0 trail.lookups) (slash_refusal t form trail))
      (Ok (record {
        dir_ino = l.dir_ino;
        name = l.name;
        last = if none then Top else last_of_name l.name;
        ino = trail.found;
        slash = trail.slash;
        step = n;
      })) in
      ap (λ (l : Lookup). found l (is_empty trail.lookups) (length trail.lookups)) (last_is start trail.lookups)
      ∙ ap (λ (b : Bool). found (last_from (done start []) trail.lookups) b (length trail.lookups)) (none_done trail.lookups)
      ∙ ap (λ (n : ℕ). found (last_from (done start []) trail.lookups) (nat_eq (0 + length trail.lookups) 0) n)
      (let same : length trail.lookups ≡ 0 + length trail.lookups = omega arith in same)

same_rest : (room : Room) (t : Tree) (cred : Credential) (form : Form) {n n' k k' l l' h h' : ℕ} {m m' : Lookup} {f f' s s' : Bool} {ns ns' : List (List ℕ)}
    → n ≡ n' → k ≡ k' → m ≡ m' → f ≡ f' → l ≡ l' → h ≡ h' → ns ≡ ns' → s ≡ s'
    → rest_of t cred n form k m (trail_with room t f l h ns s) ≡ rest_of t cred n' form k' m' (trail_with room t f' l' h' ns' s')
same_rest room t cred form a b c d e f g h = cc

module _ (room : Room) (t : Tree) (cred : Credential) (form : Form) where
  -- at the start its walk is the whole one
  pub start_stage : (number cwd : ℕ) (path : List ℕ) (follow : Bool) (w : Walker) → IsStart cwd path number w → follow ≡ follows_last form (parts_of path)
      → walk_of room t cred number form cwd path ≡ stage_of room t cred form follow w (names_ahead w)
  unfolding trail_of
  start_stage number cwd path follow w start is =
      let from : ℕ = start_of (parts_of path) cwd in
      let last : done from [] ≡ last_done w = ap (λ (d : ℕ). done d []) (sym start.here ∙ sym start.dir_ino) ∙ ap (done w.dir_ino) (sym start.name) in
      let names : components_of path ≡ names_ahead w = ap components_of (sym start.rest) ∙ ap (λ (n : ℕ). components_of (drop n w.rest.items)) (sym start.at) in
      started t cred number form from (trail_with room t (follows_last form (parts_of path)) links_limit from (components_of path) (parts_of path).slash_at_end)
      ∙ same_rest room t cred form (sym start.number_is) (sym start.step) last (sym is) (sym start.links) (sym start.here) names (sym start.slash)

  -- a component is taken
  any_last : (number : ℕ) (follow : Bool) (links k : ℕ) (m m' : Lookup) (dir_ino : ℕ) (name : List ℕ) (names : List (List ℕ)) (slash : Bool)
      → rest_of t cred number form k m (trail_with room t follow links dir_ino (name ∷ names) slash)
      ≡ rest_of t cred number form k m' (trail_with room t follow links dir_ino (name ∷ names) slash)
  any_last number follow links k m m' dir_ino name names slash =
      one_lookup t cred number form room follow links k m dir_ino name names slash ∙ sym (one_lookup t cred number form room follow links k m' dir_ino name names slash)

  pub taken_stage : (follow : Bool) (old new : Walker) → HasTaken old new
      → stage_of room t cred form follow old (names_ahead old) ≡ stage_of room t cred form follow new (new.name.items ∷ names_ahead new)
  taken_stage follow old new taken =
      let is = taken.is in
      same_rest room t cred form (sym (ap (λ (w : Walker). w.number) is)) (sym (ap (λ (w : Walker). w.step) is)) refl refl (sym (ap (λ (w : Walker). w.links) is))
      (sym (ap (λ (w : Walker). w.here) is)) taken.names (sym (ap (λ (w : Walker). w.slash) is))
      ∙ any_last new.number follow new.links new.step (last_done old) (last_done new) new.here new.name.items (names_ahead new) new.slash

  -- no component is left
  pub end_stage : (p : Geometry) (image : SectorMap) (follow : Bool) (w : Walker) → HoldsTree p image t → StandsAt p image w → IsThere t w.here → names_ahead w ≡ []
      → stage_of room t cred form follow w (names_ahead w) ≡ arrival_of form w
  end_stage p image follow w h at there none =
      let s = stands t w.here there in
      let kind : is_nondirectory t (Some w.here) ≡ not (is_directory_kind w.inode.kind) =
      ap is_nondirectory_node s.at ∙ ap not (sym (held_kind h w.here s.node s.at)) ∙ ap (λ (v : Inode). not (is_directory_kind v.kind)) (sym at.inode) in
      ap (stage_of room t cred form follow w) none
      ∙ ap (λ (go_on : GoesOn). rest_of t cred w.number form w.step (last_done w) (go_on w.here [] w.slash)) (with_links t cred w.number form room follow w.links)
      ∙ arrived t cred w.number form w.step (last_done w) w.here w.slash
      ∙ ap (λ (b : Bool). refused_or (refuse ENOTDIR (not (is_parent_form form) && w.slash && b)) (Ok (found_at w.step (last_done w) (Some w.here) w.slash))) kind

  -- ---- a lookup
  module _ (follow : Bool) (w : Walker) (taken : w.dir_ino ≡ w.here) where
    abbrev stage : Result Found Refusal
    stage = stage_of room t cred form follow w (w.name.items ∷ names_ahead w)

    abbrev answer : Result (Option ℕ) Refusal
    answer = lookup_of room t cred w.number w.step w.here w.name.items

    pub refused_stage : (e : Refusal) → answer ≡ Err e → stage ≡ Err e
    refused_stage e a = is_refused t cred w.number form room follow w.links w.step (last_done w) w.here w.name.items (names_ahead w) w.slash e a

    absent_stage : answer ≡ Ok None
        → stage ≡ (if is_empty (names_ahead w) then Ok (found_at (w.step + 1) (done w.here w.name.items) None w.slash) else Err (Failed ENOENT))
    absent_stage a = is_absent t cred w.number form room follow w.links w.step (last_done w) w.here w.name.items (names_ahead w) w.slash a

    pub lost_stage : answer ≡ Ok None → is_empty (names_ahead w) ≡ false → stage ≡ Err (Failed ENOENT)
    lost_stage a more =
        absent_stage a ∙ ap (λ (b : Bool). if b then Ok (found_at (w.step + 1) (done w.here w.name.items) None w.slash) else Err (Failed ENOENT)) more

    pub none_stage : answer ≡ Ok None → is_empty (names_ahead w) ≡ true → (new : Walker) → new ≡ (record w { step = w.step + 1 })
        → stage ≡ Ok (found_at new.step (last_done new) None new.slash)
    none_stage a last new is =
        absent_stage a
        ∙ ap (λ (b : Bool). if b then Ok (found_at (w.step + 1) (done w.here w.name.items) None w.slash) else Err (Failed ENOENT)) last
        ∙ ap (λ (d : ℕ). Ok (found_at (w.step + 1) (done d w.name.items) None w.slash)) (sym taken)
        ∙ ap (λ (v : Walker). Ok (found_at v.step (last_done v) None v.slash)) (sym is)

    module _ (n : ℕ) (a : answer ≡ Ok (Some n)) where
      -- the walk stands at what was found
      pub moved_stage : reached (follow || not (is_empty (names_ahead w))) n (node_at t n) ≡ Reaches n → (new : Walker) → (v : Inode)
          → new ≡ (record w { step = w.step + 1; here = n; inode = v }) → stage ≡ stage_of room t cred form follow new (names_ahead new)
      moved_stage r new v is =
          is_found t cred w.number form room follow w.links w.step (last_done w) w.here w.name.items (names_ahead w) w.slash n a
          ∙ ap (after t cred w.number form w.here w.name.items (names_ahead w) w.slash w.step (links_behind t cred w.number form room follow w.links)
          (λ j. trail_with room t follow w.links j (names_ahead w) w.slash)) r
          ∙ ap (λ (d : ℕ). rest_of t cred w.number form (w.step + 1) (done d w.name.items) (trail_with room t follow w.links n (names_ahead w) w.slash)) (sym taken)
          ∙ ap (λ (u : Walker). stage_of room t cred form follow u (names_ahead u)) (sym is)

      -- what was found is a link to be followed
      module _ (target : List ℕ) (r : reached (follow || not (is_empty (names_ahead w))) n (node_at t n) ≡ Through target) where
        link_stage : stage ≡ behind t cred w.number form w.here w.name.items (names_ahead w) w.slash w.step (links_behind t cred w.number form room follow w.links) target
        link_stage =
            is_found t cred w.number form room follow w.links w.step (last_done w) w.here w.name.items (names_ahead w) w.slash n a
            ∙ ap (after t cred w.number form w.here w.name.items (names_ahead w) w.slash w.step (links_behind t cred w.number form room follow w.links)
            (λ j. trail_with room t follow w.links j (names_ahead w) w.slash)) r

        pub looped_stage : w.links ≡ 0 → stage ≡ Err (Failed ELOOP)
        looped_stage none =
            link_stage
            ∙ ap (λ (l : ℕ). behind t cred w.number form w.here w.name.items (names_ahead w) w.slash w.step (links_behind t cred w.number form room follow l) target) none

        pub behind_stage : (mid new : Walker) → mid ≡ (record w { step = w.step + 1 }) → IsBehind target (is_empty (names_ahead w)) mid new
            → stage ≡ stage_of room t cred form follow new (names_ahead new)
        behind_stage mid new is b =
            let links : w.links ≡ suc new.links = sym (ap (λ (v : Walker). v.links) is) ∙ sym b.links ∙ omega arith in
            let here : start_of (parts_of target) w.here ≡ new.here =
            ap (λ (v : Walker). start_of (parts_of target) v.here) (sym is) ∙ sym b.here in
            let rest : target ++ (slash ∷ drop w.at w.rest.items) ≡ new.rest.items =
            ap (λ (v : Walker). target ++ (slash ∷ drop v.at v.rest.items)) (sym is) ∙ sym b.rest in
            let names : components_of target ++ names_ahead w ≡ names_ahead new =
            sym (components_joined target (drop w.at w.rest.items)) ∙ ap components_of rest
            ∙ ap (λ (k : ℕ). components_of (drop k new.rest.items)) (sym (ap (λ (v : Walker). v.at) b.is)) in
            let at_end : (w.slash || (is_empty (names_ahead w) && (parts_of target).slash_at_end)) ≡ new.slash =
            ap (λ (v : Walker). v.slash || (is_empty (names_ahead w) && (parts_of target).slash_at_end)) (sym is) ∙ sym b.slash_is in
            let number : w.number ≡ new.number = ap (λ (v : Walker). v.number) (sym is) ∙ sym (ap (λ (v : Walker). v.number) b.is) in
            let step : w.step + 1 ≡ new.step = ap (λ (v : Walker). v.step) (sym is) ∙ sym (ap (λ (v : Walker). v.step) b.is) in
            let last : done w.here w.name.items ≡ last_done new =
            ap (λ (d : ℕ). done d w.name.items) (sym taken) ∙ ap last_done (sym is) ∙ sym (ap last_done b.is) in
            link_stage
            ∙ ap (λ (l : ℕ). behind t cred w.number form w.here w.name.items (names_ahead w) w.slash w.step (links_behind t cred w.number form room follow l) target) links
            ∙ same_rest room t cred form number step last refl refl here names at_end

-- ---- what is reached
moved_body : (goes : Bool) (n : ℕ) (b : Body) → (is_link b && goes) ≡ false → reached_body goes n b ≡ Reaches n
moved_body true n (File a bytes) e = refl
moved_body true n (Dir a d) e = refl
moved_body true n (Link target) e = absurd (cc)
moved_body false n (File a bytes) e = refl
moved_body false n (Dir a d) e = refl
moved_body false n (Link target) e = refl

link_kind : (version : Version) (image : SectorMap) (v : Inode) (b : Body) → HoldsBody version image v b → is_link_kind v.kind ≡ is_link b
link_kind version image v (File a bytes) h = ap is_link_kind h.kind
link_kind version image v (Dir a d) h = ap is_link_kind h.names.kind
link_kind version image v (Link target) h = ap is_link_kind h.kind

-- a link has a target
record IsLinkTo (b : Body) : Type 0 where
  target : List ℕ
  is : b ≡ Link target

link_to : (b : Body) → is_link b ≡ true → IsLinkTo b
link_to (File a bytes) e = absurd (cc)
link_to (Dir a d) e = absurd (cc)
link_to (Link target) e = record { target = target; is = refl }

-- an inode that is a link, and is followed
pub record IsFollowed (image : SectorMap) (t : Tree) (n : ℕ) (v : Inode) (goes : Bool) : Type 0 where
  pub target : List ℕ
  pub short : length target ≤ 512
  pub through : reached goes n (node_at t n) ≡ Through target
  pub holds : Holds image v target

both : (a b : Bool) → (a && b) ≡ true → (a ≡ true) × (b ≡ true)
both true true e = (refl, refl)
both true false e = absurd (cc)
both false b e = absurd (cc)

target_short : (room : Room) (t : Tree) (b : Body) (target : List ℕ) → b ≡ Link target → IsBody room t b → length target ≤ 512
target_short room t b target is body = let h : IsTarget target = subst (IsBody room t) is body in h.short

module _ {p : Geometry} {image : SectorMap} {t : Tree} (h : HoldsTree p image t) (n : ℕ) (there : IsThere t n) (v : Inode) (is : v ≡ inode_at p image n) (goes : Bool) where
  s : Stands t n
  s = stands t n there

  kind_is : is_link_kind v.kind ≡ is_link s.node.body
  kind_is = ap (λ (u : Inode). is_link_kind u.kind) is ∙ link_kind p.version image (inode_at p image n) s.node.body (held_node h n s.node s.at).body

  pub is_moved : (is_link_kind v.kind && goes) ≡ false → reached goes n (node_at t n) ≡ Reaches n
  is_moved e = ap (reached goes n) s.at ∙ moved_body goes n s.node.body (ap (λ (b : Bool). b && goes) (sym kind_is) ∙ e)

  pub is_followed : (is_link_kind v.kind && goes) ≡ true → IsFollowed image t n v goes
  is_followed e =
      let b = both (is_link_kind v.kind) goes e in
      let l = link_to s.node.body (sym kind_is ∙ b.0) in record {
        target = l.target;
        short = target_short (room_of p) t s.node.body l.target l.is (h.tree.each n s.node s.at).body;
        through = ap (reached goes n) s.at ∙ ap (reached_body goes n) l.is ∙ ap (λ (g : Bool). reached_body g n (Link l.target)) b.1;
        holds = subst (λ (u : Inode). Holds image u l.target) (sym is) (held_target h n s.node l.target s.at l.is);
      }
