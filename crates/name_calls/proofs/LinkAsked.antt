-- What link asks.
--     place_denied, place_many, place_full, place_met        all of the directory
--     node_found, kind_says, source_absent, source_other, source_all_met, source_inode        what is to get the name
--     source_refuses, name_refuses, place_refuses, link_asked_met        the whole
use Rattle.call_parts.specs.BothTables.{Tables}
use Rattle.std.specs.Prelude.{◌≡◌, ℕ, ◌-◌, nat_lt, nat_le, Bool, not, ◌&&◌, List, [], ◌∷◌, ◌++◌, length, Option, None, Some, is_some, IsFalse, Ok}
use Rattle.std.proofs.Common.{sym, ap, ◌∙◌}
use Rattle.fs_cred.specs.declared.errno.Errno.TheVariants.{EPERM, ENOTDIR, ENOSPC}
use Rattle.fs_cred.specs.declared.refusal.Refusal.{Refusal}
use Rattle.fs_cred.specs.Credentials.{Credential}
use Rattle.fs_layout.specs.declared.inode.Inode.{Inode}
use Rattle.fs_layout.specs.declared.geometry.Geometry.{Geometry}
use Rattle.fs_layout.specs.Bytes.{SectorMap}
use Rattle.fs_layout.specs.Images.{inode_at}
use Rattle.fs_layout.specs.Version.{max_names, max_inode_names}
use Rattle.fs_model.specs.declared.walk.Found.{Found}
use Rattle.fs_model.specs.Births.{the_node}
use Rattle.fs_model.specs.Demands.{Demand, refuse, first_of, permission_on, write_and_search}
use Rattle.fs_model.specs.Limits.{least_free}
use Rattle.fs_model.specs.NameCalls.{link_demands, link_count_demand}
use Rattle.fs_model.specs.Nodes.{Node, is_directory, names_of_body}
use Rattle.fs_model.specs.Processes.{Process}
use Rattle.fs_model.specs.Rules.{is_directory_kind}
use Rattle.fs_model.specs.Scenes.{is_found, found_ino, must_be_there}
use Rattle.fs_model.specs.States.{State}
use Rattle.fs_model.specs.Trees.{Room, Tree, names_of}
use Rattle.fs_model.proofs.StepsDemands.{first_met, then_met, unrefused, and_false}
use Rattle.path_walk.specs.Answers.{refused_or}
use Rattle.path_walk.specs.HeldTrees.{HoldsTree, IsThere}
use Rattle.call_parts.proofs.Calling.{state_tree, met_ok, both_met}
use Rattle.call_parts.proofs.Ownership.{IsNode, node_of, all_met}
use Rattle.call_parts.proofs.Refuses.{Refuses, refuses_first, refuses_next, refuses_some, refuses_others, demand_met}
use Rattle.call_parts.proofs.Shown.{is_inode}
use Rattle.name_calls.specs.Linking.{source_asked, place_asked}
use Rattle.call_parts.specs.Makings.{room_asked}
use Rattle.call_parts.specs.NewNodes.{link_name_asked}
use Rattle.call_parts.specs.TwoPaths.{scene_with, FindsBoth}
use Rattle.call_parts.proofs.FoundBoth.{first_there}
use Rattle.name_calls.proofs.RemovalAsked.{body_kind_is}
use Rattle.name_calls.proofs.Takings.{field_is}
use Rattle.call_parts.specs.Telling.{checked}
use Rattle.call_parts.specs.Reaching.{IsInodeFound}

-- ---- all of the directory

module _ (p : Geometry) (map : SectorMap) (cred : Credential) (t : Tree) (dir_ino step names : ℕ) where
  abbrev allowed : Demand
  allowed = permission_on cred t dir_ino write_and_search 2 step

  abbrev many : Demand
  many = link_count_demand (max_inode_names p.version) names

  pub place_denied : Refuses (permission_on cred t dir_ino write_and_search 2 step) (first_of (place_asked p map cred t dir_ino step names))
  place_denied = refuses_first allowed (many ∷ room_asked p map t dir_ino)

  module _ (granted : permission_on cred t dir_ino write_and_search 2 step ≡ None) where
    pub place_many : Refuses (link_count_demand (max_inode_names p.version) names) (first_of (place_asked p map cred t dir_ino step names))
    place_many = refuses_next allowed (many ∷ room_asked p map t dir_ino) granted (refuses_first many (room_asked p map t dir_ino))

    pub place_full : checked (link_count_demand (max_inode_names p.version) names) ≡ Ok tt
        → Refuses (first_of (room_asked p map t dir_ino)) (first_of (place_asked p map cred t dir_ino step names))
    place_full few =
        refuses_next allowed (many ∷ room_asked p map t dir_ino) granted
        (refuses_next many (room_asked p map t dir_ino) (demand_met many few) (λ (e : Refusal) is. is))

  pub place_met : permission_on cred t dir_ino write_and_search 2 step ≡ None → checked (link_count_demand (max_inode_names p.version) names) ≡ Ok tt
      → checked (first_of (room_asked p map t dir_ino)) ≡ Ok tt → first_of (place_asked p map cred t dir_ino step names) ≡ None
  place_met granted few free =
      both_met allowed (many ∷ room_asked p map t dir_ino) granted
      (both_met many (room_asked p map t dir_ino) (demand_met many few) (demand_met (first_of (room_asked p map t dir_ino)) free))

-- ---- what is to get the name

pub node_found : {p : Geometry} {map : SectorMap} {t : Tree} {f : Found} {n : ℕ} {v : Inode} → HoldsTree p map t → IsInodeFound p map f n v
    → ((m : ℕ) → f.ino ≡ Some m → IsThere t m) → IsNode p.version map t f n v
node_found {p} {map} {t} {f} {n} {v} h i there = node_of h f n v i.number i.inode (there n i.some)

module _ {p : Geometry} {map : SectorMap} {t : Tree} {f : Found} {n : ℕ} {v : Inode} (k : IsInodeFound p map f n v) (node : IsNode p.version map t f n v) where
  abbrev kinds_asked : Bool → List Demand
  kinds_asked b = refuse ENOTDIR (f.slash && not b) ∷ refuse EPERM b ∷ []

  pub kind_says : (refuse ENOTDIR (f.slash && not (is_directory_kind v.kind)) ∷ refuse EPERM (is_directory_kind v.kind) ∷ [])
      ≡ (refuse ENOTDIR (f.slash && (is_found f && not (is_directory (the_node t (found_ino f)).body)))
      ∷ refuse EPERM (is_found f && is_directory (the_node t (found_ino f)).body) ∷ [])
  kind_says =
      ap kinds_asked (body_kind_is p.version map v node.node.body node.holds.body)
      ∙ ap (λ (u : Node). kinds_asked (is_directory u.body)) (sym node.is)
      ∙ ap (λ (o : Option ℕ). refuse ENOTDIR (f.slash && (is_some o && not (is_directory (the_node t (found_ino f)).body)))
      ∷ refuse EPERM (is_some o && is_directory (the_node t (found_ino f)).body) ∷ []) (sym k.some)

module _ (t : Tree) (f : Found) where
  abbrev others : List Demand
  others =
      refuse ENOTDIR (f.slash && (is_found f && not (is_directory (the_node t (found_ino f)).body)))
      ∷ refuse EPERM (is_found f && is_directory (the_node t (found_ino f)).body) ∷ []

  pub source_absent : Refuses (must_be_there f) (first_of (source_asked t f))
  source_absent = refuses_first (must_be_there f) others

  pub source_other : {p : Geometry} {map : SectorMap} {n : ℕ} {v : Inode} → IsInodeFound p map f n v → IsNode p.version map t f n v
      → Refuses (first_of (refuse ENOTDIR (f.slash && not (is_directory_kind v.kind)) ∷ refuse EPERM (is_directory_kind v.kind) ∷ [])) (first_of (source_asked t f))
  source_other k node = refuses_next (must_be_there f) others k.met (λ (e : Refusal) is. ap first_of (sym (kind_says k node)) ∙ is)

  pub source_all_met : {p : Geometry} {map : SectorMap} {n : ℕ} {v : Inode} → IsInodeFound p map f n v → IsNode p.version map t f n v
      → checked (first_of (refuse ENOTDIR (f.slash && not (is_directory_kind v.kind)) ∷ refuse EPERM (is_directory_kind v.kind) ∷ [])) ≡ Ok tt
      → first_of (source_asked t f) ≡ None
  source_all_met {p} {map} {n} {v} k node is =
      both_met (must_be_there f) others k.met
      (met_ok {A = Unit {0}} (first_of others) tt tt (ap (λ (ds : List Demand). checked (first_of ds)) (sym (kind_says k node)) ∙ is)).0

  -- where all is met, it is there
  pub source_inode : (p : Geometry) (map : SectorMap) {n : ℕ} {v : Inode}
      → refused_or {A = ℕ × Inode} (first_of (source_asked t f)) (Ok (found_ino f, inode_at p map (found_ino f))) ≡ Ok (n, v) → (first_of (source_asked t f) ≡ None) × IsInodeFound p map f n v
  source_inode p map {n} {v} is =
      let both = met_ok {A = ℕ × Inode} (first_of (source_asked t f)) (found_ino f, inode_at p map (found_ino f)) (n, v) is in
      let there = first_met (must_be_there f) _ both.0 in (
        both.0,
        is_inode p map f n v
            (ap (λ (e : Demand). refused_or {A = ℕ × Inode} e (Ok (found_ino f, inode_at p map (found_ino f)))) there ∙ ap (λ (x : ℕ × Inode). Ok x) both.1),
      )

-- ---- the whole

module _ {p : Geometry} {map : SectorMap} {tables : Tables} {q : Process} {f g : Found} {s : State} (i : FindsBoth p map tables q f g s) where
  abbrev source : List Demand
  source = source_asked s.tree f

  abbrev name : List Demand
  name = link_name_asked g

  abbrev last : List Demand
  last =
      permission_on q.cred s.tree g.dir_ino write_and_search 2 (g.step - 1)
      ∷ link_count_demand s.room.names_limit (names_of s.tree (found_ino f))
      ∷ refuse ENOSPC (nat_lt s.free least_free)
      ∷ refuse ENOSPC (nat_le s.room.entries_limit (length (names_of_body (the_node s.tree g.dir_ino).body)))
      ∷ []

  pub source_refuses : Refuses (first_of (source_asked s.tree f)) (first_of (link_demands (scene_with s q f g)))
  source_refuses = refuses_some source (name ++ last)

  pub name_refuses : first_of (source_asked s.tree f) ≡ None → Refuses (first_of (link_name_asked g)) (first_of (link_demands (scene_with s q f g)))
  name_refuses met = refuses_others source (name ++ last) met (refuses_some name last)

  module _ (source_met : first_of (source_asked s.tree f) ≡ None) (name_met : first_of (link_name_asked g) ≡ None) {n : ℕ} {v : Inode} (k : IsInodeFound p map f n v) where
    pub source_node : IsNode p.version map s.tree f n v
    source_node = node_of (state_tree i.is_state) f n v k.number k.inode (first_there i n k.some)

    -- what is linked is no directory
    pub source_kind : IsFalse (is_directory source_node.node.body)
    source_kind =
        let rest = then_met (must_be_there f) _ source_met in
        let last = then_met (refuse ENOTDIR (f.slash && (is_found f && not (is_directory (the_node s.tree (found_ino f)).body)))) _ rest in
        let other = unrefused EPERM (is_found f && is_directory (the_node s.tree (found_ino f)).body)
        (first_met (refuse EPERM (is_found f && is_directory (the_node s.tree (found_ino f)).body)) None last) in
        ap (λ (u : Node). is_directory u.body) (sym source_node.is) ∙ and_false (is_found f) (is_directory (the_node s.tree (found_ino f)).body) other (ap is_some k.some)

    -- the inode of what is linked says how many names it has
    pub source_names : v.names ≡ names_of s.tree n
    source_names = source_node.holds.names ∙ field_is source_node.node.body (names_of s.tree n) source_kind

    last_is : place_asked p map q.cred s.tree g.dir_ino (g.step - 1) v.names ≡ last
    last_is =
        ap (λ (c : ℕ). place_asked p map q.cred s.tree g.dir_ino (g.step - 1) c) (source_names ∙ ap (names_of s.tree) (sym k.number))
        ∙ ap (λ (c : ℕ). permission_on q.cred s.tree g.dir_ino write_and_search 2 (g.step - 1)
        ∷ link_count_demand (max_inode_names p.version) (names_of s.tree (found_ino f))
        ∷ refuse ENOSPC (nat_lt c least_free)
        ∷ refuse ENOSPC (nat_le (max_names p.version) (length (names_of_body (the_node s.tree g.dir_ino).body)))
        ∷ []) (sym i.is_state.free_is)
        ∙ ap (λ (r : Room). permission_on q.cred s.tree g.dir_ino write_and_search 2 (g.step - 1)
        ∷ link_count_demand r.names_limit (names_of s.tree (found_ino f))
        ∷ refuse ENOSPC (nat_lt s.free least_free)
        ∷ refuse ENOSPC (nat_le r.entries_limit (length (names_of_body (the_node s.tree g.dir_ino).body)))
        ∷ []) (sym i.is_state.same_room)

    pub place_refuses : Refuses (first_of (place_asked p map q.cred s.tree g.dir_ino (g.step - 1) v.names)) (first_of (link_demands (scene_with s q f g)))
    place_refuses =
        refuses_others source (name ++ last) source_met
        (refuses_others name last name_met (λ (e : Refusal) is. ap first_of (sym last_is) ∙ is))

    pub link_asked_met : first_of (place_asked p map q.cred s.tree g.dir_ino (g.step - 1) v.names) ≡ None → first_of (link_demands (scene_with s q f g)) ≡ None
    link_asked_met met = all_met source (name ++ last) source_met (all_met name last name_met (ap first_of (sym last_is) ∙ met))
