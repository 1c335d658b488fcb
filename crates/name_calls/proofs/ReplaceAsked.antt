-- What rename asks of directories and of what it replaces, as the inodes say it.
--     IsGranted, both_grant, granted        what both directories grant
--     MeetsThree        the first three of five parts
--     first_part, second_part, third_part, fourth_part, fifth_part, five_met        five parts
--     moved_refuses, space_refuses, all_five        the last two
--     inode_of, node_first, directory_of        what is renamed
--     first_denied, second_denied, first_keeps, second_keeps, permissions_met        both directories
--     below_is, directories_are, below_told        the demands on directories
--     permissions_refuse, directory_told, kinds_refuse, below_refuses, replaced_refuses, three_parts        the first three, one after another
--     other_moved, same_moved, moved_access, moved_held, moved_denied, moved_met        a directory that goes to another
--     room_is        room for a new name
--     to_rename_kept        the same after reads
--     there_some, other_replaced, there_body, directory_replaced        what is replaced
use Rattle.call_parts.specs.BothTables.{Tables, users_of, tables_in}
use Rattle.std.specs.Prelude.{◌≡◌, ◌≢◌, ℕ, ◌-◌, ◌==◌, nat_lt, nat_le, Bool, true, false, not, ◌&&◌, List, [], ◌∷◌, ◌++◌, length, Option, None, Some, is_some, unwrap_or, Ok}
use Rattle.std.proofs.Common.{refl, sym, ap, subst, arith, ◌∙◌}
use Rattle.std.proofs.lemmas.Bool.Decides.{nat_tests}
use Rattle.fs_cred.specs.declared.errno.Errno.TheVariants.{EBUSY, EINVAL, ENOENT, ENOSPC, ENOTDIR, ENOTEMPTY}
use Rattle.fs_cred.specs.declared.node.Node.{Node as AccessNode}
use Rattle.fs_cred.specs.declared.refusal.Need.TheVariants.{Perm, Remove}
use Rattle.fs_cred.specs.declared.refusal.Refusal.{Refusal}
use Rattle.fs_cred.specs.declared.rule.Rule.{Rule}
use Rattle.fs_cred.specs.Credentials.{Credential}
use Rattle.fs_cred.specs.Ownership.{sticky_allows}
use Rattle.fs_cred.specs.Verdicts.{verdict}
use Rattle.posix_acl.specs.declared.entry.Perms.{Perms}
use Rattle.fs_layout.specs.declared.inode.Inode.{Inode}
use Rattle.fs_layout.specs.declared.inode.Kind.{Kind}
use Rattle.fs_layout.specs.declared.inode.Kind.TheVariants as kinds
use Rattle.fs_layout.specs.declared.geometry.Geometry.{Geometry}
use Rattle.fs_layout.specs.Bytes.{SectorMap}
use Rattle.fs_layout.specs.Images.{free_sectors, inode_at}
use Rattle.sector_txn.specs.Sectors.{TxnState, IsUnchanged}
use Rattle.fs_model.specs.declared.walk.Found.{Found}
use Rattle.fs_model.specs.Births.{the_node, the_directory}
use Rattle.fs_model.specs.Demands.{Demand, refuse, first_of, only_if, decided, allowed_by, permission_of, permission_on, perms, write_and_search}
use Rattle.fs_model.specs.Limits.{least_free}
use Rattle.fs_model.specs.Nodes.{Node, Body, File, Dir, Link, is_directory, names_of_body}
use Rattle.fs_model.specs.Parts.{is_empty}
use Rattle.fs_model.specs.Processes.{Process, is_in_use, ProcessTable}
use Rattle.fs_model.specs.RenameCall.{rename_permissions, rename_kinds, rename_directories, rename_moved, rename_space}
use Rattle.fs_model.specs.Rules.{is_directory_kind}
use Rattle.fs_model.specs.Scenes.{Scene, is_found, found_ino}
use Rattle.fs_model.specs.States.{State}
use Rattle.fs_model.specs.Trees.{Room, Tree, is_within, IsDirectoryAt}
use Rattle.path_walk.specs.Answers.{refused_or}
use Rattle.path_walk.specs.HeldTrees.{HoldsTree, IsThere, HasAccess}
use Rattle.call_parts.proofs.Calling.{state_tree, met_ok, or_else-none, both_met}
use Rattle.path_walk.proofs.Kept.{kept}
use Rattle.call_parts.proofs.Followed.{accessed_is}
use Rattle.call_parts.proofs.MakeAsked.{dir_access, dir_held, directory_met}
use Rattle.call_parts.proofs.Ownership.{IsNode, node_of, all_met}
use Rattle.call_parts.proofs.Refuses.{Refuses, refuses_first, refuses_next, refuses_some, refuses_others, demand_met, tree_kept}
use Rattle.call_parts.specs.Telling.{checked}
use Rattle.call_parts.specs.Reaching.{IsInodeFound}
use Rattle.call_parts.specs.Makings.{room_asked}
use Rattle.call_parts.specs.Asked.{sticky_asked}
use Rattle.name_calls.specs.Removing.{directory_asked}
use Rattle.name_calls.specs.Renaming.{inode_there, replacing_asked}
use Rattle.name_calls.specs.Replacing.{IsToRename, sticky_there, below_asked, replaced_asked, move_asked}
use Rattle.call_parts.specs.TwoPaths.{scene_with}
use Rattle.name_calls.proofs.RemovalAsked.{body_kind_is, yields}
use Rattle.name_calls.proofs.RenameAsked.{kind_at, first_kind, kinds_are}

-- both directories grant it, and these are their inodes
pub record IsGranted (p : Geometry) (map : SectorMap) (t : Tree) (q : Process) (f g : Found) (d to : Inode) : Type 0 where
  pub first : permission_on q.cred t f.dir_ino write_and_search 1 (f.step - 1) ≡ None
  pub second : permission_on q.cred t g.dir_ino write_and_search 2 (g.step - 1) ≡ None
  pub from_is : d ≡ inode_at p map f.dir_ino
  pub to_is : to ≡ inode_at p map g.dir_ino

pub both_grant : (p : Geometry) {old mid : TxnState} (t : Tree) (q : Process) (f g : Found) (d to : Inode) → IsUnchanged old mid
    → refused_or {A = Inode} (permission_on q.cred t f.dir_ino write_and_search 1 (f.step - 1)) (Ok (inode_at p old.sectors f.dir_ino)) ≡ Ok d
    → refused_or {A = Inode} (permission_on q.cred t g.dir_ino write_and_search 2 (g.step - 1)) (Ok (inode_at p mid.sectors g.dir_ino)) ≡ Ok to
    → IsGranted p old.sectors t q f g d to
both_grant p {old} {mid} t q f g d to same told then_told =
    let one = met_ok {A = Inode} (permission_on q.cred t f.dir_ino write_and_search 1 (f.step - 1)) (inode_at p old.sectors f.dir_ino) d told in
    let two = directory_met p g.dir_ino (permission_on q.cred t g.dir_ino write_and_search 2 (g.step - 1)) same then_told in
    record { first = one.0; second = two.0; from_is = sym one.1; to_is = two.1 }

-- so it is where both have answered, one after the other
pub granted : {p : Geometry} {old mid : TxnState} {tables : Tables} {f g : Found} {n : ℕ} {v : Inode} {there : Option (ℕ × Inode)} {s : State} (r : IsToRename p old.sectors tables f g n v there s) (q : Process)
    {d to : Inode} → IsUnchanged old mid
    → ((t : Tree) → HoldsTree p old.sectors t → IsDirectoryAt t f.dir_ino
    → refused_or {A = Inode} (permission_on q.cred t f.dir_ino write_and_search 1 (f.step - 1)) (Ok (inode_at p old.sectors f.dir_ino)) ≡ Ok d)
    → ((t : Tree) → HoldsTree p mid.sectors t → IsDirectoryAt t g.dir_ino
    → refused_or {A = Inode} (permission_on q.cred t g.dir_ino write_and_search 2 (g.step - 1)) (Ok (inode_at p mid.sectors g.dir_ino)) ≡ Ok to)
    → IsGranted p old.sectors s.tree q f g d to
granted {p} {f = f} {g = g} {s = s} r q {d} {to} same first second =
    let h = state_tree r.is_state in
    both_grant p s.tree q f g d to same (first s.tree h r.first.directory) (second s.tree (tree_kept same h) r.second.directory)

-- nothing is refused by the first three parts
pub record MeetsThree (s : State) (q : Process) (f g : Found) : Type 0 where
  pub permissions : first_of (rename_permissions (scene_with s q f g)) ≡ None
  pub kinds : first_of (rename_kinds (scene_with s q f g)) ≡ None
  pub directories : first_of (rename_directories (scene_with s q f g)) ≡ None

-- ---- five parts

module _ (a b c d e : List Demand) where
  pub first_part : Refuses (first_of a) (first_of (a ++ b ++ c ++ d ++ e))
  first_part r is = refuses_some (a ++ b ++ c ++ d) e r (refuses_some (a ++ b ++ c) d r (refuses_some (a ++ b) c r (refuses_some a b r is)))

  module _ (one : first_of a ≡ None) where
    pub second_part : Refuses (first_of b) (first_of (a ++ b ++ c ++ d ++ e))
    second_part r is =
        refuses_some (a ++ b ++ c ++ d) e r (refuses_some (a ++ b ++ c) d r (refuses_some (a ++ b) c r (refuses_others a b one (λ (k : Refusal) h. h) r is)))

    module _ (two : first_of b ≡ None) where
      pub third_part : Refuses (first_of c) (first_of (a ++ b ++ c ++ d ++ e))
      third_part r is =
          refuses_some (a ++ b ++ c ++ d) e r (refuses_some (a ++ b ++ c) d r (refuses_others (a ++ b) c (all_met a b one two) (λ (k : Refusal) h. h) r is))

      module _ (three : first_of c ≡ None) where
        abc_met : first_of (a ++ b ++ c) ≡ None
        abc_met = all_met (a ++ b) c (all_met a b one two) three

        pub fourth_part : Refuses (first_of d) (first_of (a ++ b ++ c ++ d ++ e))
        fourth_part r is = refuses_some (a ++ b ++ c ++ d) e r (refuses_others (a ++ b ++ c) d abc_met (λ (k : Refusal) h. h) r is)

        module _ (four : first_of d ≡ None) where
          pub fifth_part : Refuses (first_of e) (first_of (a ++ b ++ c ++ d ++ e))
          fifth_part = refuses_others (a ++ b ++ c ++ d) e (all_met (a ++ b ++ c) d abc_met four) (λ (k : Refusal) h. h)

          pub five_met : first_of e ≡ None → first_of (a ++ b ++ c ++ d ++ e) ≡ None
          five_met five = all_met (a ++ b ++ c ++ d) e (all_met (a ++ b ++ c) d abc_met four) five

-- ---- what is known before the last two

module _ {s : State} {q : Process} {f g : Found} (x : MeetsThree s q f g) where
  abbrev scene : Scene
  scene = scene_with s q f g

  pub moved_refuses : Refuses (first_of (rename_moved (scene_with s q f g))) (first_of (move_asked (scene_with s q f g)))
  moved_refuses =
      fourth_part (rename_permissions scene) (rename_kinds scene) (rename_directories scene) (rename_moved scene) (rename_space scene) x.permissions x.kinds x.directories

  module _ (moved : checked (first_of (rename_moved (scene_with s q f g))) ≡ Ok tt) where
    moved_none : first_of (rename_moved scene) ≡ None
    moved_none = demand_met (first_of (rename_moved scene)) moved

    pub space_refuses : Refuses (first_of (rename_space (scene_with s q f g))) (first_of (move_asked (scene_with s q f g)))
    space_refuses =
        fifth_part (rename_permissions scene) (rename_kinds scene) (rename_directories scene) (rename_moved scene) (rename_space scene)
        x.permissions x.kinds x.directories moved_none

    pub all_five : checked (first_of (rename_space (scene_with s q f g))) ≡ Ok tt → checked (first_of (move_asked (scene_with s q f g))) ≡ Ok tt
    all_five space =
        ap checked
        (five_met (rename_permissions scene) (rename_kinds scene) (rename_directories scene) (rename_moved scene) (rename_space scene)
        x.permissions x.kinds x.directories moved_none (demand_met (first_of (rename_space scene)) space))

same_number_is : (x y : ℕ) → x ≡ y → (x == y) ≡ true
same_number_is x y same = grind (arith, nat_tests)

other_number_is : (x y : ℕ) → x ≢ y → (x == y) ≡ false
other_number_is x y apart = grind (arith, nat_tests)

-- ---- what is renamed

module _ {p : Geometry} {map : SectorMap} {tables : Tables} {f g : Found} {n : ℕ} {v : Inode} {there : Option (ℕ × Inode)} {s : State} (r : IsToRename p map tables f g n v there s) where
  pub inode_of : IsInodeFound p map f n v
  inode_of = record {
    some = r.leads;
    number = ap (λ (o : Option ℕ). unwrap_or o 0) r.leads;
    inode = r.inode;
    met = ap (λ (o : Option ℕ). refuse ENOENT (not (is_some o))) r.leads;
  }

  pub node_first : IsNode p.version map s.tree f n v
  node_first = node_of (state_tree r.is_state) f n v (ap (λ (o : Option ℕ). unwrap_or o 0) r.leads) r.inode (r.first.found n r.leads)

  pub directory_of : v.kind ≡ kinds.Directory → IsDirectoryAt s.tree n
  directory_of is =
      let x = node_first in
      record { node = x.node; is_there = x.at; directory = sym (body_kind_is p.version map v x.node.body x.holds.body) ∙ ap is_directory_kind is }

  -- ---- both directories

  module _ (q : Process) where
    abbrev one : Demand
    one = permission_on q.cred s.tree f.dir_ino write_and_search 1 (f.step - 1)

    abbrev two : Demand
    two = permission_on q.cred s.tree g.dir_ino write_and_search 2 (g.step - 1)

    abbrev three : Demand
    three = allowed_by 1 (f.step - 1) Remove (sticky_allows q.cred (the_directory (the_node s.tree f.dir_ino)).sticky (the_node s.tree f.dir_ino).owner (the_node s.tree (found_ino f)).owner)

    abbrev last : Demand
    last = allowed_by 2 (g.step - 1) Remove (sticky_allows q.cred (the_directory (the_node s.tree g.dir_ino)).sticky (the_node s.tree g.dir_ino).owner (the_node s.tree (found_ino g)).owner)

    abbrev four : List Demand
    four = only_if (is_found g) (last ∷ [])

    three_is : {d : Inode} → d ≡ inode_at p map f.dir_ino → three ≡ sticky_asked q.cred d v 1 (f.step - 1)
    three_is d_is = yields (state_tree r.is_state) q.cred r.first.directory node_first d_is 1

    four_is : {d : Inode} → d ≡ inode_at p map g.dir_ino → four ≡ sticky_there q.cred d there (g.step - 1)
    four_is {d} d_is = go g.ino refl
      where
        go : (o : Option ℕ) → g.ino ≡ o → four ≡ sticky_there q.cred d there (g.step - 1)
        go None e =
            ap (λ (o : Option ℕ). only_if (is_some o) (last ∷ [])) e
            ∙ sym (ap (λ (o : Option (ℕ × Inode)). sticky_there q.cred d o (g.step - 1)) (r.replaced_is ∙ ap (inode_there p map) e))
        go (Some m) e =
            let node = node_of (state_tree r.is_state) g m (inode_at p map m) (ap (λ (o : Option ℕ). unwrap_or o 0) e) refl (r.second.found m e) in
            ap (λ (o : Option ℕ). only_if (is_some o) (last ∷ [])) e
            ∙ ap (λ (x : Demand). x ∷ []) (yields (state_tree r.is_state) q.cred r.second.directory node d_is 2)
            ∙ sym (ap (λ (o : Option (ℕ × Inode)). sticky_there q.cred d o (g.step - 1)) (r.replaced_is ∙ ap (inode_there p map) e))

    pub first_denied : Refuses (permission_on q.cred s.tree f.dir_ino write_and_search 1 (f.step - 1)) (first_of (rename_permissions (scene_with s q f g)))
    first_denied = refuses_first one (two ∷ three ∷ four)

    pub second_denied : permission_on q.cred s.tree f.dir_ino write_and_search 1 (f.step - 1) ≡ None
        → Refuses (permission_on q.cred s.tree g.dir_ino write_and_search 2 (g.step - 1)) (first_of (rename_permissions (scene_with s q f g)))
    second_denied first = refuses_next one (two ∷ three ∷ four) first (refuses_first two (three ∷ four))

    module _ {d to : Inode} (x : IsGranted p map s.tree q f g d to) where
      -- the first directory keeps what is renamed from the caller
      pub first_keeps : Refuses (sticky_asked q.cred d v 1 (f.step - 1)) (first_of (rename_permissions (scene_with s q f g)))
      first_keeps =
          refuses_next one (two ∷ three ∷ four) x.first
          (refuses_next two (three ∷ four) x.second (λ (e : Refusal) is. refuses_first three four e (three_is x.from_is ∙ is)))

      module _ (yields_it : checked (sticky_asked q.cred d v 1 (f.step - 1)) ≡ Ok tt) where
        three_met : three ≡ None
        three_met = three_is x.from_is ∙ demand_met (sticky_asked q.cred d v 1 (f.step - 1)) yields_it

        -- the second keeps what is replaced
        pub second_keeps : Refuses (first_of (sticky_there q.cred to there (g.step - 1))) (first_of (rename_permissions (scene_with s q f g)))
        second_keeps =
            refuses_next one (two ∷ three ∷ four) x.first
            (refuses_next two (three ∷ four) x.second
            (refuses_next three four three_met (λ (e : Refusal) is. ap first_of (four_is x.to_is) ∙ is)))

        pub permissions_met : checked (first_of (sticky_there q.cred to there (g.step - 1))) ≡ Ok tt → first_of (rename_permissions (scene_with s q f g)) ≡ None
        permissions_met is =
            both_met one (two ∷ three ∷ four) x.first
            (both_met two (three ∷ four) x.second
            (both_met three four three_met
            (ap first_of (four_is x.to_is) ∙ demand_met (first_of (sticky_there q.cred to there (g.step - 1))) is)))

    -- ---- a directory below itself

    pub below_is : refuse EINVAL ((is_found f && is_directory (the_node s.tree (found_ino f)).body) && is_within (length s.tree) s.tree (found_ino f) g.dir_ino)
        ≡ below_asked s.tree v.kind n g.dir_ino
    below_is =
        ap (λ (b : Bool). refuse EINVAL (b && is_within (length s.tree) s.tree (found_ino f) g.dir_ino)) (first_kind (state_tree r.is_state) inode_of r.first.found)
        ∙ ap (λ (m : ℕ). refuse EINVAL (is_directory_kind v.kind && is_within (length s.tree) s.tree m g.dir_ino)) inode_of.number

    pub directories_are : rename_directories (scene_with s q f g) ≡ below_asked s.tree v.kind n g.dir_ino ∷ replaced_asked s.tree (users_of tables) g
    directories_are =
        ap (λ (d : Demand). d ∷ replaced_asked s.tree (users_of (tables_in s)) g) below_is
        ∙ ap (λ (d : Tables). below_asked s.tree v.kind n g.dir_ino ∷ replaced_asked s.tree (users_of d) g) r.is_state.same_tables

    -- ---- the kinds of both

    told_kinds : rename_kinds (scene_with s q f g) ≡ replacing_asked v.kind there
    told_kinds = kinds_are (state_tree r.is_state) inode_of r.first.found g r.second.found r.replaced_is

    -- ---- all of it

    abbrev sc : Scene
    sc = scene_with s q f g

    pub permissions_refuse : Refuses (first_of (rename_permissions (scene_with s q f g))) (first_of (move_asked (scene_with s q f g)))
    permissions_refuse = first_part (rename_permissions sc) (rename_kinds sc) (rename_directories sc) (rename_moved sc) (rename_space sc)

    module _ {d : Inode} (permitted : refused_or {A = Inode} (first_of (rename_permissions (scene_with s q f g))) (Ok (inode_at p map g.dir_ino)) ≡ Ok d) where
      one_met : first_of (rename_permissions sc) ≡ None
      one_met = (met_ok {A = Inode} (first_of (rename_permissions sc)) (inode_at p map g.dir_ino) d permitted).0

      -- the inode of the second directory
      pub directory_told : d ≡ inode_at p map g.dir_ino
      directory_told = sym (met_ok {A = Inode} (first_of (rename_permissions sc)) (inode_at p map g.dir_ino) d permitted).1

      pub kinds_refuse : Refuses (first_of (replacing_asked v.kind there)) (first_of (move_asked (scene_with s q f g)))
      kinds_refuse e is =
          second_part (rename_permissions sc) (rename_kinds sc) (rename_directories sc) (rename_moved sc) (rename_space sc) one_met e (ap first_of told_kinds ∙ is)

      module _ (kinds : checked (first_of (replacing_asked v.kind there)) ≡ Ok tt) where
        two_met : first_of (rename_kinds sc) ≡ None
        two_met = ap first_of told_kinds ∙ demand_met (first_of (replacing_asked v.kind there)) kinds

        pub below_refuses : Refuses (below_asked s.tree v.kind n g.dir_ino) (first_of (move_asked (scene_with s q f g)))
        below_refuses e is =
            third_part (rename_permissions sc) (rename_kinds sc) (rename_directories sc) (rename_moved sc) (rename_space sc) one_met two_met e
            (ap first_of directories_are ∙ refuses_first (below_asked s.tree v.kind n g.dir_ino) (replaced_asked s.tree (users_of tables) g) e is)

        module _ (apart : checked (below_asked s.tree v.kind n g.dir_ino) ≡ Ok tt) where
          pub replaced_refuses : Refuses (first_of (replaced_asked s.tree (users_of tables) g)) (first_of (move_asked (scene_with s q f g)))
          replaced_refuses e is =
              third_part (rename_permissions sc) (rename_kinds sc) (rename_directories sc) (rename_moved sc) (rename_space sc) one_met two_met e
              (ap first_of directories_are
              ∙ refuses_next (below_asked s.tree v.kind n g.dir_ino) (replaced_asked s.tree (users_of tables) g) (demand_met (below_asked s.tree v.kind n g.dir_ino) apart) (λ (k : Refusal) h. h) e is)

          pub three_parts : checked (first_of (replaced_asked s.tree (users_of tables) g)) ≡ Ok tt → MeetsThree s q f g
          three_parts is = record {
            permissions = one_met;
            kinds = two_met;
            directories = ap first_of directories_are
                ∙ both_met (below_asked s.tree v.kind n g.dir_ino) (replaced_asked s.tree (users_of tables) g) (demand_met (below_asked s.tree v.kind n g.dir_ino) apart)
                (demand_met (first_of (replaced_asked s.tree (users_of tables) g)) is);
          }

    -- ---- a directory that goes to another

    abbrev written : Demand
    written = permission_on q.cred s.tree (found_ino f) (perms false true false) 1 f.step

    and_none : (b : Bool) → (b && false) ≡ false
    and_none true = refl
    and_none false = refl

    pub other_moved : is_directory_kind v.kind ≡ false → first_of (rename_moved (scene_with s q f g)) ≡ None
    other_moved no_dir =
        ap (λ (b : Bool). first_of (only_if (b && not (f.dir_ino == g.dir_ino)) (written ∷ []))) (first_kind (state_tree r.is_state) inode_of r.first.found ∙ no_dir)

    pub same_moved : f.dir_ino ≡ g.dir_ino → first_of (rename_moved (scene_with s q f g)) ≡ None
    same_moved same =
        ap (λ (b : Bool). first_of (only_if ((is_found f && is_directory (the_node s.tree (found_ino f)).body) && not b) (written ∷ []))) (same_number_is f.dir_ino g.dir_ino same)
        ∙ ap (λ (b : Bool). first_of (only_if b (written ∷ []))) (and_none (is_found f && is_directory (the_node s.tree (found_ino f)).body))

    module _ (is : v.kind ≡ kinds.Directory) where
      abbrev pub moved_access : AccessNode
      moved_access = (dir_access (state_tree r.is_state) n (directory_of is) q.cred f.step).access

      pub moved_held : HasAccess map v moved_access
      moved_held =
          subst (λ (w : Inode). HasAccess map w moved_access) (sym r.inode) (dir_held (state_tree r.is_state) n (directory_of is) q.cred f.step)

      abbrev want : Perms
      want = perms false true false

      module _ (goes : f.dir_ino ≢ g.dir_ino) where
        moved_is : first_of (rename_moved (scene_with s q f g)) ≡ decided 1 f.step (Perm want) (verdict q.cred moved_access want)
        moved_is =
            let h = state_tree r.is_state in
            ap (λ (b : Bool). first_of (only_if (b && not (f.dir_ino == g.dir_ino)) (written ∷ []))) (first_kind h inode_of r.first.found ∙ ap is_directory_kind is)
            ∙ ap (λ (b : Bool). first_of (only_if (not b) (written ∷ []))) (other_number_is f.dir_ino g.dir_ino goes)
            ∙ or_else-none written
            ∙ ap (λ (k : ℕ). permission_on q.cred s.tree k want 1 f.step) inode_of.number
            ∙ ap (permission_of q.cred want 1 f.step) (accessed_is s.tree n (dir_access h n (directory_of is) q.cred f.step))

        pub moved_denied : {cred : Credential} → cred ≡ q.cred
            → Refuses (decided 1 f.step (Perm want) (verdict cred moved_access want)) (first_of (rename_moved (scene_with s q f g)))
        moved_denied {cred} same e is = moved_is ∙ ap (λ (k : Credential). decided 1 f.step (Perm want) (verdict k moved_access want)) (sym same) ∙ is

        pub moved_met : (rule : Rule) {cred : Credential} → cred ≡ q.cred
            → refused_or {A = Rule} (decided 1 f.step (Perm want) (verdict cred moved_access want)) (Ok (verdict cred moved_access want).rule) ≡ Ok rule
            → first_of (rename_moved (scene_with s q f g)) ≡ None
        moved_met rule {cred} same h =
            moved_is
            ∙ (met_ok {A = Rule} (decided 1 f.step (Perm want) (verdict q.cred moved_access want)) (verdict q.cred moved_access want).rule rule
            (subst (λ (k : Credential). refused_or {A = Rule} (decided 1 f.step (Perm want) (verdict k moved_access want)) (Ok (verdict k moved_access want).rule) ≡ Ok rule) same h)).0

    -- ---- room for a name

    abbrev space : List Demand
    space = refuse ENOSPC (nat_lt s.free least_free) ∷ refuse ENOSPC (nat_le s.room.entries_limit (length (names_of_body (the_node s.tree g.dir_ino).body))) ∷ []

    pub room_is : is_some g.ino ≡ false → f.dir_ino ≢ g.dir_ino → rename_space (scene_with s q f g) ≡ room_asked p map s.tree g.dir_ino
    room_is none goes =
        ap (λ (b : Bool). only_if (not b && not (f.dir_ino == g.dir_ino)) space) none
        ∙ ap (λ (b : Bool). only_if (not b) space) (other_number_is f.dir_ino g.dir_ino goes)
        ∙ ap (λ (c : ℕ). refuse ENOSPC (nat_lt c least_free) ∷ refuse ENOSPC (nat_le s.room.entries_limit (length (names_of_body (the_node s.tree g.dir_ino).body))) ∷ []) r.is_state.free_is
        ∙ ap (λ (k : Room). refuse ENOSPC (nat_lt (free_sectors p map) least_free) ∷ refuse ENOSPC (nat_le k.entries_limit (length (names_of_body (the_node s.tree g.dir_ino).body))) ∷ []) r.is_state.same_room

-- what is asked of a rename holds after reads too
pub to_rename_kept : {p : Geometry} {old new : TxnState} {tables : Tables} {f g : Found} {n : ℕ} {v : Inode} {there : Option (ℕ × Inode)} {s : State} → IsUnchanged old new
    → IsToRename p old.sectors tables f g n v there s → IsToRename p new.sectors tables f g n v there s
to_rename_kept {p} {old} {new} {tables} {f} {g} {n} {v} {there} {s} same r = kept (λ (m : SectorMap). IsToRename p m tables f g n v there s) same r

-- ---- below itself

pub below_told : (t : Tree) (kind : Kind) (n dir_ino : ℕ) (b : Bool) → kind ≡ kinds.Directory → is_within (length t) t n dir_ino ≡ b → below_asked t kind n dir_ino ≡ refuse EINVAL b
below_told t kind n dir_ino b is within = ap (λ (k : Kind). refuse EINVAL (is_directory_kind k && is_within (length t) t n dir_ino)) is ∙ ap (refuse EINVAL) within

-- ---- what is replaced

pub there_some : (p : Geometry) (map : SectorMap) (o : Option ℕ) (m : ℕ) (v : Inode) → Some (m, v) ≡ inode_there p map o → (o ≡ Some m) × (v ≡ inode_at p map m)
there_some p map None m v e = absurd (cc)
there_some p map (Some k) m v e =
    let pair : (m, v) ≡ (k, inode_at p map k) = some_is (m, v) (k, inode_at p map k) e in
    let same : m ≡ k = ap (λ (x : ℕ × Inode). x.0) pair in
    (ap Some (sym same), ap (λ (x : ℕ × Inode). x.1) pair ∙ ap (inode_at p map) (sym same))
  where
    some_is : (x y : ℕ × Inode) → Some x ≡ Some y → x ≡ y
    some_is x y h = cc

no_names : (b : Body) → is_directory b ≡ false → names_of_body b ≡ []
no_names (File a bytes) e = refl
no_names (Dir a d) e = absurd (cc)
no_names (Link target) e = refl

module _ {p : Geometry} {map : SectorMap} {t : Tree} (h : HoldsTree p map t) (g : Found) (there : (m : ℕ) → g.ino ≡ Some m → IsThere t m) (all : ProcessTable) where
  abbrev body : Body
  body = (the_node t (found_ino g)).body

  module _ (m : ℕ) (some : g.ino ≡ Some m) where
    kind_is : is_directory body ≡ is_directory_kind (inode_at p map m).kind
    kind_is = ap (λ (o : Option ℕ). is_directory (the_node t (unwrap_or o 0)).body) some ∙ kind_at h m (there m some)

    here : (d : Bool) → is_directory body ≡ d → replaced_asked t all g ≡ refuse EBUSY (d && is_in_use all m) ∷ refuse ENOTEMPTY (not (is_empty (names_of_body body))) ∷ []
    here d is =
        ap (λ (o : Option ℕ). refuse EBUSY ((is_some o && is_directory body) && is_in_use all (found_ino g)) ∷ refuse ENOTEMPTY (is_some o && not (is_empty (names_of_body body))) ∷ []) some
        ∙ ap (λ (b : Bool). refuse EBUSY (b && is_in_use all (found_ino g)) ∷ refuse ENOTEMPTY (not (is_empty (names_of_body body))) ∷ []) is
        ∙ ap (λ (o : Option ℕ). refuse EBUSY (d && is_in_use all (unwrap_or o 0)) ∷ refuse ENOTEMPTY (not (is_empty (names_of_body body))) ∷ []) some

    -- what is replaced is no directory
    pub other_replaced : is_directory_kind (inode_at p map m).kind ≡ false → first_of (replaced_asked t all g) ≡ None
    other_replaced other =
        ap first_of (here false (kind_is ∙ other))
        ∙ ap (λ (names : List (List ℕ × ℕ)). first_of (refuse EBUSY (false && is_in_use all m) ∷ refuse ENOTEMPTY (not (is_empty names)) ∷ [])) (no_names body (kind_is ∙ other))

    -- what its inode holds
    pub there_body : (v : Inode) → v ≡ inode_at p map m → IsNode p.version map t g m v
    there_body v is = node_of h g m v (ap (λ (o : Option ℕ). unwrap_or o 0) some) is (there m some)

    -- what is replaced is a directory
    pub directory_replaced : (v : Inode) (is : v ≡ inode_at p map m) → v.kind ≡ kinds.Directory
        → first_of (directory_asked (there_body v is).node.body (is_in_use all m)) ≡ first_of (replaced_asked t all g)
    directory_replaced v is kind =
        let x = there_body v is in
        let dir_ino : is_directory body ≡ true = kind_is ∙ ap (λ (w : Inode). is_directory_kind w.kind) (sym is) ∙ ap is_directory_kind kind in
        ap (λ (u : Node). first_of (directory_asked u.body (is_in_use all m))) (sym x.is)
        ∙ ap (λ (b : Bool). first_of (refuse ENOTDIR (not b) ∷ refuse EBUSY (is_in_use all m) ∷ refuse ENOTEMPTY (not (is_empty (names_of_body body))) ∷ [])) dir_ino
        ∙ sym (ap first_of (here true dir_ino))
