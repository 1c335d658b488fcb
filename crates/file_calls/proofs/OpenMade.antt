-- What open asks to make a file, and what it leaves where it made one.
--     new_name, directory_there, dir_default        the name is new in a directory; its default ACL
--     none_is_there, make_refused, make_met        nothing may be made; what the directory is asked refuses, or is met
--     asked_of_it, few_names, can_make        a file may be made
--     finds_kept, asked_later        reads leave what was found, and what was asked
--     made_prepares, file_prepares        it was made
use Rattle.call_parts.proofs.Starts.{stands_fits}
use Rattle.std.specs.Prelude.{◌≡◌, ℕ, ◌-◌, ◌/◌, ◌%◌, ◌<◌, ◌≤◌, ◌==◌, nat_lt, nat_le, if◌then◌else◌, Bool, not, ◌&&◌, ◌||◌, List, [], ◌∷◌, length, Option, None, unwrap_or, is_some, Ok, Err}
use Rattle.std.proofs.Common.{sym, ap, subst, ◌∙◌, inl}
use Rattle.fs_cred.specs.declared.errno.Errno.TheVariants.{ENOENT, ENOSPC}
use Rattle.fs_cred.specs.declared.refusal.Refusal.{Refusal}
use Rattle.fs_cred.specs.Credentials.{Credential}
use Rattle.posix_acl.specs.AccessList.{AccessList}
use Rattle.sector_disk.specs.Disk.{DiskState}
use Rattle.sector_txn.specs.Sectors.{TxnState, IsUnchanged}
use Rattle.fs_layout.specs.declared.inode.TheConstants.{S_ISGID}
use Rattle.fs_layout.specs.declared.inode.Inode.{Inode}
use Rattle.fs_layout.specs.declared.geometry.Geometry.{Geometry}
use Rattle.fs_layout.specs.Bytes.{SectorMap}
use Rattle.fs_layout.specs.Images.{inode_at, free_sectors}
use Rattle.fs_layout.specs.Version.{max_names}
use Rattle.inode_table.specs.Acls.{HasDefaultAcl}
use Rattle.fs_model.specs.declared.call.Flags.{Flags}
use Rattle.fs_model.specs.declared.walk.Found.{Found}
use Rattle.fs_model.specs.Births.{the_node, the_directory, born_acl, born_file}
use Rattle.fs_model.specs.declared.touch.Touch.TheVariants.{Modified, Born}
use Rattle.fs_model.specs.TreeChanges.{Change, Make, Rewrite, Same, changed, touches_of, swept}
use Rattle.fs_model.specs.Demands.{Demand, refuse, first_of, permission_on, write_and_search}
use Rattle.fs_model.specs.Limits.{least_free}
use Rattle.fs_model.specs.Nodes.{no_stamps, Node, File, default_in, names_of_body, with_bytes}
use Rattle.fs_model.specs.OpenCall.{open_demands, open_found_demands, open_new_demands, open_change}
use Rattle.fs_model.specs.Processes.{Process}
use Rattle.fs_model.specs.Stands.{HoldsAll, placed}
use Rattle.fs_model.specs.States.{State}
use Rattle.fs_model.specs.Steps.{HasNewNumber}
use Rattle.fs_model.specs.StoredNodes.{HoldsNode}
use Rattle.fs_model.specs.Trees.{Room, Tree, free_inodes, names_of, parent, IsDirectoryAt}
use Rattle.fs_model.proofs.StepsFound.{IsNameAt}
use Rattle.fs_model.proofs.StepsMaking.{IsNewborn, file_is_born}
use Rattle.bit_alloc.proofs.Transactions.{unchanged_joined}
use Rattle.path_walk.specs.Answers.{refused_or, IsAnswered}
use Rattle.path_walk.specs.HeldTrees.{HoldsTree}
use Rattle.call_parts.specs.Paths.{scene_at}
use Rattle.call_parts.proofs.Calling.{state_tree, met_ok, first_asked, next_asked, both_met}
use Rattle.path_walk.proofs.HeldNodes.{held_node, default_says}
use Rattle.path_walk.proofs.Kept.{kept, kept_back}
use Rattle.call_parts.specs.Makings.{CanMake, make_asked}
use Rattle.call_parts.specs.NewNodes.{MakesNode, file_made}
use Rattle.file_calls.specs.Openings.{FindsIn, IsRefusedOpen}
use Rattle.file_calls.proofs.OpenedTimes.{Prepares}
use Rattle.call_parts.proofs.Makeable.{has_few, may_make}
use Rattle.call_parts.proofs.NewNames.{name_is_new, fresh, placed_made}
use Rattle.call_parts.proofs.NewFile.{set_group_says, default_is}
use Rattle.call_parts.proofs.Checked.{refused_as}
use Rattle.call_parts.proofs.Shown.{the_node_is}
use Rattle.call_parts.specs.Telling.{checked}

-- ---- what was found

pub finds_kept : {p : Geometry} {old mid : TxnState} {flags : Flags} {q : Process} {f : Found} {s : State} → IsUnchanged old mid → FindsIn p old.sectors flags q f s
    → FindsIn p mid.sectors flags q f s
finds_kept {p} {old} {mid} {flags} {q} {f} {s} same i = kept (λ (m : SectorMap). FindsIn p m flags q f s) same i

-- and what was asked
pub asked_later : (p : Geometry) {old mid : TxnState} (t : Tree) (dir_ino step : ℕ) (cred : Credential) (v : Inode) → IsUnchanged old mid
    → refused_or {A = Inode} (first_of (make_asked p old.sectors cred t dir_ino step)) (Ok (inode_at p old.sectors dir_ino)) ≡ Ok v
    → refused_or {A = Inode} (first_of (make_asked p mid.sectors cred t dir_ino step)) (Ok (inode_at p mid.sectors dir_ino)) ≡ Ok v
asked_later p {old} {mid} t dir_ino step cred v same is =
    kept (λ (m : SectorMap). refused_or {A = Inode} (first_of (make_asked p m cred t dir_ino step)) (Ok (inode_at p m dir_ino)) ≡ Ok v) same is

module _ {p : Geometry} {map : SectorMap} {flags : Flags} {q : Process} {f : Found} {s : State} (i : FindsIn p map flags q f s) (none : f.ino ≡ None) where
  abbrev pub new_name : IsNameAt s.room s.tree f.dir_ino f.name None
  new_name = name_is_new i.is_state q f i.found i.bytes none

  abbrev pub directory_there : IsDirectoryAt s.tree f.dir_ino
  directory_there = record { node = new_name.node; is_there = new_name.stands; directory = new_name.directory }

  pub dir_default : (v : Inode) → v ≡ inode_at p map f.dir_ino → HasDefaultAcl map v (default_in new_name.node.body)
  dir_default v is =
      subst (λ (w : Inode). HasDefaultAcl map w (default_in new_name.node.body)) (sym is)
      (default_says p.version map (inode_at p map f.dir_ino) new_name.node.body new_name.directory (held_node (state_tree i.is_state) f.dir_ino new_name.node new_name.stands).body)

  -- ---- what is asked

  abbrev absent : Demand
  absent = refuse ENOENT (not flags.create || f.slash)

  abbrev asked : List Demand
  asked = make_asked p map q.cred s.tree f.dir_ino (f.step - 1)

  demands_are : open_demands flags (scene_at s q f) ≡ absent ∷ asked
  demands_are =
      ap (λ (o : Option ℕ). if is_some o then open_found_demands flags (scene_at s q f) else open_new_demands flags (scene_at s q f)) none
      ∙ ap (λ (k : ℕ). absent ∷ permission_on q.cred s.tree f.dir_ino write_and_search 1 (f.step - 1) ∷ refuse ENOSPC (nat_lt k least_free)
      ∷ refuse ENOSPC (free_inodes s.room s.tree == 0) ∷ refuse ENOSPC (nat_le s.room.entries_limit (length (names_of_body (the_node s.tree f.dir_ino).body))) ∷ []) i.is_state.free_is
      ∙ ap (λ (r : Room). absent ∷ permission_on q.cred s.tree f.dir_ino write_and_search 1 (f.step - 1) ∷ refuse ENOSPC (nat_lt (free_sectors p map) least_free)
      ∷ refuse ENOSPC (free_inodes r s.tree == 0) ∷ refuse ENOSPC (nat_le r.entries_limit (length (names_of_body (the_node s.tree f.dir_ino).body))) ∷ []) i.is_state.same_room

  pub none_is_there : (old new : DiskState) (e : Refusal) → checked absent ≡ Err e → IsRefusedOpen old new flags q f s e
  none_is_there old new e is =
      subst (λ (ds : List Demand). IsAnswered old new (refused_or {A = ℕ} (first_of ds) (Ok 0)) (Err e)) (sym demands_are)
      (first_asked {B = Unit {0}} absent asked tt 0 e old new (inl is))

  module _ (may : checked absent ≡ Ok tt) where
    may_be_made : absent ≡ None
    may_be_made = (met_ok {A = Unit {0}} absent tt tt may).0

    module _ {A : Type 0} (y : A) (cred : Credential) (step : ℕ) (same_cred : cred ≡ q.cred) (same_step : step ≡ f.step - 1) where
      asked_is : make_asked p map cred s.tree f.dir_ino step ≡ asked
      asked_is =
          ap (λ (k : Credential). make_asked p map k s.tree f.dir_ino step) same_cred
          ∙ ap (λ (k : ℕ). make_asked p map q.cred s.tree f.dir_ino k) same_step

      pub make_refused : (old new : DiskState) (e : Refusal) → IsAnswered old new (refused_or {A = A} (first_of (make_asked p map cred s.tree f.dir_ino step)) (Ok y)) (Err e)
          → IsRefusedOpen old new flags q f s e
      make_refused old new e is =
          subst (λ (ds : List Demand). IsAnswered old new (refused_or {A = ℕ} (first_of ds) (Ok 0)) (Err e)) (sym demands_are)
          (next_asked absent asked 0 e old new may_be_made
          (refused_as {A = ℕ} {B = A} (first_of asked) y 0 e old new
          (subst (λ (ds : List Demand). IsAnswered old new (refused_or {A = A} (first_of ds) (Ok y)) (Err e)) asked_is is)))

      module _ (v : A) (is : refused_or {A = A} (first_of (make_asked p map cred s.tree f.dir_ino step)) (Ok y) ≡ Ok v) where
        asked_none : first_of asked ≡ None
        asked_none = ap first_of (sym asked_is) ∙ (met_ok {A = A} (first_of (make_asked p map cred s.tree f.dir_ino step)) y v is).0

        pub make_met : first_of (open_demands flags (scene_at s q f)) ≡ None
        make_met = ap first_of demands_are ∙ both_met absent asked may_be_made asked_none

        pub asked_of_it : v ≡ y
        asked_of_it = sym (met_ok {A = A} (first_of (make_asked p map cred s.tree f.dir_ino step)) y v is).1

        pub few_names : length (names_of_body new_name.node.body) < max_names p.version
        few_names =
            subst (λ (u : Node). length (names_of_body u.body) < max_names p.version) (the_node_is s.tree f.dir_ino new_name.node new_name.stands)
            (has_few p map s.tree f.dir_ino q.cred (f.step - 1) asked_none)

        pub can_make : CanMake p map s.tree f.dir_ino f.name
        can_make = may_make q.cred (f.step - 1) asked_none (state_tree i.is_state) directory_there f.name new_name.is_name
            (subst (λ (r : Room). length f.name ≤ r.name_limit) i.is_state.same_room new_name.short) new_name.leads

  -- ---- the file that was made

  module _ (mode : ℕ) (gid : ℕ) (a : AccessList) (new : SectorMap) (n : ℕ) (made : MakesNode p f.dir_ino f.name n (file_made q.cred.uid gid a) map new) where
    abbrev node : Node
    node = new_name.node

    abbrev file : Node
    file = born_file q.cred q.umask mode node

    newborn : IsNewborn s.room s.tree file
    newborn =
        let is = i.is_state.is_state in
        let here = stands_fits s i.who q is i.is_state.up i.found.there in
        let fits = is.tree.each f.dir_ino node new_name.stands in
        file_is_born s.room s.tree q.cred here.cred node fits.group q.umask mode fits.body

    change_is : open_change flags mode (scene_at s q f) n ≡ Make f.dir_ino f.name n file
    change_is =
        ap (λ (o : Option ℕ). if not (is_some o) then Make f.dir_ino f.name n (born_file q.cred q.umask mode (the_node s.tree f.dir_ino))
        else (if flags.trunc && flags.write then Rewrite Modified (unwrap_or o 0) (record (the_node s.tree (unwrap_or o 0)) { body = with_bytes [] (the_node s.tree (unwrap_or o 0)).body }) else Same)) none
        ∙ ap (λ (u : Node). Make f.dir_ino f.name n (born_file q.cred q.umask mode u)) (the_node_is s.tree f.dir_ino node new_name.stands)

    module _ (v : Inode) (is_dir : v ≡ inode_at p map f.dir_ino) (group_is : gid ≡ (if v.mode / S_ISGID % 2 == 1 then v.gid else q.cred.gid))
        (acl_is : (d : Option AccessList) → HasDefaultAcl map v d → a ≡ born_acl d mode q.umask) where
      dir_holds : HoldsNode p.version map v (record { node = node; names = names_of s.tree f.dir_ino; parent = parent s.tree f.dir_ino })
      dir_holds =
          subst (λ (w : Inode). HoldsNode p.version map w (record { node = node; names = names_of s.tree f.dir_ino; parent = parent s.tree f.dir_ino })) (sym is_dir)
          (held_node (state_tree i.is_state) f.dir_ino node new_name.stands)

      group_given : gid ≡ file.group
      group_given =
          group_is
          ∙ ap (λ (b : Bool). if b then v.gid else q.cred.gid) (set_group_says node.owner node.group node.body node.stamps v.mode new_name.directory dir_holds.mode)
          ∙ ap (λ (k : ℕ). if (the_directory node).set_group_id then k else q.cred.gid) dir_holds.group

      acl_given : a ≡ born_acl (the_directory node).default mode q.umask
      acl_given =
          acl_is (default_in node.body) (default_says p.version map v node.body new_name.directory dir_holds.body)
          ∙ ap (λ (d : Option AccessList). born_acl d mode q.umask) (default_is node.owner node.group node.body node.stamps new_name.directory)

      born : HoldsNode p.version made.mid (inode_at p made.mid n) (record { node = file; names = 1; parent = f.dir_ino })
      born =
          subst (λ (k : ℕ). HoldsNode p.version made.mid (inode_at p made.mid n)
          (record { node = record { owner = q.cred.uid; group = k; body = File (born_acl (the_directory node).default mode q.umask) []; stamps = no_stamps }; names = 1; parent = f.dir_ino })) group_given
          (subst (λ (l : AccessList). HoldsNode p.version made.mid (inode_at p made.mid n)
          (record { node = record { owner = q.cred.uid; group = gid; body = File l []; stamps = no_stamps }; names = 1; parent = f.dir_ino })) acl_given made.takes.holds)

      made_file : MakesNode p f.dir_ino f.name n file map new
      made_file = record {
        mid = made.mid;
        takes = record { super = made.takes.super; free = made.takes.free; change = made.takes.change; taken = made.takes.taken; holds = born };
        names = made.names;
      }

      pub made_prepares : first_of (open_demands flags (scene_at s q f)) ≡ None → length (names_of_body node.body) < max_names p.version
          → Prepares p new flags mode q f s n ((f.dir_ino, Modified) ∷ (n, Born) ∷ [])
      made_prepares met has_room = record {
        met = met;
        number = ap (λ (o : Option ℕ). unwrap_or o n) none;
        new_number = subst (HasNewNumber s) (sym change_is) (fresh i.is_state q f i.found i.bytes none file newborn new made_file);
        times = ap (touches_of s.tree) change_is;
        holds = λ now still.
            subst (λ (x : Change). HoldsAll p new (placed (swept (changed s.tree x) now))) (sym change_is)
            (placed_made i.is_state q f i.found i.bytes none file newborn new made_file now still has_room);
      }

-- The same, once it was made after reads: the directory was asked first, its default ACL was read then.
pub file_prepares : {p : Geometry} {old asked mid : TxnState} {flags : Flags} {q : Process} {f : Found} (none : f.ino ≡ None) (may : checked (refuse ENOENT (not flags.create || f.slash)) ≡ Ok tt)
    {cred : Credential} {step : ℕ} (same_cred : cred ≡ q.cred) (same_step : step ≡ f.step - 1) {v : Inode} (first : IsUnchanged old asked) (second : IsUnchanged asked mid)
    (met : (t : Tree) → HoldsTree p old.sectors t → IsDirectoryAt t f.dir_ino
    → refused_or {A = Inode} (first_of (make_asked p old.sectors cred t f.dir_ino step)) (Ok (inode_at p old.sectors f.dir_ino)) ≡ Ok v)
    (mode : ℕ) {uid gid umask : ℕ} {a : AccessList} {name : List ℕ} {n : ℕ} (new : SectorMap) (same_uid : uid ≡ cred.uid) (same_name : name ≡ f.name) (same_umask : umask ≡ q.umask)
    (made : MakesNode p f.dir_ino name n (file_made uid gid a) mid.sectors new)
    (group : gid ≡ (if v.mode / S_ISGID % 2 == 1 then v.gid else cred.gid))
    (born : (d : Option AccessList) → HasDefaultAcl asked.sectors v d → a ≡ born_acl d mode umask)
    {s : State} (i : FindsIn p old.sectors flags q f s) → Prepares p new flags mode q f s n ((f.dir_ino, Modified) ∷ (n, Born) ∷ [])
file_prepares {p} {old} {asked} {mid} {flags} {q} {f} none may {cred} {step} same_cred same_step {v} first second met mode {uid} {gid} {umask} {a} {name} {n} new same_uid same_name same_umask made group born {s} i =
    let joined = unchanged_joined first second in
    let later = finds_kept joined i in
    let is = asked_later p s.tree f.dir_ino step cred v joined (met s.tree (state_tree i.is_state) (directory_there i none)) in
    let y = inode_at p mid.sectors f.dir_ino in
    let here =
    subst (λ (u : ℕ). MakesNode p f.dir_ino f.name n (file_made u gid a) mid.sectors new) (same_uid ∙ ap (λ (k : Credential). k.uid) same_cred)
    (subst (λ (l : List ℕ). MakesNode p f.dir_ino l n (file_made uid gid a) mid.sectors new) same_name made) in
    made_prepares later none mode gid a new n here v (asked_of_it later none may y cred step same_cred same_step v is)
    (group ∙ ap (λ (k : Credential). if v.mode / S_ISGID % 2 == 1 then v.gid else k.gid) same_cred)
    (λ d has. born d (kept_back (λ (m : SectorMap). HasDefaultAcl m v d) second has) ∙ ap (born_acl d mode) same_umask)
    (make_met later none may y cred step same_cred same_step v is) (few_names later none may y cred step same_cred same_step v is)
