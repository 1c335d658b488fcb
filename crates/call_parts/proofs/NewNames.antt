-- New names in directories, and what they ask.
--     room_then, named_new        a directory has room once an inode was taken, and names it
--     was_taken        the cause of a failure to take one
--     asked_as, not_made, not_allowed, allowed        what is asked of the directory
--     space_at, space_refused, space_met        and of a call that makes something
--     caller_fits, new_in, ParentFits, parent_fits        the caller and the directory, in a state
--     name_is_new, fresh, placed_made, node_made        something was made of a new name
--     name_refused, name_found, made_refused, made_may_touch, made_done        a call that makes something
use Rattle.std.specs.Prelude.{Bool, false}
use Rattle.call_parts.specs.Callers.{Who, ByCaller, told_by}
use Rattle.call_parts.proofs.Starts.{stands_fits}
use Rattle.std.specs.Prelude.{◌≡◌, ◌⊎◌, ℕ, ◌+◌, ◌-◌, ◌^◌, ◌<◌, ◌≤◌, ◌==◌, nat_lt, nat_le, List, [], ◌∷◌, ◌++◌, length, None, IsTrue, Result, Ok, Err, IsErr, IsErrAnd}
use Rattle.std.proofs.Common.{refl, sym, ap, subst, arith, ◌∙◌, inl, inr}
use Rattle.sector_disk.specs.Disk.{DiskState, HasFailed}
use Rattle.fs_cred.specs.declared.errno.Errno.TheVariants.{ENOSPC}
use Rattle.fs_cred.specs.declared.refusal.Refusal.{Refusal}
use Rattle.fs_cred.specs.Credentials.{Credential}
use Rattle.fs_layout.specs.declared.geometry.Geometry.{Geometry}
use Rattle.fs_layout.specs.Bytes.{SectorMap, IsBytes}
use Rattle.fs_layout.specs.Images.{inode_at, free_sectors}
use Rattle.fs_layout.specs.Version.{max_names}
use Rattle.fs_layout.specs.Maps.{name_cmp, with_entry}
use Rattle.sector_txn.specs.Sectors.{TxnState, IsUnchanged, SameStore}
use Rattle.sector_txn.proofs.TransactionRuns.{store_same}
use Rattle.bit_alloc.specs.declared.bitmap.Bitmap.TheVariants.{Inodes}
use Rattle.bit_alloc.specs.declared.bitmap.TakeFault.{TakeFault}
use Rattle.bit_alloc.specs.declared.bitmap.TakeFault.TheVariants as taking
use Rattle.bit_alloc.specs.Bitmaps.{free_numbers}
use Rattle.bit_alloc.specs.Room.{TakesSpare}
use Rattle.fs_model.specs.declared.call.Call.{Call}
use Rattle.fs_model.specs.declared.reply.Reply.{Reply}
use Rattle.fs_model.specs.declared.reply.Reply.TheVariants.{Done}
use Rattle.fs_model.specs.declared.walk.Form.{Form}
use Rattle.fs_model.specs.declared.walk.Form.TheVariants.{Parent}
use Rattle.fs_model.specs.declared.walk.Found.{Found}
use Rattle.fs_model.specs.Births.{the_node}
use Rattle.fs_model.specs.declared.touch.Touch.TheVariants.{Modified, Born}
use Rattle.fs_model.specs.Stands.{HoldsAll, placed}
use Rattle.fs_model.specs.TreeChanges.{Make, changed as changed_tree, swept}
use Rattle.fs_model.specs.Demands.{Demand, refuse, first_of}
use Rattle.fs_model.specs.Limits.{least_free}
use Rattle.fs_model.specs.Nodes.{Node, names_of_body, with_names}
use Rattle.fs_model.specs.Processes.{Process, ProcessTable, is_open}
use Rattle.call_parts.specs.BothTables.{Tables, tables_in, users_of}
use Rattle.fs_model.specs.Scenes.{Scene, Effect, permission_at_dir, space_to_make, changes}
use Rattle.fs_model.specs.States.{State, IsProcess}
use Rattle.fs_model.specs.Steps.{HasNewNumber}
use Rattle.fs_model.specs.StoredNodes.{HoldsNode}
use Rattle.fs_model.specs.Trees.{Room, Tree, IsBody, IsDirectoryAt, free_inodes, names_of, parent}
use Rattle.fs_model.proofs.PlacedChanges.{make_held}
use Rattle.fs_model.proofs.StepsAdding.{takes_new}
use Rattle.fs_model.proofs.StepsFound.{IsNameAt}
use Rattle.fs_model.proofs.StepsMaking.{IsNewborn}
use Rattle.fs_model.proofs.StepsOfMaking.{dir_is_there}
use Rattle.path_walk.specs.Answers.{refused_or, IsAnswered}
use Rattle.path_walk.specs.HeldTrees.{HoldsTree}
use Rattle.call_parts.specs.Paths.{scene_at, HasFound}
use Rattle.call_parts.specs.Performing.{IsStateOf, Performs}
use Rattle.call_parts.specs.Telling.{Checked, checked}
use Rattle.call_parts.specs.Reaching.{WalksPath, HasWalked}
use Rattle.call_parts.proofs.Calling.{state_tree, met_ok, refused_err}
use Rattle.call_parts.proofs.HeldChanges.{names_held}
use Rattle.path_walk.proofs.HeldNodes.{is_there, names_say, number_below}
use Rattle.path_walk.proofs.Kept.{is_err}
use Rattle.call_parts.specs.Makings.{CanMake, make_asked}
use Rattle.call_parts.proofs.Changed.{IsChange, may_touch}
use Rattle.call_parts.proofs.Makeable.{found_new, has_few}
use Rattle.call_parts.proofs.NewFile.{dir_below, dir_still_held, nothing_stands}
use Rattle.call_parts.proofs.Checked.{refused_as}
use Rattle.call_parts.proofs.Ownership.{others_asked, all_met}
use Rattle.call_parts.proofs.Reachings.{asked_refused, changed_told}
use Rattle.call_parts.proofs.Refuses.{Refuses, refuses_some}
use Rattle.call_parts.proofs.Shown.{the_node_is}
use Rattle.call_parts.specs.Altering.{AltersDisk}
use Rattle.call_parts.specs.NewNodes.{MayBeNamed, NamesInode, IsMade, IsNewIn, MakesNode, TakesInode}
use Rattle.call_parts.proofs.Alterings.{altered}
use Rattle.call_parts.specs.Times.{MayMoveTimes, MovesTimes}

module _ {p : Geometry} {map : SectorMap} {t : Tree} {dir_ino : ℕ} {name : List ℕ} (can : CanMake p map t dir_ino name) where
  pub room_then : {bytes : List ℕ} → bytes ≡ name → (mid : SectorMap) (n : ℕ) (node : Node) → TakesInode p n (record { node = node; names = 1; parent = dir_ino }) map mid
      → free_sectors p map ≤ free_sectors p mid + 2 → MayBeNamed p mid dir_ino bytes
  room_then is mid n node takes left =
      let held = dir_still_held can.holds can.directory n takes.free takes.change (record { node = node; names = 1; parent = dir_ino }) takes.holds takes.taken in
      let enough = can.enough in
      subst (MayBeNamed p mid dir_ino) (sym is) (record {
        below = dir_below can;
        is_name = can.is_name;
        short = can.short;
        names = names_of_body can.directory.node.body;
        are = names_say p.version mid (inode_at p mid dir_ino) can.directory.node.body can.directory.directory held.body;
        is_new = can.is_new;
        few = can.has_room;
        enough = omega (arith, enough, left);
      })

  -- an inode isn't refused for want of room
  pub was_taken : (sectors : ℕ) → sectors ≤ 2 → (old new : DiskState) (e : TakeFault)
      → (e ≡ taking.Full → (free_numbers p Inodes map ≡ 0) ⊎ (free_sectors p map < sectors)) → (e ≡ taking.DiskFault → HasFailed old new) → HasFailed old new
  was_taken sectors few old new taking.Full full failed = absurd (elim (full refl) [
    | inl none ↦ can.some none
    | inr less ↦ let enough = can.enough in omega (arith, less, few, enough)
  ])
  was_taken sectors few old new taking.DiskFault full failed = failed refl

-- it was taken, and then named
pub named_new : {p : Geometry} {dir_ino : ℕ} {name bytes : List ℕ} {node : Node} {old mid new : TxnState} (n sectors : ℕ) → sectors + 4 ≤ 7 → SameStore old mid → TakesSpare p sectors old mid
    → TakesInode p n (record { node = node; names = 1; parent = dir_ino }) old.sectors mid.sectors → bytes ≡ name
    → AltersDisk p 4 (λ (done : Unit {0}). NamesInode p dir_ino bytes n) mid new (Ok tt) → AltersDisk p 7 (λ (k : ℕ). MakesNode p dir_ino name k node) old new (Ok n)
named_new {p} {dir_ino} {name} {bytes} {node} {old} {mid} {new} n sectors fits store taken takes is named =
    altered n sectors 4 fits store taken named.store named.sound named.taken
    (record { mid = mid.sectors; takes = takes; names = subst (λ (q : List ℕ). NamesInode p dir_ino q n mid.sectors new.sectors) is named.made })

-- ---- what is asked of the directory

-- as this caller, after so many lookups
pub asked_as : (p : Geometry) (map : SectorMap) (t : Tree) (dir_ino : ℕ) {cred who : Credential} {step steps : ℕ} → cred ≡ who → step ≡ steps
    → make_asked p map cred t dir_ino step ≡ make_asked p map who t dir_ino steps
asked_as p map t dir_ino {cred} {who} {step} {steps} same count =
    ap (λ (k : Credential). make_asked p map k t dir_ino step) same ∙ ap (λ (k : ℕ). make_asked p map who t dir_ino k) count

module _ (p : Geometry) (old new : TxnState) (who : Credential) (t : Tree) (f : Found) (node : Node) where
  -- the object isn't made
  pub not_made : (r : Result ℕ Refusal) (e : Refusal) → IsErr r × IsErrAnd r (λ y. y ≡ e)
      → IsAnswered old.disk new.disk (refused_or {A = Unit {0}} (first_of (make_asked p old.sectors who t f.dir_ino (f.step - 1))) (Ok tt)) (Err e)
      → IsMade p old new who t f node r
  not_made r e err h = subst (λ (x : Result ℕ Refusal). IsMade p old new who t f node x) (sym (is_err r e err.0 err.1)) h

  -- what is asked refuses
  pub not_allowed : {cred : Credential} {step : ℕ} → cred ≡ who → step ≡ f.step - 1 → (r : Result ℕ Refusal) (e : Refusal) → IsErr r × IsErrAnd r (λ y. y ≡ e)
      → {B : Type 0} (x : B) → IsAnswered old.disk new.disk (refused_or {A = B} (first_of (make_asked p old.sectors cred t f.dir_ino step)) (Ok x)) (Err e)
      → IsMade p old new who t f node r
  not_allowed {cred} {step} same count r e err {B} x h = not_made r e err
      (refused_as {A = Unit {0}} {B = B} (first_of (make_asked p old.sectors who t f.dir_ino (f.step - 1))) x tt e old.disk new.disk
      (subst (λ (ds : List Demand). IsAnswered old.disk new.disk (refused_or {A = B} (first_of ds) (Ok x)) (Err e)) (asked_as p old.sectors t f.dir_ino same count) h))

-- what is asked is met, and answers this
pub allowed : (p : Geometry) (map : SectorMap) (t : Tree) (f : Found) {cred who : Credential} {step : ℕ} → cred ≡ who → step ≡ f.step - 1 → {B : Type 0} (x y : B)
    → refused_or {A = B} (first_of (make_asked p map cred t f.dir_ino step)) (Ok x) ≡ Ok y → (first_of (make_asked p map who t f.dir_ino (f.step - 1)) ≡ None) × (y ≡ x)
allowed p map t f {cred} {who} {step} same count {B} x y h =
    let met = met_ok {A = B} (first_of (make_asked p map cred t f.dir_ino step)) x y h in
    (ap first_of (sym (asked_as p map t f.dir_ino same count)) ∙ met.0, sym met.1)

-- ---- in a state

-- what a node gives to what is made in it
pub record ParentFits (room : Room) (t : Tree) (node : Node) : Type 0 where
  pub group : node.group < 2 ^ 32
  pub body : IsBody room t node.body

-- the caller is one of the state
pub caller_fits : {p : Geometry} {map : SectorMap} {tables : Tables} {s : State} {who : Who} {q : Process} {links : Bool} {form : Form} {path : List ℕ} {f : Found}
    → IsStateOf p map tables s → HasFound s who q links form path f → IsProcess s.tree q
caller_fits {p} {map} {tables} {s} {who} {q} at has = stands_fits s who q at.is_state at.up has.there

-- what a call asks that makes something, after what it asks of the name
abbrev pub space_at : Scene → List Demand
space_at s = permission_at_dir s s.first 1 ∷ space_to_make s

module _ {p : Geometry} {map : SectorMap} {tables : Tables} {s : State} (at : IsStateOf p map tables s) (q : Process) (f : Found) where
  abbrev space : List Demand
  space = space_at (scene_at s q f)

  space_is : space ≡ make_asked p map q.cred s.tree f.dir_ino (f.step - 1)
  space_is =
      ap (λ (k : ℕ). permission_at_dir (scene_at s q f) f 1 ∷ refuse ENOSPC (nat_lt k least_free)
      ∷ refuse ENOSPC (free_inodes s.room s.tree == 0) ∷ refuse ENOSPC (nat_le s.room.entries_limit (length (names_of_body (the_node s.tree f.dir_ino).body))) ∷ []) at.free_is
      ∙ ap (λ (r : Room). permission_at_dir (scene_at s q f) f 1 ∷ refuse ENOSPC (nat_lt (free_sectors p map) least_free)
      ∷ refuse ENOSPC (free_inodes r s.tree == 0) ∷ refuse ENOSPC (nat_le r.entries_limit (length (names_of_body (the_node s.tree f.dir_ino).body))) ∷ []) at.same_room

  module _ (asked : List Demand) (met : first_of asked ≡ None) where
    pub space_refused : (e : Refusal) (old new : DiskState)
        → IsAnswered old new (refused_or {A = Unit {0}} (first_of (make_asked p map q.cred s.tree f.dir_ino (f.step - 1))) (Ok tt)) (Err e)
        → IsAnswered old new (refused_or {A = Unit {0}} (first_of (asked ++ space)) (Ok tt)) (Err e)
    space_refused e old new h =
        others_asked asked space tt e old new met
        (subst (λ (ds : List Demand). IsAnswered old new (refused_or {A = Unit {0}} (first_of ds) (Ok tt)) (Err e)) (sym space_is) h)

    pub space_met : first_of (make_asked p map q.cred s.tree f.dir_ino (f.step - 1)) ≡ None → first_of (asked ++ space) ≡ None
    space_met h = all_met asked space met (ap first_of space_is ∙ h)

  module _ {who : Who} {links : Bool} {form : Form} {path : List ℕ} (has : HasFound s who q links form path f) (bytes : IsBytes path) (none : f.ino ≡ None) where
    pub name_is_new : IsNameAt s.room s.tree f.dir_ino f.name None
    name_is_new = found_new at has bytes none

    abbrev directory_there : IsDirectoryAt s.tree f.dir_ino
    directory_there = record { node = name_is_new.node; is_there = name_is_new.stands; directory = name_is_new.directory }

    pub new_in : IsNewIn p s.tree f.dir_ino f.name
    new_in = record {
      directory = directory_there;
      is_name = name_is_new.is_name;
      short = subst (λ (r : Room). length f.name ≤ r.name_limit) at.same_room name_is_new.short;
      is_new = name_is_new.leads;
    }

    -- the directory fits
    pub parent_fits : ParentFits s.room s.tree (the_node s.tree f.dir_ino)
    parent_fits =
        let is = at.is_state.tree.each f.dir_ino (the_node s.tree f.dir_ino) (dir_is_there s.tree f.dir_ino f.name None name_is_new).0 in
        record { group = is.group; body = is.body }

    module _ {n : ℕ} (node : Node) (newborn : IsNewborn s.room s.tree node) (new : SectorMap) (made : MakesNode p f.dir_ino f.name n node map new) where
      abbrev directory : Node
      directory = name_is_new.node

      pub fresh : HasNewNumber s (Make f.dir_ino f.name n node)
      fresh =
          let free = made.takes.free in
          let below = free.1 in
          let same = ap (λ (r : Room). r.inodes) at.same_room in
          (free.0, omega (arith, below, same), nothing_stands (state_tree at) n free)

      renamed_held : HoldsNode p.version new (inode_at p new f.dir_ino) (record {
        node = record directory { body = with_names (with_entry name_cmp (names_of_body directory.body) f.name n) directory.body };
        names = names_of s.tree f.dir_ino;
        parent = parent s.tree f.dir_ino;
      })
      renamed_held =
          let before = inode_at p made.mid f.dir_ino in
          let held = dir_still_held (state_tree at) directory_there n made.takes.free made.takes.change (record { node = node; names = 1; parent = f.dir_ino }) made.takes.holds made.takes.taken in
          names_held made.mid new before (inode_at p new f.dir_ino) (record { node = directory; names = names_of s.tree f.dir_ino; parent = parent s.tree f.dir_ino }) held
          (with_entry name_cmp (names_of_body directory.body) f.name n) name_is_new.directory made.names.kept made.names.acls
          (made.names.named (names_of_body directory.body) (names_say p.version made.mid before directory.body name_is_new.directory held.body))

      -- the map holds the tree with it
      pub placed_made : (now : ProcessTable) → ((k : ℕ) → IsTrue (is_open (users_of (tables_in s)) k) → IsTrue (is_open now k)) → length (names_of_body directory.body) < max_names p.version
          → HoldsAll p new (placed (swept (changed_tree s.tree (Make f.dir_ino f.name n node)) now))
      placed_made now still few =
          make_held s at.is_state at.up now still p map at.holds at.same_room made.mid new f.dir_ino directory f.name n node (record {
            takes = takes_new name_is_new (subst (λ (r : Room). length (names_of_body directory.body) < r.entries_limit) (sym at.same_room) few);
            positive = fresh.0;
            below = fresh.1;
            unused = fresh.2;
            newborn = newborn;
          }) made.takes.change made.takes.taken made.takes.holds made.names.change made.names.used renamed_held

      -- the node was made
      pub node_made : (asked : List Demand) → first_of asked ≡ None → first_of (make_asked p map q.cred s.tree f.dir_ino (f.step - 1)) ≡ None
          → (c : IsChange p new tables s q asked (λ k. changes (scene_at s q f) (Make f.dir_ino f.name k node)) Done ((f.dir_ino, Modified) ∷ (n, Born) ∷ [])) × (c.number ≡ n)
      node_made asked met allows = (
        record {
          met = met;
          number = n;
          change = Make f.dir_ino f.name n node;
          is = refl;
          new_number = fresh;
          times = refl;
          holds = placed_made (users_of tables) (λ k is. subst (λ (d : Tables). IsTrue (is_open (users_of d) k)) at.same_tables is)
              (subst (λ (u : Node). length (names_of_body u.body) < max_names p.version) (the_node_is s.tree f.dir_ino directory name_is_new.stands) (has_few p map s.tree f.dir_ino q.cred (f.step - 1) allows));
        },
        refl,
      )

-- ---- a call that makes something, by its row

module _ {who : Who} {call : Call} {checks : Checked} {path : List ℕ} (asked : Found → List Demand) {effect : Scene → ℕ → Effect}
    (is : WalksPath who call checks false Parent path (λ x. asked x.first ++ space_at x) effect) {p : Geometry} {old mid : TxnState} {tables : Tables} {q : Process} {f : Found}
    (same : IsUnchanged old mid) (w : HasWalked p mid tables who checks false Parent path q f) where
  -- the name isn't new
  pub name_refused : {time : ℕ} (r : Result Reply Refusal) (e : Refusal) → IsErr r × IsErrAnd r (λ y. y ≡ e) → {d : Demand} → Refuses d (first_of (asked f)) → checked d ≡ Err e
      → Performs p time (ByCaller who call) old mid tables tables r
  name_refused r e err {d} refuses is_refused = asked_refused is same w mid r e err.0 err.1 store_same {A = Unit {0}} tt
      (λ s has at.
      inl (ap checked
      (refuses_some (asked f) (space_at (scene_at s q f)) e (refuses e (refused_err {A = Unit {0}} d tt e is_refused)))))

  -- the name is new in a directory
  pub name_found : f.ino ≡ None → (t : Tree) × HoldsTree p mid.sectors t × IsNewIn p t f.dir_ino f.name
  name_found none =
      let at = w.ready.is_state in
      (w.ready.state.tree, state_tree at, new_in at q f (w.found w.ready.state at) w.bytes none)

  module _ (none : f.ino ≡ None) (new : TxnState) where
    -- the object isn't made, and the call refused
    pub made_refused : {time : ℕ} (r : Result Reply Refusal) (e : Refusal) → IsErr r × IsErrAnd r (λ y. y ≡ e) → SameStore mid new → first_of (asked f) ≡ None
        → ((t : Tree) → HoldsTree p mid.sectors t → IsNewIn p t f.dir_ino f.name
        → IsAnswered mid.disk new.disk (refused_or {A = Unit {0}} (first_of (make_asked p mid.sectors q.cred t f.dir_ino (f.step - 1))) (Ok tt)) (Err e))
        → Performs p time (ByCaller who call) old new tables tables r
    made_refused r e err store met each = asked_refused is same w new r e err.0 err.1 store {A = Unit {0}} tt
        (λ s has at. space_refused at q f (asked f) met e mid.disk new.disk (each s.tree (state_tree at) (new_in at q f has w.bytes none)))

  -- the object is made, at this number
  module _ (none : f.ino ≡ None) (last : TxnState) (n : ℕ) (node : Tree → Node)
      (each : (t : Tree) → HoldsTree p mid.sectors t → IsNewIn p t f.dir_ino f.name → IsMade p mid last q.cred t f (node t) (Ok n))
      (says : (s : State) → HasFound s who q false Parent path f → IsStateOf p mid.sectors tables s → first_of (make_asked p mid.sectors q.cred s.tree f.dir_ino (f.step - 1)) ≡ None
      → MakesNode p f.dir_ino f.name n (node s.tree) mid.sectors last.sectors
      → (c : IsChange p last.sectors tables s q (asked f ++ space_at (scene_at s q f)) (effect (scene_at s q f)) Done ((f.dir_ino, Modified) ∷ (n, Born) ∷ [])) × (c.number ≡ n)) where
    made_at : (s : State) → IsStateOf p mid.sectors tables s → HasFound s who q false Parent path f
        → (first_of (make_asked p mid.sectors q.cred s.tree f.dir_ino (f.step - 1)) ≡ None) × MakesNode p f.dir_ino f.name n (node s.tree) mid.sectors last.sectors
    made_at s at has = each s.tree (state_tree at) (new_in at q f has w.bytes none)

    made_change : (s : State) → HasFound s who q false Parent path f → IsStateOf p mid.sectors tables s
        → (c : IsChange p last.sectors tables s q (asked f ++ space_at (scene_at s q f)) (effect (scene_at s q f)) Done ((f.dir_ino, Modified) ∷ (n, Born) ∷ [])) × (c.number ≡ n)
    made_change s has at = let m = made_at s at has in says s has at m.0 m.1

    -- the times of the new object and of the directory may move
    pub made_may_touch : SameStore mid last → (k : ℕ) → k ≤ 45 → TakesSpare p k mid last → MayMoveTimes p ((f.dir_ino, Modified) ∷ (n, Born) ∷ []) last
    made_may_touch store k few taken =
        let ready = w.ready in
        let at = ready.is_state in
        let has = w.found ready.state at in
        let d = new_in at q f has w.bytes none in
        may_touch ready store (made_change ready.state has at).0
        (number_below (state_tree at) f.dir_ino (is_there ready.state.tree f.dir_ino d.directory.node d.directory.is_there), ((made_at ready.state at has).1.takes.free.1, tt))
        k taken (omega (arith, few))

    -- and it is done, as the caller is told
    pub made_done : {time : ℕ} {new : TxnState} (answer : Reply) → told_by who call n Done ≡ answer → SameStore mid last → MovesTimes p time ((f.dir_ino, Modified) ∷ (n, Born) ∷ []) last new
        → Performs p time (ByCaller who call) old new tables tables (Ok answer)
    made_done answer tells store moved =
        let ready = w.ready in
        let done = (made_at ready.state ready.is_state (w.found ready.state ready.is_state)).1 in
        changed_told is same w last store (done.names.super ∙ done.takes.super) moved Done answer
        (λ s has at. let c = made_change s has at in (c.0, ap (λ k. told_by who call k Done) c.1 ∙ tells))
