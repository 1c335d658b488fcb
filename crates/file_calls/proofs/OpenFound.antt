-- What open asks of what is there, and what it leaves of it.
--     found_is        the demands on the kind of an inode, and permission
--     old_reached, old_refused, not_opened        it is opened, or refused
--     opening_broken, opening_broken_later        a fault, in what it does then
use Rattle.std.specs.Prelude.{◌≡◌, ℕ, if◌then◌else◌, Bool, true, false, not, ◌&&◌, ◌||◌, List, [], ◌∷◌, ◌++◌, length, Option, None, Some, unwrap_or, is_some, IsTrue, Result, Ok, Err, IsErr, IsErrAnd}
use Rattle.std.proofs.Common.{refl, sym, ap, subst, arith, ◌∙◌, inl, inr}
use Rattle.fs_cred.specs.declared.errno.Errno.TheVariants.{EEXIST, EISDIR, ELOOP, ENOTDIR}
use Rattle.fs_cred.specs.declared.refusal.Need.TheVariants.{Perm}
use Rattle.fs_cred.specs.declared.refusal.Refusal.{Refusal}
use Rattle.fs_cred.specs.declared.rule.Rule.{Rule}
use Rattle.fs_cred.specs.Credentials.{Credential}
use Rattle.fs_cred.specs.Verdicts.{verdict}
use Rattle.posix_acl.specs.declared.entry.Perms.{Perms}
use Rattle.sector_disk.specs.Disk.{DiskState}
use Rattle.sector_disk.proofs.Moments.{failed_later}
use Rattle.fs_layout.specs.declared.inode.Inode.{Inode}
use Rattle.fs_layout.specs.declared.inode.Kind.TheVariants as kinds
use Rattle.fs_layout.specs.declared.geometry.Geometry.{Geometry}
use Rattle.fs_layout.specs.declared.version.Version.{Version}
use Rattle.fs_layout.specs.Bytes.{SectorMap, resized}
use Rattle.fs_layout.specs.Images.{inode_at}
use Rattle.sector_txn.specs.Sectors.{TxnState, SameStore, IsUnchanged}
use Rattle.sector_txn.proofs.TransactionRuns.{store_joined}
use Rattle.fs_model.specs.declared.call.Flags.{Flags}
use Rattle.fs_model.specs.declared.walk.Found.{Found}
use Rattle.fs_model.specs.Births.{the_node, born_file}
use Rattle.fs_model.specs.declared.touch.Touch.{Touch}
use Rattle.fs_model.specs.declared.touch.Touch.TheVariants.{Modified}
use Rattle.fs_model.specs.TreeChanges.{Change, Same, Rewrite, Make, changed, touches_of, swept}
use Rattle.fs_model.specs.Demands.{Demand, refuse, first_of, perms, decided, permission_of, permission_on}
use Rattle.fs_model.specs.Nodes.{Node, Body, File, Dir, Link, is_directory, is_link, bytes_in, with_bytes}
use Rattle.fs_model.specs.OpenCall.{open_demands, open_new_demands, open_change}
use Rattle.fs_model.specs.Processes.{Process, ProcessTable, is_open}
use Rattle.call_parts.specs.BothTables.{tables_in, users_of}
use Rattle.fs_model.specs.Rules.{is_directory_kind}
use Rattle.fs_model.specs.Stands.{HoldsAll, placed}
use Rattle.fs_model.specs.States.{State}
use Rattle.fs_model.specs.Steps.{HasNewNumber}
use Rattle.fs_model.specs.StoredNodes.{HoldsBody}
use Rattle.fs_model.specs.Summaries.{is_link_kind}
use Rattle.fs_model.specs.Trees.{Tree}
use Rattle.fs_model.proofs.PlacedChanges.{same_held}
use Rattle.fs_model.proofs.StepsBodies.{length-resized, IsBytes-resized, bytes_are_bytes}
use Rattle.fs_model.proofs.StepsDemands.{first_met, then_met, unrefused}
use Rattle.path_walk.specs.Answers.{refused_or, Interrupts, FailsToRead, IsAnswered}
use Rattle.path_walk.specs.HeldTrees.{HoldsTree, IsThere, HasAccess}
use Rattle.call_parts.specs.Paths.{scene_at}
use Rattle.call_parts.specs.Performing.{IsStateOf}
use Rattle.call_parts.proofs.Calling.{state_tree, found_there, met_ok, or_else-none, first_asked}
use Rattle.path_walk.proofs.HeldNodes.{stands, held_node, held_kind, held_access}
use Rattle.path_walk.proofs.Kept.{is_err, interrupts_later}
use Rattle.call_parts.specs.declared.reaching.Caller.{Caller}
use Rattle.call_parts.specs.ByteChanges.{ChangesBytes}
use Rattle.file_calls.specs.declared.opening.Opening.{Opening}
use Rattle.file_calls.specs.Openings.{open_kind_asked, found_asked, FindsIn, IsRefusedOpen, Opens}
use Rattle.call_parts.proofs.Followed.{IsAccessed, accessed_is, accessible}
use Rattle.call_parts.proofs.Ownership.{some_asked, others_asked, all_met}
use Rattle.file_calls.proofs.OpenedTimes.{Prepares}
use Rattle.file_calls.proofs.Rewritten.{bytes_rewritten}
use Rattle.call_parts.proofs.Shown.{the_node_is}
use Rattle.call_parts.proofs.Checked.{link_says, refused_as}
use Rattle.call_parts.specs.Telling.{Checked, checked}

-- ---- what is there

-- the kind of an inode that was read
pub kind_met : (f : Flags) {v w : Inode} {r : Checked} → w ≡ v → checked (first_of (open_kind_asked f w.kind)) ≡ r → checked (first_of (open_kind_asked f v.kind)) ≡ r
kind_met f {v} {w} {r} same is = subst (λ (u : Inode). checked (first_of (open_kind_asked f u.kind)) ≡ r) same is

no_link_of : (a b c d : Demand) → first_of (a ∷ b ∷ c ∷ d ∷ []) ≡ None → b ≡ None
no_link_of None None c d e = refl
no_link_of None (Some r) c d e = absurd (cc)
no_link_of (Some r) b c d e = absurd (cc)

module _ {p : Geometry} {map : SectorMap} {t : Tree} (h : HoldsTree p map t) (n : ℕ) (there : IsThere t n) (f : Flags) (cred : Credential) (step : ℕ) where
  -- what is asked of its kind, and permission
  pub found_is : open_kind_asked f (inode_at p map n).kind ++ (permission_on cred t n (perms f.read f.write false) 1 step ∷ []) ≡ found_asked f cred t n step
  found_is =
      let x = stands t n there in
      let v = inode_at p map n in
      let node = sym (the_node_is t n x.node x.at) in
      let link = link_says p.version map v x.node.body (held_node h n x.node x.at).body ∙ ap (λ (u : Node). is_link u.body) node in
      let directory = held_kind h n x.node x.at ∙ ap (λ (u : Node). is_directory u.body) node in
      ap (λ (b : Bool). refuse EEXIST (f.create && f.excl) ∷ refuse ELOOP b ∷ refuse ENOTDIR (f.directory && not (is_directory_kind v.kind))
      ∷ refuse EISDIR (is_directory_kind v.kind && (f.write || f.create)) ∷ permission_on cred t n (perms f.read f.write false) 1 step ∷ []) link
      ∙ ap (λ (b : Bool). refuse EEXIST (f.create && f.excl) ∷ refuse ELOOP (is_link (the_node t n).body) ∷ refuse ENOTDIR (f.directory && not b)
      ∷ refuse EISDIR (b && (f.write || f.create)) ∷ permission_on cred t n (perms f.read f.write false) 1 step ∷ []) directory

  -- the kind of what was found refuses
  pub kind_refuses : {A : Type 0} (x : A) (e : Refusal) (old new : DiskState) → checked (first_of (open_kind_asked f (inode_at p map n).kind)) ≡ Err e
      → IsAnswered old new (refused_or (first_of (found_asked f cred t n step)) (Ok x)) (Err e)
  kind_refuses {A} x e old new is =
      subst (λ (ds : List Demand). IsAnswered old new (refused_or {A = A} (first_of ds) (Ok x)) (Err e)) found_is
      (some_asked {A = A} {B = Unit {0}} (open_kind_asked f (inode_at p map n).kind) (permission_on cred t n (perms f.read f.write false) 1 step ∷ []) tt x e old new (inl is))

  module _ (met : checked (first_of (open_kind_asked f (inode_at p map n).kind)) ≡ Ok tt) where
    none : first_of (open_kind_asked f (inode_at p map n).kind) ≡ None
    none = (met_ok {A = Unit {0}} (first_of (open_kind_asked f (inode_at p map n).kind)) tt tt met).0

    -- access to it is decided
    pub kind_access : IsAccessed t n
    kind_access =
        let x = stands t n there in
        let v = inode_at p map n in
        let no_link = unrefused ELOOP (is_link_kind v.kind) (no_link_of (refuse EEXIST (f.create && f.excl)) (refuse ELOOP (is_link_kind v.kind))
        (refuse ENOTDIR (f.directory && not (is_directory_kind v.kind))) (refuse EISDIR (is_directory_kind v.kind && (f.write || f.create))) none) in
        let a = accessible x.node.owner x.node.group x.node.body (sym (link_says p.version map v x.node.body (held_node h n x.node x.at).body) ∙ no_link) in
        record { node = x.node; at = x.at; access = a.0; is = a.1 }

    pub kind_held : HasAccess map (inode_at p map n) kind_access.access
    kind_held = held_access h n kind_access.access (accessed_is t n kind_access)

    -- permission is refused
    pub found_refuses : {A : Type 0} (x : A) (want : Perms) (e : Refusal) (old new : DiskState) → want ≡ perms f.read f.write false
        → IsAnswered old new (refused_or {A = Rule} (decided 1 step (Perm want) (verdict cred kind_access.access want)) (Ok (verdict cred kind_access.access want).rule)) (Err e)
        → IsAnswered old new (refused_or (first_of (found_asked f cred t n step)) (Ok x)) (Err e)
    found_refuses {A} x want e old new is_want is =
        subst (λ (ds : List Demand). IsAnswered old new (refused_or {A = A} (first_of ds) (Ok x)) (Err e)) found_is
        (others_asked (open_kind_asked f (inode_at p map n).kind) (permission_on cred t n (perms f.read f.write false) 1 step ∷ []) x e old new none
        (first_asked {B = Rule} (permission_on cred t n (perms f.read f.write false) 1 step) [] (verdict cred kind_access.access want).rule x e old new
        (subst (λ (d : Demand). IsAnswered old new (refused_or {A = Rule} d (Ok (verdict cred kind_access.access want).rule)) (Err e))
        (ap (λ (w : Perms). decided 1 step (Perm w) (verdict cred kind_access.access w)) is_want
        ∙ sym (ap (permission_of cred (perms f.read f.write false) 1 step) (accessed_is t n kind_access))) is)))

    -- all is met
    pub found_met : (want : Perms) (rule : Rule) → want ≡ perms f.read f.write false
        → refused_or {A = Rule} (decided 1 step (Perm want) (verdict cred kind_access.access want)) (Ok (verdict cred kind_access.access want).rule) ≡ Ok rule
        → first_of (found_asked f cred t n step) ≡ None
    found_met want rule is_want is =
        ap first_of (sym found_is)
        ∙ all_met (open_kind_asked f (inode_at p map n).kind) (permission_on cred t n (perms f.read f.write false) 1 step ∷ []) none
        (or_else-none (permission_on cred t n (perms f.read f.write false) 1 step)
        ∙ ap (permission_of cred (perms f.read f.write false) 1 step) (accessed_is t n kind_access)
        ∙ sym (ap (λ (w : Perms). decided 1 step (Perm w) (verdict cred kind_access.access w)) is_want)
        ∙ (met_ok {A = Rule} (decided 1 step (Perm want) (verdict cred kind_access.access want)) (verdict cred kind_access.access want).rule rule is).0)

-- ---- it is opened, or refused

no_bytes : (l : List ℕ) → length l ≡ 0 → l ≡ []
no_bytes [] e = refl
no_bytes (b ∷ l) e = absurd (omega (arith, e))

file_of : (version : Version) (image : SectorMap) (v : Inode) (b : Body) → is_link b ≡ false → is_directory b ≡ false → HoldsBody version image v b → v.kind ≡ kinds.File
file_of version image v (File a bytes) link directory h = h.kind
file_of version image v (Dir a d) link directory h = absurd (cc)
file_of version image v (Link target) link directory h = absurd (cc)

not_both : (a b c : Bool) → (a && (b || c)) ≡ false → b ≡ true → a ≡ false
not_both false b c e on = refl
not_both true true c e on = absurd (cc)
not_both true false c e on = absurd (cc)

second_of : (a b : Bool) → (a && b) ≡ true → b ≡ true
second_of true b e = e
second_of false b e = absurd (cc)

module _ {p : Geometry} {map : SectorMap} {flags : Flags} {q : Process} {f : Found} {s : State} (i : FindsIn p map flags q f s) (n : ℕ) (some : f.ino ≡ Some n) where
  pub old_there : IsThere s.tree n
  old_there = found_there n i.is_state i.found some

  demands_are : open_demands flags (scene_at s q f) ≡ found_asked flags q.cred s.tree n f.step
  demands_are =
      ap (λ (o : Option ℕ). if is_some o then found_asked flags q.cred s.tree (unwrap_or o 0) f.step else open_new_demands flags (scene_at s q f)) some

  -- the demands on what was found refuse
  pub old_refused : {A : Type 0} (y : A) (cred : Credential) (e : Refusal) (old new : DiskState) → cred ≡ q.cred
      → IsAnswered old new (refused_or {A = A} (first_of (found_asked flags cred s.tree n f.step)) (Ok y)) (Err e) → IsRefusedOpen old new flags q f s e
  old_refused {A} y cred e old new same h =
      subst (λ (ds : List Demand). IsAnswered old new (refused_or {A = ℕ} (first_of ds) (Ok 0)) (Err e)) (sym demands_are)
      (refused_as {A = ℕ} {B = A} (first_of (found_asked flags q.cred s.tree n f.step)) y 0 e old new
      (subst (λ (k : Credential). IsAnswered old new (refused_or {A = A} (first_of (found_asked flags k s.tree n f.step)) (Ok y)) (Err e)) same h))

  module _ (cred : Credential) (v : Inode) (same : cred ≡ q.cred)
      (is : refused_or {A = Inode} (first_of (found_asked flags cred s.tree n f.step)) (Ok (inode_at p map n)) ≡ Ok v) where
    asked_none : first_of (found_asked flags q.cred s.tree n f.step) ≡ None
    asked_none =
        ap (λ (k : Credential). first_of (found_asked flags k s.tree n f.step)) (sym same)
        ∙ (met_ok {A = Inode} (first_of (found_asked flags cred s.tree n f.step)) (inode_at p map n) v is).0

    pub old_inode : v ≡ inode_at p map n
    old_inode = sym (met_ok {A = Inode} (first_of (found_asked flags cred s.tree n f.step)) (inode_at p map n) v is).1

    pub old_met : first_of (open_demands flags (scene_at s q f)) ≡ None
    old_met = ap first_of demands_are ∙ asked_none

    -- a file that is opened for writing
    pub old_file : flags.trunc && flags.write ≡ true → v.kind ≡ kinds.File
    old_file cuts =
        let x = stands s.tree n old_there in
        let b = (the_node s.tree n).body in
        let here = the_node_is s.tree n x.node x.at in
        let one = then_met (refuse EEXIST (flags.create && flags.excl)) _ asked_none in
        let two = then_met (refuse ELOOP (is_link b)) _ one in
        let three = then_met (refuse ENOTDIR (flags.directory && not (is_directory b))) _ two in
        let no_link = unrefused ELOOP (is_link b) (first_met (refuse ELOOP (is_link b)) _ one) in
        let no_write = unrefused EISDIR (is_directory b && (flags.write || flags.create)) (first_met (refuse EISDIR (is_directory b && (flags.write || flags.create))) _ three) in
        let no_directory = not_both (is_directory b) flags.write flags.create no_write (second_of flags.trunc flags.write cuts) in
        ap (λ (w : Inode). w.kind) old_inode
        ∙ file_of p.version map (inode_at p map n) x.node.body (ap (λ (u : Node). is_link u.body) (sym here) ∙ no_link) (ap (λ (u : Node). is_directory u.body) (sym here) ∙ no_directory)
        (held_node (state_tree i.is_state) n x.node x.at).body

    abbrev cut_at : ℕ → Change
    cut_at k = Rewrite Modified k (record (the_node s.tree k) { body = with_bytes [] (the_node s.tree k).body })

    change_is : (mode : ℕ) → open_change flags mode (scene_at s q f) n ≡ (if flags.trunc && flags.write then cut_at n else Same)
    change_is mode =
        ap (λ (o : Option ℕ). if not (is_some o) then Make f.dir_ino f.name n (born_file q.cred q.umask mode (the_node s.tree f.dir_ino))
        else (if flags.trunc && flags.write then cut_at (unwrap_or o 0) else Same)) some

    prepared_by : (mode : ℕ) (new : SectorMap) (touching : List (ℕ × Touch)) (change : Change) → open_change flags mode (scene_at s q f) n ≡ change → HasNewNumber s change
        → touches_of s.tree change ≡ touching
        → ((now : ProcessTable) → ((k : ℕ) → IsTrue (is_open (users_of (tables_in s)) k) → IsTrue (is_open now k)) → HoldsAll p new (placed (swept (changed s.tree change) now)))
        → Prepares p new flags mode q f s n touching
    prepared_by mode new touching change change_to fresh times holds = record {
      met = old_met;
      number = ap (λ (o : Option ℕ). unwrap_or o n) some;
      new_number = subst (HasNewNumber s) (sym change_to) fresh;
      times = ap (touches_of s.tree) change_to ∙ times;
      holds = λ now still. subst (λ (x : Change). HoldsAll p new (placed (swept (changed s.tree x) now))) (sym change_to) (holds now still);
    }

    -- as it is
    pub old_reached : (mode : ℕ) (new : SectorMap) → flags.trunc && flags.write ≡ false → new ≡ map → Prepares p new flags mode q f s n []
    old_reached mode new keeps same_map =
        let at = i.is_state in
        prepared_by mode new [] Same (change_is mode ∙ ap (λ (b : Bool). if b then cut_at n else Same) keeps) tt refl
        (λ now still. subst (λ (m : SectorMap). HoldsAll p m (placed (swept (changed s.tree Same) now))) (sym same_map)
        (same_held s at.is_state at.up now still p map at.holds at.same_room))

  -- without its bytes
  pub old_emptied : (cred : Credential) (v : Inode) (same : cred ≡ q.cred)
      → refused_or {A = Inode} (first_of (found_asked flags cred s.tree n f.step)) (Ok (inode_at p map n)) ≡ Ok v
      → (mode : ℕ) (old new : TxnState) → old.sectors ≡ map → flags.trunc && flags.write ≡ true → ChangesBytes p n (λ held. resized held 0) old.sectors new.sectors
      → Prepares p new.sectors flags mode q f s n ((n, Modified) ∷ [])
  old_emptied cred v same is mode old new old_is cuts c =
      let at = subst (λ (m : SectorMap). IsStateOf p m i.tables s) (sym old_is) i.is_state in
      let x = stands s.tree n old_there in
      let here = the_node_is s.tree n x.node x.at in
      let body = (at.is_state.tree.each n x.node x.at).body in
      let len = length-resized (bytes_in x.node.body) 0 in
      let kind = ap (λ (m : SectorMap). (inode_at p m n).kind) old_is ∙ ap (λ (w : Inode). w.kind) (sym (old_inode cred v same is)) ∙ old_file cred v same is cuts in
      let emptied = no_bytes (resized (bytes_in x.node.body) 0) len in
      let change_to = change_is cred v same is mode
      ∙ ap (λ (b : Bool). if b then Rewrite Modified n (record (the_node s.tree n) { body = with_bytes [] (the_node s.tree n).body }) else Same) cuts
      ∙ ap (λ (u : Node). Rewrite Modified n (record u { body = with_bytes [] u.body })) here
      ∙ ap (λ (l : List ℕ). Rewrite Modified n (record x.node { body = with_bytes l x.node.body })) (sym emptied) in
      prepared_by cred v same is mode new.sectors ((n, Modified) ∷ []) _ change_to tt refl
      (λ now still. bytes_rewritten at now still n x.node x.at kind (λ held. resized held 0) c (omega (arith, len))
      (IsBytes-resized (bytes_in x.node.body) 0 (bytes_are_bytes s.room s.tree x.node.body body)))

-- an open that is refused, or that a fault ends
pub not_opened : {caller : Caller} {q : Process} {o : Opening} (old new : TxnState) (r : Result ℕ Refusal) (e : Refusal) → IsErr r → IsErrAnd r (λ y. y ≡ e) → SameStore old new
    → ((s : State) → FindsIn caller.geometry old.sectors o.flags q o.found s → IsRefusedOpen old.disk new.disk o.flags q o.found s e)
    → Opens caller q o old new r
not_opened {caller} {q} {o} old new r e err and store refused =
    subst (Opens caller q o old new) (sym (is_err r e err and)) (record { store = store; super = tt; each = refused })

-- a fault, in what it does after reads, or after it has changed the tree
pub opening_broken : {caller : Caller} {q : Process} {o : Opening} {old mid : TxnState} (new : TxnState) (r : Result ℕ Refusal) (e : Refusal) → IsErr r × IsErrAnd r (λ y. y ≡ e) → IsUnchanged old mid
    → SameStore mid new → Interrupts mid.disk new.disk e → Opens caller q o old new r
opening_broken {old = old} new r e err same store fault = not_opened old new r e err.0 err.1 (store_joined same.store store) (λ s i. inr (interrupts_later new.disk same fault))

pub opening_broken_later : {caller : Caller} {q : Process} {o : Opening} {old mid : TxnState} (new : TxnState) (r : Result ℕ Refusal) (e : Refusal) → IsErr r × IsErrAnd r (λ y. y ≡ e)
    → SameStore old mid → SameStore mid new → FailsToRead mid.disk new.disk e → Opens caller q o old new r
opening_broken_later {old = old} {mid = mid} new r e err first next fault =
    not_opened old new r e err.0 err.1 (store_joined first next) (λ s i. inr (inr (fault.0, failed_later old.disk mid.disk new.disk first.reads.failures fault.1)))
