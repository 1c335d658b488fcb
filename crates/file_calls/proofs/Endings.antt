-- The end of a process, descriptor after descriptor.
--     IsLeaving, leaving_begun, leaving_on, leaving_done        what the map holds once those below are closed
--     open_number        what is open has a number of the disk
--     exit_after        what it leaves
--     no_exit_err, absent_exits, failed_exits, exited        what it answers
use Rattle.std.specs.Prelude.{◌≡◌, ◌≢◌, ℕ, ◌+◌, ◌-◌, ◌<◌, ◌≤◌, ◌==◌, Bool, true, false, ◌||◌, List, [], ◌∷◌, Option, None, Some, IsSome, Result, Ok, Err, IsErr, IsErrAnd, ◌⊎◌}
use Rattle.std.proofs.Common.{refl, sym, ap, subst, arith, ◌∙◌, inl, inr}
use Rattle.std.proofs.lemmas.Bool.{cases_eq, ne_eqb}
use Rattle.std.specs.List.{list_any}
use Rattle.std.specs.Option.{ok_or}
use Rattle.std.specs.Ordering.{nat_cmp}
use Rattle.sector_disk.specs.Disk.{HasFailed}
use Rattle.fs_cred.specs.declared.errno.Errno.{Errno}
use Rattle.fs_cred.specs.declared.errno.Errno.TheVariants.{ESRCH, EBADF, EIO}
use Rattle.fs_cred.specs.declared.refusal.Refusal.{Refusal}
use Rattle.fs_cred.specs.declared.refusal.Refusal.TheVariants.{Failed}
use Rattle.fs_layout.specs.declared.inode.Inode.{Inode}
use Rattle.fs_layout.specs.declared.geometry.Geometry.{Geometry}
use Rattle.fs_layout.specs.Bytes.{SectorMap}
use Rattle.fs_layout.specs.Images.{inode_at}
use Rattle.fs_layout.specs.Inode.{free_inode}
use Rattle.fs_layout.specs.Maps.{get, without, IsMap}
use Rattle.fs_layout.proofs.FirstEntries.{right}
use Rattle.sector_txn.specs.Sectors.{TxnState, SameStore, IsUnchanged}
use Rattle.sector_txn.proofs.TransactionRuns.{store_same, store_joined}
use Rattle.bit_alloc.specs.declared.bitmap.Bitmap.TheVariants.{Inodes}
use Rattle.bit_alloc.specs.Bitmaps.{IsNumber}
use Rattle.bit_alloc.specs.Inodes.{IsSound}
use Rattle.bit_alloc.specs.Room.{HasSpare}
use Rattle.bit_alloc.proofs.Soundness.{spare_then}
use Rattle.bit_alloc.proofs.Transactions.{spare_unchanged}
use Rattle.fs_model.specs.declared.event.Event.TheVariants.{Exit}
use Rattle.fs_model.specs.declared.reply.Reply.TheVariants.{Done}
use Rattle.fs_model.specs.TreeChanges.{Same, swept}
use Rattle.fs_model.specs.Limits.{descriptors_limit}
use Rattle.fs_model.specs.Nodes.{Node}
use Rattle.fs_model.specs.Processes.{Descriptor, Process, ProcessTable, process_holding, is_open}
use Rattle.call_parts.specs.BothTables.{Tables, tables_in, users_of}
use Rattle.call_parts.specs.Callers.{leaving}
use Rattle.call_parts.specs.declared.reaching.OpenAt.TheVariants.{Descriptor as AtDescriptor}
use Rattle.fs_model.specs.Stands.{HoldsPlaced, HoldsAll, placed}
use Rattle.fs_model.specs.States.{State, IsProcess}
use Rattle.fs_model.specs.Steps.{after, firm_refusal, other_refusal}
use Rattle.fs_model.specs.StoredNodes.{Placed}
use Rattle.fs_model.specs.Trees.{Tree, node_at, names_of, parent}
use Rattle.fs_model.proofs.PlacedNodes.{same_placed, placing, placing_here, placing_other, one_dropped, held_at, placed_from, placed_none, placed_stays, placed_goes}
use Rattle.fs_model.proofs.StepsSwept.{tree_may_be_swept}
use Rattle.fs_model.proofs.Swept.{DropsNoNames, stays, at_first, at_rest}
use Rattle.open_files.specs.Tables.{answer_of_found, answer_of, open_at, open_in}
use Rattle.open_files.proofs.Slots.{any_with_entry}
use Rattle.call_parts.specs.Performing.{IsStateOf, chosen}
use Rattle.call_parts.proofs.Calling.{same_process, state_process}
use Rattle.path_walk.proofs.Kept.{kept, sound_kept, is_err}
use Rattle.call_parts.specs.Dropping.{LeavesInode, stays_open, has_name, was_free, goes}
use Rattle.file_calls.specs.Exiting.{ended, IsExited, IsNotExited, Exits, LeavesAt, is_closed, was_open}
use Rattle.file_calls.specs.Exiting as why
use Rattle.call_parts.specs.Reaching.{IsOpened}
use Rattle.call_parts.proofs.ByDescriptor.{opened, open_fits, entry_again, has_open}
use Rattle.call_parts.proofs.Leavings.{left_super, left_sound, left_node, node_stood, closed_number}

-- ---- the map, while the process ends

-- What is placed at each number is what the tree has there after the end, or still what it has before; then none of the
-- descriptors below is for it.
abbrev pub AreLeft : Tree → Tables → ℕ → ℕ → (ℕ → Option Placed) → Type 0
AreLeft t tables pid below what =
    (m : ℕ) → (what m ≡ placed (swept t (users_of (ended tables pid))) m)
    ⊎ ((what m ≡ placed t m) × ((fd : ℕ) (d : Descriptor) → fd < below → open_in tables.processes pid fd ≡ Ok d → d.ino ≢ m))

pub record HoldsLeft (p : Geometry) (map : SectorMap) (t : Tree) (tables : Tables) (pid below : ℕ) : Type 0 where
  pub what : ℕ → Option Placed
  pub holds : HoldsAll p map what
  pub left : AreLeft t tables pid below what

-- the descriptors below are closed
pub record IsLeaving (p : Geometry) (old new : TxnState) (tables : Tables) (pid below : ℕ) : Type 0 where
  pub store : SameStore old new
  pub super : new.sectors 0 ≡ old.sectors 0
  pub sound : IsSound p new
  pub spare : HasSpare p (47 - below) new
  pub each : (s : State) → IsStateOf p old.sectors tables s → HoldsLeft p new.sectors s.tree tables pid below

pub leaving_begun : {p : Geometry} {old : TxnState} {tables : Tables} {pid : ℕ} → IsSound p old → HasSpare p 47 old → IsLeaving p old old tables pid 0
leaving_begun {p} {old} {tables} {pid} sound spare = record {
  store = store_same;
  super = refl;
  sound = sound;
  spare = spare;
  each = λ s at. record { what = placed s.tree; holds = at.holds; left = λ m. inr (refl, λ fd d low there. absurd (omega (arith, low))) };
}

-- what is open has a number of the disk
pub open_number : {p : Geometry} {map : SectorMap} {tables : Tables} (pid fd : ℕ) (s : State) → IsStateOf p map tables s → (d : Descriptor)
    → open_in tables.processes pid fd ≡ Ok d → IsNumber p Inodes d.ino
open_number {p} {map} {tables} pid fd s at d is = closed_number (opened tables (AtDescriptor pid fd) d is) s at

-- what is open at none of the descriptors below is open at none up to this one
not_below : (tables : Tables) (pid below m : ℕ) → ((fd : ℕ) (d : Descriptor) → fd < below → open_in tables.processes pid fd ≡ Ok d → d.ino ≢ m)
    → ((d : Descriptor) → open_in tables.processes pid below ≡ Ok d → d.ino ≢ m)
    → (fd : ℕ) (d : Descriptor) → fd < below + 1 → open_in tables.processes pid fd ≡ Ok d → d.ino ≢ m
not_below tables pid below m before here fd d low there = elim (cases_eq fd below) [
  | inl e ↦ here d (ap (open_in tables.processes pid) (sym e) ∙ there)
  | inr ne ↦ before fd d (omega (arith, low, ne)) there
]

-- ---- one descriptor

module _ {p : Geometry} {was : SectorMap} (mid : TxnState) {tables : Tables} {pid : ℕ} (s : State) (at : IsStateOf p was tables s) (what : ℕ → Option Placed)
    (holds : HoldsAll p mid.sectors what) {fd : ℕ} {d : Descriptor} (o : IsOpened tables (AtDescriptor pid fd) d) where
  abbrev now : ProcessTable
  now = users_of (ended tables pid)

  abbrev n : ℕ
  n = d.ino

  gone : DropsNoNames (stays s.tree now) s.tree s.tree
  gone = (tree_may_be_swept s.room s.tree now at.is_state.tree).gone

  abbrev node : Node
  node = (open_fits o s at).node

  there : node_at s.tree n ≡ Some node
  there = (open_fits o s at).is_there

  abbrev here : Placed
  here = record { node = node; names = names_of s.tree n; parent = parent s.tree n }

  placed_here : placed s.tree n ≡ Some here
  placed_here = placed_from s.tree n (Some node) (names_of s.tree n) (parent s.tree n) there refl refl

  -- what is placed then, the same elsewhere
  record IsSettledAt (new : TxnState) : Type 0 where
    then_what : ℕ → Option Placed
    then_holds : HoldsAll p new.sectors then_what
    settled : then_what n ≡ placed (swept s.tree now) n
    others : (m : ℕ) → m ≢ n → then_what m ≡ what m

  unchanged : {new : TxnState} → IsUnchanged mid new → what n ≡ placed (swept s.tree now) n → IsSettledAt new
  unchanged {new} same is = record {
    then_what = what;
    then_holds = kept (λ (m : SectorMap). HoldsAll p m what) same holds;
    settled = is;
    others = λ m ne. refl;
  }

  -- where the node stands
  standing : {new : TxnState} → what n ≡ Some here → LeavesInode p n (is_open now n) mid new → IsSettledAt new
  standing {new} is leaves =
      let x = open_fits o s at in
      let number = closed_number o s at in
      let stood = node_stood s.room s.tree s.processes s.openings (users_of (tables_in s)) at.is_state.tree (at.is_state.processes at.up) n node there (λ still. still) in
      elim (left_node s.tree (users_of (tables_in s)) now node (parent s.tree n) (held_at p mid.sectors what holds n number.1 here is) x.no_link stood leaves) [
        | inl stay ↦ unchanged stay.1 (is ∙ sym (placed_stays s.tree now at.is_state.tree.numbers gone n node there stay.0))
        | inr went ↦ record {
          then_what = placing n None what;
          then_holds = one_dropped p n mid.sectors new.sectors what holds number.1 went.1.touches.inode number.0 went.1.free went.1.clear;
          settled = placing_here n None what ∙ sym (placed_goes s.tree now at.is_state.tree.numbers gone n node there went.0);
          others = λ m ne. placing_other n None what m ne;
        }
      ]

  -- where it is gone already
  dropped : {new : TxnState} → what n ≡ None → what n ≡ placed (swept s.tree now) n → LeavesInode p n (is_open now n) mid new → IsSettledAt new
  dropped none is (stays_open o same) = unchanged same is
  dropped none is (has_name some same) = unchanged same is
  dropped none is (was_free free same) = unchanged same is
  dropped none is (goes closed no_name used drops) =
      let number = closed_number o s at in
      let free : inode_at p mid.sectors n ≡ free_inode = subst (HoldsPlaced p mid.sectors n) none (holds.nodes n number.1) in
      absurd (used (ap (λ (v : Inode). v.kind) free))

  settled_at : {new : TxnState} → (what n ≡ placed (swept s.tree now) n) ⊎ (what n ≡ placed s.tree n) → LeavesInode p n (is_open now n) mid new → IsSettledAt new
  settled_at {new} either leaves = elim either [
    | inl is ↦ by_stay (stays s.tree now (n, node)) refl is
    | inr is ↦ standing (is ∙ placed_here) leaves
  ]
    where
      by_stay : (b : Bool) → stays s.tree now (n, node) ≡ b → what n ≡ placed (swept s.tree now) n → IsSettledAt new
      by_stay true stay is = standing (is ∙ placed_stays s.tree now at.is_state.tree.numbers gone n node there stay) leaves
      by_stay false went is = dropped (is ∙ placed_goes s.tree now at.is_state.tree.numbers gone n node there went) is leaves

  pub left_on : {new : TxnState} → AreLeft s.tree tables pid fd what → LeavesInode p n (is_open now n) mid new → open_in tables.processes pid fd ≡ Ok d
      → HoldsLeft p new.sectors s.tree tables pid (fd + 1)
  left_on {new} left leaves is =
      let then = settled_at (elim (left n) [ inl done ↦ inl done | inr yet ↦ inr yet.0 ]) leaves in
      record {
        what = then.then_what;
        holds = then.then_holds;
        left = λ m. elim (cases_eq m n) [
          | inl e ↦ inl (subst (λ k. then.then_what k ≡ placed (swept s.tree now) k) (sym e) then.settled)
          | inr ne ↦ elim (left m) [
            | inl done ↦ inl (then.others m ne ∙ done)
            | inr yet ↦ inr (
              then.others m ne ∙ yet.0,
              not_below tables pid fd m yet.1 (λ c same e. (let one : c ≡ d = (let two = sym same ∙ is in cc) in ne (sym e ∙ ap (λ (x : Descriptor). x.ino) one))),
            )
          ]
        ];
      }

none_closed : {p : Geometry} {mid new : TxnState} {t : Tree} {tables : Tables} {pid fd : ℕ} (errno : Errno) → open_in tables.processes pid fd ≡ Err errno → IsUnchanged mid new
    → HoldsLeft p mid.sectors t tables pid fd → HoldsLeft p new.sectors t tables pid (fd + 1)
none_closed {p} {mid} {new} {t} {tables} {pid} {fd} errno none same left = record {
  what = left.what;
  holds = kept (λ (m : SectorMap). HoldsAll p m left.what) same left.holds;
  left = λ m. elim (left.left m) [
    | inl done ↦ inl done
    | inr yet ↦ inr (yet.0, not_below tables pid fd m yet.1 (λ d there. absurd (let both = sym none ∙ there in cc)))
  ];
}

spare_left : (p : Geometry) (tables : Tables) (pid fd : ℕ) (mid new : TxnState) → fd < descriptors_limit → HasSpare p (47 - fd) mid → LeavesAt p tables pid fd mid new
    → HasSpare p (47 - (fd + 1)) new
spare_left p tables pid fd mid new low spare (is_closed errno none same) = let room = spare_unchanged p (47 - fd) mid new spare same in omega (arith, room)
spare_left p tables pid fd mid new low spare (was_open d there (stays_open o same)) = let room = spare_unchanged p (47 - fd) mid new spare same in omega (arith, room)
spare_left p tables pid fd mid new low spare (was_open d there (has_name o same)) = let room = spare_unchanged p (47 - fd) mid new spare same in omega (arith, room)
spare_left p tables pid fd mid new low spare (was_open d there (was_free o same)) = let room = spare_unchanged p (47 - fd) mid new spare same in omega (arith, room)
spare_left p tables pid fd mid new low spare (was_open d there (goes closed none used drops)) =
    spare_then p 1 (47 - (fd + 1)) mid new (omega (arith, spare, low)) drops.touches.puts

left_at_super : {p : Geometry} {tables : Tables} {pid fd : ℕ} {mid new : TxnState} → LeavesAt p tables pid fd mid new → new.sectors 0 ≡ mid.sectors 0
left_at_super (is_closed errno none same) = same.sectors 0
left_at_super (was_open d there leaves) = left_super leaves

left_at_sound : {p : Geometry} {tables : Tables} {pid fd : ℕ} {mid new : TxnState} → IsSound p mid → LeavesAt p tables pid fd mid new → IsSound p new
left_at_sound sound (is_closed errno none same) = sound_kept same sound
left_at_sound sound (was_open d there leaves) = left_sound sound leaves

-- the next one is closed
pub leaving_on : {p : Geometry} {old mid new : TxnState} {tables : Tables} {pid fd : ℕ} → fd < descriptors_limit → IsLeaving p old mid tables pid fd → SameStore mid new
    → LeavesAt p tables pid fd mid new → IsLeaving p old new tables pid (fd + 1)
leaving_on {p} {old} {mid} {new} {tables} {pid} {fd} low so_far store leaves = record {
  store = store_joined so_far.store store;
  super = left_at_super leaves ∙ so_far.super;
  sound = left_at_sound so_far.sound leaves;
  spare = spare_left p tables pid fd mid new low so_far.spare leaves;
  each = λ s at. next s at leaves;
}
  where
    next : (s : State) → IsStateOf p old.sectors tables s → LeavesAt p tables pid fd mid new → HoldsLeft p new.sectors s.tree tables pid (fd + 1)
    next s at (is_closed errno none same) = none_closed errno none same (so_far.each s at)
    next s at (was_open d there one) =
        let left = so_far.each s at in
        left_on mid s at left.what left.holds (opened tables (AtDescriptor pid fd) d there) left.left one there

-- ---- the end

no_number : (m : ℕ) (ds : List (ℕ × Descriptor)) → IsMap nat_cmp ds → ((fd : ℕ) (d : Descriptor) → get nat_cmp ds fd ≡ Some d → d.ino ≢ m)
    → list_any (λ d. d.1.ino == m) ds ≡ false
no_number m [] rising none = refl
no_number m (e ∷ ds) rising none =
    ap (λ b. b || list_any (λ d. d.1.ino == m) ds) (ne_eqb e.1.ino m (at_first (λ (x : ℕ × Descriptor). true) (λ fd d. d.ino ≢ m) e ds none))
    ∙ no_number m ds (right _ _ rising) (at_rest (λ (x : ℕ × Descriptor). true) (λ fd d. d.ino ≢ m) e ds rising none)

some_process : (o : Option Process) → IsSome o → (q : Process) × (o ≡ Some q)
some_process None h = absurd (cc)
some_process (Some q) h = (q, refl)

-- all are closed
pub leaving_done : {p : Geometry} {old new : TxnState} {tables : Tables} {pid below : ℕ} → IsSome (get nat_cmp tables.processes pid) → descriptors_limit ≤ below
    → IsLeaving p old new tables pid below → (s : State) → IsStateOf p old.sectors tables s
    → HoldsAll p new.sectors (placed (swept s.tree (users_of (ended tables pid))))
leaving_done {p} {old} {new} {tables} {pid} {below} some all so_far s at =
    let left = so_far.each s at in
    same_placed p new.sectors left.what (placed (swept s.tree now)) left.holds
    (λ m. elim (left.left m) [ inl done ↦ sym done | inr yet ↦ same_there m yet.1 ∙ sym yet.0 ])
  where
    now : ProcessTable
    now = users_of (ended tables pid)

    q : Process
    q = (some_process (get nat_cmp tables.processes pid) some).0

    there : get nat_cmp tables.processes pid ≡ Some q
    there = (some_process (get nat_cmp tables.processes pid) some).1

    rising : IsMap nat_cmp tables.processes
    rising = subst (λ (x : Tables). IsMap nat_cmp x.processes) at.same_tables at.is_state.pids

    is_process : IsProcess s.tree q
    is_process = state_process at pid q there

    same_open : (m : ℕ) → ((fd : ℕ) (d : Descriptor) → fd < below → open_in tables.processes pid fd ≡ Ok d → d.ino ≢ m) → is_open (users_of (tables_in s)) m ≡ is_open now m
    same_open m no_one =
        ap (λ (x : Tables). is_open (users_of x) m) at.same_tables
        ∙ ap (λ b. has_open m (process_holding tables.openings) || b)
        (sym (ap (λ (x : ProcessTable). is_open x m) (entry_again tables.processes pid q rising there))
        ∙ any_with_entry (has_open m) tables.processes pid q rising
        ∙ ap (λ b. b || is_open (without nat_cmp tables.processes pid) m) (no_number m q.descriptors is_process.descriptors
        (λ fd d here.
        let low = (is_process.each fd d here).below in
        no_one fd d (omega (arith, low, all)) (ap (answer_of_found (open_at fd)) there ∙ ap (λ (o : Option Descriptor). ok_or o EBADF) here))))

    same_there : (m : ℕ) → ((fd : ℕ) (d : Descriptor) → fd < below → open_in tables.processes pid fd ≡ Ok d → d.ino ≢ m)
        → placed (swept s.tree now) m ≡ placed s.tree m
    same_there m no_one = go (node_at s.tree m) refl
      where
        gone : DropsNoNames (stays s.tree now) s.tree s.tree
        gone = (tree_may_be_swept s.room s.tree now at.is_state.tree).gone

        go : (o : Option Node) → node_at s.tree m ≡ o → placed (swept s.tree now) m ≡ placed s.tree m
        go None e =
            placed_none s.tree now at.is_state.tree.numbers gone m e
            ∙ sym (placed_from s.tree m None (names_of s.tree m) (parent s.tree m) e refl refl)
        go (Some node) e =
            let stay = node_stood s.room s.tree s.processes s.openings now at.is_state.tree (at.is_state.processes at.up) m node e (λ was. sym (same_open m no_one) ∙ was) in
            placed_stays s.tree now at.is_state.tree.numbers gone m node e stay
            ∙ sym (placed_from s.tree m (Some node) (names_of s.tree m) (parent s.tree m) e refl refl)

-- ---- what it answers

exit_absent : (s : State) (pid : ℕ) → get nat_cmp s.processes pid ≡ None → firm_refusal s (Exit pid) ≡ Some (Failed ESRCH)
unfolding firm_refusal
exit_absent s pid none = rw none refl

exit_firm : (s : State) (pid : ℕ) (q : Process) → get nat_cmp s.processes pid ≡ Some q → firm_refusal s (Exit pid) ≡ None
unfolding firm_refusal
exit_firm s pid q there = rw there refl

exit_late : (s : State) (pid : ℕ) → other_refusal s (Exit pid) ≡ None
unfolding other_refusal
exit_late s pid = refl

pub exit_after : (s : State) (pid free : ℕ) → after s (Exit pid) (chosen 0 0 free) ≡ leaving s (ended (tables_in s) pid) Same Done
unfolding after
exit_after s pid free = refl

abbrev is_ended : Process → Result (Unit {0}) Errno
is_ended p = Ok tt

-- who is there can end
pub no_exit_err : (tables : ProcessTable) (pid : ℕ) (q : Process) (errno : Errno) → get nat_cmp tables pid ≡ Some q → Err errno ≡ answer_of tables pid is_ended → ⊥
no_exit_err tables pid q errno there e = let both : Err errno ≡ is_ended q = e ∙ ap (answer_of_found is_ended) there in cc

module _ {p : Geometry} {pid : ℕ} {old new : TxnState} {tables : Tables} where
  exits_err : (r : Result (Unit {0}) Refusal) (e : Refusal) → IsErr r → IsErrAnd r (λ y. y ≡ e) → SameStore old new
      → ((s : State) → IsStateOf p old.sectors tables s → IsNotExited old.disk new.disk s pid e) → Exits p pid old new tables tables r
  exits_err r e err and store each =
      subst (λ (x : Result (Unit {0}) Refusal). Exits p pid old new tables tables x) (sym (is_err r e err and))
      (record { store = store; super = tt; table = refl; each = each })

  -- there is no such process
  pub absent_exits : (r : Result (Unit {0}) Refusal) (errno : Errno) → IsErr r → IsErrAnd r (λ y. y ≡ Failed errno) → SameStore old new
      → (errno ≡ ESRCH) × (get nat_cmp tables.processes pid ≡ None) → Exits p pid old new tables tables r
  absent_exits r errno err and store none = exits_err r (Failed errno) err and store
      (λ s at. why.absent (exit_absent s pid (ap (λ (x : Tables). get nat_cmp x.processes pid) at.same_tables ∙ none.1) ∙ ap (λ (x : Errno). Some (Failed x)) (sym none.0)))

  -- a read fails
  pub failed_exits : (q : Process) → get nat_cmp tables.processes pid ≡ Some q → (r : Result (Unit {0}) Refusal) (e : Refusal) → IsErr r → IsErrAnd r (λ y. y ≡ e)
      → SameStore old new → (e ≡ Failed EIO) × HasFailed old.disk new.disk → Exits p pid old new tables tables r
  failed_exits q there r e err and store failed = exits_err r e err and store
      (λ s at. why.read_fails (exit_firm s pid q (same_process at pid q there)) failed.1 failed.0)

  -- the process is ended
  pub exited : (now : Tables) (q : Process) → get nat_cmp tables.processes pid ≡ Some q → now ≡ ended tables pid → SameStore old new
      → new.sectors 0 ≡ old.sectors 0
      → ((s : State) → IsStateOf p old.sectors tables s → HoldsAll p new.sectors (placed (swept s.tree (users_of (ended tables pid)))))
      → Exits p pid old new tables now (Ok tt)
  exited now q there is store super left = record {
    store = store;
    super = super;
    table = tt;
    each = λ s at. record {
      early = exit_firm s pid q (same_process at pid q there);
      late = exit_late s pid;
      effect = exit_after s pid 0
          ∙ ap (λ (x : Tables). leaving s x Same Done) (ap (λ (x : Tables). ended x pid) at.same_tables ∙ sym is);
      holds = subst (λ (x : Tables). HoldsAll p new.sectors (placed (swept s.tree (users_of x)))) (sym is) (left s at);
    };
  }
