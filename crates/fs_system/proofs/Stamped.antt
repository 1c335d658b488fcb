-- Times of an inode that are set as they are given: a step of the machine.
--     none_past, none_free, here        what stands at a number
--     stamp_absent, same_stamped, saved_stamped        what is answered
--     stamp_performed        it is performed
--     stamp_refused_steps, why_not_stamped        or refused
use Rattle.std.proofs.Common.{◌≡◌, ◌≢◌, ℕ, ◌<◌, ◌≤◌, Bool, true, false, cond, Option, None, Some, IsTrue, refl, sym, ap, subst, ◌∙◌, arith}
use Rattle.std.specs.Prelude.{IsFalse, not, is_some}
use Rattle.std.proofs.lemmas.Bool.{not-false}
use Rattle.sector_disk.specs.Disk.{DiskState, HasFailed}
use Rattle.fs_cred.specs.declared.errno.Errno.{Errno}
use Rattle.fs_cred.specs.declared.errno.Errno.TheVariants.{ENOENT}
use Rattle.fs_cred.specs.declared.refusal.Refusal.TheVariants.{Failed}
use Rattle.fs_layout.specs.declared.inode.Inode.{Inode}
use Rattle.fs_layout.specs.declared.inode.Kind.TheVariants as kinds
use Rattle.fs_layout.specs.declared.geometry.Geometry.{Geometry}
use Rattle.fs_layout.specs.Bytes.{SectorMap}
use Rattle.fs_layout.specs.Images.{inode_at}
use Rattle.fs_layout.specs.Inode.{free_inode}
use Rattle.fs_layout.specs.Version.{keeps_times}
use Rattle.bit_alloc.specs.Inodes.{KeepsBytes, KeepsAcls}
use Rattle.fs_model.specs.declared.event.Event.{Event}
use Rattle.fs_model.specs.declared.event.Event.TheVariants.{Stamp}
use Rattle.fs_model.specs.declared.reply.Reply.{Reply}
use Rattle.fs_model.specs.declared.reply.Reply.TheVariants.{Stamped, Refused}
use Rattle.fs_model.specs.declared.reply.Stamps.{Stamps}
use Rattle.fs_model.specs.declared.touch.Touch.TheVariants.{Untouched}
use Rattle.fs_model.specs.Births.{the_node}
use Rattle.fs_model.specs.Demands.{refuse}
use Rattle.fs_model.specs.Nodes.{Node, stamped}
use Rattle.call_parts.specs.BothTables.{Tables, users_of}
use Rattle.call_parts.specs.Callers.{leaving}
use Rattle.fs_model.specs.Processes.{users}
use Rattle.fs_model.specs.Ranges.{IsSomeCount}
use Rattle.fs_model.specs.Stands.{HoldsPlaced, HoldsAll, placed}
use Rattle.fs_model.specs.States.{State, IsState}
use Rattle.fs_model.specs.Steps.{Step, After, kept_stamps, with_stamps, after_stamp, firm_refusal, other_refusal, after, tree_after}
use Rattle.fs_model.specs.Steps as step
use Rattle.fs_model.specs.Stops.{is_io_error}
use Rattle.fs_model.specs.StoredNodes.{HoldsNode}
use Rattle.fs_model.specs.StoredStamps.{stamps_in}
use Rattle.fs_model.specs.Trees.{Tree, Room, node_at, with_node, names_of, parent}
use Rattle.fs_model.specs.TreeChanges.{Change, Rewrite, changed, touches, touched, swept}
use Rattle.fs_model.proofs.NoIoReplies.{other_spares_reply}
use Rattle.fs_model.proofs.OneNode.{body_not_free}
use Rattle.fs_model.proofs.PlacedNodes.{node_below, placed_from}
use Rattle.fs_model.proofs.Restamps.{none_moves}
use Rattle.fs_model.proofs.StepsDemands.{unrefused}
use Rattle.fs_model.proofs.StepsFit.{node_is_there, processes_move, openings_move}
use Rattle.fs_model.proofs.StepsKinds.{MayReplace, replaced_is_tree, replaced_keeps_types}
use Rattle.fs_model.proofs.StepsSwept.{MayBeLeft, tree_may_be_left}
use Rattle.fs_model.proofs.Unchanged.{nothing_to_drop, same_entry_stays}
use Rattle.path_walk.proofs.HeldNodes.{held_node}
use Rattle.call_parts.specs.Given.{ChangesOne}
use Rattle.call_parts.specs.Performing.{IsStateOf, chosen}
use Rattle.call_parts.specs.Times.{with_times}
use Rattle.call_parts.proofs.Calling.{state_tree}
use Rattle.call_parts.proofs.Changed.{rewritten}
use Rattle.call_parts.proofs.Shown.{the_node_is}
use Rattle.fs_system.specs.Stamping.{AreCounts, IsStamped, IsNotStamped, absent, read_fails}
use Rattle.fs_system.proofs.Endings.{IsPerformed}
use Rattle.fs_system.proofs.StampedNodes.{stamps_fit, stamped_held}

-- ---- in a state

module _ {p : Geometry} {map : SectorMap} {tables : Tables} {s : State} (at : IsStateOf p map tables s) (n : ℕ) (atime mtime ctime : Option ℕ) where
  abbrev event : Event
  event = Stamp n atime mtime ctime

  -- nothing stands past the inodes of the disk, and at a free one
  pub none_past : p.inodes ≤ n → node_at s.tree n ≡ None
  none_past past = go (node_at s.tree n) refl
    where
      go : (o : Option Node) → node_at s.tree n ≡ o → node_at s.tree n ≡ None
      go None e = e
      go (Some node) e = absurd (let below = node_below s p at.is_state at.same_room n node e in omega (arith, past, below))

  pub none_free : (inode_at p map n).kind ≡ kinds.Free → node_at s.tree n ≡ None
  none_free free = go (node_at s.tree n) refl
    where
      go : (o : Option Node) → node_at s.tree n ≡ o → node_at s.tree n ≡ None
      go None e = e
      go (Some node) e = absurd (body_not_free p.version map (inode_at p map n) node.body (held_node (state_tree at) n node e).body free)

  pub stamp_absent : node_at s.tree n ≡ None → other_refusal s event ≡ Some (Failed ENOENT)
  unfolding other_refusal
  stamp_absent none = ap (λ (o : Option Node). refuse ENOENT (not (is_some o))) none

  -- the node at any other
  pub record Here : Type 0 where
    pub node : Node
    pub there : node_at s.tree n ≡ Some node
    pub held : HoldsNode p.version map (inode_at p map n) (record { node = node; names = names_of s.tree n; parent = parent s.tree n })

  pub here : n < p.inodes → (inode_at p map n).kind ≢ kinds.Free → Here
  here below used = go (node_at s.tree n) refl
    where
      go : (o : Option Node) → node_at s.tree n ≡ o → Here
      go None e =
          let free : inode_at p map n ≡ free_inode =
          subst (HoldsPlaced p map n) (placed_from s.tree n None (names_of s.tree n) (parent s.tree n) e refl refl) (at.holds.nodes n below) in
          absurd (used (ap (λ (v : Inode). v.kind) free))
      go (Some node) e = record { node = node; there = e; held = held_node (state_tree at) n node e }

  module _ (h : Here) where
    -- the times of the inode then
    abbrev then : Stamps
    then = kept_stamps s.room h.node.stamps (stamped atime mtime ctime h.node.stamps)

    abbrev put : Change
    put = Rewrite Untouched n (with_stamps then h.node)

    met : other_refusal s event ≡ None
    unfolding other_refusal
    met = ap (λ (o : Option Node). refuse ENOENT (not (is_some o))) h.there

    after_is : after s event (chosen 0 0 0) ≡ record { change = put; processes = s.processes; openings = s.openings; reply = Stamped then; now = s.now }
    unfolding after
    after_is = ap after_node (the_node_is s.tree n h.node h.there)
      where
        after_node : Node → After
        after_node node =
            let x = kept_stamps s.room node.stamps (stamped atime mtime ctime node.stamps) in
            record { change = Rewrite Untouched n (with_stamps x node); processes = s.processes; openings = s.openings; reply = Stamped x; now = s.now }

    is_stamped : {new : SectorMap} (y : Stamps) → then ≡ y → HoldsAll p new (placed (swept (changed s.tree put) (users s.processes s.openings))) → IsStamped p new s n atime mtime ctime y
    is_stamped {new} y is held = record {
      late = met;
      reply = ap (λ (a : After). a.reply) after_is ∙ ap (λ (z : Stamps). Stamped z) is;
      holds = subst (λ (t : Tree). HoldsAll p new (placed t))
          (sym (ap (tree_after s) after_is ∙ none_moves s.room s.tree s.now n (with_stamps then h.node) (swept (changed s.tree put) (users s.processes s.openings)))) held;
    }

    -- nothing was put: the disk keeps no times, or none is given
    pub same_stamped : then ≡ h.node.stamps → (y : Stamps) → y ≡ stamps_in (inode_at p map n) → IsStamped p map s n atime mtime ctime y
    same_stamped same y is =
        is_stamped y (same ∙ sym h.held.stamps ∙ sym is)
        (subst (λ (t : Tree). HoldsAll p map (placed t))
        (sym (ap (λ (x : Stamps). swept (with_node s.tree n (with_stamps x h.node)) (users s.processes s.openings)) same
        ∙ ap (λ (t : Tree). swept t (users s.processes s.openings)) (same_entry_stays s.tree n h.node at.is_state.tree.numbers h.there)
        ∙ nothing_to_drop s.room s.tree s.processes s.openings at.is_state.tree (at.is_state.processes at.up))) at.holds)

    pub no_times : keeps_times p.version ≡ false → then ≡ h.node.stamps
    no_times none =
        ap (λ (b : Bool). cond b (stamped atime mtime ctime h.node.stamps) h.node.stamps) (ap (λ (r : Room). r.keeps_times) at.same_room ∙ none)

    pub none_given : ((x : Stamps) → stamped atime mtime ctime x ≡ x) → then ≡ h.node.stamps
    none_given none = go s.room.keeps_times
      where
        go : (b : Bool) → cond b (stamped atime mtime ctime h.node.stamps) h.node.stamps ≡ h.node.stamps
        go true = none h.node.stamps
        go false = refl

    -- the inode was saved with the times that are given
    module _ (new : SectorMap) (keeps : keeps_times p.version ≡ true) (a : IsSomeCount atime) (m : IsSomeCount mtime) (c : IsSomeCount ctime)
        (one : ChangesOne p n map new)
        (saved : inode_at p new n ≡ with_times (inode_at p map n) (stamped atime mtime ctime (stamps_in (inode_at p map n))))
        (bytes : KeepsBytes map new (inode_at p map n) (inode_at p new n)) (acls : KeepsAcls map new (inode_at p map n) (inode_at p new n)) where
      then_is : stamped atime mtime ctime (stamps_in (inode_at p map n)) ≡ then
      then_is =
          ap (stamped atime mtime ctime) h.held.stamps
          ∙ sym (ap (λ (b : Bool). cond b (stamped atime mtime ctime h.node.stamps) h.node.stamps) (ap (λ (r : Room). r.keeps_times) at.same_room ∙ keeps))

      may : MayReplace s.room s.tree h.node (with_stamps then h.node)
      may =
          let was = at.is_state.tree.each n h.node h.there in
          record {
            same = refl;
            names = refl;
            owner = was.owner;
            group = was.group;
            body = was.body;
            stamps = stamps_fit atime mtime ctime s.room.keeps_times h.node.stamps a m c was.stamps;
          }

      held_then : HoldsNode p.version new (inode_at p new n) (record { node = with_stamps then h.node; names = names_of s.tree n; parent = parent s.tree n })
      held_then =
          stamped_held map new (inode_at p map n) (inode_at p new n) (record { node = h.node; names = names_of s.tree n; parent = parent s.tree n }) then h.held
          (saved ∙ ap (with_times (inode_at p map n)) then_is) bytes acls

      pub saved_stamped : (y : Stamps) → y ≡ stamped atime mtime ctime (stamps_in (inode_at p map n)) → IsStamped p new s n atime mtime ctime y
      saved_stamped y is =
          is_stamped y (sym (is ∙ then_is))
          (subst (λ (d : Tables). HoldsAll p new (placed (swept (changed s.tree put) (users_of d)))) (sym at.same_tables)
          (rewritten at new Untouched n h.node (with_stamps then h.node) h.there may one held_then))

-- ---- where nothing refuses it

stamp_firm : (s : State) (n : ℕ) (atime mtime ctime : Option ℕ) → firm_refusal s (Stamp n atime mtime ctime) ≡ None
unfolding firm_refusal
stamp_firm s n atime mtime ctime = refl

-- what it may leave
stamp_leaves : (s : State) (n : ℕ) (atime mtime ctime : Option ℕ) → IsState s → IsFalse s.halted → IsSomeCount atime → IsSomeCount mtime → IsSomeCount ctime
    → other_refusal s (Stamp n atime mtime ctime) ≡ None → MayBeLeft s.room (changed s.tree (after_stamp s n (stamped atime mtime ctime)).change) s.processes s.openings
unfolding other_refusal
stamp_leaves s n atime mtime ctime is up a m c met =
    let node = the_node s.tree n in
    let there : node_at s.tree n ≡ Some node = node_is_there s.tree n (not-false _ (unrefused ENOENT (not (is_some (node_at s.tree n))) met)) in
    let was = is.tree.each n node there in
    let x = kept_stamps s.room node.stamps (stamped atime mtime ctime node.stamps) in
    let may : MayReplace s.room s.tree node (with_stamps x node) = record {
      same = refl;
      names = refl;
      owner = was.owner;
      group = was.group;
      body = was.body;
      stamps = stamps_fit atime mtime ctime s.room.keeps_times node.stamps a m c was.stamps;
    } in
    let u = with_node s.tree n (with_stamps x node) in
    let types = replaced_keeps_types s.tree n node (with_stamps x node) there refl in
    tree_may_be_left s.room u s.processes s.openings (replaced_is_tree s.room s.tree n node (with_stamps x node) is.tree there may) is.pids is.few
    (processes_move s is up u types) is.handles (openings_move s is up u types)

abbrev put_after : State → ℕ → Option ℕ → Option ℕ → Option ℕ → After
put_after s n atime mtime ctime = after_stamp s n (stamped atime mtime ctime)

pub stamp_performed : {p : Geometry} {map old_map : SectorMap} {tables : Tables} {s : State} {n : ℕ} {atime mtime ctime : Option ℕ} {x : Stamps}
    → IsStateOf p old_map tables s → AreCounts atime mtime ctime → IsStamped p map s n atime mtime ctime x
    → IsPerformed p map tables s (Stamp n atime mtime ctime) (Stamped x)
unfolding after
stamp_performed {p} {map} {old_map} {tables} {s} {n} {atime} {mtime} {ctime} {x} at counts d = record {
  machine = refl;
  unstable = refl;
  early = stamp_firm s n atime mtime ctime;
  late = d.late;
  number = 0;
  handle = 0;
  change = (put_after s n atime mtime ctime).change;
  effect = λ free.
      ap (λ (t : Tables). leaving s t (put_after s n atime mtime ctime).change (put_after s n atime mtime ctime).reply) at.same_tables
      ∙ ap (λ (r : Reply). leaving s tables (put_after s n atime mtime ctime).change r) d.reply;
  new_number = tt;
  new_pid = tt;
  new_handle = tt;
  left = subst (λ (t : Tables). MayBeLeft s.room (changed s.tree (put_after s n atime mtime ctime).change) t.processes t.openings) at.same_tables
      (stamp_leaves s n atime mtime ctime at.is_state at.up counts.0 counts.1 counts.2 d.late);
  holds = subst (λ (t : Tables). HoldsAll p map (placed (touched s.now (touches s.room s.tree (put_after s n atime mtime ctime).change) (swept (changed s.tree (put_after s n atime mtime ctime).change) (users_of t))))) at.same_tables
      d.holds;
}

-- ---- where something did

pub stamp_refused_steps : (old new : DiskState) (s : State) (n : ℕ) (atime mtime ctime : Option ℕ) (e : Errno) → IsFalse s.halted
    → IsNotStamped old new s n atime mtime ctime e → Step s (Stamp n atime mtime ctime) (Refused (Failed e)) s
stamp_refused_steps old new s n atime mtime ctime e up (absent is) =
    (refl, step.refuses_late up (Failed e) (stamp_firm s n atime mtime ctime) is refl refl)
stamp_refused_steps old new s n atime mtime ctime e up (read_fails failed is) =
    (refl, step.read_fails up (stamp_firm s n atime mtime ctime) (ap (λ (x : Errno). Refused (Failed x)) is) refl)

-- EIO is answered only where a read failed
pub why_not_stamped : (old new : DiskState) (s : State) (n : ℕ) (atime mtime ctime : Option ℕ) (e : Errno)
    → IsNotStamped old new s n atime mtime ctime e → IsTrue (is_io_error (Refused (Failed e))) → HasFailed old new
why_not_stamped old new s n atime mtime ctime e (absent is) io =
    absurd (let c = sym (other_spares_reply s (Stamp n atime mtime ctime) (Failed e) is) ∙ io in cc)
why_not_stamped old new s n atime mtime ctime e (read_fails failed is) io = failed
