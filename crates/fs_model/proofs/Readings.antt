-- What only looks leaves the tree as it is, where no file is nameless.
--     drops_nothing        whoever has what open, nothing leaves such a tree
--     acts_stay, sync_stays        what an event leaves where nothing refuses it
--     reading_keeps, sync_keeps        the laws
use Rattle.std.specs.Prelude.{◌≡◌, ℕ, ◌==◌, Bool, true, false, not, ◌&&◌, ◌||◌, cond, List, [], ◌∷◌, length, Option, None, Some, is_some, unwrap_or, IsFalse}
use Rattle.std.proofs.Common.{refl, ap, ◌∙◌, subst, arith}
use Rattle.std.proofs.lemmas.List.Sums.{length-filter, count_by-le-length}
use Rattle.std.proofs.lemmas.Bool.{or_parts}
use Rattle.std.specs.List.{filter}
use Rattle.std.specs.Ordering.{nat_cmp}
use Rattle.fs_cred.specs.declared.errno.Errno.TheVariants.{ENOENT}
use Rattle.fs_layout.specs.Maps.{get, IsMap}
use Rattle.fs_model.specs.declared.call.Call.{Call}
use Rattle.fs_model.specs.declared.call.Call.TheVariants.{Open, Read, Close, Lstat, GetAcl, Readdir, Readlink}
use Rattle.fs_model.specs.declared.call.Flags.{Flags}
use Rattle.fs_model.specs.declared.event.Event.{Event}
use Rattle.fs_model.specs.declared.event.Event.TheVariants.{Spawn, Exit, Call as Calls, Stamp, Sync}
use Rattle.fs_model.specs.declared.reply.Reply.{Reply}
use Rattle.fs_model.specs.declared.reply.Stamps.{Stamps}
use Rattle.fs_model.specs.declared.touch.Touch.TheVariants.{Untouched, Modified}
use Rattle.fs_model.specs.Nodes.{Node, Body, File, Dir, Link, stamped, with_bytes}
use Rattle.fs_model.specs.Trees.{Tree, Room, node_at, with_node, names_of, IsTree}
use Rattle.fs_model.specs.Births.{no_node, the_node, born_file}
use Rattle.fs_model.specs.Processes.{Process, ProcessTable, users}
use Rattle.fs_model.specs.TreeChanges.{Change, Same, Rewrite, Make, changed, touches, touched, swept, lives_nameless}
use Rattle.fs_model.specs.States.{State}
use Rattle.fs_model.specs.Scenes.{Scene, is_found, found_ino, node_found, body_found, dir_node}
use Rattle.fs_model.specs.OpenCall.{open_demands, open_found_demands, open_new_demands, open_change}
use Rattle.fs_model.specs.Rows.{row_of}
use Rattle.fs_model.specs.Steps.{Step, Answers, Acts, After, Choice, is_halted, refuses_early, refuses_late, acts, lacks_memory, read_fails, write_fails, other_refusal, after, after_call, with_stamps, kept_stamps, scene_of, demand_of, late_refusal, tree_after}
use Rattle.fs_model.specs.Reading.{IsReadingCall, IsReading, IsPruned, StaysAs}
use Rattle.fs_model.proofs.Swept.{stays}
use Rattle.fs_model.proofs.Unchanged.{same_entry_stays}
use Rattle.fs_model.proofs.Restamps.{none_moves}
use Rattle.fs_model.proofs.StepsDemands.{AreMet, unrefused, demands_met}

-- ---- what is dropped

-- a list that passes a test passes a wider one
passes_wider : {X : Type 0} (p q : X → Bool) → ((x : X) → p x ≡ true → q x ≡ true) → (xs : List X) → filter p xs ≡ xs → filter q xs ≡ xs
passes_wider p q wider [] all = refl
passes_wider p q wider (x ∷ xs) all = go (p x) refl all (passes_wider p q wider xs)
  where
    go : (b : Bool) → p x ≡ b → cond b (x ∷ filter p xs) (filter p xs) ≡ x ∷ xs → (filter p xs ≡ xs → filter q xs ≡ xs)
        → cond (q x) (x ∷ filter q xs) (filter q xs) ≡ x ∷ xs
    go true k h rest =
        let all_else : filter p xs ≡ xs = cc in
        ap (λ b. cond b (x ∷ filter q xs) (filter q xs)) (wider x k) ∙ ap (λ r. x ∷ r) (rest all_else)
    go false k h rest =
        let long : length (filter p xs) ≡ length (x ∷ xs) = ap length h in
        absurd (omega (arith, long, length-filter p xs, count_by-le-length p xs))

-- what lives where nobody has anything open lives
still_lives : (t : Tree) (processes : ProcessTable) (e : ℕ × Node) → stays t [] e ≡ true → stays t processes e ≡ true
still_lives t processes e h = go (not (names_of t e.0 == 0)) e.1.body h
  where
    go : (b : Bool) (body : Body) → (b || lives_nameless [] e.0 body) ≡ true → (b || lives_nameless processes e.0 body) ≡ true
    go true body h = refl
    go false (File a bytes) h = absurd cc
    go false (Dir a d) h = h
    go false (Link target) h = h

pub drops_nothing : (t : Tree) (processes : ProcessTable) → IsPruned t → swept t processes ≡ t
drops_nothing t processes is = passes_wider (stays t []) (stays t processes) (still_lives t processes) t is

-- ---- what a change leaves

module _ (s : State) (is : IsPruned s.tree) where
  -- nothing changes, whatever becomes of the processes
  same_stays : (a : After) → a.change ≡ Same → tree_after s a ≡ s.tree
  same_stays a same =
      ap (λ c. touched s.now (touches s.room s.tree c) (swept (changed s.tree c) (users a.processes a.openings))) same ∙ drops_nothing s.tree (users a.processes a.openings) is

  -- a node is rewritten as it is
  rewrite_stays : (a : After) (n : ℕ) (node : Node) → IsMap nat_cmp s.tree → node_at s.tree n ≡ Some node → a.change ≡ Rewrite Untouched n node
      → tree_after s a ≡ s.tree
  rewrite_stays a n node sorted there same =
      ap (λ c. touched s.now (touches s.room s.tree c) (swept (changed s.tree c) (users a.processes a.openings))) same
      ∙ none_moves s.room s.tree s.now n node (swept (with_node s.tree n node) (users a.processes a.openings))
      ∙ ap (λ t. swept t (users a.processes a.openings)) (same_entry_stays s.tree n node sorted there)
      ∙ drops_nothing s.tree (users a.processes a.openings) is

-- ---- a call that only looks

module _ (c : Scene) (flags : Flags) (mode new : ℕ) where
  abbrev makes : Change
  makes = Make c.first.dir_ino c.first.name new (born_file c.process.cred c.process.umask mode (dir_node c c.first))

  abbrev empties : Change
  empties = Rewrite Modified (found_ino c.first) (record (node_found c c.first) { body = with_bytes [] (body_found c c.first) })

  -- what is opened and is to be neither made nor cut off is there, and stays
  open_same : IsFalse flags.create → IsFalse flags.trunc → AreMet (open_demands flags c) → open_change flags mode c new ≡ Same
  open_same none whole met = go (is_found c.first) refl
    where
      go : (b : Bool) → is_found c.first ≡ b → open_change flags mode c new ≡ Same
      go true e =
          ap (λ b. cond (not b) makes (cond (flags.trunc && flags.write) empties Same)) e
          ∙ ap (λ b. cond (b && flags.write) empties Same) whole
      go false e =
          let asked : AreMet (open_new_demands flags c) = subst (λ b. AreMet (cond b (open_found_demands flags c) (open_new_demands flags c))) e met in
          let there : (not flags.create || c.first.slash) ≡ false = unrefused ENOENT _ asked.0 in
          let lacks : not flags.create ≡ true = ap not none in
          let has = (or_parts (not flags.create) c.first.slash there).0 in
          absurd cc

reading_call : (s : State) (p : Process) (call : Call) → IsReadingCall call → late_refusal s p (row_of call) ≡ None → (new : ℕ)
    → ((row_of call).effect (scene_of s p (row_of call)) new).change ≡ Same
unfolding row_of
reading_call s p (Open path flags mode) reads met new =
    let row = row_of (Open path flags mode) in
    open_same (scene_of s p row) flags mode new reads.0 reads.1 (demands_met s p row met)
reading_call s p (Read fd len) reads met new = refl
reading_call s p (Close fd) reads met new = refl
reading_call s p (Lstat path) reads met new = refl
reading_call s p (GetAcl path which) reads met new = refl
reading_call s p (Readdir fd) reads met new = refl
reading_call s p (Readlink path) reads met new = refl
reading_call s p _ reads met new = absurd reads

-- ---- times that are asked for

node_there : (t : Tree) (n : ℕ) → not (is_some (node_at t n)) ≡ false → node_at t n ≡ Some (the_node t n)
node_there t n h = go (node_at t n) h
  where
    go : (o : Option Node) → not (is_some o) ≡ false → o ≡ Some (unwrap_or o no_node)
    go None h = absurd cc
    go (Some node) h = refl

none_set : (keeps : Bool) (x : Stamps) → cond keeps (stamped None None None x) x ≡ x
none_set true x = refl
none_set false x = refl

as_it_was : (room : Room) (node : Node) (atime mtime ctime : Option ℕ) → atime ≡ None → mtime ≡ None → ctime ≡ None
    → with_stamps (kept_stamps room node.stamps (stamped atime mtime ctime node.stamps)) node ≡ node
as_it_was room node atime mtime ctime a m c = rw (a, m, c) (ap (λ x. with_stamps x node) (none_set room.keeps_times node.stamps))

-- ---- an event

module _ (s : State) (tree : IsTree s.room s.tree) (is : IsPruned s.tree) where
  pub acts_stay : (e : Event) → IsReading e → (choice : Choice) → Acts s e choice → tree_after s (after s e choice) ≡ s.tree
  unfolding after other_refusal
  acts_stay (Spawn cred) reads choice a = same_stays s is (after s (Spawn cred) choice) refl
  acts_stay (Exit pid) reads choice a = same_stays s is (after s (Exit pid) choice) refl
  acts_stay (Calls pid call) reads choice a = same_stays s is (after s (Calls pid call) choice) (go (get nat_cmp s.processes pid) a.late)
    where
      go : (o : Option Process) → demand_of (λ p. late_refusal s p (row_of call)) o ≡ None → (after_call s pid (row_of call) choice.ino o).change ≡ Same
      go None late = refl
      go (Some p) late = reading_call s p call reads late choice.ino
  acts_stay (Stamp n atime mtime ctime) reads choice a =
      let there = node_there s.tree n (unrefused ENOENT _ a.late) in
      rewrite_stays s is (after s (Stamp n atime mtime ctime) choice) n (the_node s.tree n) tree.numbers there
      (ap (λ node. Rewrite Untouched n node) (as_it_was s.room (the_node s.tree n) atime mtime ctime reads.0 reads.1 reads.2))
  acts_stay _ reads choice a = absurd reads

-- what is answered where the effect of an event, if it has one, leaves the tree as it is
answers_stay : (old new : State) (e : Event) (reply : Reply)
    → ((choice : Choice) → Acts old e choice → tree_after old (after old e choice) ≡ old.tree) → Answers old e reply new → StaysAs old new
answers_stay old new e reply stay (is_halted h i same) = record { room = ap (λ s. s.room) same; tree = ap (λ s. s.tree) same }
answers_stay old new e reply stay (refuses_early h r f i same) = record { room = ap (λ s. s.room) same; tree = ap (λ s. s.tree) same }
answers_stay old new e reply stay (refuses_late h r f o i same) = record { room = ap (λ s. s.room) same; tree = ap (λ s. s.tree) same }
answers_stay old new e reply stay (acts choice a i is) =
    record { room = ap (λ s. s.room) is; tree = ap (λ s. s.tree) is ∙ stay choice a }
answers_stay old new e reply stay (lacks_memory h f q i same) = record { room = ap (λ s. s.room) same; tree = ap (λ s. s.tree) same }
answers_stay old new e reply stay (read_fails h f i same) = record { room = ap (λ s. s.room) same; tree = ap (λ s. s.tree) same }
answers_stay old new e reply stay (write_fails choice a i processes openings p is) =
    record { room = ap (λ s. s.room) is; tree = ap (λ s. s.tree) is }

pub reading_keeps : (old new : State) (e : Event) (reply : Reply) → IsTree old.room old.tree → IsPruned old.tree → IsReading e → Step old e reply new
    → StaysAs old new
reading_keeps old new e reply tree is reads step = answers_stay old new e reply (acts_stay old tree is e reads) step.1

pub sync_stays : (s : State) → IsPruned s.tree → (choice : Choice) → Acts s Sync choice → tree_after s (after s Sync choice) ≡ s.tree
unfolding after
sync_stays s is choice a = same_stays s is (after s Sync choice) refl

pub sync_keeps : (old new : State) (reply : Reply) → IsPruned old.tree → Step old Sync reply new → StaysAs old new
sync_keeps old new reply is step = answers_stay old new Sync reply (sync_stays old is) step.1
