-- What a call has changed.
--     IsChange        nothing refuses it, and what it leaves
--     times_moved, none_moved        and then times have moved; none have
--     sound_again, may_touch        the map is sound then, so times may move
--     rewritten, rewrites_found        the node that was found is made another
use Rattle.call_parts.specs.BothTables.{Tables, users_of}
use Rattle.std.specs.Prelude.{◌≡◌, ℕ, ◌+◌, ◌≤◌, nat_eq, nat_le, ◌||◌, Bool, true, false, List, [], ◌∷◌, length, Option, None, Some, is_some, ◌⊎◌, if◌then◌else◌, IsTrue}
use Rattle.std.proofs.Common.{refl, sym, ap, arith, subst, ◌∙◌, inl, inr}
use Rattle.std.proofs.lemmas.Bool.{eq-eqb, le-leb}
use Rattle.fs_layout.specs.declared.geometry.Geometry.{Geometry}
use Rattle.fs_layout.specs.Bytes.{SectorMap}
use Rattle.fs_layout.specs.Header.{log_end}
use Rattle.fs_layout.specs.Images.{inode_at}
use Rattle.sector_txn.specs.Sectors.{TxnState, SameStore}
use Rattle.sector_txn.proofs.TransactionRuns.{store_same}
use Rattle.bit_alloc.specs.Inodes.{IsSound}
use Rattle.bit_alloc.specs.Room.{TakesSpare}
use Rattle.bit_alloc.proofs.Soundness.{sound_from}
use Rattle.fs_model.specs.declared.reply.Reply.{Reply}
use Rattle.fs_model.specs.declared.reply.Reply.TheVariants.{Done}
use Rattle.fs_model.specs.declared.walk.Found.{Found}
use Rattle.fs_model.specs.Births.{the_node}
use Rattle.fs_model.specs.declared.touch.Touch.{Touch}
use Rattle.fs_model.specs.TreeChanges.{Change, Same, Rewrite, Make, AddName, TakeName, MoveName, changed, touches_of, touches, touched, swept}
use Rattle.fs_model.specs.Demands.{Demand, first_of}
use Rattle.fs_model.specs.Nodes.{Node}
use Rattle.fs_model.specs.Processes.{Process, ProcessTable, is_open}
use Rattle.fs_model.specs.Scenes.{Effect, found_ino, rewrites}
use Rattle.fs_model.specs.Stands.{HoldsAll, placed, room_of}
use Rattle.fs_model.specs.States.{State}
use Rattle.fs_model.specs.Steps.{HasNewNumber}
use Rattle.fs_model.specs.StoredNodes.{Placed, HoldsNode}
use Rattle.fs_model.specs.Trees.{Room, node_at, names_of, parent}
use Rattle.fs_model.proofs.PlacedChanges.{rewrite_held}
use Rattle.fs_model.proofs.StepsKinds.{MayReplace}
use Rattle.call_parts.specs.Paths.{scene_at}
use Rattle.call_parts.specs.Performing.{IsStateOf, MayPerform}
use Rattle.call_parts.specs.Given.{ChangesOne}
use Rattle.call_parts.specs.Times.{AreBelow, kept_touches, MayMoveTimes, MovesTimes}

-- ---- a change

-- The demands are met, and the map holds the tree that the effect leaves, before the times of `touching` move.
pub record IsChange (p : Geometry) (map : SectorMap) (tables : Tables) (s : State) (q : Process) (asked : List Demand) (effect : ℕ → Effect) (reply : Reply)
    (touching : List (ℕ × Touch)) : Type 0 where
  pub met : first_of asked ≡ None
  pub number : ℕ
  pub change : Change
  pub is : effect number ≡ record { change = change; process = q; reply = reply }
  pub new_number : HasNewNumber s change
  pub times : touches_of s.tree change ≡ touching
  pub holds : HoldsAll p map (placed (swept (changed s.tree change) (users_of tables)))

-- ---- and then its times move

abbrev no_touches : List (ℕ × Touch)
no_touches = []

none_kept : (keeps : Bool) → no_touches ≡ (if keeps then no_touches else no_touches)
none_kept true = refl
none_kept false = refl

-- the times that the disk keeps
module _ {p : Geometry} {map : SectorMap} {tables : Tables} {s : State} (at : IsStateOf p map tables s) where
  touches_kept : (change : Change) → touches s.room s.tree change ≡ kept_touches p (touches_of s.tree change)
  touches_kept Same = none_kept (room_of p).keeps_times
  touches_kept (Rewrite touch n node) = ap (λ (r : Room). touches r s.tree (Rewrite touch n node)) at.same_room
  touches_kept (Make dir_ino name n node) = ap (λ (r : Room). touches r s.tree (Make dir_ino name n node)) at.same_room
  touches_kept (AddName dir_ino name n) = ap (λ (r : Room). touches r s.tree (AddName dir_ino name n)) at.same_room
  touches_kept (TakeName dir_ino name) = ap (λ (r : Room). touches r s.tree (TakeName dir_ino name)) at.same_room
  touches_kept (MoveName dir_ino name to_dir_ino to_name) = ap (λ (r : Room). touches r s.tree (MoveName dir_ino name to_dir_ino to_name)) at.same_room

  -- whatever becomes of the tables
  pub all_moved : {time : ℕ} {touching : List (ℕ × Touch)} {old new : TxnState} (change : Change) → touches_of s.tree change ≡ touching → MovesTimes p time touching old new → (now : ProcessTable)
      → HoldsAll p old.sectors (placed (swept (changed s.tree change) now))
      → HoldsAll p new.sectors (placed (touched time (touches s.room s.tree change) (swept (changed s.tree change) now)))
  all_moved {time} {touching} {old} {new} change are moved now held =
      subst (λ (l : List (ℕ × Touch)). HoldsAll p new.sectors (placed (touched time l (swept (changed s.tree change) now))))
      (sym (touches_kept change ∙ ap (kept_touches p) are)) (moved.held (swept (changed s.tree change) now) held)

  pub times_moved : {time : ℕ} {touching : List (ℕ × Touch)} {old new : TxnState} {now : Tables} {q : Process} {asked : List Demand} {effect : ℕ → Effect} {reply : Reply}
      → (c : IsChange p old.sectors now s q asked effect reply touching) → MovesTimes p time touching old new
      → HoldsAll p new.sectors (placed (touched time (touches s.room s.tree c.change) (swept (changed s.tree c.change) (users_of now))))
  times_moved {now = now} c moved = all_moved c.change c.times moved (users_of now) c.holds

-- none move
pub none_moved : {p : Geometry} {time : ℕ} (txn : TxnState) → MovesTimes p time [] txn txn
none_moved {p} {time} txn = record {
  store = store_same;
  super = refl;
  held = λ t held. subst (λ (l : List (ℕ × Touch)). HoldsAll p txn.sectors (placed (touched time l t))) (none_kept (room_of p).keeps_times) held;
}

-- ---- they may

or_past : (a b : Bool) → (a || true || b) ≡ true
or_past true b = refl
or_past false b = refl

outside : (inodes n : ℕ) (some : Bool) → (n ≡ 0) ⊎ (inodes ≤ n) → (nat_eq n 0 || nat_le inodes n || some) ≡ true
outside inodes n some (inl none) = ap (λ b. b || nat_le inodes n || some) (eq-eqb n 0 none)
outside inodes n some (inr past) = ap (λ b. nat_eq n 0 || b || some) (le-leb inodes n past) ∙ or_past (nat_eq n 0) some

-- a map that holds a tree is sound, where another one was
pub sound_again : (p : Geometry) (old new : TxnState) (what : ℕ → Option Placed) → IsSound p old → SameStore old new → HoldsAll p new.sectors what → IsSound p new
sound_again p old new what sound store held =
    sound_from p new held.consistent (omega (arith, sound.bitmaps.disk, store.reads.narrowed.size)) (omega (arith, sound.bitmaps.header, ap log_end store.header))
    (λ n low none. held.inode_bits n low ∙ outside p.inodes n (is_some (what n)) none)

pub may_touch : {p : Geometry} {old new : TxnState} {tables now : Tables} {q : Process} {asked : List Demand} {effect : ℕ → Effect} {reply : Reply} {touching : List (ℕ × Touch)}
    → (ready : MayPerform p old tables) → SameStore old new → IsChange p new.sectors now ready.state q asked effect reply touching → AreBelow p.inodes touching
    → (k : ℕ) → TakesSpare p k old new → length touching + k ≤ 47 → MayMoveTimes p touching new
may_touch {p} {old} {new} {now = now} ready store c below k taken few = record {
  sound = sound_again p old new (placed (swept (changed ready.state.tree c.change) (users_of now))) ready.sound store c.holds;
  below = below;
  spare = (let spare = ready.spare in omega (arith, spare, taken, few));
}

-- ---- a node is made another

module _ {p : Geometry} {mid : SectorMap} {tables : Tables} {s : State} (at : IsStateOf p mid tables s) (new : SectorMap) (touch : Touch) (n : ℕ) (was now : Node)
    (there : node_at s.tree n ≡ Some was) (may : MayReplace s.room s.tree was now) (one : ChangesOne p n mid new)
    (here : HoldsNode p.version new (inode_at p new n) (record { node = now; names = names_of s.tree n; parent = parent s.tree n })) where
  -- the map after node n was made another
  pub rewritten : HoldsAll p new (placed (swept (changed s.tree (Rewrite touch n now)) (users_of tables)))
  rewritten =
      rewrite_held s at.is_state at.up (users_of tables) (λ k is. subst (λ (d : Tables). IsTrue (is_open (users_of d) k)) at.same_tables is) p mid at.holds at.same_room
      new touch n was now there may one.inode one.used here

  -- what is rewritten is the node that was found
  pub rewrites_found : (q : Process) (f : Found) (asked : List Demand) (g : Node → Node) → first_of asked ≡ None → found_ino f ≡ n
      → the_node s.tree (found_ino f) ≡ was → g was ≡ now → IsChange p new tables s q asked (λ k. rewrites (scene_at s q f) touch (found_ino f) g) Done ((n, touch) ∷ [])
  rewrites_found q f asked g met is node_is now_is = record {
    met = met;
    number = 0;
    change = Rewrite touch n now;
    is = ap (λ (k : ℕ). rewritten_as k (g (the_node s.tree (found_ino f)))) is
        ∙ ap (λ (u : Node). rewritten_as n u) (ap g node_is ∙ now_is);
    new_number = tt;
    times = refl;
    holds = rewritten;
  }
    where
      rewritten_as : ℕ → Node → Effect
      rewritten_as k u = record { change = Rewrite touch k u; process = q; reply = Done }
