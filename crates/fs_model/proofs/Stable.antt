-- Where fsync or sync answers ok, a stop right after it leaves the present tree, pruned.
use Rattle.std.specs.Prelude.{◌≡◌, ℕ, zero, suc, ◌<◌, List, [], ◌∷◌, length, slice_index_or, IsTrue, IsFalse}
use Rattle.std.proofs.Common.{sym, ap, arith, ◌∙◌, subst}
use Rattle.std.specs.List.{Contains}
use Rattle.fs_cred.specs.declared.errno.Errno.TheVariants.{EIO}
use Rattle.fs_cred.specs.declared.refusal.Refusal.TheVariants.{Failed}
use Rattle.fs_model.specs.declared.reply.Reply.{Reply}
use Rattle.fs_model.specs.declared.reply.Reply.TheVariants.{Done, Refused}
use Rattle.fs_model.specs.declared.event.Event.{Event}
use Rattle.fs_model.specs.declared.event.Event.TheVariants.{Spawn, Exit, Call as Calls, CallAt, CallBy, Stamp, Clock, Fsync, Sync, Statfs, Arm, Restart}
use Rattle.fs_model.specs.declared.event.EventReply.TheVariants.{Reply as Replies}
use Rattle.fs_model.specs.Trees.{Tree}
use Rattle.fs_model.specs.TreeChanges.{pruned}
use Rattle.fs_model.specs.States.{State}
use Rattle.fs_model.specs.Steps.{Answers, is_halted, refuses_early, refuses_late, acts, lacks_memory, read_fails, write_fails}
use Rattle.fs_model.specs.Stops.{Machine, MachineStep, is_down, arms, steps, halts, mounts, mount_fails, Stops, asks_stable, trees_after}

only_one : (t u : Tree) → Contains (t ∷ []) u → u ≡ t
only_one t u c = go c.0 c.1 c.2
  where
    go : (k : ℕ) → k < length (t ∷ []) → slice_index_or (t ∷ []) k u ≡ u → u ≡ t
    go zero l e = sym e
    go (suc k) l e = absurd (omega arith)

-- the state stays as it was, and was not halted
stays : {A : Type 0} (old new : State) → IsFalse old.halted → new ≡ old → IsTrue new.halted → A
stays old new runs same halted = let e : new.halted ≡ old.halted = ap (λ s. s.halted) same in absurd cc

-- what halts the machine is answered EIO
halting : (old new : State) (e : Event) (r : Reply) → Answers old e r new → IsFalse old.halted → IsTrue new.halted → r ≡ Refused (Failed EIO)
halting old new e r (is_halted h i j) runs x = i
halting old new e r (refuses_early h q f i j) runs x = stays old new runs j x
halting old new e r (refuses_late h q f o i j) runs x = stays old new runs j x
halting old new e r (acts c a i j) runs x = let same : new.halted ≡ old.halted = ap (λ s. s.halted) j in absurd cc
halting old new e r (lacks_memory h f q i j) runs x = stays old new runs j x
halting old new e r (read_fails h f i j) runs x = i
halting old new e r (write_fails c a i d o q j) runs x = i

-- a stop leaves the one tree that the list has
one_left : (new : Machine) (t : Tree) (s : State) → new.trees ≡ t ∷ [] → Stops new s → s.tree ≡ pruned t
one_left new t s trees stop =
    let present : stop.tree ≡ t = only_one t stop.tree (subst (λ ts. Contains ts stop.tree) trees stop.is_one) in
    ap (λ x. x.tree) stop.is ∙ ap pruned present

stable_list : (e : Event) (r : Reply) (trees : List Tree) (t : Tree) → IsTrue (asks_stable e) → r ≡ Done → trees_after e r trees t ≡ t ∷ []
stable_list (Fsync pid fd) r trees t h is = ap (λ q. trees_after Sync q trees t) is
stable_list Sync r trees t h is = ap (λ q. trees_after Sync q trees t) is
stable_list (Spawn cred) r trees t h is = absurd cc
stable_list (Exit pid) r trees t h is = absurd cc
stable_list (Calls pid call) r trees t h is = absurd cc
stable_list (CallAt v call) r trees t h is = absurd cc
stable_list (CallBy handle handle_call) r trees t h is = absurd cc
stable_list (Stamp n atime mtime ctime) r trees t h is = absurd cc
stable_list (Clock time) r trees t h is = absurd cc
stable_list Statfs r trees t h is = absurd cc
stable_list (Arm k) r trees t h is = absurd cc
stable_list (Restart bytes arm) r trees t h is = absurd cc

pub sync_is_kept : (old new : Machine) (e : Event) (s : State) → IsTrue (asks_stable e) → MachineStep old e (Replies Done) new
    → Stops new s → s.tree ≡ pruned new.state.tree
sync_is_kept old new e left asks (steps up r is s a now) stop =
    let ok : r ≡ Done = cc in
    let trees : new.trees ≡ s.tree ∷ [] = ap (λ m. m.trees) now ∙ stable_list e r old.trees s.tree asks ok in
    one_left new s.tree left trees stop ∙ ap pruned (sym (ap (λ m. m.state.tree) now))
sync_is_kept old new e left asks (halts up r is s a choice h now) stop =
    absurd (let eio = halting old.state s e r a.1 h.acts.running h.halted in cc)
sync_is_kept old new e left asks (is_down up machine is now) stop = absurd cc
sync_is_kept old new e left asks (arms k event is now) stop = absurd cc
sync_is_kept old new e left asks (mounts bytes arm event is s stops now) stop = absurd cc
sync_is_kept old new e left asks (mount_fails bytes arm event fault is s stops now) stop = absurd cc
