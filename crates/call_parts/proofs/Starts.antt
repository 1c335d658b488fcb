-- Where the paths of a caller start, as whom it is judged, and what is asked of both.
--     PathFits, path_fits        a path that was checked
--     may_make        a call that an actor makes too
--     stands_fits        as whom it is judged fits the state
--     first_start_there, second_start_there        its starts are there
--     start_no_link        where the first is a link, its path isn't empty
--     types_are        what is asked of them, by the types of what stands there
use Rattle.std.specs.Prelude.{◌≡◌, ℕ, ◌≤◌, ◌==◌, nat_lt, Bool, true, false, not, ◌&&◌, List, [], ◌∷◌, length, Option, None, Some, is_some, IsTrue, IsFalse}
use Rattle.std.proofs.Common.{refl, sym, ap, subst, arith}
use Rattle.std.proofs.lemmas.Bool.{not-false}
use Rattle.std.proofs.lemmas.Bool.Decides.{nat_tests}
use Rattle.std.specs.List.{list_any}
use Rattle.std.specs.Option.{option_map}
use Rattle.fs_cred.specs.declared.errno.Errno.TheVariants.{ENOENT, EINVAL, ENAMETOOLONG, ELOOP}
use Rattle.fs_model.specs.declared.event.Actor.{Actor}
use Rattle.fs_model.specs.Demands.{refuse, first_of}
use Rattle.fs_model.specs.Limits.{path_limit}
use Rattle.fs_model.specs.Nodes.{Node, Body, File, Dir, Link, is_link, type_of}
use Rattle.fs_model.specs.Parts.{is_empty, path_checks}
use Rattle.fs_model.specs.Processes.{Process, new_process}
use Rattle.fs_model.specs.States.{State, IsState, IsProcess}
use Rattle.fs_model.specs.Trees.{Tree, node_at}
use Rattle.fs_model.specs.declared.call.Call.{Call}
use Rattle.fs_model.specs.Actors.{is_link_node, is_actor_call, acts_on_links}
use Rattle.fs_model.proofs.StepsDemands.{first_met, then_met, unrefused}
use Rattle.fs_model.proofs.StepsProcesses.{new_process_fits, with_umask_fits}
use Rattle.path_walk.specs.HeldTrees.{IsThere}
use Rattle.path_walk.proofs.HeldNodes.{is_there}
use Rattle.call_parts.specs.Callers.{Who, ByProcess, ByActor, IsJudgedAs, MayMake, first_start, second_start, path_asked, starts_asked, is_link_type, types_asked}
use Rattle.call_parts.specs.Types.{type_in}

-- ---- a path

pub record PathFits (path : List ℕ) : Type 0 where
  pub no_zero : list_any (λ b. b == 0) path ≡ false
  pub short : length path ≤ path_limit

checked_fits : (path : List ℕ) → first_of (path_checks path) ≡ None → PathFits path
checked_fits path met =
    let later = then_met (refuse ENOENT (is_empty path)) _ met in
    let rest = then_met (refuse EINVAL (list_any (λ b. b == 0) path)) _ later in
    let long : nat_lt path_limit (length path) ≡ false =
    unrefused ENAMETOOLONG (nat_lt path_limit (length path)) (first_met (refuse ENAMETOOLONG (nat_lt path_limit (length path))) None rest) in
    record {
      no_zero = unrefused EINVAL (list_any (λ b. b == 0) path) (first_met (refuse EINVAL (list_any (λ b. b == 0) path)) _ later);
      short = grind (arith, nat_tests);
    }

pub path_fits : (who : Who) (path : List ℕ) → first_of (path_asked who path) ≡ None → PathFits path
path_fits (ByProcess pid) path met = checked_fits path met
path_fits (ByActor v) [] met = record { no_zero = refl; short = omega arith }
path_fits (ByActor v) (b ∷ path) met = checked_fits (b ∷ path) met

-- ---- the caller

pub may_make : (who : Who) (call : Call) {links : Bool} → IsTrue (is_actor_call call) → acts_on_links call ≡ links → MayMake who call links
may_make (ByProcess pid) call called acts = tt
may_make (ByActor v) call called acts = (called, acts)

pub stands_fits : (s : State) (who : Who) (q : Process) → IsState s → IsFalse s.halted → IsJudgedAs s.processes who q → IsProcess s.tree q
stands_fits s (ByProcess pid) q is up there = (is.processes up).each_process pid q there
stands_fits s (ByActor v) q is up there =
    subst (IsProcess s.tree) (sym there.is) (with_umask_fits s.tree (new_process v.cred) (new_process_fits s.room s.tree v.cred is.tree there.cred) v.umask)

module _ (s : State) (q : Process) (links : Bool) (path : List ℕ) (is : IsState s) (up : IsFalse s.halted) where
  pub first_start_there : (who : Who) → IsJudgedAs s.processes who q → first_of (starts_asked s.tree who links path) ≡ None → IsThere s.tree (first_start who q)
  first_start_there (ByProcess pid) there met = let d = ((is.processes up).each_process pid q there).cwd in is_there s.tree q.cwd d.node d.is_there
  first_start_there (ByActor v) there met =
      not-false (is_some (node_at s.tree v.start)) (unrefused ENOENT (not (is_some (node_at s.tree v.start))) (first_met (refuse ENOENT (not (is_some (node_at s.tree v.start)))) _ met))

  pub second_start_there : (who : Who) → IsJudgedAs s.processes who q → first_of (starts_asked s.tree who links path) ≡ None → IsThere s.tree (second_start who q)
  second_start_there (ByProcess pid) there met = let d = ((is.processes up).each_process pid q there).cwd in is_there s.tree q.cwd d.node d.is_there
  second_start_there (ByActor v) there met =
      let later = then_met (refuse ENOENT (not (is_some (node_at s.tree v.start)))) _ met in
      not-false (is_some (node_at s.tree v.second_start))
      (unrefused ENOENT (not (is_some (node_at s.tree v.second_start))) (first_met (refuse ENOENT (not (is_some (node_at s.tree v.second_start)))) _ later))

-- ---- the starts of an actor

strict : (empty link : Bool) → (empty && link && not false) ≡ false → link ≡ true → empty ≡ false
strict false link h e = refl
strict true true h e = absurd cc
strict true false h e = absurd cc

pub start_no_link : (t : Tree) (v : Actor) (path : List ℕ) → first_of (starts_asked t (ByActor v) false path) ≡ None → is_link_node (node_at t v.start) ≡ true → is_empty path ≡ false
start_no_link t v path met link =
    let one = then_met (refuse ENOENT (not (is_some (node_at t v.start)))) _ met in
    let two = then_met (refuse ENOENT (not (is_some (node_at t v.second_start)))) _ one in
    strict (is_empty path) (is_link_node (node_at t v.start))
    (unrefused ELOOP (is_empty path && is_link_node (node_at t v.start) && not false) (first_met (refuse ELOOP (is_empty path && is_link_node (node_at t v.start) && not false)) None two)) link

link_type : (b : Body) → is_link b ≡ is_link_type (Some (type_of b))
link_type (File a bytes) = refl
link_type (Dir a d) = refl
link_type (Link target) = refl

pub types_are : (t : Tree) (v : Actor) (links : Bool) (path : List ℕ)
    → first_of (starts_asked t (ByActor v) links path) ≡ first_of (types_asked (type_in t v.start) (type_in t v.second_start) (is_empty path) links)
types_are t v links path = go (node_at t v.start) (node_at t v.second_start)
  where
    go : (a b : Option Node)
        → first_of (refuse ENOENT (not (is_some a)) ∷ refuse ENOENT (not (is_some b)) ∷ refuse ELOOP (is_empty path && is_link_node a && not links) ∷ [])
        ≡ first_of (types_asked (option_map (λ (node : Node). type_of node.body) a) (option_map (λ (node : Node). type_of node.body) b) (is_empty path) links)
    go None b = refl
    go (Some x) None = refl
    go (Some x) (Some y) = ap (λ l. first_of (refuse ELOOP (is_empty path && l && not links) ∷ [])) (link_type x.body)
