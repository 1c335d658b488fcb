-- Where nothing refuses, each demand is met.
use Rattle.std.specs.Prelude.{◌≡◌, ◌==◌, ℕ, nat_le, Bool, true, false, List, [], ◌∷◌, ◌++◌, Option, None, Some, is_some, unwrap_or, ◌&&◌}
use Rattle.std.proofs.Common.{refl}
use Rattle.std.specs.Ordering.{nat_cmp}
use Rattle.fs_layout.specs.Maps.{get}
use Rattle.std.specs.List.{flat_map}
use Rattle.fs_cred.specs.declared.errno.Errno.{Errno}
use Rattle.fs_cred.specs.declared.errno.Errno.TheVariants.{ENOENT, EMLINK}
use Rattle.fs_model.specs.Demands.{Demand, refuse, or_else, first_of}
use Rattle.fs_model.specs.NameCalls.{link_count_demand}
use Rattle.fs_model.specs.Parts.{path_checks}
use Rattle.fs_model.specs.Processes.{Process, Descriptor, descriptor, the_descriptor, no_descriptor}
use Rattle.fs_model.specs.States.{State}
use Rattle.fs_model.specs.Scenes.{Row}
use Rattle.fs_model.specs.Steps.{scene_of, walk_refusals, demand_of, early_refusal, late_refusal}

-- each demand of a list is met
abbrev pub AreMet : List Demand → Type 0
AreMet [] = Unit {0}
AreMet (d ∷ ds) = (d ≡ None) × AreMet ds

pub first_met : (d e : Demand) → or_else d e ≡ None → d ≡ None
first_met None e h = refl
first_met (Some r) e h = absurd cc

pub then_met : (d e : Demand) → or_else d e ≡ None → e ≡ None
then_met None e h = h
then_met (Some r) e h = absurd cc

pub all_met : (ds : List Demand) → first_of ds ≡ None → AreMet ds
all_met [] h = tt
all_met (d ∷ ds) h = (first_met d (first_of ds) h, all_met ds (then_met d (first_of ds) h))

first_of-right : (ds es : List Demand) → first_of (ds ++ es) ≡ None → first_of es ≡ None
first_of-right [] es h = h
first_of-right (d ∷ ds) es h = first_of-right ds es (then_met d (first_of (ds ++ es)) h)

first_of-left : (ds es : List Demand) → first_of (ds ++ es) ≡ None → first_of ds ≡ None
first_of-left [] es h = refl
first_of-left (d ∷ ds) es h = go d h (λ k. first_of-left ds es k)
  where
    go : (d : Demand) → or_else d (first_of (ds ++ es)) ≡ None → (first_of (ds ++ es) ≡ None → first_of ds ≡ None) → or_else d (first_of ds) ≡ None
    go None h rest = rest h
    go (Some r) h rest = absurd cc

pub met_left : (ds es : List Demand) → AreMet (ds ++ es) → AreMet ds
met_left [] es h = tt
met_left (d ∷ ds) es h = (h.0, met_left ds es h.1)

pub met_right : (ds es : List Demand) → AreMet (ds ++ es) → AreMet es
met_right [] es h = h
met_right (d ∷ ds) es h = met_right ds es h.1

-- the test doesn't hold
pub unrefused : (e : Errno) (b : Bool) → refuse e b ≡ None → b ≡ false
unrefused e true h = absurd cc
unrefused e false h = refl

-- what gets a name has fewer than the most
pub link_count_met : (most names : ℕ) → link_count_demand most names ≡ None → nat_le most names ≡ false
link_count_met most names met = unrefused EMLINK (nat_le most names) (then_met (refuse ENOENT (names == 0)) _ met)

-- where both don't hold, and the first does
pub and_false : (a b : Bool) → (a && b) ≡ false → a ≡ true → b ≡ false
and_false true b e t = e
and_false false b e t = absurd cc

-- ---- a row's demands

abbrev pub paths_asked : Row → List Demand
paths_asked row = flat_map (λ walk. path_checks walk.1) row.walks

pub arguments_met : (p : Process) (row : Row) → early_refusal p row ≡ None → AreMet row.arguments
arguments_met p row h = all_met row.arguments (first_of-left row.arguments (paths_asked row) (first_of-left (row.arguments ++ paths_asked row) (row.early p) h))

-- the checks of its paths, and its walks
pub paths_met : (p : Process) (row : Row) → early_refusal p row ≡ None → AreMet (paths_asked row)
paths_met p row h = all_met (paths_asked row) (first_of-right row.arguments (paths_asked row) (first_of-left (row.arguments ++ paths_asked row) (row.early p) h))

pub walks_met : (s : State) (p : Process) (row : Row) → late_refusal s p row ≡ None → AreMet (walk_refusals s.room s.tree p.cred (λ _. p.cwd) 1 row.walks)
walks_met s p row h =
    all_met (walk_refusals s.room s.tree p.cred (λ _. p.cwd) 1 row.walks) (first_of-left (walk_refusals s.room s.tree p.cred (λ _. p.cwd) 1 row.walks) (row.demands (scene_of s p row)) h)

-- the process of a call that nothing refuses
pub record Caller (pid : ℕ) (s : State) (row : Row) : Type 0 where
  pub process : Process
  pub here : get nat_cmp s.processes pid ≡ Some process
  pub early : early_refusal process row ≡ None
  pub late : late_refusal s process row ≡ None

pub caller_of : (pid : ℕ) (s : State) (row : Row) → demand_of (λ p. early_refusal p row) (get nat_cmp s.processes pid) ≡ None
    → demand_of (λ p. late_refusal s p row) (get nat_cmp s.processes pid) ≡ None → Caller pid s row
caller_of pid s row = go (get nat_cmp s.processes pid) refl
  where
    go : (o : Option Process) → get nat_cmp s.processes pid ≡ o → demand_of (λ p. early_refusal p row) o ≡ None → demand_of (λ p. late_refusal s p row) o ≡ None → Caller pid s row
    go None here early late = absurd cc
    go (Some p) here early late = record { process = p; here = here; early = early; late = late }

pub early_met : (p : Process) (row : Row) → early_refusal p row ≡ None → AreMet (row.early p)
early_met p row h = all_met (row.early p) (first_of-right (row.arguments ++ paths_asked row) (row.early p) h)

pub demands_met : (s : State) (p : Process) (row : Row) → late_refusal s p row ≡ None → AreMet (row.demands (scene_of s p row))
demands_met s p row h =
    all_met (row.demands (scene_of s p row)) (first_of-right (walk_refusals s.room s.tree p.cred (λ _. p.cwd) 1 row.walks) (row.demands (scene_of s p row)) h)

-- ---- a descriptor that is there

there_if : (o : Option Descriptor) → is_some o ≡ true → o ≡ Some (unwrap_or o no_descriptor)
there_if None h = absurd cc
there_if (Some d) h = refl

pub is_open_here : (p : Process) (fd : ℕ) → is_some (descriptor p fd) ≡ true → descriptor p fd ≡ Some (the_descriptor p fd)
is_open_here p fd h = there_if (descriptor p fd) h

read_if : (o : Option Descriptor) → (unwrap_or o no_descriptor).read ≡ true → o ≡ Some (unwrap_or o no_descriptor)
read_if None h = absurd cc
read_if (Some d) h = refl

pub is_read_here : (p : Process) (fd : ℕ) → (the_descriptor p fd).read ≡ true → descriptor p fd ≡ Some (the_descriptor p fd)
is_read_here p fd h = read_if (descriptor p fd) h

written_if : (o : Option Descriptor) → (unwrap_or o no_descriptor).write ≡ true → o ≡ Some (unwrap_or o no_descriptor)
written_if None h = absurd cc
written_if (Some d) h = refl

pub is_written_here : (p : Process) (fd : ℕ) → (the_descriptor p fd).write ≡ true → descriptor p fd ≡ Some (the_descriptor p fd)
is_written_here p fd h = written_if (descriptor p fd) h
