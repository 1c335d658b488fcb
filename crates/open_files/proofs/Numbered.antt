-- The processes of a slab are a table, and the number of a process is its key plus 1.
use Rattle.std.proofs.Common.{◌≡◌, ◌≢◌, ℕ, ◌+◌, ◌-◌, ◌<◌, Bool, true, false, not, ◌&&◌, ◌||◌, ◌==◌, cond, List, length, set, get_or, Option, None, Some, refl, sym, ap, subst, ◌∙◌, arith}
use Rattle.std.specs.Prelude.{is_some, is_ok, Result, Err}
use Rattle.fs_cred.specs.declared.errno.Errno.{Errno}
use Rattle.fs_cred.specs.declared.errno.Errno.TheVariants.{ESRCH, EBADF}
use Rattle.std.specs.List.{list_any}
use Rattle.std.specs.Option.{ok_or}
use Rattle.std.specs.Ordering.{nat_cmp}
use Rattle.slab.specs.Slab.{entries_from, Slab, slab_len}
use Rattle.slab.proofs.SlabLemmas.{length-entries_from}
use Rattle.fs_layout.specs.Maps.{get, with_entry, without, IsMap}
use Rattle.fs_layout.proofs.MapLaws.{with_entry-IsMap, length-with_entry}
use Rattle.fs_model.specs.Limits.{processes_limit}
use Rattle.fs_model.specs.Processes.{Descriptor, Process, ProcessTable, descriptor, is_open}
use Rattle.fs_model.proofs.StepsFit.{length-replaced}
use Rattle.fs_model.proofs.StepsProcesses.{without-IsMap, in_without, in_with_entry, length-without}
use Rattle.open_files.specs.Tables.{answer_of_found, answer_of, open_at, open_in, IsKeptProcess, IsTable, with_changed, changed_where}
use Rattle.open_files.proofs.Slots.{low, at_slot, slots_rise, Writes, filled, emptied, within, set_writes, absent, any_value, any_other, any_with_entry}

-- ---- what stands at a number

pub at_zero : (slots : List (Option Process)) → get nat_cmp (entries_from 1 slots) 0 ≡ None
at_zero slots = low 1 slots 0 (omega arith)

pub at_pid : (slots : List (Option Process)) (pid : ℕ) → pid ≢ 0 → get nat_cmp (entries_from 1 slots) pid ≡ get_or slots (pid - 1) None
at_pid slots pid some =
    let same : pid ≡ 1 + (pid - 1) = omega arith in
    ap (get nat_cmp (entries_from 1 slots)) same ∙ at_slot 1 slots (pid - 1)

-- a number of a process isn't 0
pub pid_is_positive : (slots : List (Option Process)) (pid : ℕ) → is_some (get nat_cmp (entries_from 1 slots) pid) ≡ true → pid ≢ 0
pid_is_positive slots pid there e =
    let none : get nat_cmp (entries_from 1 slots) pid ≡ None = ap (get nat_cmp (entries_from 1 slots)) e ∙ at_zero slots in
    absurd (let no : is_some (get nat_cmp (entries_from 1 slots) pid) ≡ false = ap is_some none in cc)

-- as many as the slab has values
pub table_count : (s : Slab Process) → slab_len s ≡ length (entries_from 1 s.slots)
table_count s = sym (length-entries_from 1 s.slots)

-- ---- one is added, changed or taken away

pub table_filled : (old new : List (Option Process)) (key : ℕ) (p : Process) → Writes old new key (Some p)
    → entries_from 1 new ≡ with_entry nat_cmp (entries_from 1 old) (key + 1) p
table_filled old new key p w =
    let same : 1 + key ≡ key + 1 = omega arith in
    filled 1 old new key p w ∙ ap (λ n. with_entry nat_cmp (entries_from 1 old) n p) same

pub table_emptied : (old new : List (Option Process)) (pid : ℕ) → pid ≢ 0 → Writes old new (pid - 1) None
    → entries_from 1 new ≡ without nat_cmp (entries_from 1 old) pid
table_emptied old new pid some w =
    let same : 1 + (pid - 1) ≡ pid = omega arith in
    emptied 1 old new (pid - 1) w ∙ ap (λ n. without nat_cmp (entries_from 1 old) n) same

-- where there is no such process, nothing goes
pub table_lacks : (slots : List (Option Process)) (pid : ℕ) → get nat_cmp (entries_from 1 slots) pid ≡ None
    → entries_from 1 slots ≡ without nat_cmp (entries_from 1 slots) pid
table_lacks slots pid none = absent (entries_from 1 slots) pid (slots_rise 1 slots) none

pub table_set : (slots : List (Option Process)) (pid : ℕ) (p q : Process) → pid ≢ 0 → get_or slots (pid - 1) None ≡ Some p
    → entries_from 1 (set slots (pid - 1) (Some q)) ≡ with_entry nat_cmp (entries_from 1 slots) pid q
table_set slots pid p q some here =
    let same : (pid - 1) + 1 ≡ pid = omega arith in
    table_filled slots (set slots (pid - 1) (Some q)) (pid - 1) q (set_writes slots (pid - 1) (Some q) (within slots (pid - 1) p here))
    ∙ ap (λ n. with_entry nat_cmp (entries_from 1 slots) n q) same

-- one process is changed by f
pub table_changed : (slots : List (Option Process)) (pid : ℕ) (p : Process) (f : Process → Process) → pid ≢ 0
    → get_or slots (pid - 1) None ≡ Some p → entries_from 1 (set slots (pid - 1) (Some (f p))) ≡ with_changed (entries_from 1 slots) pid f
table_changed slots pid p f some here =
    table_set slots pid p (f p) some here
    ∙ sym (ap (changed_where (entries_from 1 slots) pid f) (at_pid slots pid some ∙ here))

pub not_changed : (processes : ProcessTable) (pid : ℕ) (f : Process → Process) → get nat_cmp processes pid ≡ None → processes ≡ with_changed processes pid f
not_changed processes pid f none = sym (ap (changed_where processes pid f) none)

-- ---- it stays a table

pub added_is_table : (processes : ProcessTable) (pid : ℕ) (p : Process) → IsTable processes → get nat_cmp processes pid ≡ None → length processes < processes_limit
    → IsKeptProcess p → IsTable (with_entry nat_cmp processes pid p)
added_is_table processes pid p t none room runs = record {
  rising = with_entry-IsMap processes pid p t.rising;
  few =
      let count : length (with_entry nat_cmp processes pid p) ≡ length processes + 1 =
      length-with_entry processes pid p t.rising ∙ ap (λ o. cond (is_some o) (length processes) (length processes + 1)) none in
      omega (arith, count, room);
  each = in_with_entry (λ _ q. IsKeptProcess q) processes pid p runs t.each;
}

pub changed_is_table : (processes : ProcessTable) (pid : ℕ) (p q : Process) → IsTable processes → get nat_cmp processes pid ≡ Some p → IsKeptProcess q
    → IsTable (with_entry nat_cmp processes pid q)
changed_is_table processes pid p q t there runs = record {
  rising = with_entry-IsMap processes pid q t.rising;
  few = let same = length-replaced processes pid p q t.rising there in let few = t.few in omega (arith, same, few);
  each = in_with_entry (λ _ r. IsKeptProcess r) processes pid q runs t.each;
}

pub without_is_table : (processes : ProcessTable) (pid : ℕ) → IsTable processes → IsTable (without nat_cmp processes pid)
without_is_table processes pid t = record {
  rising = without-IsMap processes pid t.rising;
  few = let less = length-without processes pid in let few = t.few in omega (arith, less, few);
  each = λ q p at. t.each q p (in_without processes pid q p t.rising at);
}

-- the table of slots with one set
pub set_is_table : (slots : List (Option Process)) (pid : ℕ) (p q : Process) → IsTable (entries_from 1 slots) → pid ≢ 0
    → get_or slots (pid - 1) None ≡ Some p → IsKeptProcess q → IsTable (entries_from 1 (set slots (pid - 1) (Some q)))
set_is_table slots pid p q t some here runs =
    subst IsTable (sym (table_set slots pid p q some here))
    (changed_is_table (entries_from 1 slots) pid p q t (at_pid slots pid some ∙ here) runs)

-- ---- who has an inode open

abbrev pub has_open : ℕ → Process → Bool
has_open ino p = list_any (λ d. d.1.ino == ino) p.descriptors

pub open_by_some : (slots : List (Option Process)) (ino : ℕ)
    → list_any (λ (e : ℕ × Process). has_open ino e.1) (entries_from 0 slots) ≡ is_open (entries_from 1 slots) ino
open_by_some slots ino = any_value (has_open ino) 0 1 slots

pub current_of_some : (slots : List (Option Process)) (ino : ℕ)
    → list_any (λ (e : ℕ × Process). e.1.cwd == ino) (entries_from 0 slots) ≡ list_any (λ (e : ℕ × Process). e.1.cwd == ino) (entries_from 1 slots)
current_of_some slots ino = any_value (λ (p : Process). p.cwd == ino) 0 1 slots

pub open_by_others : (slots : List (Option Process)) (pid ino : ℕ) → pid ≢ 0
    → list_any (λ (e : ℕ × Process). not (e.0 == pid - 1) && has_open ino e.1) (entries_from 0 slots)
    ≡ is_open (without nat_cmp (entries_from 1 slots) pid) ino
open_by_others slots pid ino some =
    let same : (pid - 1) + 1 ≡ pid = omega arith in
    any_other (has_open ino) (pid - 1) 0 slots ∙ ap (λ n. is_open (without nat_cmp (entries_from 1 slots) n) ino) same

pub open_besides : (processes : ProcessTable) (pid : ℕ) (p : Process) (f : Process → Process) (ino : ℕ) → IsTable processes → get nat_cmp processes pid ≡ Some p
    → is_open (with_changed processes pid f) ino ≡ (has_open ino (f p) || is_open (without nat_cmp processes pid) ino)
open_besides processes pid p f ino t there =
    ap (λ o. is_open (changed_where processes pid f o) ino) there ∙ any_with_entry (has_open ino) processes pid (f p) t.rising

-- ---- an answer that needs a process

pub without_process : {A : Type 0} (processes : ProcessTable) (pid : ℕ) (f : Process → Result A Errno) → get nat_cmp processes pid ≡ None
    → Err ESRCH ≡ answer_of processes pid f
without_process processes pid f none = sym (ap (answer_of_found f) none)

pub of_this_process : {A : Type 0} (processes : ProcessTable) (pid : ℕ) (f : Process → Result A Errno) (p : Process) → get nat_cmp processes pid ≡ Some p
    → f p ≡ answer_of processes pid f
of_this_process processes pid f p there = sym (ap (answer_of_found f) there)

-- an answer says that the process is there
pub answered : {A : Type 0} (processes : ProcessTable) (pid : ℕ) (f : Process → Result A Errno) → is_ok (answer_of processes pid f) ≡ true
    → is_some (get nat_cmp processes pid) ≡ true
answered {A} processes pid f h = go (get nat_cmp processes pid) h
  where
    go : (o : Option Process) → is_ok (answer_of_found f o) ≡ true → is_some o ≡ true
    go None h = absurd cc
    go (Some p) h = refl

-- a descriptor of the process that is there is open
pub open_here : (processes : ProcessTable) (pid fd : ℕ) (p : Process) → is_ok (open_in processes pid fd) ≡ true → get nat_cmp processes pid ≡ Some p
    → is_some (descriptor p fd) ≡ true
open_here processes pid fd p h there = go (descriptor p fd) (ap (λ o. is_ok (answer_of_found (open_at fd) o)) (sym there) ∙ h)
  where
    go : (o : Option Descriptor) → is_ok {E = Errno} (ok_or o EBADF) ≡ true → is_some o ≡ true
    go None e = absurd cc
    go (Some d) e = refl

-- ---- the table that slots are

module _ (slots : List (Option Process)) (processes : ProcessTable) (v : entries_from 1 slots ≡ processes) where
  pub zero_absent : (pid : ℕ) → pid ≡ 0 → get nat_cmp processes pid ≡ None
  zero_absent pid e = ap (get nat_cmp processes) e ∙ ap (λ m. get nat_cmp m 0) (sym v) ∙ at_zero slots

  pub at_number : (pid : ℕ) → pid ≢ 0 → get nat_cmp processes pid ≡ get_or slots (pid - 1) None
  at_number pid some = ap (λ m. get nat_cmp m pid) (sym v) ∙ at_pid slots pid some

  pub at_key : (key : ℕ) → get nat_cmp processes (key + 1) ≡ get_or slots key None
  at_key key =
      let same : key + 1 ≡ 1 + key = omega arith in
      ap (λ m. get nat_cmp m (key + 1)) (sym v) ∙ ap (get nat_cmp (entries_from 1 slots)) same ∙ at_slot 1 slots key

  pub positive : (pid : ℕ) → is_some (get nat_cmp processes pid) ≡ true → pid ≢ 0
  positive pid there e = absurd (let no : is_some (get nat_cmp processes pid) ≡ false = ap is_some (zero_absent pid e) in cc)

  -- a process with an open descriptor is there
  pub of_open : (pid fd : ℕ) → is_ok (open_in processes pid fd) ≡ true → pid ≢ 0
  of_open pid fd is = positive pid (answered processes pid (open_at fd) is)

  pub is_map : IsMap nat_cmp processes
  is_map = subst (λ (m : ProcessTable). IsMap nat_cmp m) v (slots_rise 1 slots)

  pub nothing_gone : (pid : ℕ) → get nat_cmp processes pid ≡ None → processes ≡ without nat_cmp processes pid
  nothing_gone pid none = absent processes pid is_map none

  pub gone : (new : List (Option Process)) (pid : ℕ) → pid ≢ 0 → Writes slots new (pid - 1) None → entries_from 1 new ≡ without nat_cmp processes pid
  gone new pid some w = table_emptied slots new pid some w ∙ ap (λ m. without nat_cmp m pid) v

  pub added : (new : List (Option Process)) (key : ℕ) (p : Process) → Writes slots new key (Some p)
      → entries_from 1 new ≡ with_entry nat_cmp processes (key + 1) p
  added new key p w = table_filled slots new key p w ∙ ap (λ m. with_entry nat_cmp m (key + 1) p) v

  pub changed : (pid : ℕ) (p q : Process) (f : Process → Process) → pid ≢ 0 → get_or slots (pid - 1) None ≡ Some p → q ≡ f p
      → entries_from 1 (set slots (pid - 1) (Some q)) ≡ with_changed processes pid f
  changed pid p q f some here same =
      ap (λ r. entries_from 1 (set slots (pid - 1) (Some r))) same ∙ table_changed slots pid p f some here
      ∙ ap (λ m. with_changed m pid f) v

  pub filled_is_table : (new : List (Option Process)) (key : ℕ) (p : Process) → IsTable (entries_from 1 slots) → Writes slots new key (Some p)
      → get_or slots key None ≡ None → length processes < processes_limit → IsKeptProcess p → IsTable (entries_from 1 new)
  filled_is_table new key p t w none room runs =
      subst IsTable (sym (added new key p w)) (added_is_table processes (key + 1) p (subst IsTable v t) (at_key key ∙ none) room runs)

  pub emptied_is_table : (new : List (Option Process)) (pid : ℕ) → IsTable (entries_from 1 slots) → pid ≢ 0 → Writes slots new (pid - 1) None
      → IsTable (entries_from 1 new)
  emptied_is_table new pid t some w = subst IsTable (sym (gone new pid some w)) (without_is_table processes pid (subst IsTable v t))

  -- without the process all stays
  pub unchanged : (pid : ℕ) (f : Process → Process) → pid ≢ 0 → get_or slots (pid - 1) None ≡ None → entries_from 1 slots ≡ with_changed processes pid f
  unchanged pid f some none = v ∙ not_changed processes pid f (at_number pid some ∙ none)

  pub unchanged_at_zero : (pid : ℕ) (f : Process → Process) → pid ≡ 0 → entries_from 1 slots ≡ with_changed processes pid f
  unchanged_at_zero pid f e = v ∙ not_changed processes pid f (zero_absent pid e)

  -- a process with an open descriptor changes, if it is there
  module _ (pid fd : ℕ) (is : is_ok (open_in processes pid fd) ≡ true) where
    pub open_unchanged : (f : Process → Process) → get_or slots (pid - 1) None ≡ None → entries_from 1 slots ≡ with_changed processes pid f
    open_unchanged f none = unchanged pid f (of_open pid fd is) none

    pub open_changed : (p q : Process) (f : Process → Process) → get_or slots (pid - 1) None ≡ Some p → q ≡ f p
        → entries_from 1 (set slots (pid - 1) (Some q)) ≡ with_changed processes pid f
    open_changed p q f here same = changed pid p q f (of_open pid fd is) here same

    pub opened_here : (p : Process) → get_or slots (pid - 1) None ≡ Some p → is_some (descriptor p fd) ≡ true
    opened_here p here = open_here processes pid fd p is (at_number pid (of_open pid fd is) ∙ here)

    pub still_table : (p q : Process) → IsTable (entries_from 1 slots) → get_or slots (pid - 1) None ≡ Some p → IsKeptProcess q
        → IsTable (entries_from 1 (set slots (pid - 1) (Some q)))
    still_table p q t here runs = set_is_table slots pid p q t (of_open pid fd is) here runs
