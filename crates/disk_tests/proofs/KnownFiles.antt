-- A file of which it is known what it holds: what a read gives, and what writes, a sync and a stop make of that.
use Rattle.std.proofs.Common.{◌≡◌, ◌⊎◌, inl, inr, ⊎_elim, ℕ, zero, suc, ◌+◌, ◌-◌, ◌<◌, ◌≤◌, List, [], ◌∷◌, ◌++◌, length, drop, take, refl, sym, ◌∙◌, ap, subst, arith, get_or}
use Rattle.std.specs.Prelude.{Contains, map, slice_range, slice_set}
use Rattle.std.proofs.lemmas.Bool.{cases_eq, cases_lt}
use Rattle.std.proofs.lemmas.List.{get_or-drop, get_or-map, get_or-set_same, get_or-set_other, get_or-take, length-map, length-set, set_past}
use Rattle.std.proofs.lemmas.List.Elements.{Contains-append_cases}
use Rattle.std.proofs.lemmas.List.Folds.{fold-map}
use Rattle.std.proofs.lemmas.List.Sums.{fold_push}
use Rattle.sector_disk.specs.Disk.{Image, sector}
use Rattle.sector_disk.specs.Files.{file_seen, HasRun, IsRun, IsRunTried, IsHeldNarrowed, IsHeldSynced}
use Rattle.sector_disk.specs.Record.{Event, Held, Leaves, Written, Synced, MayHold, after_event, after_events, held_after}
use Rattle.sector_disk.specs.Replay.{after_cases}
use Rattle.disk_tests.specs.Writes.{after_writes, events_of_writes, kept_held}

-- ---- reads
pub seen_kept : (stable : Image) (writes : List (ℕ × List ℕ)) → file_seen (kept_held stable writes) ≡ after_writes stable writes
seen_kept stable writes = fold-map after_event (λ (w : ℕ × List ℕ). Written w.0 w.1) stable writes

pub read_run : (first end : ℕ) (run seen : Image) (held : Held) → file_seen held ≡ seen → run ≡ slice_range seen first end → first + length run ≡ end
    → HasRun first run held
read_run first end run seen held is read ends n from to =
    let at : first + (n - first) ≡ n = omega (arith, from) in
    ap (λ (i : Image). sector i n) is ∙ sym (ap (sector seen) at) ∙ sym (get_or-drop first seen (n - first) [])
    ∙ sym (get_or-take (end - first) (drop first seen) (n - first) [] (omega (arith, from, to, ends)))
    ∙ sym (ap (λ (i : Image). sector i (n - first)) read)

-- ---- writes
pub tried_none : (first : ℕ) (run : Image) (held : Held) → IsRunTried first run held held
tried_none first run held = record { nothing_else = λ n content may. inl may; seen = λ n. inl refl }

seen_more : (mid : Held) (k : ℕ) (content : List ℕ) → file_seen (held_after mid (Written k content)) ≡ slice_set (file_seen mid) k content
seen_more mid k content = fold_push after_event mid.stable mid.pending (Written k content)

only : (k : ℕ) (c : List ℕ) (n : ℕ) (content : List ℕ) → Contains (Written k c ∷ []) (Written n content) → (n ≡ k) × (content ≡ c)
only k c n content (zero, below, is) = (cc, cc)
only k c n content (suc i, below, is) = absurd (omega arith)

in_run : (first i n : ℕ) (run : Image) (content : List ℕ) → i < length run → n ≡ first + i → content ≡ sector run i → IsRun first run n content
in_run first i n run content below at is =
    let start : n - first ≡ i = omega (arith, at) in
    (omega (arith, at), omega (arith, at, below), is ∙ ap (sector run) (sym start))

pub tried_more : (first i : ℕ) (run : Image) (old mid new : Held) → i < length run → new ≡ held_after mid (Written (first + i) (sector run i))
    → IsRunTried first run old mid → IsRunTried first run old new
tried_more first i run old mid new below is tried = subst (IsRunTried first run old) (sym is) (record { nothing_else = nothing_else; seen = seen })
  where
    later : Held
    later = held_after mid (Written (first + i) (sector run i))

    nothing_else : (n : ℕ) (content : List ℕ) → MayHold later n content → MayHold old n content ⊎ IsRun first run n content
    nothing_else n content (inl was) = tried.nothing_else n content (inl was)
    nothing_else n content (inr found) = elim (Contains-append_cases mid.pending (Written (first + i) (sector run i) ∷ []) (Written n content) found) [
      | inl before ↦ tried.nothing_else n content (inr before)
      | inr new ↦ let w = only (first + i) (sector run i) n content new in inr (in_run first i n run content below w.0 w.1)
    ]

    seen : (n : ℕ) → (sector (file_seen later) n ≡ sector (file_seen old) n) ⊎ IsRun first run n (sector (file_seen later) n)
    seen n =
        let more = ap (λ (s : Image). sector s n) (seen_more mid (first + i) (sector run i)) in
        let stays : sector (file_seen later) n ≡ sector (file_seen mid) n → (sector (file_seen later) n ≡ sector (file_seen old) n) ⊎ IsRun first run n (sector (file_seen later) n)
        = λ same. ⊎_elim (λ was. inl (same ∙ was)) (λ run_is. inr (subst (IsRun first run n) (sym same) run_is)) (tried.seen n) in
        elim (cases_eq n (first + i)) [
          | inl at ↦ elim (cases_lt n (length (file_seen mid))) [
            | inl here ↦
                inr (in_run first i n run (sector (file_seen later) n) below at
                (more ∙ ap (λ k. sector (slice_set (file_seen mid) k (sector run i)) n) (sym at) ∙ get_or-set_same (file_seen mid) n (sector run i) [] here))
            | inr past ↦
                stays (more ∙ ap (λ (s : Image). sector s n) (set_past (file_seen mid) (first + i) (sector run i) (omega (arith, past, at))))
          ]
          | inr other ↦ stays (more ∙ get_or-set_other (file_seen mid) (first + i) n (sector run i) [] other)
        ]

-- the first of the run are there
abbrev pub HasBegun : ℕ → ℕ → Image → Held → Type 0
HasBegun first i run held = (n : ℕ) → first ≤ n → n < first + i → sector (file_seen held) n ≡ sector run (n - first)

pub begun_more : (first i : ℕ) (run : Image) (mid new : Held) → first + i < length (file_seen new) → new ≡ held_after mid (Written (first + i) (sector run i))
    → HasBegun first i run mid → HasBegun first (i + 1) run new
begun_more first i run mid new below is begun n from to =
    let set = ap file_seen is ∙ seen_more mid (first + i) (sector run i) in
    let len = ap (λ (s : Image). length s) set ∙ length-set (file_seen mid) (first + i) (sector run i) in
    let at_n = ap (λ (s : Image). sector s n) set in
    elim (cases_eq n (first + i)) [
      | inl at ↦
          let start : i ≡ n - first = omega (arith, at) in
          at_n ∙ ap (λ k. sector (slice_set (file_seen mid) k (sector run i)) n) (sym at)
          ∙ get_or-set_same (file_seen mid) n (sector run i) [] (omega (arith, at, below, len)) ∙ ap (sector run) start
      | inr other ↦
          at_n ∙ get_or-set_other (file_seen mid) (first + i) n (sector run i) [] other ∙ begun n from (omega (arith, to, other))
    ]

-- ---- a sync
none_pending : (n : ℕ) (content : List ℕ) → Contains [] (Written n content) → ⊥
none_pending n content found = omega (arith, found.1)

pub synced_narrows : (old new : Held) → new ≡ held_after old Synced → IsHeldNarrowed old new
synced_narrows old new is = subst (IsHeldNarrowed old) (sym is) each
  where
    each : (n : ℕ) (content : List ℕ) → MayHold (held_after old Synced) n content → MayHold old n content
    each n content (inl here) =
        ⊎_elim (λ was. inl (here ∙ was)) (λ found. inr (subst (λ (c : List ℕ). Contains old.pending (Written n c)) (sym here) found))
        (after_cases old.stable old.pending n)
    each n content (inr found) = absurd (none_pending n content found)

pub synced_stable : (old new : Held) → new ≡ held_after old Synced → IsHeldSynced old new
synced_stable old new is = subst (IsHeldSynced old) (sym is) (record { seen = λ n. refl; stable = each })
  where
    each : (n : ℕ) (content : List ℕ) → MayHold (held_after old Synced) n content → content ≡ sector (file_seen (held_after old Synced)) n
    each n content (inl here) = here
    each n content (inr found) = absurd (none_pending n content found)

-- ---- a stop
pub stopped_more : (stable : Image) (writes : List (ℕ × List ℕ)) (i : ℕ) (write d : ℕ × List ℕ) (image : Image) → i < length writes → write ≡ get_or writes i d
    → Leaves (length stable) (kept_held stable writes) image → Leaves (length stable) (kept_held stable writes) (slice_set image write.0 write.1)
stopped_more stable writes i write d image below is_write leaves =
    let k = write.0 in
    let content = write.1 in
    record {
      size = length-set image k content ∙ leaves.size;
      each = λ n fits. elim (cases_eq n k) [
        | inl at ↦
            let is = ap (λ j. sector (slice_set image j content) n) (sym at) ∙ get_or-set_same image n content [] (let size = leaves.size in omega (arith, fits, size)) in
            let event : get_or (events_of_writes writes) i (Written n content) ≡ Written n content =
            get_or-map (λ (w : ℕ × List ℕ). Written w.0 w.1) writes i d (Written n content) below
            ∙ ap (λ (w : ℕ × List ℕ). Written w.0 w.1) (sym is_write) ∙ ap (λ j. Written j content) (sym at) in
            let pending : Contains (events_of_writes writes) (Written n content) =
            (i, omega (arith, below, length-map writes (λ (w : ℕ × List ℕ). Written w.0 w.1)), event) in
            inr (subst (λ (c : List ℕ). Contains (events_of_writes writes) (Written n c)) (sym is) pending)
        | inr other ↦ subst (MayHold (kept_held stable writes) n) (sym (get_or-set_other image k n content [] other)) (leaves.each n fits)
      ];
    }
