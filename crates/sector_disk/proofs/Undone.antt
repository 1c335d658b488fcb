-- A record that is kept backwards says what was done.
use Rattle.std.proofs.Common.{◌≡◌, ◌≢◌, ◌⊎◌, inl, inr, ⊎_elim, ℕ, zero, suc, ◌+◌, ◌-◌, ◌<◌, ◌≤◌, ◌^◌, List, [], ◌∷◌, ◌++◌, length, take, drop, refl, sym, ◌∙◌, ap, subst, arith, replicate, slice_set, length-set, get_or-set_other, length-append, length-drop}
use Rattle.std.specs.Prelude.{Contains}
use Rattle.std.proofs.lemmas.Bool.{cases_eq, cases_lt}
use Rattle.std.proofs.lemmas.List.{set-set, set-get_or, get_or-set_same, drop-append-le, drop_all, take_rest}
use Rattle.std.proofs.lemmas.List.Edits.{take-paste}
use Rattle.std.proofs.lemmas.List.Sums.{fold_push}
use Rattle.std.proofs.Math.Seq.{paste}
use Rattle.std.proofs.lemmas.List.Elements.{Contains-append_right, Contains-append_cases}
use Rattle.std.proofs.lemmas.Grind.{get_or-set_at}
use Rattle.sector_disk.specs.Disk.{Image, sector}
use Rattle.sector_disk.specs.Record.{Past, Event, Written, Synced, Held, after_events, held_after, replay, since_sync, Leaves, MayHold}
use Rattle.sector_disk.specs.Replay.{after_cases}
use Rattle.sector_disk.specs.Forgotten.{settled}
use Rattle.sector_disk.specs.Places.{KeptSectors, OwnsPlace}
use Rattle.sector_disk.specs.Steps.{before, events_of, past_of, IsLog, held_before, CanPutBack, IsRecord}
use Rattle.sector_disk.specs.declared.history.Step.{Step}
use Rattle.sector_disk.specs.declared.history.Step.TheVariants.{Replaced, Settled}

pub length-before : (seen : Image) (steps : List Step) → length (before seen steps) ≡ length seen
length-before seen [] = refl
length-before seen (Settled ∷ steps) = length-before seen steps
length-before seen (Replaced n content ∷ steps) = length-set (before seen steps) n content ∙ length-before seen steps

before-append : (seen : Image) (steps more : List Step) → before seen (steps ++ more) ≡ before (before seen more) steps
before-append seen [] more = refl
before-append seen (Settled ∷ steps) more = before-append seen steps more
before-append seen (Replaced n content ∷ steps) more = ap (λ (i : Image). slice_set i n content) (before-append seen steps more)

events-append : (seen : Image) (steps more : List Step) → events_of seen (steps ++ more) ≡ events_of (before seen more) steps ++ events_of seen more
events-append seen [] more = refl
events-append seen (Settled ∷ steps) more = ap (λ (l : List Event). Synced ∷ l) (events-append seen steps more)
events-append seen (Replaced n content ∷ steps) more =
    ap (λ (i : Image). Written n (sector i n) ∷ events_of seen (steps ++ more)) (before-append seen steps more)
    ∙ ap (λ (l : List Event). Written n (sector (before (before seen more) steps) n) ∷ l) (events-append seen steps more)

-- what is replaced and put back
put_back : (image : Image) (n : ℕ) (content : List ℕ) → slice_set (slice_set image n content) n (sector image n) ≡ image
put_back image n content = set-set image n content (sector image n) ∙ set-get_or image n []

-- the events lead to what reads give
pub after-before : (seen : Image) (steps : List Step) → after_events (before seen steps) (events_of seen steps) ≡ seen
after-before seen [] = refl
after-before seen (Settled ∷ steps) = after-before seen steps
after-before seen (Replaced n content ∷ steps) =
    ap (λ (i : Image). after_events i (events_of seen steps)) (put_back (before seen steps) n content) ∙ after-before seen steps

-- ---- one step more
abbrev pub written : Image → ℕ → List ℕ → List Step → List Step
written seen n content steps = steps ++ Replaced n (sector seen n) ∷ []

before-write : (seen : Image) (n : ℕ) (content : List ℕ) (steps : List Step) → before (slice_set seen n content) (written seen n content steps) ≡ before seen steps
before-write seen n content steps =
    before-append (slice_set seen n content) steps (Replaced n (sector seen n) ∷ []) ∙ ap (λ (i : Image). before i steps) (put_back seen n content)

events-write : (seen : Image) (n : ℕ) (content : List ℕ) (steps : List Step) → n < length seen
    → events_of (slice_set seen n content) (written seen n content steps) ≡ events_of seen steps ++ Written n content ∷ []
events-write seen n content steps below =
    events-append (slice_set seen n content) steps (Replaced n (sector seen n) ∷ [])
    ∙ ap (λ (i : Image). events_of i steps ++ Written n (sector (slice_set seen n content) n) ∷ []) (put_back seen n content)
    ∙ ap (λ (c : List ℕ). events_of seen steps ++ Written n c ∷ []) (get_or-set_same seen n content [] below)

pub past-write : (seen : Image) (n : ℕ) (content : List ℕ) (steps : List Step) → n < length seen
    → past_of (slice_set seen n content) (written seen n content steps) ≡ record (past_of seen steps) { events = (past_of seen steps).events ++ Written n content ∷ [] }
past-write seen n content steps below =
    ap (λ (i : Image). record { start = i; events = events_of (slice_set seen n content) (written seen n content steps) }) (before-write seen n content steps)
    ∙ ap (λ (l : List Event). record { start = before seen steps; events = l }) (events-write seen n content steps below)

pub past-sync : (seen : Image) (steps : List Step) → past_of seen (steps ++ Settled ∷ []) ≡ record (past_of seen steps) { events = (past_of seen steps).events ++ Synced ∷ [] }
past-sync seen steps =
    ap (λ (i : Image). record { start = i; events = events_of seen (steps ++ Settled ∷ []) }) (before-append seen steps (Settled ∷ []))
    ∙ ap (λ (l : List Event). record { start = before seen steps; events = l }) (events-append seen steps (Settled ∷ []))

replay-past : (p q : Past) → p ≡ q → replay p.start p.events ≡ replay q.start q.events
replay-past p q same = ap (λ (r : Past). replay r.start r.events) same

replay-one : (start : Image) (events : List Event) (event : Event) → replay start (events ++ event ∷ []) ≡ held_after (replay start events) event
replay-one start events event = fold_push held_after (record { stable = start; pending = [] }) events event

pub log-write : (seen : Image) (n : ℕ) (content : List ℕ) (done : List Step) (synced : ℕ) → n < length seen → IsLog seen done synced → IsLog (slice_set seen n content) (written seen n content done) synced
log-write seen n content done synced below log =
    let p = past_of seen done in
    let held : replay (before (slice_set seen n content) (written seen n content done)) (events_of (slice_set seen n content) (written seen n content done)) ≡ held_after (replay p.start p.events) (Written n content) =
    replay-past (past_of (slice_set seen n content) (written seen n content done)) (record p { events = p.events ++ Written n content ∷ [] }) (past-write seen n content done below) ∙ replay-one p.start p.events (Written n content) in
    let rest : drop synced (written seen n content done) ≡ written seen n content (drop synced done) = drop-append-le synced done (Replaced n (sector seen n) ∷ []) log.synced_fits in
    record {
      small = let small = log.small in omega (arith, small, length-set seen n content);
      synced_fits = let fits = log.synced_fits in omega (arith, fits, length-append done (Replaced n (sector seen n) ∷ []));
      len = length-before (slice_set seen n content) (written seen n content done);
      seen_is = sym (after-before (slice_set seen n content) (written seen n content done));
      stable =
          ap (λ (h : Held). h.stable) held ∙ log.stable ∙ sym (before-write seen n content (drop synced done))
          ∙ ap (λ (l : List Step). before (slice_set seen n content) l) (sym rest);
      pending =
          ap (λ (h : Held). h.pending) held ∙ ap (λ (l : List Event). l ++ Written n content ∷ []) log.pending ∙ sym (events-write seen n content (drop synced done) below)
          ∙ ap (λ (l : List Step). events_of (slice_set seen n content) l) (sym rest);
    }

pub log-sync : (seen : Image) (done : List Step) (synced now : ℕ) → now ≡ length (done ++ Settled ∷ []) → IsLog seen done synced → IsLog seen (done ++ Settled ∷ []) now
log-sync seen done synced now all log =
    let p = past_of seen done in
    let held : replay (before seen (done ++ Settled ∷ [])) (events_of seen (done ++ Settled ∷ [])) ≡ held_after (replay p.start p.events) Synced =
    replay-past (past_of seen (done ++ Settled ∷ [])) (record p { events = p.events ++ Synced ∷ [] }) (past-sync seen done) ∙ replay-one p.start p.events Synced in
    let none : drop now (done ++ Settled ∷ []) ≡ [] = drop_all now (done ++ Settled ∷ []) (omega (arith, all)) in
    record {
      small = log.small;
      synced_fits = omega (arith, all);
      len = length-before seen (done ++ Settled ∷ []);
      seen_is = sym (after-before seen (done ++ Settled ∷ []));
      stable =
          ap (λ (h : Held). h.stable) held ∙ ap (λ (i : Image). after_events i (replay p.start p.events).pending) log.stable
          ∙ ap (λ (l : List Event). after_events (before seen (drop synced done)) l) log.pending ∙ after-before seen (drop synced done)
          ∙ ap (λ (l : List Step). before seen l) (sym none);
      pending = ap (λ (h : Held). h.pending) held ∙ ap (λ (l : List Step). events_of seen l) (sym none);
    }

-- ---- what came before the last sync is forgotten
pub past-forget : (seen : Image) (done : List Step) (synced : ℕ) → IsLog seen done synced → past_of seen (drop synced done) ≡ since_sync (past_of seen done)
past-forget seen done synced log =
    ap (λ (i : Image). record { start = i; events = events_of seen (drop synced done) }) (sym log.stable)
    ∙ ap (λ (l : List Event). record { start = (replay (before seen done) (events_of seen done)).stable; events = l }) (sym log.pending)

pub log-forget : (seen : Image) (done rest : List Step) (synced : ℕ) → rest ≡ drop synced done → IsLog seen done synced → IsLog seen rest 0
log-forget seen done rest synced is log =
    subst (λ (l : List Step). IsLog seen l 0) (sym is) (
    let held = replay-past (past_of seen (drop synced done)) (since_sync (past_of seen done)) (past-forget seen done synced log) ∙ settled (past_of seen done) in
    record {
      small = log.small;
      synced_fits = omega arith;
      len = length-before seen (drop synced done);
      seen_is = sym (after-before seen (drop synced done));
      stable = ap (λ (h : Held). h.stable) held ∙ log.stable;
      pending = ap (λ (h : Held). h.pending) held ∙ log.pending;
    })

-- the last steps, where they have been moved to the front
pub moved_end : (steps : List Step) (s n : ℕ) → n ≡ length steps - s → take n (paste steps 0 (drop s steps) (length steps - s)) ≡ drop s steps
moved_end steps s n is =
    ap (λ (k : ℕ). take k (paste steps 0 (drop s steps) (length steps - s))) (let same : n ≡ 0 + (length steps - s) = omega (arith, is) in same)
    ∙ take-paste steps 0 (drop s steps) (length steps - s) (omega arith) (omega (arith, length-drop s steps)) ∙ take_rest steps s

-- ---- a stop

-- a content that a step replaced was there before the steps, or one of them wrote it
pub may_replaced : (seen : Image) (steps : List Step) (n : ℕ) (content : List ℕ) → n < length seen → Contains steps (Replaced n content) → MayHold (held_before seen steps) n content
may_replaced seen [] n content below (k, few, is) = absurd (omega (arith, few))
may_replaced seen (Settled ∷ steps) n content below (zero, few, is) = absurd cc
may_replaced seen (Settled ∷ steps) n content below (suc k, few, is) =
    ⊎_elim (λ was. inl was) (λ (new : Contains (events_of seen steps) (Written n content)). inr (Contains-append_right (Synced ∷ []) (events_of seen steps) (Written n content) new))
    (may_replaced seen steps n content below (k, omega (arith, few), is))
may_replaced seen (Replaced m was ∷ steps) n content below (zero, few, is) =
    let number : m ≡ n = cc in
    let same : was ≡ content = cc in
    inl (sym (get_or-set_at (before seen steps) m n was [] (sym number) (omega (arith, below, length-before seen steps, number)) ∙ same))
may_replaced seen (Replaced m was ∷ steps) n content below (suc k, few, is) =
    let write : Event = Written m (sector (before seen steps) m) in
    ⊎_elim
    (λ (old : content ≡ sector (before seen steps) n). elim (cases_eq n m) [
      | inl here ↦ inr (zero, omega arith, ap (λ (j : ℕ). Written j (sector (before seen steps) j)) (sym here) ∙ ap (λ (c : List ℕ). Written n c) (sym old))
      | inr other ↦ inl (old ∙ sym (get_or-set_other (before seen steps) m n was [] other))
    ])
    (λ (new : Contains (events_of seen steps) (Written n content)). inr (Contains-append_right (write ∷ []) (events_of seen steps) (Written n content) new))
    (may_replaced seen steps n content below (k, omega (arith, few), is))

-- and what reads give may be left
pub may_seen : (seen : Image) (steps : List Step) (n : ℕ) → MayHold (held_before seen steps) n (sector seen n)
may_seen seen steps n =
    subst (λ (i : Image). MayHold (held_before seen steps) n (sector i n)) (after-before seen steps) (after_cases (before seen steps) (events_of seen steps) n)

-- the first n sectors are picked, and the others are as before
pub record Picked (seen image : Image) (steps : List Step) (n : ℕ) : Type 0 where
  pub done : (k : ℕ) → k < n → MayHold (held_before seen steps) k (sector image k)
  pub rest : (k : ℕ) → n ≤ k → sector image k ≡ sector seen k

pub picked_none : (seen : Image) (steps : List Step) → Picked seen seen steps 0
picked_none seen steps = record { done = λ k below. absurd (omega (arith, below)); rest = λ k past. refl }

pub picked_same : (seen image : Image) (steps : List Step) (n : ℕ) → Picked seen image steps n → Picked seen image steps (n + 1)
picked_same seen image steps n picked = record {
  done = λ k below. elim (cases_lt k n) [
    | inl early ↦ picked.done k early
    | inr late ↦ subst (λ (c : List ℕ). MayHold (held_before seen steps) k c) (sym (picked.rest k late)) (may_seen seen steps k)
  ];
  rest = λ k past. picked.rest k (omega (arith, past));
}

pub picked_one : (seen image : Image) (steps : List Step) (n : ℕ) (content : List ℕ) → length image ≡ length seen → n < length image → (content ≡ sector image n) ⊎ Contains steps (Replaced n content)
    → Picked seen image steps n → Picked seen (slice_set image n content) steps (n + 1)
picked_one seen image steps n content size fits is picked = record {
  done = λ k below. elim (cases_eq k n) [
    | inl here ↦
        subst (λ (c : List ℕ). MayHold (held_before seen steps) k c) (sym (get_or-set_at image n k content [] here (omega (arith, fits, here)))) (
        ⊎_elim
        (λ same. subst (λ (c : List ℕ). MayHold (held_before seen steps) k c) (sym (same ∙ picked.rest n (omega arith))) (subst (λ j. MayHold (held_before seen steps) k (sector seen j)) here (may_seen seen steps k)))
        (λ has. may_replaced seen steps k content (omega (arith, fits, here, size)) (subst (λ j. Contains steps (Replaced j content)) (sym here) has))
        is)
    | inr other ↦
        let early : k < n = omega (arith, below, other) in
        subst (λ (c : List ℕ). MayHold (held_before seen steps) k c) (sym (get_or-set_other image n k content [] other)) (picked.done k early)
  ];
  rest = λ k past. let other : k ≢ n = omega (arith, past) in get_or-set_other image n k content [] other ∙ picked.rest k (omega (arith, past));
}

pub log-start : (image : Image) → length image < 2 ^ 32 → IsLog image [] 0
log-start image small = record {
  small = small;
  synced_fits = omega arith;
  len = refl;
  seen_is = refl;
  stable = refl;
  pending = refl;
}

-- the image that is picked is one that a stop may leave
pub stopped : (seen image : Image) (done pending : List Step) (synced : ℕ) (p : Past) → IsLog seen done synced → past_of seen done ≡ p → pending ≡ drop synced done
    → length image ≡ length seen → ((n : ℕ) → n < length seen → MayHold (held_before seen pending) n (sector image n)) → Leaves (length p.start) (replay p.start p.events) image
stopped seen image done pending synced p log is tail size each =
    subst (λ (q : Past). Leaves (length q.start) (replay q.start q.events) image) is (record {
      size = size ∙ sym log.len;
      each = λ n below.
          let here = subst (λ (l : List Step). MayHold (held_before seen l) n (sector image n)) tail (each n (let len = log.len in omega (arith, below, len))) in
          ⊎_elim (λ was. inl (was ∙ ap (λ (i : Image). sector i n) (sym log.stable))) (λ new. inr (subst (λ (l : List Event). Contains l (Written n (sector image n))) (sym log.pending) new)) here;
    })

-- what it is picked from
pub held_stopped : (seen : Image) (done : List Step) (synced : ℕ) (p : Past) → IsLog seen done synced → past_of seen done ≡ p → held_before seen (drop synced done) ≡ replay p.start p.events
held_stopped seen done synced p log is =
    ap (λ (i : Image). record { stable = i; pending = events_of seen (drop synced done) }) (sym log.stable)
    ∙ ap (λ (l : List Event). record { stable = (replay (before seen done) (events_of seen done)).stable; pending = l }) (sym log.pending)
    ∙ ap (λ (q : Past). replay q.start q.events) is

-- the picked content of a sector is put there, and the others keep their places
pub record PickedSo (seen image : KeptSectors) (steps : List Step) (n : ℕ) : Type 0 where
  pub len : length image.shown ≡ length seen.shown
  pub picked : Picked seen.shown image.shown steps n
  pub keeps : (k : ℕ) → n ≤ k → OwnsPlace seen k → OwnsPlace image k

pub picked_start : (seen : KeptSectors) (steps : List Step) → PickedSo seen seen steps 0
picked_start seen steps = record { len = refl; picked = picked_none seen.shown steps; keeps = λ k past some. some }

pub picked_past : (seen image : KeptSectors) (steps : List Step) (n : ℕ) → PickedSo seen image steps n → PickedSo seen image steps (n + 1)
picked_past seen image steps n so = record {
  len = so.len;
  picked = picked_same seen.shown image.shown steps n so.picked;
  keeps = λ k past some. so.keeps k (omega (arith, past)) some;
}

pub picked_put : (seen image later : KeptSectors) (steps : List Step) (n : ℕ) (content : List ℕ) → n < length image.shown → (content ≡ sector image.shown n) ⊎ Contains steps (Replaced n content)
    → later.shown ≡ slice_set image.shown n content → ((k : ℕ) → k ≢ n → OwnsPlace image k → OwnsPlace later k) → PickedSo seen image steps n → PickedSo seen later steps (n + 1)
picked_put seen image later steps n content fits is put keeps so = record {
  len = ap (λ (i : Image). length i) put ∙ length-set image.shown n content ∙ so.len;
  picked = subst (λ (i : Image). Picked seen.shown i steps (n + 1)) (sym put) (picked_one seen.shown image.shown steps n content so.len fits is so.picked);
  keeps = λ k past some. keeps k (omega (arith, past)) (so.keeps k (omega (arith, past)) some);
}

-- and there is room for it
pub picked_room : (seen image : KeptSectors) (steps : List Step) (n : ℕ) (last content : List ℕ) → (last ≢ replicate 512 0 → OwnsPlace image n) → (content ≡ last) ⊎ Contains steps (Replaced n content)
    → CanPutBack seen steps → PickedSo seen image steps n → content ≢ replicate 512 0 → OwnsPlace image n
picked_room seen image steps n last content placed is back so used =
    ⊎_elim (λ same. placed (λ zeros. used (same ∙ zeros))) (λ has. so.keeps n (omega arith) (back.room n content has used)) is

pub picked_content : (last here content : List ℕ) (steps : List Step) (n : ℕ) → last ≡ here → (content ≡ last) ⊎ Contains steps (Replaced n content) → (content ≡ here) ⊎ Contains steps (Replaced n content)
picked_content last here content steps n same is = ⊎_elim (λ was. inl (was ∙ same)) (λ has. inr has) is

-- ---- what can be put back without memory
pub none_back : (seen : KeptSectors) (steps : List Step) → steps ≡ [] → CanPutBack seen steps
none_back seen steps none = subst (λ (l : List Step). CanPutBack seen l) (sym none) (record {
  below = λ n content has. absurd (omega (arith, has.1));
  room = λ n content has used. absurd (omega (arith, has.1));
})

-- after one write more
pub back-write : (seen later : KeptSectors) (n : ℕ) (content : List ℕ) (done : List Step) (synced : ℕ) → n < length seen.shown → synced ≤ length done
    → (sector seen.shown n ≢ replicate 512 0 → OwnsPlace seen n) → later.shown ≡ slice_set seen.shown n content → ((k : ℕ) → OwnsPlace seen k → OwnsPlace later k)
    → CanPutBack seen (drop synced done) → CanPutBack later (drop synced (written seen.shown n content done))
back-write seen later n content done synced below fits placed set keeps back =
    subst (λ (l : List Step). CanPutBack later l) (sym (drop-append-le synced done (Replaced n (sector seen.shown n) ∷ []) fits)) (record {
      below = λ k c has.
          ⊎_elim (λ old. let was = back.below k c old in omega (arith, was, size)) (λ new. let same = (only k c new).0 in omega (arith, below, same, size))
          (Contains-append_cases (drop synced done) (Replaced n (sector seen.shown n) ∷ []) (Replaced k c) has);
      room = λ k c has used.
          ⊎_elim (λ old. keeps k (back.room k c old used))
          (λ new. subst (OwnsPlace later) (sym (only k c new).0) (keeps n (placed (λ zeros. used ((only k c new).1 ∙ zeros)))))
          (Contains-append_cases (drop synced done) (Replaced n (sector seen.shown n) ∷ []) (Replaced k c) has);
    })
  where
    size : length later.shown ≡ length seen.shown
    size = ap (λ (i : Image). length i) set ∙ length-set seen.shown n content

    only : (k : ℕ) (c : List ℕ) → Contains (Replaced n (sector seen.shown n) ∷ []) (Replaced k c) → (k ≡ n) × (c ≡ sector seen.shown n)
    only k c (zero, few, is) = (cc, cc)
    only k c (suc i, few, is) = absurd (omega (arith, few))

-- after a sync, which replaces none
pub back-sync : (seen : KeptSectors) (done : List Step) (synced : ℕ) → synced ≤ length done → CanPutBack seen (drop synced done) → CanPutBack seen (drop synced (done ++ Settled ∷ []))
back-sync seen done synced fits back =
    subst (λ (l : List Step). CanPutBack seen l) (sym (drop-append-le synced done (Settled ∷ []) fits)) (record {
      below = λ n c has. ⊎_elim (λ old. back.below n c old) (λ new. absurd (none n c new)) (Contains-append_cases (drop synced done) (Settled ∷ []) (Replaced n c) has);
      room = λ n c has. ⊎_elim (λ old. back.room n c old) (λ new. absurd (none n c new)) (Contains-append_cases (drop synced done) (Settled ∷ []) (Replaced n c) has);
    })
  where
    none : (n : ℕ) (c : List ℕ) → Contains (Settled ∷ []) (Replaced n c) → ⊥
    none n c (zero, few, is) = cc
    none n c (suc i, few, is) = absurd (omega (arith, few))

-- and after what came before the last sync is forgotten
pub record-forget : (seen : KeptSectors) (done rest : List Step) (synced : ℕ) → rest ≡ drop synced done → IsRecord seen done synced → IsRecord seen rest 0
record-forget seen done rest synced is kept = record {
  log = log-forget seen.shown done rest synced is kept.log;
  back = subst (λ (l : List Step). CanPutBack seen l) (sym is) kept.back;
}
