-- What a record says of the present moment rests on what was done since the last sync.
use Rattle.std.proofs.Common.{◌≡◌, inl, inr, ⊎_elim, ℕ, zero, suc, ◌+◌, List, [], ◌∷◌, ◌++◌, length, take, drop, refl, sym, ◌∙◌, ap, subst, arith, fold, length-append, take-append-drop}
use Rattle.std.specs.Prelude.{Contains}
use Rattle.std.proofs.lemmas.Bool.{cases_lt}
use Rattle.std.proofs.lemmas.List.{take_all, take-append-le}
use Rattle.std.proofs.lemmas.List.Elements.{Contains-append_left}
use Rattle.std.proofs.lemmas.List.Sums.{fold_push}
use Rattle.sector_disk.specs.Disk.{Image, sector, IsImage, IsSame, ForgetsPast}
use Rattle.sector_disk.specs.Record.{Past, Held, after_events, held_after, replay, since_sync, MayHold, LeftSince, recorded_state}
use Rattle.sector_disk.specs.Replay.{length-after, seen_replayed}
use Rattle.sector_disk.specs.Whole.{AreWhole, held_whole}
use Rattle.sector_disk.specs.Record.{Event}
use Rattle.sector_disk.specs.Record.{Written, Synced}

-- none of the pending events is a sync: so many of them leave what is stable, and are pending
abbrev IsSettled : Held → Type 0
IsSettled held = (k : ℕ) → replay held.stable (take k held.pending) ≡ record held { pending = take k held.pending }

none_pending : (image : Image) → IsSettled (record { stable = image; pending = [] })
none_pending image zero = refl
none_pending image (suc k) = refl

all_pending : (held : Held) → IsSettled held → replay held.stable held.pending ≡ held
all_pending held is = subst (λ (l : List Event). replay held.stable l ≡ record held { pending = l }) (take_all (length held.pending) held.pending (omega arith)) (is (length held.pending))

settled_after : (held : Held) (event : Event) → IsSettled held → IsSettled (held_after held event)
settled_after held Synced is k = none_pending (after_events held.stable held.pending) k
settled_after held (Written n content) is k = elim (cases_lt k (length held.pending + 1)) [
  | inl early ↦ subst (λ (l : List Event). replay held.stable l ≡ record held { pending = l }) (sym (take-append-le k held.pending (Written n content ∷ []) (omega (arith, early)))) (is k)
  | inr late ↦ subst (λ (l : List Event). replay held.stable l ≡ record held { pending = l })
      (sym (take_all k (held.pending ++ Written n content ∷ []) (omega (arith, late, length-append held.pending (Written n content ∷ [])))))
      (fold_push held_after (record { stable = held.stable; pending = [] }) held.pending (Written n content)
      ∙ ap (λ (h : Held). held_after h (Written n content)) (all_pending held is))
]

settled_replay : (held : Held) (events : List Event) → IsSettled held → IsSettled (fold held_after held events)
settled_replay held [] is = is
settled_replay held (event ∷ events) is = settled_replay (held_after held event) events (settled_after held event is)

settled_past : (past : Past) → IsSettled (replay past.start past.events)
settled_past past = settled_replay (record { stable = past.start; pending = [] }) past.events (none_pending past.start)

pub settled : (past : Past) → replay (since_sync past).start (since_sync past).events ≡ replay past.start past.events
settled past = all_pending (replay past.start past.events) (settled_past past)

length-held : (held : Held) (events : List Event) → length (fold held_after held events).stable ≡ length held.stable
length-held held [] = refl
length-held held (Synced ∷ events) = length-held (held_after held Synced) events ∙ length-after held.stable held.pending
length-held held (Written n content ∷ events) = length-held (held_after held (Written n content)) events

pub length-since_sync : (past : Past) → length (since_sync past).start ≡ length past.start
length-since_sync past = length-held (record { stable = past.start; pending = [] }) past.events

taken : (events : List Event) (k : ℕ) (event : Event) → Contains (take k events) event → Contains events event
taken events k event has = subst (λ (l : List Event). Contains l event) (take-append-drop k events) (Contains-append_left (take k events) (drop k events) event has)

-- a stop since some moment after it left no more than a stop may leave now
nothing_earlier : (past : Past) (failures t : ℕ) (image : Image) → LeftSince (since_sync past) t image → IsImage (recorded_state (since_sync past) failures) image
nothing_earlier past failures t image left =
    let held = replay past.start past.events in
    record {
      size = left.3.size;
      each = λ n below.
          let then = subst (λ (h : Held). MayHold h n (sector image n)) (settled_past past left.0) (left.3.each n below) in
          subst (λ (h : Held). MayHold h n (sector image n)) (sym (settled past))
          (⊎_elim (λ was. inl was) (λ new. inr (taken held.pending left.0 (Written n (sector image n)) new)) then);
    }

same_since_sync : (past : Past) (failures : ℕ) → IsSame (recorded_state past failures) (recorded_state (since_sync past) failures)
same_since_sync past failures = record {
  narrowed = record {
    size = length-since_sync past;
    seen = seen_replayed past;
    nothing_else = λ n content holds. subst (λ (h : Held). MayHold h n content) (settled past) holds;
  };
  kept = λ n content holds. subst (λ (h : Held). MayHold h n content) (sym (settled past)) holds;
}

pub whole_since_sync : (past : Past) → AreWhole past → AreWhole (since_sync past)
whole_since_sync past whole = let held = held_whole past whole in record { start = held.0; events = held.1 }

-- what came before the last sync may be forgotten
pub forgets_past : (past : Past) (failures : ℕ) → ForgetsPast (recorded_state past failures) (recorded_state (since_sync past) failures)
forgets_past past failures = record {
  same = same_since_sync past failures;
  failures = refl;
  failed_writes = refl;
  nothing_earlier = nothing_earlier past failures;
}
