-- The sectors of a disk in memory have 512 bytes each, from its record.
--     AreSectors        each has 512 bytes
--     AreWhole        what was there at first, and all that was written
--     whole_sectors        then so has all that a stop may leave
--     whole_written, whole_stopped        one write more, and a stop
use Rattle.std.proofs.Common.{◌≡◌, ⊎_elim, ℕ, zero, suc, ◌<◌, List, [], ◌∷◌, ◌++◌, length, refl, sym, ◌∙◌, subst, arith, fold}
use Rattle.std.specs.Prelude.{Contains}
use Rattle.std.proofs.lemmas.List.Elements.{Contains-append_left, Contains-append_right, Contains-append_cases}
use Rattle.sector_disk.specs.Disk.{Image, sector, IsWholeSector}
use Rattle.sector_disk.specs.Record.{Past, Held, after_events, held_after, replay, MayHold, Leaves}
use Rattle.sector_disk.specs.Replay.{after_cases, length-after}
use Rattle.sector_disk.specs.Record.{Event}
use Rattle.sector_disk.specs.Record.{Written, Synced}

-- each is a whole sector
abbrev pub AreSectors : Image → Type 0
AreSectors image = (n : ℕ) → n < length image → IsWholeSector (sector image n)

abbrev pub WriteSectors : List Event → Type 0
WriteSectors events = (n : ℕ) (content : List ℕ) → Contains events (Written n content) → IsWholeSector content

-- what was there at first, and all that was written since, are whole sectors
pub record AreWhole (past : Past) : Type 0 where
  pub start : AreSectors past.start
  pub events : (n : ℕ) (content : List ℕ) → Contains past.events (Written n content) → IsWholeSector content

record HoldsWhole (sectors : ℕ) (held : Held) : Type 0 where
  size : length held.stable ≡ sectors
  stable : AreSectors held.stable
  pending : WriteSectors held.pending

pub none_written : WriteSectors []
none_written n content found = absurd (omega (arith, found.1))

after_whole : (image : Image) (events : List Event) → AreSectors image → WriteSectors events → AreSectors (after_events image events)
after_whole image events here written n below =
    ⊎_elim (λ was. subst IsWholeSector (sym was) (here n (omega (arith, below, length-after image events))))
    (λ new. written n (sector (after_events image events) n) new) (after_cases image events n)

-- of the events the first is gone
others : (event : Event) (events : List Event) → WriteSectors (event ∷ events) → WriteSectors events
others event events written n content found = written n content (Contains-append_right (event ∷ []) events (Written n content) found)

whole_replay : (sectors : ℕ) (held : Held) (events : List Event) → HoldsWhole sectors held → WriteSectors events → HoldsWhole sectors (fold held_after held events)
whole_replay sectors held [] holds written = holds
whole_replay sectors held (Synced ∷ events) holds written =
    whole_replay sectors (held_after held Synced) events (record {
      size = length-after held.stable held.pending ∙ holds.size;
      stable = after_whole held.stable held.pending holds.stable holds.pending;
      pending = none_written;
    }) (others Synced events written)
whole_replay sectors held (Written k content ∷ events) holds written =
    whole_replay sectors (held_after held (Written k content)) events (record {
      size = holds.size;
      stable = holds.stable;
      pending = λ n c found.
          ⊎_elim (λ old. holds.pending n c old) (λ new. written n c (Contains-append_left (Written k content ∷ []) events (Written n c) new))
          (Contains-append_cases held.pending (Written k content ∷ []) (Written n c) found);
    }) (others (Written k content) events written)

-- so has what was there at the last sync, and what was written since
pub held_whole : (past : Past) → AreWhole past
    → ((n : ℕ) → n < length (replay past.start past.events).stable → IsWholeSector (sector (replay past.start past.events).stable n))
    × ((n : ℕ) (content : List ℕ) → Contains (replay past.start past.events).pending (Written n content) → IsWholeSector content)
held_whole past whole =
    let start : Held = record { stable = past.start; pending = [] } in
    let holds = whole_replay (length past.start) start past.events (record { size = refl; stable = whole.start; pending = none_written }) whole.events in
    (holds.stable, holds.pending)

-- a stop leaves whole sectors
pub whole_sectors : (past : Past) → AreWhole past → (n : ℕ) (content : List ℕ) → n < length past.start
    → MayHold (replay past.start past.events) n content → IsWholeSector content
whole_sectors past whole n content below may =
    let start : Held = record { stable = past.start; pending = [] } in
    let holds = whole_replay (length past.start) start past.events (record { size = refl; stable = whole.start; pending = none_written }) whole.events in
    ⊎_elim (λ was. subst IsWholeSector (sym was) (holds.stable n (omega (arith, below, holds.size)))) (λ found. holds.pending n content found) may

-- one write more
pub whole_written : (past : Past) (n : ℕ) (content : List ℕ) → AreWhole past → IsWholeSector content
    → AreWhole (record past { events = past.events ++ Written n content ∷ [] })
whole_written past n content whole is = record {
  start = whole.start;
  events = λ k c found.
      ⊎_elim (λ old. whole.events k c old) (λ new. subst IsWholeSector (sym (only k c new)) is)
      (Contains-append_cases past.events (Written n content ∷ []) (Written k c) found);
}
  where
    only : (k : ℕ) (c : List ℕ) → Contains (Written n content ∷ []) (Written k c) → c ≡ content
    only k c (zero, below, is) = cc
    only k c (suc i, below, is) = absurd (omega arith)

-- one sync more
pub whole_synced : (past : Past) → AreWhole past → AreWhole (record past { events = past.events ++ Synced ∷ [] })
whole_synced past whole = record {
  start = whole.start;
  events = λ k c found.
      ⊎_elim (λ old. whole.events k c old) (λ new. absurd (none k c new)) (Contains-append_cases past.events (Synced ∷ []) (Written k c) found);
}
  where
    none : (k : ℕ) (c : List ℕ) → Contains (Synced ∷ []) (Written k c) → ⊥
    none k c (zero, below, is) = cc
    none k c (suc i, below, is) = absurd (omega arith)

-- and a stop
pub whole_stopped : (past : Past) (image : Image) → AreWhole past → Leaves (length past.start) (replay past.start past.events) image
    → AreWhole (record { start = image; events = [] })
whole_stopped past image whole leaves = record {
  start = λ n below. let fits : n < length past.start = omega (arith, below, leaves.size) in whole_sectors past whole n (sector image n) fits (leaves.each n fits);
  events = none_written;
}
