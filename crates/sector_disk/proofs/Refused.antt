-- A call of a disk that does nothing and tells of it: the failure is counted.
use Rattle.std.proofs.Common.{◌≡◌, ◌⊎◌, inl, inr, ℕ, ◌+◌, ◌-◌, ◌^◌, ◌<◌, ◌∙◌, List, ap, arith, refl, sym, subst}
use Rattle.std.proofs.lemmas.Bool.{cases_lt, true≢false}
use Rattle.std.specs.Prelude.{Result, Ok, Err, IsErr, OnErr, min}
use Rattle.sector_disk.specs.Disk.{DiskState, ChangesOnly, Elapses, HasCause, HasWriteCause, IsSame}
use Rattle.sector_disk.specs.Record.{Past, recorded_state}
use Rattle.sector_disk.specs.declared.memory.MemDisk.{MemDisk}

-- nothing but the count has changed
pub record IsRefused {T E : Type 0} (old new : DiskState) (result : Result T E) : Type 0 where
  pub same : IsSame old new
  pub time : Elapses old new
  pub cause : HasCause old new result
  pub told : HasWriteCause old new result

grows : (f g : ℕ) → g ≡ min (f + 1) (2 ^ 64 - 1) → (f < g) ⊎ (g ≡ 2 ^ 64 - 1)
grows f g counted = elim (cases_lt (f + 1) (2 ^ 64 - 1)) [
  | inl below ↦ inl (omega (arith, counted))
  | inr full ↦ inr (omega (arith, counted))
]

refused_here : {T E : Type 0} (past : Past) (f g : ℕ) (result : Result T E) → IsErr result → f < 2 ^ 64 → g ≡ min (f + 1) (2 ^ 64 - 1) → IsRefused (recorded_state past f) (recorded_state past g) result
refused_here past f g (Ok x) is fits counted = absurd (true≢false (sym is))
refused_here past f g (Err e) is fits counted = record {
  same = record { narrowed = record { size = refl; seen = refl; nothing_else = λ n content holds. holds }; kept = λ n content holds. holds };
  time = record { later = omega arith; nothing_else = λ t image le left. inl left; keeps = λ t image le left. left };
  cause = record { later = omega (arith, counted, fits); fault = grows f g counted };
  told = record { later = omega (arith, counted, fits); fault = grows f g counted; quiet = tt };
}

refused : {T E : Type 0} (past later : Past) (f g : ℕ) (result : Result T E) → later ≡ past → IsErr result → f < 2 ^ 64 → g ≡ min (f + 1) (2 ^ 64 - 1) → IsRefused (recorded_state past f) (recorded_state later g) result
refused past later f g result same is fits counted = subst (λ (p : Past). IsRefused (recorded_state past f) (recorded_state p g) result) (sym same) (refused_here past f g result is fits counted)

-- of a disk in memory that another call has left as it was
pub refused_disk : {T E : Type 0} (old was new : MemDisk) (result : Result T E) → was ≡ old → new.history ≡ was.history → new.failures ≡ min (was.failures + 1) (2 ^ 64 - 1) → IsErr result
    → IsRefused (recorded_state old.history old.failures) (recorded_state new.history new.failures) result
refused_disk old was new result same past counted is =
    refused old.history new.history old.failures new.failures result (past ∙ ap (λ (m : MemDisk). m.history) same) is old.counted (counted ∙ ap (λ (m : MemDisk). min (m.failures + 1) (2 ^ 64 - 1)) same)

-- where nothing has changed, nothing but a write has
pub changes_none : {old new : DiskState} {n : ℕ} {content : List ℕ} → IsSame old new → ChangesOnly old new n content
changes_none same = record {
  size = same.narrowed.size;
  seen = inl same.narrowed.seen;
  nothing_else = λ k c holds. inl (same.narrowed.nothing_else k c holds);
  kept = same.kept;
}

pub changes_past : (past later : Past) (f g n : ℕ) (content : List ℕ) → later ≡ past
    → ChangesOnly (recorded_state past f) (recorded_state later g) n content
changes_past past later f g n content same =
    subst (λ (p : Past). ChangesOnly (recorded_state past f) (recorded_state p g) n content) (sym same)
    (record {
      size = refl;
      seen = inl refl;
      nothing_else = λ k c holds. inl holds;
      kept = λ k c holds. holds;
    })

pub on_err : {T E P : Type 0} (result : Result T E) → P → OnErr result P
on_err (Ok x) here = tt
on_err (Err e) here = here
