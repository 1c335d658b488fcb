use Rattle.std.proofs.Common.{◌≡◌, ◌<◌, ◌≤◌, ◌+◌, ℕ, slice_index}
use Rattle.sector_disk.proofs.waiting.first_run.Given as goal

abbrev pub invariant-loop-n : goal.invariant-loop-n
invariant-loop-n l = record {
  each : l.count ≡ l.n-index;
  order : l.first ≤ l.end;
  fits : l.end ≤ l.size;
  room : l.end ≤ l.first + l.most;
  none : l.count ≡ 0 → l.end ≡ l.first;
  within : (i : ℕ) → i < l.count → (l.first ≤ slice_index l.waiting i) × (slice_index l.waiting i < l.end);
}
