use Rattle.std.proofs.Common.{◌≡◌, ℕ, nat_eq, cond, sym, ap, refl, None, Some, inl, inr}
use Rattle.std.specs.Prelude.{unwrap_or}
use Rattle.std.specs.Map.{lookup}
use Rattle.open_files.proofs.Handled.{set_lookup, on_ok, settled}
use Rattle.open_files.proofs.openings.set_count.Goals as goal

pub returns-then-count-eq0 : goal.returns-then-count-eq0
returns-then-count-eq0 c =
    set_lookup c.args.counts.now.entries c.remove-gone.new.self.entries c.args.ino c.args.count None (sym c.if-count-eq0.true) c.remove-gone.ensures.updates.0

pub returns : goal.returns
returns c =
    let r = c.insert-before.result in
    let e = c.insert-before.ensures in
    let updates : (q : ℕ) → lookup (nat_eq q) c.insert-before.new.self.entries ≡ cond (nat_eq c.args.ino q) (Some c.args.count) (lookup (nat_eq q) c.args.counts.now.entries) =
    elim c.requires [
      | inl room ↦ (on_ok r (e.succeeds room) e.updates).0
      | inr some ↦ (settled r e.updates e.absent (λ none. some (ap (λ o. unwrap_or o 0) none))).0
    ] in
    set_lookup c.args.counts.now.entries c.insert-before.new.self.entries c.args.ino c.args.count (Some c.args.count) refl updates
