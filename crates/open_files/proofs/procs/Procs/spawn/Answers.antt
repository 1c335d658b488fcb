use Rattle.std.specs.Prelude.{Result, Ok, Err}
use Rattle.std.proofs.Common.{◌≡◌, ℕ, ◌<◌, ap, refl, sym, ◌∙◌, length, ◌+◌, inl, inr, arith}
use Rattle.std.proofs.lemmas.Bool.{cases_lt, true≢false}
use Rattle.fs_cred.specs.declared.errno.Errno.{Errno}
use Rattle.fs_cred.specs.declared.errno.Errno.TheVariants.{EAGAIN, ENOMEM}
use Rattle.std.specs.Ordering.{nat_cmp}
use Rattle.fs_layout.specs.Maps.{with_entry}
use Rattle.open_files.proofs.Numbered.{at_key, added, filled_is_table}
use Rattle.open_files.proofs.procs.Procs.spawn.Goals as goal

lacks_memory : (r : Result ℕ Errno) → r ≡ Err ENOMEM → r ≡ Err EAGAIN → ⊥
lacks_memory r is again = cc

answers : (r : Result ℕ Errno) (n : ℕ) → r ≡ Ok n → r ≡ Err EAGAIN → ⊥
answers r n is again = cc

pub returns-then-is_full-clause-full : goal.returns-then-is_full-clause-full
returns-then-is_full-clause-full c = (λ _. c.is_full.ensures.0 c.if-is_full.true, λ _. refl)

pub returns-then-vacant_key-ge-MAX_PROCESSES-clause-full : goal.returns-then-vacant_key-ge-MAX_PROCESSES-clause-full
returns-then-vacant_key-ge-MAX_PROCESSES-clause-full c = (λ e. absurd (lacks_memory _ refl e), λ many. absurd (true≢false (sym (c.is_full.ensures.1 many) ∙ c.if-is_full.false)))

pub returns-in_default-clause-full : goal.returns-in_default-clause-full
returns-in_default-clause-full c = (λ e. absurd (lacks_memory _ refl e), λ many. absurd (true≢false (sym (c.is_full.ensures.1 many) ∙ c.if-is_full.false)))

pub returns-clause-full : goal.returns-clause-full
returns-clause-full c = (λ e. absurd (answers _ _ refl e), λ many. absurd (true≢false (sym (c.is_full.ensures.1 many) ∙ c.if-is_full.false)))

pub invariant_of-self-2 : goal.invariant_of-self-2
invariant_of-self-2 c =
    let few : length c.args.self.now < 64 = elim (cases_lt (length c.args.self.now) 64) [
      | inl less ↦ less
      | inr many ↦ absurd (true≢false (sym (c.is_full.ensures.1 many) ∙ c.if-is_full.false))
    ] in
    filled_is_table c.self.inside.slab.slots c.args.self.now c.self.view_is c.insert.new.self.slots c.in-Ok.key c.new.result c.self.invariant
    (record { here = c.in-Ok.ensures.updates.changed; others = c.in-Ok.ensures.updates.others }) c.in-Ok.ensures.was_vacant
    few c.new.ensures.kept

pub returns-clause-number : goal.returns-clause-number
returns-clause-number c =
    let below = c.if-vacant_key-ge-MAX_PROCESSES.false in
    let given = c.in-Ok.ensures.key in
    let vacant = c.vacant_key.ensures.value in (
      omega arith,
      omega (arith, below, given, vacant),
      at_key c.self.inside.slab.slots c.args.self.now c.self.view_is c.in-Ok.key ∙ c.in-Ok.ensures.was_vacant,
    )

pub returns-clause-added : goal.returns-clause-added
returns-clause-added c =
    added c.self.inside.slab.slots c.args.self.now c.self.view_is c.insert.new.self.slots c.in-Ok.key c.new.result
    (record { here = c.in-Ok.ensures.updates.changed; others = c.in-Ok.ensures.updates.others })
    ∙ ap (with_entry nat_cmp c.args.self.now (c.in-Ok.key + 1)) c.new.ensures.begun
