use Rattle.std.proofs.Common.{◌≡◌, ◌+◌, ℕ, suc, ap, subst, ◌∙◌, arith}
use Rattle.fs_layout.specs.declared.inode.TheConstants.{POINTER_LEVELS}
use Rattle.block_map.specs.Drops.{GivesParts, IsFrom, first_above, first_on}
use Rattle.block_map.proofs.Givings.{IsForBelow, all_given, given_keeps, in_data, in_data_kept, more_given}
use Rattle.bit_alloc.proofs.Passing.{fault_on, no_fault}
use Rattle.sector_txn.proofs.TransactionRuns.{store_joined}
use Rattle.block_map.proofs.release.give_from.Goals as goal

pub give_level-requires-clause-inside : goal.give_level-requires-clause-inside
give_level-requires-clause-inside g c =
    let inside = in_data c.requires.may in
    in_data_kept c.args.geometry inside (given_keeps inside c.loop-level.invariant.given)

pub loop-level-preserved : goal.loop-level-preserved
loop-level-preserved g c =
    let x = c.loop-level.invariant in
    let level = c.loop-level.level in
    let next : suc level ≡ level + 1 = omega arith in
    let few = x.few in
    record {
      from = c.next_first-from.ensures ∙ ap (first_above level) x.from ∙ ap (λ (n : ℕ). first_on n c.args.first) next;
      most = omega (arith, c.loop-level-test.true);
      few = omega (arith, few, c.next_first-from.ensures);
      given = more_given (in_data c.requires.may) x.given
          (subst (λ (m : ℕ). GivesParts c.args.geometry c.args.inode.now (IsFrom level m) (g.S.Sectors.state c.loop-level.s) (g.S.Sectors.state c.give_level.new.s)) x.from
          c.in_ok-give_level.ensures.given);
    }

pub returns-clause-given : goal.returns-clause-given
returns-clause-given g c =
    let most = c.loop-level.invariant.most in
    let all : c.loop-level.level ≡ POINTER_LEVELS + 1 = omega (arith, c.loop-level-test.false, most) in
    all_given (subst (λ (n : ℕ). GivesParts c.args.geometry c.args.inode.now (IsForBelow n c.args.first) (g.S.Sectors.state c.args.s.now) (g.S.Sectors.state c.loop-level.s)) all
    c.loop-level.invariant.given)

pub returns-in_err-give_level-clause-store : goal.returns-in_err-give_level-clause-store
returns-in_err-give_level-clause-store g c = store_joined c.loop-level.invariant.given.puts.store c.in_err-give_level.ensures.store

pub returns-in_err-give_level-clause-cause : goal.returns-in_err-give_level-clause-cause
returns-in_err-give_level-clause-cause g c = fault_on c.loop-level.invariant.given.puts.store c.in_err-give_level.ensures.cause c.from_residual.result c.from_residual.ensures

pub returns-clause-store : goal.returns-clause-store
returns-clause-store g c = c.loop-level.invariant.given.puts.store

pub returns-clause-cause : goal.returns-clause-cause
returns-clause-cause g c = no_fault c.loop-level.invariant.given.puts.store
