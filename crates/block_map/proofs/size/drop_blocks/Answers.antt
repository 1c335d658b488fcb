use Rattle.std.proofs.Common.{◌≡◌, ◌+◌, ℕ, suc, refl, sym, ap, subst, ◌∙◌, arith}
use Rattle.fs_layout.specs.declared.inode.TheConstants.{POINTER_LEVELS}
use Rattle.fs_layout.specs.declared.inode.Inode.{Inode}
use Rattle.fs_layout.specs.Images.{own_count, place_in_holder}
use Rattle.sector_txn.proofs.TransactionRuns.{store_joined}
use Rattle.block_map.specs.Drops.{CutsLevel, DropsBlocks, ClearsNumbers, cut_by, first_above, first_on}
use Rattle.block_map.proofs.Dropping.{AreCut, none_cut, more_cut, cut_within, drops, given_same, room_for_cut}
use Rattle.block_map.proofs.Rooms.{spare_none}
use Rattle.bit_alloc.proofs.Passing.{fault_on, no_fault}
use Rattle.block_map.proofs.Wrote.{may_within}
use Rattle.block_map.proofs.size.drop_blocks.Goals as goal

pub returns-clause-dropped : goal.returns-clause-dropped
returns-clause-dropped g c =
    let p = c.args.geometry in
    let first = c.args.first in
    let v = c.args.inode.now in
    let w = c.clear_inode.new.inode in
    let old = g.S.Sectors.state c.args.s.now in
    let given = g.S.Sectors.state c.give_from.new.s in
    let new = g.S.Sectors.state c.loop-level.s in
    let most = c.loop-level.invariant.most in
    let all : c.loop-level.level ≡ POINTER_LEVELS = omega (arith, c.loop-level-test.false, most) in
    let cuts = subst (λ (n : ℕ). AreCut p n first old.sectors given new v) all c.loop-level.invariant.cuts in
    let cleared : ClearsNumbers first v w = c.clear_inode.ensures in
    let numbers : ClearsNumbers first v (record v { direct = w.direct; indirect = w.indirect }) = subst (λ (u : Inode). ClearsNumbers first v u) cleared.others cleared in
    subst (λ (u : Inode). DropsBlocks p first old new v u) (sym cleared.others) (drops c.requires.may c.in_ok-give_from.ensures.given cuts numbers)

pub give_from-requires-clause-room : goal.give_from-requires-clause-room
give_from-requires-clause-room g c = spare_none c.args.geometry (g.S.Sectors.state c.args.s.now) (cut_by c.args.first) c.requires.room

pub loop-level-init : goal.loop-level-init
loop-level-init g c = record {
  from = refl;
  most = omega arith;
  cuts = none_cut c.args.geometry c.args.first (g.S.Sectors.state c.args.s.now).sectors (g.S.Sectors.state c.give_from.new.s) c.args.inode.now;
}

pub cut_level-requires-clause-within : goal.cut_level-requires-clause-within
cut_level-requires-clause-within g c =
    cut_within (g.S.Sectors.state c.args.s.now) c.requires.may.apart (given_same c.requires.may c.in_ok-give_from.ensures.given) c.loop-level.invariant.cuts (may_within c.requires.may) c.in_ok-give_from.ensures.store

pub cut_level-requires-clause-room : goal.cut_level-requires-clause-room
cut_level-requires-clause-room g c = λ left.
    let x = c.loop-level.invariant in
    room_for_cut c.requires.room c.in_ok-give_from.ensures.given x.cuts c.loop-level-test.true (λ e. left (ap (place_in_holder (own_count c.loop-level.level)) x.from ∙ e))

pub loop-level-preserved : goal.loop-level-preserved
loop-level-preserved g c =
    let x = c.loop-level.invariant in
    let level = c.loop-level.level in
    let next : suc level ≡ level + 1 = omega arith in
    record {
      from = c.next_first-from.ensures ∙ ap (first_above level) x.from ∙ ap (λ (n : ℕ). first_on n c.args.first) next;
      most = omega (arith, c.loop-level-test.true);
      cuts = more_cut (g.S.Sectors.state c.args.s.now) c.requires.may.apart (given_same c.requires.may c.in_ok-give_from.ensures.given) x.cuts
          (subst (λ (m : ℕ). CutsLevel level m (g.S.Sectors.state c.loop-level.s) (g.S.Sectors.state c.cut_level.new.s) c.args.inode.now) x.from c.in_ok-cut_level.ensures.cut);
    }

pub returns-in_err-cut_level-clause-store : goal.returns-in_err-cut_level-clause-store
returns-in_err-cut_level-clause-store g c =
    store_joined (store_joined c.in_ok-give_from.ensures.store c.loop-level.invariant.cuts.puts.store) c.in_err-cut_level.ensures.store

pub returns-in_err-cut_level-clause-cause : goal.returns-in_err-cut_level-clause-cause
returns-in_err-cut_level-clause-cause g c =
    fault_on (store_joined c.in_ok-give_from.ensures.store c.loop-level.invariant.cuts.puts.store) c.in_err-cut_level.ensures.cause
    c.from_residual-in_err-cut_level.result c.from_residual-in_err-cut_level.ensures

pub clear_inode-requires-clause-direct : goal.clear_inode-requires-clause-direct
clear_inode-requires-clause-direct g c = c.requires.may.fits.direct_len

pub clear_inode-requires-clause-indirect : goal.clear_inode-requires-clause-indirect
clear_inode-requires-clause-indirect g c = c.requires.may.fits.indirect_len

pub returns-clause-store : goal.returns-clause-store
returns-clause-store g c = store_joined c.in_ok-give_from.ensures.store c.loop-level.invariant.cuts.puts.store

pub returns-clause-cause : goal.returns-clause-cause
returns-clause-cause g c = no_fault (store_joined c.in_ok-give_from.ensures.store c.loop-level.invariant.cuts.puts.store)
