use Rattle.std.proofs.Common.{◌≡◌, ◌+◌, ◌*◌, ◌/◌, ℕ, suc, sym, ap, subst, ◌∙◌, arith}
use Rattle.std.specs.Prelude.{max, min}
use Rattle.fs_layout.specs.declared.inode.TheConstants.{SECTOR_POINTERS}
use Rattle.fs_layout.specs.Bytes.{SectorMap}
use Rattle.fs_layout.specs.Images.{number_on}
use Rattle.fs_layout.proofs.Pointers.{number_past_next}
use Rattle.sector_txn.proofs.TransactionRuns.{store_joined, store_same}
use Rattle.bit_alloc.proofs.Transactions.{bitmaps_unchanged, map_unchanged, spare_unchanged}
use Rattle.bit_alloc.proofs.Soundness.{spare_then}
use Rattle.block_map.specs.Drops.{GivesParts, IsAmong}
use Rattle.block_map.proofs.Numbers.{data_within, has_unchanged, listed_pointers}
use Rattle.block_map.proofs.Givings.{given_keeps, given_unchanged, holes_given, in_data_kept, level_given, next_given, none_listed, own_given}
use Rattle.bit_alloc.proofs.Passing.{fault_on, no_fault}
use Rattle.block_map.proofs.release.give_level.Goals as goal
use Rattle.block_map.proofs.release.give_level.Goals.{then-sector-ne0+in_ok-give_listed-2, else-sector-ne0}

pub read_pointers-requires-clause-within : goal.read_pointers-requires-clause-within
read_pointers-requires-clause-within g c =
    let x = c.loop-j.invariant in
    data_within x.given.tables (in_data_kept c.args.geometry c.requires.inside (given_keeps c.requires.inside x.given))

pub give_listed-requires-then-sector-ne0-clause-bitmaps : goal.give_listed-requires-then-sector-ne0-clause-bitmaps
give_listed-requires-then-sector-ne0-clause-bitmaps g c = bitmaps_unchanged c.args.geometry _ _ c.loop-j.invariant.given.tables c.in_ok-sector.ensures.same

pub give_listed-requires-then-sector-ne0-clause-inside : goal.give_listed-requires-then-sector-ne0-clause-inside
give_listed-requires-then-sector-ne0-clause-inside g c =
    in_data_kept c.args.geometry c.requires.inside (given_keeps c.requires.inside (given_unchanged c.loop-j.invariant.given c.in_ok-sector.ensures.same))

pub give_listed-requires-then-sector-ne0-clause-listed : goal.give_listed-requires-then-sector-ne0-clause-listed
give_listed-requires-then-sector-ne0-clause-listed g c = λ i low high ge.
    listed_pointers c.args.inode.now c.args.level i c.loop-j.j c.own_count-own.result (sym c.own_count-own.ensures) (omega (arith, low, c.max.ensures)) (omega (arith, high))
    (has_unchanged c.in_ok-sector.ensures.same c.in_ok-sector.ensures.content)

pub give_listed-requires-then-sector-ne0-clause-room : goal.give_listed-requires-then-sector-ne0-clause-room
give_listed-requires-then-sector-ne0-clause-room g c =
    spare_unchanged c.args.geometry 0 _ _ (spare_then c.args.geometry 0 0 _ _ (omega (arith, c.requires.room)) c.loop-j.invariant.given.puts) c.in_ok-sector.ensures.same

pub returns-in_err-give_listed-2-clause-store : goal.returns-in_err-give_listed-2-clause-store
returns-in_err-give_listed-2-clause-store g c =
    store_joined (store_joined c.loop-j.invariant.given.puts.store c.in_ok-sector.ensures.same.store) c.in_err-give_listed-2.ensures.store

pub loop-j-init : goal.loop-j-init
loop-j-init g c =
    let p = c.args.geometry in
    let v = c.args.inode.now in
    let first = c.args.first in
    let own = c.own_count-own.result in
    let old = g.S.Sectors.state c.args.s.now in
    let new = g.S.Sectors.state c.give_listed.new.s in
    let listed : GivesParts p v (IsAmong c.args.level (min first own) own) old new =
    subst (λ (m : ℕ). GivesParts p v (IsAmong c.args.level m own) old new) c.min.ensures c.in_ok-give_listed.ensures.given in
    record {
      from = omega arith;
      given = subst (λ (m : ℕ). GivesParts p v (IsAmong c.args.level first (max first (own + SECTOR_POINTERS * (m / SECTOR_POINTERS)))) old new) (sym c.saturating_sub-j.ensures)
          (own_given listed);
    }

pub loop-j-preserved : goal.loop-j-preserved
loop-j-preserved g c =
    let p = c.args.geometry in
    let v = c.args.inode.now in
    let level = c.args.level in
    let first = c.args.first in
    let own = c.own_count-own.result in
    let j = c.loop-j.j in
    let old = g.S.Sectors.state c.args.s.now in
    let now = g.S.Sectors.state c.loop-j.s in
    let mid = g.S.Sectors.state c.read_pointers.new.s in
    let x = c.loop-j.invariant in
    let read = given_unchanged x.given c.in_ok-sector.ensures.same in
    let from = x.from in
    record {
      from = omega (arith, from);
      given = elim c.if-sector-ne0.branch [
        | then-sector-ne0+in_ok-give_listed-2 w ↦
            subst (λ s. GivesParts p v (IsAmong level first (max first (own + SECTOR_POINTERS * (j + 1)))) old (g.S.Sectors.state s)) (sym w.s-is)
            (next_given own j c.requires.inside read from
            (subst (λ (m : ℕ). GivesParts p v (IsAmong level m (own + SECTOR_POINTERS * j + SECTOR_POINTERS)) mid (g.S.Sectors.state w.give_listed-then-sector-ne0.new.s)) w.max.ensures
            w.in_ok-give_listed-2.ensures.given))
        | else-sector-ne0 w ↦
            let next : suc level ≡ level + 1 = omega arith in
            let none : number_on mid.sectors v (suc level) j ≡ 0 =
            ap (λ (image : SectorMap). number_on image v (suc level) j) (sym (map_unchanged c.in_ok-sector.ensures.same))
            ∙ ap (λ (n : ℕ). number_on now.sectors v n j) next ∙ sym c.in_ok-sector.ensures.number ∙ w.if-sector-ne0.false in
            subst (λ s. GivesParts p v (IsAmong level first (max first (own + SECTOR_POINTERS * (j + 1)))) old (g.S.Sectors.state s)) (sym w.s-is)
            (next_given own j c.requires.inside read from
            (holes_given read.tables (λ i ge lt. none_listed mid.sectors v level own j (sym c.own_count-own.ensures) none i (omega (arith, ge)) lt)))
      ];
    }

pub returns-clause-given : goal.returns-clause-given
returns-clause-given g c =
    let old = g.S.Sectors.state c.args.s.now in
    level_given c.loop-j.invariant.given (λ i ge.
    number_past_next old.sectors c.args.inode.now c.args.level c.number_end-j-end.result c.own_count-own.result (sym c.own_count-own.ensures)
    (c.number_end-j-end.ensures.past old.sectors) i (omega (arith, ge, c.loop-j-test.false)))

pub returns-in_err-sector-clause-store : goal.returns-in_err-sector-clause-store
returns-in_err-sector-clause-store g c = store_joined c.loop-j.invariant.given.puts.store c.in_err-sector.ensures.same.store

pub returns-in_err-sector-clause-cause : goal.returns-in_err-sector-clause-cause
returns-in_err-sector-clause-cause g c = fault_on c.loop-j.invariant.given.puts.store c.in_err-sector.ensures.cause c.from_residual-in_err-sector.result c.from_residual-in_err-sector.ensures

pub returns-in_err-give_listed-2-clause-cause : goal.returns-in_err-give_listed-2-clause-cause
returns-in_err-give_listed-2-clause-cause g c =
    fault_on (store_joined c.loop-j.invariant.given.puts.store c.in_ok-sector.ensures.same.store) c.in_err-give_listed-2.ensures.cause c.from_residual-in_err-give_listed-2.result
    c.from_residual-in_err-give_listed-2.ensures

pub returns-clause-store : goal.returns-clause-store
returns-clause-store g c = c.loop-j.invariant.given.puts.store

pub returns-clause-cause : goal.returns-clause-cause
returns-clause-cause g c = no_fault c.loop-j.invariant.given.puts.store

-- ---- where a call fails, and where none does
pub returns-in_err-give_listed-clause-store : goal.returns-in_err-give_listed-clause-store
returns-in_err-give_listed-clause-store g c = c.in_err-give_listed.ensures.store

pub returns-in_err-give_listed-clause-cause : goal.returns-in_err-give_listed-clause-cause
returns-in_err-give_listed-clause-cause g c = fault_on (store_same {txn = g.S.Sectors.state c.args.s.now}) c.in_err-give_listed.ensures.cause c.from_residual.result c.from_residual.ensures
