use Rattle.std.proofs.Common.{IsTrue, ◌↔◌, false, arith, refl, subst, inl, inr}
use Rattle.std.proofs.lemmas.Bool.{cases_lt}
use Rattle.fs_layout.specs.Bytes.{SectorMap}
use Rattle.fs_layout.specs.Images.{IsTrimmed}
use Rattle.sector_disk.proofs.Moments.{reads_joined, reads_nothing}
use Rattle.fs_check.specs.Checks.{meaning}
use Rattle.fs_check.specs.LastBlocks.{IsCut}
use Rattle.fs_check.proofs.Carrying.{meaning_same, hand_back, hand_still, opened_still, owns_still, read_error}
use Rattle.fs_check.proofs.DataNumbers.{top_few}
use Rattle.fs_check.proofs.FitNumbers.{cut_ends, not_cut}
use Rattle.fs_check.proofs.Tables.{more_good}
use Rattle.fs_check.proofs.contents.is_trimmed.Goals as goal

pub is_cut-requires-clause-opened : goal.is_cut-requires-clause-opened
is_cut-requires-clause-opened g c = opened_still c.loop-level.invariant.reads c.requires.opened

pub is_cut-requires-clause-in_data : goal.is_cut-requires-clause-in_data
is_cut-requires-clause-in_data g c = owns_still c.loop-level.invariant.reads c.args.opened.now.geometry c.args.inode.now c.requires.in_data

pub is_cut-requires-clause-at_hand : goal.is_cut-requires-clause-at_hand
is_cut-requires-clause-at_hand g c = hand_still c.loop-level.invariant.reads c.loop-level.pointers c.loop-level.invariant.at_hand

pub returns-then-not-branch-clause-test : goal.returns-then-not-branch-clause-test
returns-then-not-branch-clause-test g c =
    let v = c.args.inode.now in
    subst (λ (m : SectorMap). IsTrue false ↔ IsTrimmed m v) (meaning_same c.loop-level.invariant.reads)
    (not_cut (meaning (g.D.Disk.state c.loop-level.disk)) v c.loop-level.level c.in_ok-is_cut.field-0 c.in_ok-is_cut.ensures.test c.if-not-branch.true)

pub loop-level-preserved : goal.loop-level-preserved
loop-level-preserved g c =
    let so_far = c.loop-level.invariant in
    let v = c.args.inode.now in
    let level = c.loop-level.level in
    record {
      reads = reads_joined so_far.reads c.in_ok-is_cut.ensures.passed.reads;
      at_hand = hand_back so_far.reads c.is_cut.new.pointers c.in_ok-is_cut.ensures.at_hand;
      cut = more_good (λ n. IsCut (meaning (g.D.Disk.state c.args.disk.now)) v n) level so_far.cut
          (subst (λ (m : SectorMap). IsCut m v level) (meaning_same so_far.reads) (c.in_ok-is_cut.ensures.test.0 c.if-not-branch.false));
    }

pub is_cut-requires-clause-level : goal.is_cut-requires-clause-level
is_cut-requires-clause-level g c =
    let few = top_few c.top_level-level-end.result c.top_level-level-end.ensures.either in
    let lt = c.loop-level-test.true in
    omega (arith, few, lt)

pub returns-clause-test : goal.returns-clause-test
returns-clause-test g c = (
  (λ t.
      let m = meaning (g.D.Disk.state c.args.disk.now) in
      cut_ends m c.args.inode.now
      (λ n le. elim (cases_lt c.top_level-level-end.result n) [
        | inl gt ↦ λ i from to. c.top_level-level-end.ensures.none n gt le m i
        | inr low ↦ c.loop-level.invariant.cut n (let past = c.loop-level-test.false in omega (arith, low, past))
      ])),
  (λ trim. refl),
)

pub returns-in_err-is_cut-clause-passed : goal.returns-in_err-is_cut-clause-passed
returns-in_err-is_cut-clause-passed g c = read_error c.loop-level.invariant.reads c.from_residual.result c.from_residual.ensures.1 c.in_err-is_cut.ensures.passed

pub returns-then-not-branch-clause-passed : goal.returns-then-not-branch-clause-passed
returns-then-not-branch-clause-passed g c = record { reads = reads_joined c.loop-level.invariant.reads c.in_ok-is_cut.ensures.passed.reads; reason = tt }

pub returns-clause-passed : goal.returns-clause-passed
returns-clause-passed g c = record { reads = c.loop-level.invariant.reads; reason = tt }

pub loop-level-init : goal.loop-level-init
loop-level-init g c = record { reads = reads_nothing; at_hand = c.requires.at_hand; cut = λ n lt. absurd (omega (arith, lt)) }

pub returns-then-not-branch-clause-at_hand : goal.returns-then-not-branch-clause-at_hand
returns-then-not-branch-clause-at_hand g c = hand_back c.loop-level.invariant.reads c.is_cut.new.pointers c.in_ok-is_cut.ensures.at_hand
