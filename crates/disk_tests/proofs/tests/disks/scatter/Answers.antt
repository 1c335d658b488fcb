use Rattle.std.proofs.Common.{◌≡◌, ℕ, ◌<◌, List, [], ◌∙◌, sym, ap, subst, arith, get_or, slice_set, length}
use Rattle.std.specs.Prelude.{Contains}
use Rattle.std.proofs.lemmas.List.Sums.{fold_more}
use Rattle.std.proofs.lemmas.Grind.{common_steps}
use Rattle.sector_disk.specs.Disk.{Image}
use Rattle.sector_disk.proofs.Moments.{goes_on, adds_write, image_or}
use Rattle.disk_tests.proofs.tests.disks.scatter.Goals as goal

abbrev Content : Type 0
Content = ℕ × List ℕ

-- what is written is among the contents
among : (contents : List Content) (i n : ℕ) (content : List ℕ) (d : Content) → i < length contents
    → n ≡ (get_or contents i d).0 → content ≡ (get_or contents i d).1 → Contains contents (n, content)
among contents i n content d below is_n is_content =
    let same : (n, content) ≡ get_or contents i d = λ j. (is_n j, is_content j) in
    subst (Contains contents) (sym same) (i, below, grind (arith, common_steps))

pub returns-in_err-write-clause-adds : goal.returns-in_err-write-clause-adds
returns-in_err-write-clause-adds g c =
    adds_write c.loop-content.invariant.adds c.write.ensures.changes
    (λ n content is_n is_content. among c.args.contents.now c.loop-content.content-index n content (0, []) c.loop-content-test.true is_n is_content)

pub returns-in_err-write-clause-any_moment : goal.returns-in_err-write-clause-any_moment
returns-in_err-write-clause-any_moment g c = goes_on c.loop-content.invariant.any_moment c.write.ensures.time (image_or (returns-in_err-write-clause-adds g c))

pub loop-content-preserved : goal.loop-content-preserved
loop-content-preserved g c =
    let so_far = c.loop-content.invariant in
    let contents = c.args.contents.now in
    let i = c.loop-content.content-index in
    let adds = adds_write so_far.adds c.write.ensures.changes (λ n content is_n is_content. among contents i n content (0, []) c.loop-content-test.true is_n is_content) in
    record {
      seen = c.in_ok-write.ensures.written.seen ∙ ap (λ (image : Image). slice_set image (get_or contents i (0, [])).0 (get_or contents i (0, [])).1) so_far.seen
          ∙ sym (fold_more (λ (image : Image) (content : Content). slice_set image content.0 content.1) _ _ _ (0, []) c.loop-content-test.true);
      adds = adds;
      any_moment = goes_on so_far.any_moment c.write.ensures.time (image_or adds);
      failures = omega (arith, so_far.failures, c.write.ensures.cause.later);
    }
