use Rattle.std.proofs.Common.{IsTrue, ◌↔◌, List, ℕ, refl, subst}
use Rattle.fs_check.specs.LastBlocks.{FitsLast}
use Rattle.fs_check.proofs.contents.fits_block.Goals as goal

pub returns-then-is_known_to_fit-clause-test : goal.returns-then-is_known_to_fit-clause-test
returns-then-is_known_to_fit-clause-test g c = ((λ t. c.is_known_to_fit.ensures c.if-is_known_to_fit.true), (λ f. refl))

pub returns-in-Some-clause-test : goal.returns-in-Some-clause-test
returns-in-Some-clause-test g c =
    subst (λ (q : List ℕ). IsTrue c.fits_last.result ↔ FitsLast c.args.inode.now q) c.in-Some.ensures c.fits_last.ensures

pub returns-clause-test : goal.returns-clause-test
returns-clause-test g c =
    subst (λ (q : List ℕ). IsTrue c.fits_last-2.result ↔ FitsLast c.args.inode.now q) c.in_ok-read_recovered.ensures.content c.fits_last-2.ensures
