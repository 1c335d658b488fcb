use Rattle.std.proofs.Common.{ap, ◌∙◌, ◌<◌, ◌≤◌, ◌≡◌, ℕ, List, get_or, length, subst, sym, ◌+◌, arith, Vec, Global}
use Rattle.std.proofs.lemmas.List.{get_or_default, take_at}
use Rattle.fs_layout.specs.declared.inode.Inode.{Inode}
use Rattle.fs_layout.specs.Inode.{free_inode}
use Rattle.fs_check.proofs.Climbing.{all_there, no_way}
use Rattle.fs_check.proofs.Tests.{within, blank, refuses}
use Rattle.fs_check.specs.Ways.{Climbs, AllClimb}
use Rattle.fs_layout.specs.declared.inode.Kind.TheVariants.{Directory}
use Rattle.fs_check.proofs.Endings.{if_ended}
use Rattle.fs_check.proofs.KindTests.{is_directory, no_directory}
use Rattle.fs_check.proofs.Tables.{more_good}
use Rattle.fs_check.proofs.ways.unreached.Goals.{else-eq-via-then-eq+else-not-goes_up, else-eq-via-else-eq}
use Rattle.fs_check.proofs.ways.unreached.Goals as goal

pub returns-then-not-goes_up : goal.returns-then-not-goes_up
returns-then-not-goes_up c = λ m table before.
    let inodes = c.args.inodes.now in
    let d = c.loop-dir_ino.dir_ino in
    let lt = c.loop-dir_ino-test.true in
    no_way c.args.geometry m inodes table before d c.loop-dir_ino.invariant.so_far (within c.args.geometry m inodes d table lt)
    (ap (λ (v : Inode). v.kind) (get_or_default inodes d free_inode blank lt) ∙ is_directory (get_or inodes d blank).kind c.if-eq.ensures)
    (refuses (Climbs inodes d) c.goes_up.result c.if-not-goes_up.true c.goes_up.ensures.reaches)

pub returns : goal.returns
returns c = λ m table before. all_there c.args.geometry m c.args.inodes.now table before c.loop-dir_ino.dir_ino c.loop-dir_ino.invariant.so_far c.loop-dir_ino-test.false

pub goes_up-requires-clause-len : goal.goes_up-requires-clause-len
goes_up-requires-clause-len c = ap length c.deref_mut.ensures.value ∙ c.loop-dir_ino.invariant.len

pub goes_up-requires-clause-earlier : goal.goes_up-requires-clause-earlier
goes_up-requires-clause-earlier c =
    subst (λ (l : List ℕ). (n : ℕ) → get_or l n 0 < c.loop-dir_ino.dir_ino) (sym c.deref_mut.ensures.value)
    c.loop-dir_ino.invariant.earlier

pub goes_up-requires-clause-climb : goal.goes_up-requires-clause-climb
goes_up-requires-clause-climb c =
    subst (AllClimb c.args.inodes.now) (sym c.deref_mut.ensures.value) c.loop-dir_ino.invariant.climb

pub returns-in_err-marks : goal.returns-in_err-marks
returns-in_err-marks c = if_ended _ _ c.from_residual.result c.from_residual.ensures.1

-- one directory more
one_more : (inodes : List Inode) (d : ℕ)
    → ((k : ℕ) → 1 ≤ k → k < d → (get_or inodes k free_inode).kind ≡ Directory → Climbs inodes k)
    → ((get_or inodes d free_inode).kind ≡ Directory → Climbs inodes d)
    → (k : ℕ) → 1 ≤ k → k < d + 1 → (get_or inodes k free_inode).kind ≡ Directory → Climbs inodes k
one_more inodes d so_far here k some lt =
    more_good (λ j. 1 ≤ j → (get_or inodes j free_inode).kind ≡ Directory → Climbs inodes j) d
    (λ j low more. so_far j more low) (λ more. here) k lt some

below_more : (marks : List ℕ) (d : ℕ) → ((n : ℕ) → get_or marks n 0 < d) → (n : ℕ) → get_or marks n 0 < d + 1
below_more marks d below n = let low = below n in omega (arith, low)

pub loop-dir_ino-preserved : goal.loop-dir_ino-preserved
loop-dir_ino-preserved c =
    let inodes = c.args.inodes.now in
    let d = c.loop-dir_ino.dir_ino in
    let so_far = c.loop-dir_ino.invariant in
    elim c.else-eq.branch [
      | else-eq-via-then-eq+else-not-goes_up w ↦
          let up = w.goes_up.ensures in
          let held = ap length w.deref_mut.ensures.value ∙ so_far.len in
          let same : w.goes_up.new.marks ≡ c.else-eq.marks.items =
          sym (ap (λ (v : Vec ℕ Global). v.items) w.marks-is
          ∙ take_at w.goes_up.new.marks _ c.loop-dir_ino.marks.len (up.len ∙ sym held ∙ w.deref_mut.ensures.len)) in
          record {
            len = sym (ap length same) ∙ up.len;
            earlier = subst (λ (l : List ℕ). (n : ℕ) → get_or l n 0 < d + 1) same up.earlier;
            climb = subst (AllClimb inodes) same (up.climb w.if-not-goes_up.false);
            so_far = one_more inodes d so_far.so_far (λ is. up.reaches.0 w.if-not-goes_up.false);
          }
      | else-eq-via-else-eq w ↦
          let same : c.loop-dir_ino.marks.items ≡ c.else-eq.marks.items =
          sym (ap (λ (v : Vec ℕ Global). v.items) w.marks-is) in
          let here = ap (λ (v : Inode). v.kind) (get_or_default inodes d blank free_inode c.loop-dir_ino-test.true) in
          let other = no_directory (get_or inodes d blank).kind w.if-eq.ensures in
          record {
            len = sym (ap length same) ∙ so_far.len;
            earlier = subst (λ (l : List ℕ). (n : ℕ) → get_or l n 0 < d + 1) same
                (below_more c.loop-dir_ino.marks.items d so_far.earlier);
            climb = subst (AllClimb inodes) same so_far.climb;
            so_far = one_more inodes d so_far.so_far (λ is. absurd (other (here ∙ is)));
          }
    ]
