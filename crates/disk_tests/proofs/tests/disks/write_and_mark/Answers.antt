use Rattle.std.proofs.Common.{◌≡◌, ◌≢◌, ◌⊎◌, inl, inr, ⊎_elim, ℕ, ◌<◌, List, [], length, slice_set, ap, sym, ◌∙◌, arith, refl, get_or-set_other}
use Rattle.std.proofs.lemmas.Grind.{get_or-set_at}
use Rattle.sector_disk.specs.Disk.{DiskState, Image, sector, IsImage, IsStable, IsNarrowed, ChangesOnly, AddsOnly, LeavesOnly, Elapses}
use Rattle.sector_disk.proofs.Moments.{started, goes_on, narrowed, adds_nothing, adds_write, adds_narrowed, image_or, stays_or}
use Rattle.disk_tests.proofs.tests.disks.write_and_mark.Goals as goal

-- the mark is as before, or it is there and so is the content
abbrev OldOrMarked : DiskState → ℕ → List ℕ → ℕ → List ℕ → Image → Type 0
OldOrMarked old n content at mark image = (sector image at ≡ sector old.seen at) ⊎ ((sector image at ≡ mark) × (sector image n ≡ content))

-- as long as nothing but sector n was written
unmarked : {old now : DiskState} (n at : ℕ) (content mark : List ℕ) → IsStable old → n ≢ at → at < old.size → AddsOnly (λ k c. k ≡ n) old now
    → (image : Image) → IsImage now image → OldOrMarked old n content at mark image
unmarked n at content mark stable apart fits adds image is =
    ⊎_elim (λ was. inl was) (λ same. absurd (apart (sym same))) (stays_or stable (image_or adds image is) at fits)

-- the mark is written over the content, which is stable
marked : (old : DiskState) {staged new : DiskState} (n at : ℕ) (content mark : List ℕ) → n ≢ at → n < old.size → at < old.size → length old.seen ≡ old.size → staged.size ≡ old.size
    → staged.seen ≡ slice_set old.seen n content → IsStable staged → ChangesOnly staged new at mark
    → (image : Image) → IsImage new image → OldOrMarked old n content at mark image
marked old {staged} {new} n at content mark apart n_fits at_fits whole size seen stable changes image is =
    let holds = λ (k : ℕ) (below : k < old.size). changes.nothing_else k (sector image k) (is.each k (omega (arith, below, changes.size, size))) in
    let at_n : sector image n ≡ content =
    ⊎_elim (λ was. stable n (sector image n) (omega (arith, n_fits, size)) was ∙ ap (λ (i : Image). sector i n) seen
    ∙ get_or-set_at old.seen n n content [] refl (omega (arith, n_fits, whole)))
    (λ other. absurd (apart other.0)) (holds n n_fits) in
    ⊎_elim (λ was. inl (stable at (sector image at) (omega (arith, at_fits, size)) was ∙ ap (λ (i : Image). sector i at) seen
    ∙ get_or-set_other old.seen n at content _ (λ same. apart (sym same))))
    (λ new. inr (new.1, at_n)) (holds at at_fits)

-- what a stop leaves after the first write
written : {old new : DiskState} (n at : ℕ) (content mark : List ℕ) → ((image : Image) → old.left_since old.moment image → IsImage old image) → IsStable old
    → n ≢ at → at < old.size → ChangesOnly old new n content → Elapses old new → LeavesOnly old new (OldOrMarked old n content at mark)
written {old} {new} n at content mark only_now stable apart fits changes time =
    let none : AddsOnly (λ k c. k ≡ n) old old = adds_nothing in
    let adds : AddsOnly (λ k c. k ≡ n) old new = adds_write none changes (λ k c is same. is) in
    let before : LeavesOnly old old (OldOrMarked old n content at mark) = started only_now (unmarked n at content mark stable apart fits none) in
    goes_on before time (unmarked n at content mark stable apart fits adds)

-- and after its sync
synced : {old mid new : DiskState} (n at : ℕ) (content mark : List ℕ) → IsStable old → n ≢ at → at < old.size → ChangesOnly old mid n content
    → LeavesOnly old mid (OldOrMarked old n content at mark) → IsNarrowed mid new → Elapses mid new → LeavesOnly old new (OldOrMarked old n content at mark)
synced {old} {mid} {new} n at content mark stable apart fits changes so_far narrow time =
    let none : AddsOnly (λ k c. k ≡ n) old old = adds_nothing in
    let adds : AddsOnly (λ k c. k ≡ n) old mid = adds_write none changes (λ k c is same. is) in
    let still : AddsOnly (λ k c. k ≡ n) old new = adds_narrowed adds narrow in
    goes_on so_far time (unmarked n at content mark stable apart fits still)

-- what a stop leaves once the mark was written over a content that is stable, and what an image has then
after_mark : (old : DiskState) {mid staged new : DiskState} (n at : ℕ) (content mark : List ℕ) → ((image : Image) → old.left_since old.moment image → IsImage old image)
    → length old.seen ≡ old.size → IsStable old → n ≢ at → n < old.size → at < old.size → ChangesOnly old mid n content → mid.seen ≡ slice_set old.seen n content
    → Elapses old mid → IsNarrowed mid staged → Elapses mid staged → IsStable staged → ChangesOnly staged new at mark → Elapses staged new
    → LeavesOnly old new (OldOrMarked old n content at mark) × ((image : Image) → IsImage new image → OldOrMarked old n content at mark image)
after_mark old n at content mark only_now whole stable apart n_fits at_fits first seen time narrow later still second last =
    let m1 = written n at content mark only_now stable apart at_fits first time in
    let m2 = synced n at content mark stable apart at_fits first m1 narrow later in
    let then = marked old n at content mark apart n_fits at_fits whole (narrow.size ∙ first.size) (narrow.seen ∙ seen) still second in
    (goes_on m2 last then, then)

pub returns-in_err-write-clause-any_moment : goal.returns-in_err-write-clause-any_moment
returns-in_err-write-clause-any_moment g c =
    let only_now = g.met.D.Disk.only_now c.args.disk.now in
    written c.args.n c.args.at c.args.content.now c.args.mark.now only_now c.requires.stable c.requires.apart c.requires.at_fits c.write.ensures.changes c.write.ensures.time

pub returns-in_err-sync-clause-any_moment : goal.returns-in_err-sync-clause-any_moment
returns-in_err-sync-clause-any_moment g c =
    let n = c.args.n in
    let at = c.args.at in
    let content = c.args.content.now in
    let mark = c.args.mark.now in
    let r = c.requires in
    let m1 = written n at content mark (g.met.D.Disk.only_now c.args.disk.now) r.stable r.apart r.at_fits c.write.ensures.changes c.write.ensures.time in
    synced n at content mark r.stable r.apart r.at_fits c.write.ensures.changes m1 c.sync.ensures.changes c.sync.ensures.time

pub returns-in_err-write-2-clause-any_moment : goal.returns-in_err-write-2-clause-any_moment
returns-in_err-write-2-clause-any_moment g c =
    (after_mark (g.D.Disk.state c.args.disk.now) c.args.n c.args.at c.args.content.now c.args.mark.now (g.met.D.Disk.only_now c.args.disk.now)
    (g.met.D.Disk.seen_is_image c.args.disk.now).size c.requires.stable c.requires.apart c.requires.n_fits c.requires.at_fits c.write.ensures.changes c.in_ok-write.ensures.written.seen
    c.write.ensures.time c.sync.ensures.changes c.sync.ensures.time c.in_ok-sync.ensures.stable c.write-2.ensures.changes c.write-2.ensures.time).0

pub returns-clause-any_moment : goal.returns-clause-any_moment
returns-clause-any_moment g c =
    let m3 = after_mark (g.D.Disk.state c.args.disk.now) c.args.n c.args.at c.args.content.now c.args.mark.now (g.met.D.Disk.only_now c.args.disk.now)
    (g.met.D.Disk.seen_is_image c.args.disk.now).size c.requires.stable c.requires.apart c.requires.n_fits c.requires.at_fits c.write.ensures.changes c.in_ok-write.ensures.written.seen
    c.write.ensures.time c.sync.ensures.changes c.sync.ensures.time c.in_ok-sync.ensures.stable c.write-2.ensures.changes c.write-2.ensures.time in
    goes_on m3.0 c.sync-2.ensures.time (λ image is. m3.1 image (narrowed c.sync-2.ensures.changes is))
