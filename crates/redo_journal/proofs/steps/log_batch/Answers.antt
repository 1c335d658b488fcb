use Rattle.std.proofs.Common.{◌≡◌, ◌+◌, ◌*◌, ◌/◌, ◌%◌, ◌≤◌, ◌<◌, ℕ, List, length, arith, ap, sym, ◌∙◌, subst, refl}
use Rattle.std.proofs.lemmas.Result.{on_ok_weaker}
use Rattle.fs_layout.specs.Bytes.{u32_of}
use Rattle.fs_layout.specs.Header.{area_start, max_targets}
use Rattle.sector_disk.specs.Disk.{Image, sector}
use Rattle.sector_disk.proofs.Moments.{adds_narrowed, goes_on, image_or, joined, weaker}
use Rattle.redo_journal.specs.Batch.{Entry}
use Rattle.redo_journal.specs.States.{HoldsHeader, HoldsLog}
use Rattle.redo_journal.proofs.Meaning.{adds_joined, or_joined}
use Rattle.redo_journal.proofs.Causes.{cause_then, told_then}
use Rattle.redo_journal.proofs.steps.log_batch.Goals as goal

-- first the header is written, then the contents behind it
module _ (header area count : ℕ) (old headed logged : Image) (few : count ≤ max_targets header)
    (first : (n : ℕ) → (area_start header area ≤ n → n < area_start header area + header → ⊥) → sector headed n ≡ sector old n)
    (then : (n : ℕ) → (area_start header area + header ≤ n → n < area_start header area + 126 + 129 * header → ⊥) → sector logged n ≡ sector headed n) where
  others_kept : (n : ℕ) → (area_start header area ≤ n → n < area_start header area + 126 + 129 * header → ⊥) → sector logged n ≡ sector old n
  others_kept n out = then n (λ le lt. out (omega (arith, le)) lt) ∙ first n (λ le lt. out le (omega (arith, lt)))

  header_kept : (entries : List Entry) → length entries ≡ count → HoldsHeader (area_start header area) entries headed → HoldsHeader (area_start header area) entries logged
  header_kept entries all in_header k lt =
      ap (λ s. u32_of s (4 * (k % 128))) (then (area_start header area + k / 128) (λ le _. omega (arith, le, lt, all, few))) ∙ in_header k lt

pub returns-clause-header : goal.returns-clause-header
returns-clause-header g c =
    let state = g.D.Disk.state in
    let entries = c.args.batch.now.entries in
    let from = area_start c.args.header c.args.area in
    let in_header : HoldsHeader from entries (state c.write_log.new.disk).seen =
    header_kept c.args.header c.args.area (length entries) (state c.args.disk.now).seen (state c.write_header.new.disk).seen (state c.write_log.new.disk).seen c.requires.few c.write_header.ensures.others c.write_log.ensures.others
    entries refl c.in_ok-write_header.ensures.written in
    on_ok_weaker c.sync.result (λ _. subst (HoldsHeader from entries) (sym c.sync.ensures.changes.seen) in_header) c.sync.ensures.stable

pub returns-clause-log : goal.returns-clause-log
returns-clause-log g c =
    let from = area_start c.args.header c.args.area + c.args.header in
    on_ok_weaker c.sync.result (λ _. subst (HoldsLog from c.args.batch.now.entries) (sym c.sync.ensures.changes.seen) c.in_ok-write_log.ensures.written) c.sync.ensures.stable

pub returns-clause-others : goal.returns-clause-others
returns-clause-others g c = λ n out.
    let state = g.D.Disk.state in
    ap (λ (l : Image). sector l n) c.sync.ensures.changes.seen
    ∙ others_kept c.args.header c.args.area (length c.args.batch.now.entries) (state c.args.disk.now).seen (state c.write_header.new.disk).seen (state c.write_log.new.disk).seen c.requires.few
    c.write_header.ensures.others c.write_log.ensures.others n out

pub returns-clause-adds : goal.returns-clause-adds
returns-clause-adds g c = adds_narrowed (adds_joined c.write_header.ensures.adds c.write_log.ensures.adds) c.sync.ensures.changes

pub returns-clause-any_moment : goal.returns-clause-any_moment
returns-clause-any_moment g c =
    let headed = c.write_header.ensures in
    goes_on (joined headed.any_moment (weaker (or_joined headed.adds) c.write_log.ensures.any_moment)) c.sync.ensures.time (image_or (returns-clause-adds g c))

pub returns-clause-cause : goal.returns-clause-cause
returns-clause-cause g c = cause_then c.write_header.ensures.cause (cause_then c.write_log.ensures.cause c.sync.ensures.cause)

pub returns-clause-told : goal.returns-clause-told
returns-clause-told g c = told_then c.in_ok-write_header.ensures.told (told_then c.in_ok-write_log.ensures.told c.sync.ensures.told)
