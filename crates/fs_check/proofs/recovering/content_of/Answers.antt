use Rattle.std.proofs.Common.{◌≡◌, ◌≢◌, ◌+◌, ◌<◌, ◌^◌, ℕ, List, length, get_or, arith, sym, ap, ◌∙◌, subst}
use Rattle.std.proofs.lemmas.List.{get_or_default}
use Rattle.fs_layout.specs.Bytes.{SectorMap}
use Rattle.fs_layout.specs.Commit.{AreTargets, IsCommit, named_area}
use Rattle.fs_layout.specs.Header.{area_start, header_of}
use Rattle.fs_layout.specs.Recovered.{recovered}
use Rattle.fs_layout.proofs.RecoveryLaw.{recovered-target, recovered-other}
use Rattle.fs_layout.proofs.Targets.{area_room}
use Rattle.fs_check.proofs.recovering.content_of.Goals as goal

in_log : (header area size : ℕ) (image : SectorMap) (ts us : List ℕ) (n k : ℕ) → us ≡ ts → size < 2 ^ 32 → header ≡ header_of (image 0)
    → area ≡ named_area image → IsCommit size image ts → k < length us → get_or us k 0 ≡ n
    → recovered size image n ≡ image (area_start header area + header + k)
in_log header area size image ts us n k same small is named commit lt there =
    ap (recovered size image) (sym there ∙ ap (λ (q : List ℕ). get_or q k 0) same)
    ∙ recovered-target size image ts k small commit (subst (λ q. k < length q) same lt)
    ∙ ap (λ (a : ℕ). image (area_start (header_of (image 0)) a + header_of (image 0) + k)) (sym named)
    ∙ ap (λ (h : ℕ). image (area_start h area + h + k)) (sym is)

in_place : (size : ℕ) (image : SectorMap) (ts us : List ℕ) (n : ℕ) → us ≡ ts → size < 2 ^ 32 → IsCommit size image ts
    → ((k : ℕ) → k < length us → get_or us k 0 ≢ n) → recovered size image n ≡ image n
in_place size image ts us n same small is other =
    recovered-other size image ts n small is (λ c. subst (λ (q : List ℕ). (k : ℕ) → k < length q → get_or q k 0 ≢ n) same other c.0 c.1
    (get_or_default ts c.0 0 n c.1 ∙ c.2))

-- the log lies before the targets, and these on the disk
log_on_disk : (header area size : ℕ) (ts us : List ℕ) (k : ℕ) → us ≡ ts → AreTargets header size ts → k < length us
    → area_start header area + header + k < size
log_on_disk header area size ts us k same valid lt =
    let below = subst (λ (q : List ℕ). k < length q) same lt in
    let range = valid.in_range k 0 below in
    let few = valid.few in
    let room = area_room header area in
    omega (arith, below, few, range.0, range.1, room.1)

pub returns-in-Some-clause-content : goal.returns-in-Some-clause-content
returns-in-Some-clause-content c = λ size image small header named is.
    in_log c.args.header c.args.area size image c.args.commit.now c.targets.result.now c.args.n c.in-Some.k c.targets.ensures.value small header named is
    c.in-Some.ensures.position c.in-Some.ensures.there
    ∙ ap (λ (s : ℕ). image (s + c.args.header + c.in-Some.k)) (sym c.area_start.ensures)

pub returns-in-None-clause-content : goal.returns-in-None-clause-content
returns-in-None-clause-content c = λ size image small header named is.
    in_place size image c.args.commit.now c.targets.result.now c.args.n c.targets.ensures.value small is c.in-None.ensures.none

pub returns-in-Some-clause-on_disk : goal.returns-in-Some-clause-on_disk
returns-in-Some-clause-on_disk c = λ size valid low.
    let within = log_on_disk c.args.header c.args.area size c.args.commit.now c.targets.result.now c.in-Some.k c.targets.ensures.value valid c.in-Some.ensures.position in
    let start = c.area_start.ensures in
    omega (arith, within, start)
