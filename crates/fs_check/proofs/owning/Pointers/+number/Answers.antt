use Rattle.std.proofs.Common.{◌≡◌, ◌<◌, ◌≤◌, ◌+◌, ◌-◌, ◌/◌, [], get_or, sym, ap, arith, rules, subst, ◌∙◌}
use Rattle.fs_layout.specs.declared.inode.TheConstants.{POINTER_LEVELS, SECTOR_POINTERS}
use Rattle.fs_layout.specs.Images.{holder, number_on, own_count}
use Rattle.fs_layout.proofs.Pointers.{no_level}
use Rattle.fs_check.specs.Checks.{meaning}
use Rattle.fs_check.specs.Owning.{HasAboveInData}
use Rattle.fs_check.proofs.Carrying.{content_back, hand_back, hand_still, opened_still, read_error, same_error}
use Rattle.fs_check.proofs.DataNumbers.{has_above, level_below, none_held}
use Rattle.sector_disk.proofs.Moments.{reads_joined}
use Rattle.fs_check.proofs.owning.Pointers.+number.Goals as goal

pub returns-then-i-own-clause-number : goal.returns-then-i-own-clause-number
returns-then-i-own-clause-number g t c =
    c.number.ensures (meaning (g.D.Disk.state c.args.disk.now)) (λ own. absurd (omega (arith, own, c.if-i-own.true, c.own_count-own.ensures)))

-- there is no level above the highest
pub returns-then-level-eq-POINTER_LEVELS-clause-number : goal.returns-then-level-eq-POINTER_LEVELS-clause-number
returns-then-level-eq-POINTER_LEVELS-clause-number g t c =
    let m = meaning (g.D.Disk.state c.args.disk.now) in
    let v = c.args.inode.now in
    let level = c.args.level in
    let ge : own_count level ≤ c.args.i = omega (arith, c.if-i-own.false, c.own_count-own.ensures) in
    sym (none_held m v level c.args.i ge (no_level m v (level + 1) (holder (own_count level) c.args.i) (omega (arith, c.if-level-eq-POINTER_LEVELS.true))))

pub number-requires-2 : goal.number-requires-2
number-requires-2 g t c =
    let p = c.args.opened.now.geometry in
    let m = meaning (g.D.Disk.state c.args.disk.now) in
    let v = c.args.inode.now in
    let level = c.args.level in
    let smaller : POINTER_LEVELS - (level + 1) < POINTER_LEVELS - level = omega (arith, c.requires.level, c.if-level-eq-POINTER_LEVELS.false) in
    let opened = c.requires.opened in
    let is_level : level + 1 ≤ POINTER_LEVELS = omega (arith, c.requires.level, c.if-level-eq-POINTER_LEVELS.false) in
    let above : HasAboveInData p m v (level + 1) = λ above gt. c.requires.above above (omega (arith, gt)) in
    let at_hand = c.requires.at_hand in
    search rules

pub returns-then-s-eq0-clause-number : goal.returns-then-s-eq0-clause-number
returns-then-s-eq0-clause-number g t c =
    let m = meaning (g.D.Disk.state c.args.disk.now) in
    let v = c.args.inode.now in
    let level = c.args.level in
    let ge : own_count level ≤ c.args.i = omega (arith, c.if-i-own.false, c.own_count-own.ensures) in
    let is = subst (λ k. c.in_ok-s.s ≡ number_on m v (level + 1) ((c.args.i - k) / SECTOR_POINTERS)) c.own_count-own.ensures c.in_ok-s.ensures.number in
    sym (none_held m v level c.args.i ge (sym is ∙ c.if-s-eq0.true))

pub load-requires-clause-opened : goal.load-requires-clause-opened
load-requires-clause-opened g t c = opened_still c.in_ok-s.ensures.passed.reads c.requires.opened

pub load-requires-clause-on_disk : goal.load-requires-clause-on_disk
load-requires-clause-on_disk g t c =
    let m = meaning (g.D.Disk.state c.args.disk.now) in
    let own = c.own_count-own.result in
    let level = c.args.level + 1 in
    let below = level_below _ _ c.args.opened.now.geometry m c.args.inode.now level ((c.args.i - own) / SECTOR_POINTERS) c.in_ok-s.s c.requires.opened.geometry
    (c.requires.above level (omega arith)) c.in_ok-s.ensures.number in
    let size = c.in_ok-s.ensures.passed.reads.narrowed.size in
    omega (arith, below, size)

pub load-requires-clause-at_hand : goal.load-requires-clause-at_hand
load-requires-clause-at_hand g t c = hand_still c.in_ok-s.ensures.passed.reads c.number-2.new.self c.in_ok-s.ensures.at_hand

pub returns-clause-number : goal.returns-clause-number
returns-clause-number g t c =
    let m = meaning (g.D.Disk.state c.args.disk.now) in
    let v = c.args.inode.now in
    let level = c.args.level in
    let s = c.in_ok-s.s in
    let contents = c.load.new.self.contents in
    let same : level + 1 - 1 ≡ level = omega arith in
    let read = ap (λ n. get_or contents n []) (sym same)
    ∙ content_back c.in_ok-s.ensures.passed.reads s (get_or contents (level + 1 - 1) []) c.in_ok-load.ensures.content in
    let is = subst (λ k. c.in_ok-s.s ≡ number_on m v (level + 1) ((c.args.i - k) / SECTOR_POINTERS)) c.own_count-own.ensures c.in_ok-s.ensures.number in
    c.number-3.ensures m (has_above m v level c.args.i s (get_or contents level []) is c.if-s-eq0.false read)

pub returns-clause-at_hand : goal.returns-clause-at_hand
returns-clause-at_hand g t c = hand_back c.in_ok-s.ensures.passed.reads c.load.new.self c.in_ok-load.ensures.at_hand

pub returns-in_err-s-clause-passed : goal.returns-in_err-s-clause-passed
returns-in_err-s-clause-passed g t c = same_error c.from_residual.result c.from_residual.ensures.1 c.in_err-s.ensures.passed

pub returns-in_err-load-clause-passed : goal.returns-in_err-load-clause-passed
returns-in_err-load-clause-passed g t c = read_error c.in_ok-s.ensures.passed.reads c.from_residual-in_err-load.result c.from_residual-in_err-load.ensures.1 c.in_err-load.ensures.passed

pub returns-clause-passed : goal.returns-clause-passed
returns-clause-passed g t c = record { reads = reads_joined c.in_ok-s.ensures.passed.reads c.in_ok-load.ensures.passed.reads; reason = tt }
