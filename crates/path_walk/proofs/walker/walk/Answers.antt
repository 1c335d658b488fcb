use Rattle.std.specs.Prelude.{◌≡◌, ◌∷◌, true, false, Result}
use Rattle.std.proofs.Common.{ℕ, List, Ok, Bool, sym, ap, subst, ◌∙◌, inl, inr}
use Rattle.fs_cred.specs.Credentials.{Credential}
use Rattle.fs_cred.specs.declared.refusal.Refusal.{Refusal}
use Rattle.fs_layout.specs.declared.geometry.Geometry.{Geometry}
use Rattle.fs_layout.specs.Bytes.{SectorMap}
use Rattle.fs_model.specs.declared.walk.Form.{Form}
use Rattle.fs_model.specs.declared.walk.Found.{Found}
use Rattle.fs_model.specs.Parts.{parts_of}
use Rattle.fs_model.specs.Stands.{room_of}
use Rattle.fs_model.specs.Trails.{follows_last}
use Rattle.fs_model.specs.Trees.{Tree}
use Rattle.block_map.proofs.Runs.{unchanged_joined}
use Rattle.path_walk.specs.declared.walker.Walker.{Walker}
use Rattle.path_walk.specs.HeldTrees.{HoldsTree, IsThere}
use Rattle.path_walk.specs.Stages.{StandsAt, HasTaken, IsNextOf, IsStep, arrival_of, names_ahead, stage_of}
use Rattle.path_walk.specs.SoundInodes.{HasSoundInodes}
use Rattle.path_walk.specs.Walked.{walk_of}
use Rattle.path_walk.proofs.HeldNodes.{starts_there}
use Rattle.path_walk.proofs.Kept.{kept, kept_back, sound_kept, interrupts_later, answered_err, interrupt_caused, caused_later, cause_then}
use Rattle.path_walk.proofs.Staging.{start_stage, taken_stage, end_stage}
use Rattle.path_walk.proofs.Walking.{start_room, room_after, goes_less, steps_fit, at_taken, dir_taken, here_taken, end_caused}
use Rattle.path_walk.proofs.walker.walk.Goals as goal

-- ---- the start
pub start-requires-clause-sound : goal.start-requires-clause-sound
start-requires-clause-sound g c = c.requires.sound

pub start-requires-clause-below : goal.start-requires-clause-below
start-requires-clause-below g c = c.requires.start

pub returns-in_err-walker-clause-each : goal.returns-in_err-walker-clause-each
returns-in_err-walker-clause-each g c = λ t h there.
    let old = g.S.Sectors.state c.args.s.now in
    let new = g.S.Sectors.state c.start.new.s in
    let r = c.from_residual.ensures in
    answered_err old.disk new.disk (walk_of (room_of c.args.geometry) t c.args.cred.now c.args.number c.args.form c.args.cwd c.args.path.now)
    c.from_residual.result c.in_err-walker.field-0.0 r.0 r.1 (inr c.in_err-walker.ensures.err)

pub returns-in_err-walker-clause-same : goal.returns-in_err-walker-clause-same
returns-in_err-walker-clause-same g c = c.in_err-walker.ensures.same

pub returns-in_err-walker-clause-cause : goal.returns-in_err-walker-clause-cause
returns-in_err-walker-clause-cause g c =
    let r = c.from_residual.ensures in
    cause_then c.from_residual.result c.in_err-walker.field-0.0 c.in_err-walker.ensures.same r.0 r.1
    (interrupt_caused (g.S.Sectors.state c.args.s.now).disk (g.S.Sectors.state c.start.new.s).disk c.in_err-walker.field-0.0 c.in_err-walker.ensures.err)

pub loop-walker-init : goal.loop-walker-init
loop-walker-init g c =
    let w = c.in_ok-walker.walker in
    let start = c.in_ok-walker.ensures.ok in
    let follow = c.follows_last-follow.ensures ∙ ap (λ (l : List ℕ). follows_last c.args.form (parts_of l)) c.bytes.ensures.all in
    record {
      same = c.in_ok-walker.ensures.same;
      at = c.in_ok-walker.ensures.at;
      room = start_room c.args.cwd c.args.path.now c.args.number w start c.requires.short;
      each = λ t h there. (
        start_stage (room_of c.args.geometry) t c.args.cred.now c.args.form c.args.number c.args.cwd c.args.path.now c.follows_last-follow.result w start follow,
        subst (IsThere t) (sym start.here) (starts_there h c.args.path.now c.args.cwd there),
      );
    }

-- ---- a component is taken
has_taken : {b : Bool} (w mid : Walker) → b ≡ true → IsNextOf w mid b → HasTaken w mid
has_taken w mid more next = subst (IsNextOf w mid) more next

-- the walk goes on with it, from where something is
goes_on : {b : Bool} {answer : Result Found Refusal} (p : Geometry) (t : Tree) (cred : Credential) (form : Form) (follow : Bool) (w mid : Walker)
    → (answer ≡ stage_of (room_of p) t cred form follow w (names_ahead w)) × IsThere t w.here → b ≡ true → IsNextOf w mid b
    → (answer ≡ stage_of (room_of p) t cred form follow mid (mid.name.items ∷ names_ahead mid)) × IsThere t mid.here
goes_on p t cred form follow w mid e more next =
    let taken = has_taken w mid more next in
    (e.0 ∙ taken_stage (room_of p) t cred form follow w mid taken, here_taken w mid t taken e.1)

pub next-requires : goal.next-requires
next-requires g c = c.loop-walker.invariant.room.at

pub returns-in_err-next-clause-each : goal.returns-in_err-next-clause-each
returns-in_err-next-clause-each g c = λ t h there.
    let old = g.S.Sectors.state c.args.s.now in
    let new = g.S.Sectors.state c.loop-walker.s in
    let r = c.from_residual-in_err-next.ensures in
    answered_err old.disk new.disk (walk_of (room_of c.args.geometry) t c.args.cred.now c.args.number c.args.form c.args.cwd c.args.path.now)
    c.from_residual-in_err-next.result c.in_err-next.field-0.0 r.0 r.1 (inr (inl c.in_err-next.ensures))

pub returns-in_err-next-clause-same : goal.returns-in_err-next-clause-same
returns-in_err-next-clause-same g c = c.loop-walker.invariant.same

pub returns-in_err-next-clause-cause : goal.returns-in_err-next-clause-cause
returns-in_err-next-clause-cause g c =
    let r = c.from_residual-in_err-next.ensures in
    cause_then c.from_residual-in_err-next.result c.in_err-next.field-0.0 c.loop-walker.invariant.same r.0 r.1
    (interrupt_caused (g.S.Sectors.state c.args.s.now).disk (g.S.Sectors.state c.loop-walker.s).disk c.in_err-next.field-0.0 (inl c.in_err-next.ensures))

pub step-requires-clause-sound : goal.step-requires-clause-sound
step-requires-clause-sound g c = sound_kept c.loop-walker.invariant.same c.requires.sound

pub step-requires-clause-at : goal.step-requires-clause-at
step-requires-clause-at g c =
    let old = g.S.Sectors.state c.args.s.now in
    let inv = c.loop-walker.invariant in
    let mid = c.next.new.self in
    kept (λ m. StandsAt c.args.geometry m mid) inv.same
    (at_taken c.args.geometry old.sectors c.loop-walker.walker mid (has_taken c.loop-walker.walker mid c.if-branch.true c.in_ok-next.ensures) inv.at)

pub step-requires-clause-inside : goal.step-requires-clause-inside
step-requires-clause-inside g c = (has_taken c.loop-walker.walker c.next.new.self c.if-branch.true c.in_ok-next.ensures).inside

pub step-requires-clause-taken : goal.step-requires-clause-taken
step-requires-clause-taken g c =
    dir_taken c.loop-walker.walker c.next.new.self (has_taken c.loop-walker.walker c.next.new.self c.if-branch.true c.in_ok-next.ensures)

pub step-requires-clause-steps : goal.step-requires-clause-steps
step-requires-clause-steps g c =
    steps_fit c.loop-walker.walker c.next.new.self c.loop-walker.invariant.room
    (has_taken c.loop-walker.walker c.next.new.self c.if-branch.true c.in_ok-next.ensures)

pub step-requires-clause-inodes : goal.step-requires-clause-inodes
step-requires-clause-inodes g c = kept (HasSoundInodes c.args.geometry) c.loop-walker.invariant.same c.requires.inodes

pub returns-in_err-step-clause-each : goal.returns-in_err-step-clause-each
returns-in_err-step-clause-each g c = λ t h there.
    let old = g.S.Sectors.state c.args.s.now in
    let held = kept (λ m. HoldsTree c.args.geometry m t) c.loop-walker.invariant.same h in
    let on = goes_on c.args.geometry t c.args.cred.now c.args.form c.follows_last-follow.result c.loop-walker.walker c.next.new.self
    (c.loop-walker.invariant.each t h there) c.if-branch.true c.in_ok-next.ensures in
    let new = g.S.Sectors.state c.step.new.s in
    let r = c.from_residual-in_err-step.ensures in
    answered_err old.disk new.disk (walk_of (room_of c.args.geometry) t c.args.cred.now c.args.number c.args.form c.args.cwd c.args.path.now)
    c.from_residual-in_err-step.result c.in_err-step.field-0.0 r.0 r.1
    (elim (c.in_err-step.ensures.each t held on.1 c.args.form) [
      | inl s ↦ inl (on.0 ∙ s)
      | inr way ↦ inr (interrupts_later new.disk c.loop-walker.invariant.same way)
    ])

pub returns-in_err-step-clause-same : goal.returns-in_err-step-clause-same
returns-in_err-step-clause-same g c = unchanged_joined c.loop-walker.invariant.same c.in_err-step.ensures.same

pub returns-in_err-step-clause-cause : goal.returns-in_err-step-clause-cause
returns-in_err-step-clause-cause g c =
    let r = c.from_residual-in_err-step.ensures in
    cause_then c.from_residual-in_err-step.result c.in_err-step.field-0.0 (unchanged_joined c.loop-walker.invariant.same c.in_err-step.ensures.same) r.0 r.1
    (caused_later (g.S.Sectors.state c.step.new.s).disk c.loop-walker.invariant.same c.in_err-step.ensures.cause)

pub returns-then-not-branch-clause-each : goal.returns-then-not-branch-clause-each
returns-then-not-branch-clause-each g c = λ t h there.
    let held = kept (λ m. HoldsTree c.args.geometry m t) c.loop-walker.invariant.same h in
    let on = goes_on c.args.geometry t c.args.cred.now c.args.form c.follows_last-follow.result c.loop-walker.walker c.next.new.self
    (c.loop-walker.invariant.each t h there) c.if-branch.true c.in_ok-next.ensures in
    let cur = g.S.Sectors.state c.loop-walker.s in
    let new = g.S.Sectors.state c.step.new.s in
    let mid = c.next.new.self in
    let s =
    subst (λ (b : Bool). IsStep cur.disk new.disk (room_of c.args.geometry) t c.args.cred.now c.args.form c.follows_last-follow.result mid c.step.new.self (Ok b))
    c.if-not-branch.true (c.in_ok-step.ensures.each t held on.1 c.args.form) in
    on.0 ∙ s ∙ ap (λ (f : Found). Ok f) (sym c.found.ensures)

pub returns-then-not-branch-clause-same : goal.returns-then-not-branch-clause-same
returns-then-not-branch-clause-same g c = unchanged_joined c.loop-walker.invariant.same c.in_ok-step.ensures.same

pub returns-then-not-branch-clause-cause : goal.returns-then-not-branch-clause-cause
returns-then-not-branch-clause-cause g c = record {
  later = (unchanged_joined c.loop-walker.invariant.same c.in_ok-step.ensures.same).store.reads.failures;
  failed = tt;
}

pub loop-walker-smaller : goal.loop-walker-smaller
loop-walker-smaller g c =
    goes_less c.loop-walker.walker c.next.new.self c.step.new.self c.loop-walker.invariant.room
    (has_taken c.loop-walker.walker c.next.new.self c.if-branch.true c.in_ok-next.ensures) c.in_ok-step.ensures.way

pub loop-walker-preserved : goal.loop-walker-preserved
loop-walker-preserved g c =
    let inv = c.loop-walker.invariant in
    let w = c.loop-walker.walker in
    let mid = c.next.new.self in
    record {
      same = unchanged_joined inv.same c.in_ok-step.ensures.same;
      at = kept_back (λ m. StandsAt c.args.geometry m c.step.new.self) inv.same c.in_ok-step.ensures.at;
      room = room_after w mid c.step.new.self inv.room (has_taken w mid c.if-branch.true c.in_ok-next.ensures) c.in_ok-step.ensures.way;
      each = λ t h there.
          let held = kept (λ m. HoldsTree c.args.geometry m t) inv.same h in
          let on = goes_on c.args.geometry t c.args.cred.now c.args.form c.follows_last-follow.result w mid
          (inv.each t h there) c.if-branch.true c.in_ok-next.ensures in
          let cur = g.S.Sectors.state c.loop-walker.s in
          let new = g.S.Sectors.state c.step.new.s in
          let s =
          subst (λ (b : Bool). IsStep cur.disk new.disk (room_of c.args.geometry) t c.args.cred.now c.args.form c.follows_last-follow.result mid c.step.new.self (Ok b))
          c.if-not-branch.false (c.in_ok-step.ensures.each t held on.1 c.args.form) in
          (on.0 ∙ s.0, s.1);
    }

-- ---- the end: no component is left, and what the walk answers is what the walker arrives at
arrives : {b : Bool} {answer : Result Found Refusal}
    (p : Geometry) (image : SectorMap) (t : Tree) (cred : Credential) (form : Form) (follow : Bool) (w mid : Walker)
    → HoldsTree p image t → StandsAt p image w → (answer ≡ stage_of (room_of p) t cred form follow w (names_ahead w)) × IsThere t w.here
    → b ≡ false → IsNextOf w mid b → answer ≡ arrival_of form mid
arrives p image t cred form follow w mid h at e no_more next =
    let none = subst (IsNextOf w mid) no_more next in
    e.0 ∙ end_stage (room_of p) t cred form p image follow w h at e.1 none.0 ∙ ap (arrival_of form) (sym none.1)

pub returns-in_err-found-clause-each : goal.returns-in_err-found-clause-each
returns-in_err-found-clause-each g c = λ t h there.
    let old = g.S.Sectors.state c.args.s.now in
    let inv = c.loop-walker.invariant in
    let arrival = arrives c.args.geometry old.sectors t c.args.cred.now c.args.form c.follows_last-follow.result c.loop-walker.walker c.next.new.self h inv.at
    (inv.each t h there) c.if-branch.false c.in_ok-next.ensures in
    let cur = g.S.Sectors.state c.loop-walker.s in
    let r = c.from_residual-in_err-found.ensures in
    answered_err old.disk cur.disk (walk_of (room_of c.args.geometry) t c.args.cred.now c.args.number c.args.form c.args.cwd c.args.path.now)
    c.from_residual-in_err-found.result c.in_err-found.field-0.0 r.0 r.1 (inl (arrival ∙ sym c.arrive.ensures ∙ c.in_err-found.was))

pub returns-in_err-found-clause-same : goal.returns-in_err-found-clause-same
returns-in_err-found-clause-same g c = c.loop-walker.invariant.same

pub returns-in_err-found-clause-cause : goal.returns-in_err-found-clause-cause
returns-in_err-found-clause-cause g c =
    let r = c.from_residual-in_err-found.ensures in
    cause_then c.from_residual-in_err-found.result c.in_err-found.field-0.0 c.loop-walker.invariant.same r.0 r.1
    (end_caused (g.S.Sectors.state c.args.s.now).disk (g.S.Sectors.state c.loop-walker.s).disk c.args.form c.next.new.self c.in_err-found.field-0.0 (sym c.arrive.ensures ∙ c.in_err-found.was))

pub returns-clause-each : goal.returns-clause-each
returns-clause-each g c = λ t h there.
    let old = g.S.Sectors.state c.args.s.now in
    let inv = c.loop-walker.invariant in
    let arrival = arrives c.args.geometry old.sectors t c.args.cred.now c.args.form c.follows_last-follow.result c.loop-walker.walker c.next.new.self h inv.at
    (inv.each t h there) c.if-branch.false c.in_ok-next.ensures in
    arrival ∙ sym c.arrive.ensures ∙ c.in_ok-found.was

pub returns-clause-same : goal.returns-clause-same
returns-clause-same g c = c.loop-walker.invariant.same

pub returns-clause-cause : goal.returns-clause-cause
returns-clause-cause g c = record { later = (c.loop-walker.invariant.same).store.reads.failures; failed = tt }
