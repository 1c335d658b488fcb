use Rattle.std.proofs.Common.{◌≡◌, ℕ, ◌+◌, List, Ok, Err, Bool, true, false, refl, sym, ap, subst, ◌∙◌, inl, inr}
use Rattle.std.specs.Prelude.{Option, Some, not, ◌&&◌, ◌||◌}
use Rattle.fs_cred.specs.Credentials.{Credential}
use Rattle.fs_cred.specs.declared.refusal.Refusal.{Refusal}
use Rattle.fs_layout.specs.declared.geometry.Geometry.{Geometry}
use Rattle.fs_layout.specs.declared.inode.Inode.{Inode}
use Rattle.fs_layout.specs.Bytes.{SectorMap}
use Rattle.fs_layout.specs.Images.{inode_at, Holds}
use Rattle.fs_model.specs.Parts.{is_empty}
use Rattle.fs_model.specs.Stands.{room_of}
use Rattle.fs_model.specs.Summaries.{is_link_kind}
use Rattle.fs_model.specs.Trees.{Tree}
use Rattle.path_walk.specs.declared.walker.Walker.{Walker}
use Rattle.path_walk.specs.HeldTrees.{HoldsTree, IsThere}
use Rattle.path_walk.specs.Lookups.{lookup_of}
use Rattle.path_walk.specs.Stages.{names_ahead, IsStep, StandsAt, IsBehind}
use Rattle.block_map.proofs.Runs.{unchanged_joined}
use Rattle.path_walk.proofs.HeldNodes.{starts_there}
use Rattle.path_walk.proofs.Kept.{same_map, kept, kept_back, sound_kept, is_err, interrupted, interrupts_later, same_ok, on_err, failed_with, caused_behind, loop_caused, caused_later}
use Rattle.path_walk.proofs.Staging.{refused_stage, lost_stage, none_stage, moved_stage, looped_stage, behind_stage, is_moved, IsFollowed, is_followed}
use Rattle.path_walk.proofs.Stepping.{found_there, link_is, behind_way}
use Rattle.path_walk.proofs.walker.Walker.step.Goals as goal

pub look_up-requires-clause-at : goal.look_up-requires-clause-at
look_up-requires-clause-at g c = c.requires.at

pub returns-in_err-found-clause-each : goal.returns-in_err-found-clause-each
returns-in_err-found-clause-each g c = λ t h there form.
    let w = c.args.self.now in
    let old = g.S.Sectors.state c.args.s.now in
    let new = g.S.Sectors.state c.look_up.new.s in
    let r = c.from_residual.ensures in
    subst (λ q. IsStep old.disk new.disk (room_of c.args.geometry) t c.args.cred.now form c.args.follow w w q) (sym (is_err c.from_residual.result c.in_err-found.field-0.0 r.0 r.1))
    (elim (c.in_err-found.ensures.each t h there) [
      | inl a ↦ inl (refused_stage (room_of c.args.geometry) t c.args.cred.now form c.args.follow w c.requires.taken c.in_err-found.field-0.0 a)
      | inr way ↦ inr way
    ])

pub returns-then-is_last-clause-each : goal.returns-then-is_last-clause-each
returns-then-is_last-clause-each g c = λ t h there form.
    let w = c.args.self.now in
    let a = c.in_ok-found.ensures.each t h there ∙ ap (λ (o : Option ℕ). Ok o) c.in_default.is in
    none_stage (room_of c.args.geometry) t c.args.cred.now form c.args.follow w c.requires.taken a (sym c.is_last-is_last.ensures ∙ c.if-is_last.true) _ refl

pub returns-else-is_last-clause-each : goal.returns-else-is_last-clause-each
returns-else-is_last-clause-each g c = λ t h there form.
    let w = c.args.self.now in
    let a = c.in_ok-found.ensures.each t h there ∙ ap (λ (o : Option ℕ). Ok o) c.in_default.is in
    inl (lost_stage (room_of c.args.geometry) t c.args.cred.now form c.args.follow w c.requires.taken a (sym c.is_last-is_last.ensures ∙ c.if-is_last.false))

pub load_inode-requires-clause-sound : goal.load_inode-requires-clause-sound
load_inode-requires-clause-sound g c = sound_kept c.in_ok-found.ensures.same c.requires.sound

pub load_inode-requires-clause-below : goal.load_inode-requires-clause-below
load_inode-requires-clause-below g c = c.in_ok-found.ensures.below c.in-Some.ino c.in-Some.is

pub returns-in_err-inode-clause-each : goal.returns-in_err-inode-clause-each
returns-in_err-inode-clause-each g c = λ t h there form.
    let w = c.args.self.now in
    let old = g.S.Sectors.state c.args.s.now in
    let mid = g.S.Sectors.state c.look_up.new.s in
    let new = g.S.Sectors.state c.load_inode.new.s in
    let r = c.from_residual-in_err-inode.ensures in
    subst (λ q. IsStep old.disk new.disk (room_of c.args.geometry) t c.args.cred.now form c.args.follow w (record w { step = w.step + 1 }) q)
    (sym (is_err c.from_residual-in_err-inode.result c.in_err-inode.field-0.0 r.0 r.1))
    (inr (interrupts_later new.disk c.in_ok-found.ensures.same (interrupted mid.disk new.disk _ c.in_err-inode.field-0.0 c.in_err-inode.ensures.each)))

pub returns-in_err-inode-clause-same : goal.returns-in_err-inode-clause-same
returns-in_err-inode-clause-same g c = unchanged_joined c.in_ok-found.ensures.same c.in_err-inode.ensures.same

pub follow-requires-clause-sound : goal.follow-requires-clause-sound
follow-requires-clause-sound g c = sound_kept c.in_ok-inode.ensures.same (sound_kept c.in_ok-found.ensures.same c.requires.sound)

pub follow-requires-clause-at : goal.follow-requires-clause-at
follow-requires-clause-at g c =
    let w = c.args.self.now in
    let same = unchanged_joined c.in_ok-found.ensures.same c.in_ok-inode.ensures.same in
    record {
      below = c.requires.at.below;
      inode = c.requires.at.inode ∙ sym (ap (λ (m : SectorMap). inode_at c.args.geometry m w.here) (same_map same));
    }

pub follow-requires-clause-there : goal.follow-requires-clause-there
follow-requires-clause-there g c =
    let n = c.in-Some.ino in (
      n,
      c.in_ok-found.ensures.below n c.in-Some.is,
      sym (same_ok _ _ c.in_ok-inode.ensures.each) ∙ sym (ap (λ (m : SectorMap). inode_at c.args.geometry m n) (same_map c.in_ok-inode.ensures.same)),
    )

both : (a b : Bool) → (a && b) ≡ true → a ≡ true
both true b e = refl
both false b e = e

pub follow-requires-clause-link : goal.follow-requires-clause-link
follow-requires-clause-link g c =
    link_is c.in_ok-inode.inode.kind (both (is_link_kind c.in_ok-inode.inode.kind) (c.args.follow || not c.is_last-is_last.result) (sym c.is_followed.ensures ∙ c.if-is_followed.true))

-- what was found is a link that is followed, where the function asked so
link_followed : {p : Geometry} {image : SectorMap} {t : Tree} {is_last goes : Bool} → HoldsTree p image t → (cred : Credential) (w : Walker) (n : ℕ)
    → lookup_of (room_of p) t cred w.number w.step w.here w.name.items ≡ Ok (Some n) → (v : Inode) → v ≡ inode_at p image n → (follow : Bool)
    → is_last ≡ is_empty (names_ahead w) → goes ≡ (is_link_kind v.kind && (follow || not is_last)) → goes ≡ true
    → IsFollowed image t n v (follow || not (is_empty (names_ahead w)))
link_followed h cred w n a v is follow last asks goes =
    is_followed h n (found_there h cred w.number w.step w.here w.name.items n a) v is (follow || not (is_empty (names_ahead w)))
    (ap (λ (b : Bool). is_link_kind v.kind && (follow || not b)) (sym last) ∙ sym asks ∙ goes)

pub returns-in_err-follow-clause-each : goal.returns-in_err-follow-clause-each
returns-in_err-follow-clause-each g c = λ t h there form.
    let w = c.args.self.now in
    let old = g.S.Sectors.state c.args.s.now in
    let new = g.S.Sectors.state c.follow.new.s in
    let n = c.in-Some.ino in
    let a = c.in_ok-found.ensures.each t h there ∙ ap (λ (o : Option ℕ). Ok o) c.in-Some.is in
    let is = sym (same_ok _ _ c.in_ok-inode.ensures.each) ∙ ap (λ (m : SectorMap). inode_at c.args.geometry m n) (same_map c.in_ok-found.ensures.same) in
    let f = link_followed h c.args.cred.now w n a c.in_ok-inode.inode is c.args.follow c.is_last-is_last.ensures c.is_followed.ensures c.if-is_followed.true in
    let same = unchanged_joined c.in_ok-found.ensures.same c.in_ok-inode.ensures.same in
    let r = c.from_residual-in_err-follow.ensures in
    subst (λ q. IsStep old.disk new.disk (room_of c.args.geometry) t c.args.cred.now form c.args.follow w c.follow.new.self q)
    (sym (is_err c.from_residual-in_err-follow.result c.in_err-follow.field-0.0 r.0 r.1))
    (elim c.in_err-follow.ensures.err [
      | inl l ↦ inl (looped_stage (room_of c.args.geometry) t c.args.cred.now form c.args.follow w c.requires.taken n a f.target f.through l.0 ∙ ap (λ (e : Refusal). Err e) (sym l.1))
      | inr way ↦ inr (interrupts_later new.disk same way)
    ])

pub returns-in_err-follow-clause-same : goal.returns-in_err-follow-clause-same
returns-in_err-follow-clause-same g c = unchanged_joined c.in_ok-found.ensures.same (unchanged_joined c.in_ok-inode.ensures.same c.in_err-follow.ensures.same)

pub returns-in_ok-follow-clause-each : goal.returns-in_ok-follow-clause-each
returns-in_ok-follow-clause-each g c = λ t h there form.
    let w = c.args.self.now in
    let n = c.in-Some.ino in
    let a = c.in_ok-found.ensures.each t h there ∙ ap (λ (o : Option ℕ). Ok o) c.in-Some.is in
    let is = sym (same_ok _ _ c.in_ok-inode.ensures.each) ∙ ap (λ (m : SectorMap). inode_at c.args.geometry m n) (same_map c.in_ok-found.ensures.same) in
    let f = link_followed h c.args.cred.now w n a c.in_ok-inode.inode is c.args.follow c.is_last-is_last.ensures c.is_followed.ensures c.if-is_followed.true in
    let same = unchanged_joined c.in_ok-found.ensures.same c.in_ok-inode.ensures.same in
    let went = c.in_ok-follow.ensures.behind in
    let target = went.3 f.target (kept (λ m. Holds m c.in_ok-inode.inode f.target) same f.holds) in
    let new = c.follow.new.self in
    let b = subst (λ (l : List ℕ). IsBehind l c.is_last-is_last.result (record w { step = w.step + 1 }) new) target went.1 in
    let behind = subst (λ (l : Bool). IsBehind f.target l (record w { step = w.step + 1 }) new) c.is_last-is_last.ensures b in (
      behind_stage (room_of c.args.geometry) t c.args.cred.now form c.args.follow w c.requires.taken n a f.target f.through (record w { step = w.step + 1 }) new refl behind,
      subst (IsThere t) (sym behind.here) (starts_there h f.target w.here there),
    )

pub returns-in_ok-follow-clause-at : goal.returns-in_ok-follow-clause-at
returns-in_ok-follow-clause-at g c =
    let same = unchanged_joined c.in_ok-found.ensures.same c.in_ok-inode.ensures.same in
    kept_back (λ m. StandsAt c.args.geometry m c.follow.new.self) same c.in_ok-follow.ensures.at

pub returns-in_ok-follow-clause-way : goal.returns-in_ok-follow-clause-way
returns-in_ok-follow-clause-way g c =
    let b = c.in_ok-follow.ensures.behind in
    behind_way c.args.self.now c.follow.new.self b.0 c.is_last-is_last.result b.1 b.2

pub returns-in_ok-follow-clause-same : goal.returns-in_ok-follow-clause-same
returns-in_ok-follow-clause-same g c = unchanged_joined c.in_ok-found.ensures.same (unchanged_joined c.in_ok-inode.ensures.same c.in_ok-follow.ensures.same)

pub returns-else-is_followed-clause-each : goal.returns-else-is_followed-clause-each
returns-else-is_followed-clause-each g c = λ t h there form.
    let w = c.args.self.now in
    let n = c.in-Some.ino in
    let a = c.in_ok-found.ensures.each t h there ∙ ap (λ (o : Option ℕ). Ok o) c.in-Some.is in
    let found = found_there h c.args.cred.now w.number w.step w.here w.name.items n a in
    let v = c.in_ok-inode.inode in
    let is = sym (same_ok _ _ c.in_ok-inode.ensures.each) ∙ ap (λ (m : SectorMap). inode_at c.args.geometry m n) (same_map c.in_ok-found.ensures.same) in
    let stays : (is_link_kind v.kind && (c.args.follow || not (is_empty (names_ahead w)))) ≡ false =
    ap (λ (b : Bool). is_link_kind v.kind && (c.args.follow || not b)) (sym c.is_last-is_last.ensures) ∙ sym c.is_followed.ensures ∙ c.if-is_followed.false in (
      moved_stage (room_of c.args.geometry) t c.args.cred.now form c.args.follow w c.requires.taken n a
          (is_moved h n found v is (c.args.follow || not (is_empty (names_ahead w))) stays) (record w { step = w.step + 1; here = n; inode = v }) v refl,
      found,
    )

pub returns-else-is_followed-clause-at : goal.returns-else-is_followed-clause-at
returns-else-is_followed-clause-at g c =
    let n = c.in-Some.ino in
    record {
      below = c.in_ok-found.ensures.below n c.in-Some.is;
      inode = sym (same_ok _ _ c.in_ok-inode.ensures.each) ∙ ap (λ (m : SectorMap). inode_at c.args.geometry m n) (same_map c.in_ok-found.ensures.same);
    }

pub returns-else-is_followed-clause-way : goal.returns-else-is_followed-clause-way
returns-else-is_followed-clause-way g c = record { number = refl; step = refl; at = c.requires.inside; ahead = inl (refl, refl) }

pub returns-else-is_followed-clause-same : goal.returns-else-is_followed-clause-same
returns-else-is_followed-clause-same g c = unchanged_joined c.in_ok-found.ensures.same c.in_ok-inode.ensures.same

-- ---- the same, or nothing to show
pub is_last-is_last-requires : goal.is_last-is_last-requires
is_last-is_last-requires g c = c.requires.inside

pub look_up-requires-clause-sound : goal.look_up-requires-clause-sound
look_up-requires-clause-sound g c = c.requires.sound

pub look_up-requires-clause-inodes : goal.look_up-requires-clause-inodes
look_up-requires-clause-inodes g c = c.requires.inodes

-- ---- causes
pub returns-in_err-found-clause-cause : goal.returns-in_err-found-clause-cause
returns-in_err-found-clause-cause g c =
    let r = c.from_residual.ensures in
    failed_with c.from_residual.result c.in_err-found.field-0.0 _ r.0 r.1 c.in_err-found.ensures.cause

pub returns-in_err-inode-clause-cause : goal.returns-in_err-inode-clause-cause
returns-in_err-inode-clause-cause g c =
    let new = g.S.Sectors.state c.load_inode.new.s in
    let r = c.from_residual-in_err-inode.ensures in
    caused_behind new.disk c.from_residual-in_err-inode.result c.in_err-inode.field-0.0 c.in_ok-found.ensures.same r.0 r.1
    (interrupted (g.S.Sectors.state c.look_up.new.s).disk new.disk _ c.in_err-inode.field-0.0 c.in_err-inode.ensures.each)

pub returns-in_err-follow-clause-cause : goal.returns-in_err-follow-clause-cause
returns-in_err-follow-clause-cause g c =
    let mid = g.S.Sectors.state c.load_inode.new.s in
    let new = g.S.Sectors.state c.follow.new.s in
    let same = unchanged_joined c.in_ok-found.ensures.same c.in_ok-inode.ensures.same in
    let r = c.from_residual-in_err-follow.ensures in
    failed_with c.from_residual-in_err-follow.result c.in_err-follow.field-0.0 _ r.0 r.1
    (caused_later new.disk same (loop_caused mid.disk new.disk c.in_err-follow.field-0.0 _ c.in_err-follow.ensures.err))

pub returns-in_err-found-clause-at : goal.returns-in_err-found-clause-at
returns-in_err-found-clause-at g c = on_err _ c.from_residual.result c.from_residual.ensures.0

pub returns-in_err-found-clause-way : goal.returns-in_err-found-clause-way
returns-in_err-found-clause-way g c = on_err _ c.from_residual.result c.from_residual.ensures.0

pub returns-in_err-found-clause-same : goal.returns-in_err-found-clause-same
returns-in_err-found-clause-same g c = c.in_err-found.ensures.same

pub returns-then-is_last-clause-at : goal.returns-then-is_last-clause-at
returns-then-is_last-clause-at g c = record { below = c.requires.at.below; inode = c.requires.at.inode }

pub returns-then-is_last-clause-way : goal.returns-then-is_last-clause-way
returns-then-is_last-clause-way g c = record { number = refl; step = refl; at = c.requires.inside; ahead = inl (refl, refl) }

pub returns-then-is_last-clause-same : goal.returns-then-is_last-clause-same
returns-then-is_last-clause-same g c = c.in_ok-found.ensures.same

pub returns-else-is_last-clause-same : goal.returns-else-is_last-clause-same
returns-else-is_last-clause-same g c = c.in_ok-found.ensures.same

pub returns-in_err-inode-clause-at : goal.returns-in_err-inode-clause-at
returns-in_err-inode-clause-at g c = on_err _ c.from_residual-in_err-inode.result c.from_residual-in_err-inode.ensures.0

pub returns-in_err-inode-clause-way : goal.returns-in_err-inode-clause-way
returns-in_err-inode-clause-way g c = on_err _ c.from_residual-in_err-inode.result c.from_residual-in_err-inode.ensures.0

pub follow-requires-clause-inside : goal.follow-requires-clause-inside
follow-requires-clause-inside g c = c.requires.inside

pub returns-in_err-follow-clause-at : goal.returns-in_err-follow-clause-at
returns-in_err-follow-clause-at g c = on_err _ c.from_residual-in_err-follow.result c.from_residual-in_err-follow.ensures.0

pub returns-in_err-follow-clause-way : goal.returns-in_err-follow-clause-way
returns-in_err-follow-clause-way g c = on_err _ c.from_residual-in_err-follow.result c.from_residual-in_err-follow.ensures.0
