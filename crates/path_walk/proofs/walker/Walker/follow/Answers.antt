use Rattle.std.proofs.Common.{drop, refl, sym, ap, ◌∙◌, inl, inr, arith}
use Rattle.std.proofs.lemmas.List.{take_rest}
use Rattle.fs_layout.specs.Bytes.{SectorMap}
use Rattle.fs_layout.specs.Images.{Holds, inode_at}
use Rattle.block_map.proofs.Runs.{unchanged_joined}
use Rattle.path_walk.proofs.Kept.{same_map, sound_kept, interrupted, interrupts_later, same_ok, on_err, failed_with}
use Rattle.fs_model.specs.Limits.{root}
use Rattle.path_walk.proofs.Stepping.{followed}
use Rattle.path_walk.proofs.walker.Walker.follow.Goals as goal

pub returns-then-self-eq0-clause-err : goal.returns-then-self-eq0-clause-err
returns-then-self-eq0-clause-err g c = inl (c.if-self-eq0.true, refl)

pub returns-in_err-target-clause-err : goal.returns-in_err-target-clause-err
returns-in_err-target-clause-err g c =
    let r = c.from_residual.ensures in
    failed_with c.from_residual.result c.in_err-target.field-0.0 _ r.0 r.1 (inr c.in_err-target.ensures.err)

pub returns-in_err-target-clause-behind : goal.returns-in_err-target-clause-behind
returns-in_err-target-clause-behind g c = on_err _ c.from_residual.result c.from_residual.ensures.0

pub returns-in_err-target-clause-at : goal.returns-in_err-target-clause-at
returns-in_err-target-clause-at g c = on_err _ c.from_residual.result c.from_residual.ensures.0

pub returns-in_err-target-clause-same : goal.returns-in_err-target-clause-same
returns-in_err-target-clause-same g c = c.in_err-target.ensures.same

pub returns-in_err-self-clause-err : goal.returns-in_err-self-clause-err
returns-in_err-self-clause-err g c =
    let r = c.from_residual-in_err-self.ensures in
    failed_with c.from_residual-in_err-self.result c.in_err-self.field-0.0 _ r.0 r.1 (inr (inl c.in_err-self.ensures))

pub returns-in_err-self-clause-behind : goal.returns-in_err-self-clause-behind
returns-in_err-self-clause-behind g c = on_err _ c.from_residual-in_err-self.result c.from_residual-in_err-self.ensures.0

pub returns-in_err-self-clause-at : goal.returns-in_err-self-clause-at
returns-in_err-self-clause-at g c = on_err _ c.from_residual-in_err-self.result c.from_residual-in_err-self.ensures.0

pub returns-in_err-self-clause-same : goal.returns-in_err-self-clause-same
returns-in_err-self-clause-same g c = c.in_ok-target.ensures.same

pub load_inode-requires-clause-sound : goal.load_inode-requires-clause-sound
load_inode-requires-clause-sound g c = sound_kept c.in_ok-target.ensures.same c.requires.sound

pub load_inode-requires-clause-below : goal.load_inode-requires-clause-below
load_inode-requires-clause-below g c = let least = c.requires.sound.consistent.geometry.least_inodes in omega (arith, least)

pub returns-then-not-begins_with_slash-clause-behind : goal.returns-then-not-begins_with_slash-clause-behind
returns-then-not-begins_with_slash-clause-behind g c =
    followed (Holds (g.S.Sectors.state c.args.s.now).sectors c.args.link.now) c.bytes-target.ensures.all
    (take_rest c.deref.result.now c.args.self.now.at ∙ ap (drop c.args.self.now.at) c.deref.ensures.value) c.in_ok-self.ensures c.if-self-eq0.false
    c.slash_behind-self.ensures (sym c.begins_with_slash.ensures ∙ c.if-not-begins_with_slash.true) refl refl c.in_ok-target.ensures.short c.in_ok-target.ensures.each

pub returns-clause-behind : goal.returns-clause-behind
returns-clause-behind g c =
    followed (Holds (g.S.Sectors.state c.args.s.now).sectors c.args.link.now) c.bytes-target.ensures.all
    (take_rest c.deref.result.now c.args.self.now.at ∙ ap (drop c.args.self.now.at) c.deref.ensures.value) c.in_ok-self.ensures c.if-self-eq0.false
    c.slash_behind-self.ensures (sym c.begins_with_slash.ensures ∙ c.if-not-begins_with_slash.false) refl refl c.in_ok-target.ensures.short c.in_ok-target.ensures.each

pub returns-in_err-self-2-clause-err : goal.returns-in_err-self-2-clause-err
returns-in_err-self-2-clause-err g c =
    let mid = g.S.Sectors.state c.read_target.new.s in
    let new = g.S.Sectors.state c.load_inode.new.s in
    let r = c.from_residual-in_err-self-2.ensures in
    failed_with c.from_residual-in_err-self-2.result c.in_err-self-2.field-0.0 _ r.0 r.1
    (inr (interrupts_later new.disk c.in_ok-target.ensures.same (interrupted mid.disk new.disk _ c.in_err-self-2.field-0.0 c.in_err-self-2.ensures.each)))

pub returns-in_err-self-2-clause-behind : goal.returns-in_err-self-2-clause-behind
returns-in_err-self-2-clause-behind g c = on_err _ c.from_residual-in_err-self-2.result c.from_residual-in_err-self-2.ensures.0

pub returns-in_err-self-2-clause-at : goal.returns-in_err-self-2-clause-at
returns-in_err-self-2-clause-at g c = on_err _ c.from_residual-in_err-self-2.result c.from_residual-in_err-self-2.ensures.0

pub returns-in_err-self-2-clause-same : goal.returns-in_err-self-2-clause-same
returns-in_err-self-2-clause-same g c = unchanged_joined c.in_ok-target.ensures.same c.in_err-self-2.ensures.same

pub returns-clause-same : goal.returns-clause-same
returns-clause-same g c = unchanged_joined c.in_ok-target.ensures.same c.in_ok-self-2.ensures.same

pub returns-clause-at : goal.returns-clause-at
returns-clause-at g c =
    let least = c.requires.sound.consistent.geometry.least_inodes in
    record {
      below = omega (arith, least);
      inode = sym (same_ok _ _ c.in_ok-self-2.ensures.each) ∙ ap (λ (m : SectorMap). inode_at c.args.geometry m root) (same_map c.in_ok-target.ensures.same);
    }

pub returns-then-not-begins_with_slash-clause-at : goal.returns-then-not-begins_with_slash-clause-at
returns-then-not-begins_with_slash-clause-at g c = record { below = c.requires.at.below; inode = c.requires.at.inode }

pub returns-then-not-begins_with_slash-clause-same : goal.returns-then-not-begins_with_slash-clause-same
returns-then-not-begins_with_slash-clause-same g c = c.in_ok-target.ensures.same

pub read_target-requires-clause-sound : goal.read_target-requires-clause-sound
read_target-requires-clause-sound g c = c.requires.sound

pub read_target-requires-clause-there : goal.read_target-requires-clause-there
read_target-requires-clause-there g c = c.requires.there

pub read_target-requires-clause-link : goal.read_target-requires-clause-link
read_target-requires-clause-link g c = c.requires.link
