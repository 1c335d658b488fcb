use Rattle.std.proofs.Common.{◌≡◌, ℕ, refl, sym, ap, ◌∙◌}
use Rattle.fs_layout.specs.declared.inode.Inode.{Inode}
use Rattle.fs_model.specs.declared.touch.Touch.{Touch}
use Rattle.fs_model.specs.declared.touch.Touch.TheVariants.{Untouched, Changed, Modified, Born}
use Rattle.fs_model.specs.StoredStamps.{stamps_in}
use Rattle.fs_model.specs.TreeChanges.{touch_at}
use Rattle.call_parts.specs.Times.{with_times}
use Rattle.call_parts.proofs.changing.with_touch.Goals as goal

-- the inode, by its fields
abbrev touched : Inode → ℕ → Touch → Inode
touched v now Untouched = v
touched v now Changed = record v { ctime = now }
touched v now Modified = record v { mtime = now; ctime = now }
touched v now Born = record v { atime = now; mtime = now; ctime = now }

times_are : (v : Inode) (now : ℕ) (touch : Touch) → touched v now touch ≡ with_times v (touch_at now touch (stamps_in v))
unfolding stamps_in
times_are v now Untouched = refl
times_are v now Changed = refl
times_are v now Modified = refl
times_are v now Born = refl

touched_as : (v : Inode) (now : ℕ) {touch this : Touch} → touch ≡ this → touched v now this ≡ with_times v (touch_at now touch (stamps_in v))
touched_as v now {touch} {this} is = times_are v now this ∙ ap (λ (x : Touch). with_times v (touch_at now x (stamps_in v))) (sym is)

pub returns-in-Untouched : goal.returns-in-Untouched
returns-in-Untouched c = touched_as c.args.inode.now c.args.now c.in-Untouched.is

pub returns-in-Changed : goal.returns-in-Changed
returns-in-Changed c = touched_as c.args.inode.now c.args.now c.in-Changed.is

pub returns-in-Modified : goal.returns-in-Modified
returns-in-Modified c = touched_as c.args.inode.now c.args.now c.in-Modified.is

pub returns-in-Born : goal.returns-in-Born
returns-in-Born c = touched_as c.args.inode.now c.args.now c.in-Born.is
