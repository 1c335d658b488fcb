-- Who copies a tree from a disk leaves the disk's tree as it is.
use Rattle.std.specs.Prelude.{◌≡◌, ◌≤◌, ℕ, List}
use Rattle.std.proofs.Common.{inl, inr, refl, sym, subst, ◌∙◌}
use Rattle.std.specs.List.{All}
use Rattle.std.proofs.lemmas.List.Elements.{All-head, All-map, All-tail}
use Rattle.sector_disk.specs.Disk.{DiskState, Image, IsImage}
use Rattle.sector_disk.proofs.Moments.{holds_now, unchanged}
use Rattle.fs_model.specs.declared.event.Event.{Event}
use Rattle.fs_model.specs.declared.event.Event.TheVariants.{Sync}
use Rattle.fs_model.specs.declared.event.EventReply.{EventReply}
use Rattle.fs_model.specs.declared.reply.Reply.{Reply}
use Rattle.fs_model.specs.Trees.{Tree, IsTree}
use Rattle.fs_model.specs.States.{State}
use Rattle.fs_model.specs.Steps.{Choice, Acts, after, tree_after}
use Rattle.fs_model.specs.Reading.{IsReading, IsPruned, StaysAs}
use Rattle.fs_model.proofs.Readings.{acts_stay, sync_stays, reading_keeps, sync_keeps}
use Rattle.fs_model.proofs.Swept.{pruned_is_tree, pruned_twice}
use Rattle.fs_images.specs.Standing.{StandsFor, EachStandsFor}
use Rattle.fs_system.specs.Doing.{Adds, IsFound, Does}
use Rattle.fs_system.specs.Histories.{Config, Up, Off, Goes, does, is_down, arms_up, arms_off, restarts, fails, History, ends, goes, forgets}
use Rattle.fs_system.specs.Mounts.{Mounts}
use Rattle.host_trees.specs.Copies.{Asked}
use Rattle.fs_program.specs.Copying.{CopiesOn, LeavesTree}

-- ---- a state that was mounted, and those with the same tree

-- a tree of which no file is nameless, and for which each image stands that a stop may leave
record IsWhole (disk : DiskState) (s : State) : Type 0 where
  tree : IsTree s.room s.tree
  pruned : IsPruned s.tree
  images : EachStandsFor s.room disk s.tree

mounted_is_whole : (before now : DiskState) (s : State) → Mounts before now s → IsWhole now s
mounted_is_whole before now s mounts =
    let room = mounts.some.0 in
    let tree = mounts.some.1 in
    let stands = mounts.some.3 in
    let found = mounts.each room tree mounts.some.2 stands in
    subst (IsWhole now) (sym found.is_mounted) (record {
      tree = pruned_is_tree room tree stands.tree_is;
      pruned = pruned_twice room tree stands.tree_is;
      images = found.images;
    })

stays_then : (s t u : State) → StaysAs s t → StaysAs t u → StaysAs s u
stays_then s t u first rest = record { room = rest.room ∙ first.room; tree = rest.tree ∙ first.tree }

-- ---- one event, whose effect leaves the tree as it is

module _ (before now : DiskState) (s t : State) (e : Event) (reply : Reply) (done : Does before now s e reply t) (same : StaysAs s t)
    (stay : (choice : Choice) → Acts s e choice → tree_after s (after s e choice) ≡ s.tree) where
  adds_none : (added : Tree) → Adds s e t added → added ≡ s.tree
  adds_none added (inl is) = is ∙ same.tree
  adds_none added (inr halting) = halting.2 ∙ stay halting.0 halting.1.acts

  finds_it : (image : Image) → EachStandsFor s.room before s.tree → IsFound before s done.added image → (free : ℕ) × StandsFor s.room image s.tree free
  finds_it image each (inl from) = let was = each from.0 from.1 in (was.0, from.2 s.room s.tree was.0 was.1)
  finds_it image each (inr (inl present)) = present.1
  finds_it image each (inr (inr added)) =
      (added.0, subst (λ (u : Tree). StandsFor s.room image u added.0) (adds_none done.added done.is_added) added.1)

  next_is_whole : ((t : ℕ) (image : Image) → t ≤ now.moment → IsImage now image → now.left_since t image) → IsWhole before s → IsWhole now t
  next_is_whole counts_now whole = record {
    tree = subst (λ r. IsTree r t.tree) (sym same.room) (subst (IsTree s.room) (sym same.tree) whole.tree);
    pruned = subst IsPruned (sym same.tree) whole.pruned;
    images = subst (λ r. EachStandsFor r now t.tree) (sym same.room)
        (subst (EachStandsFor s.room now) (sym same.tree) (λ image left. finds_it image whole.images (holds_now done.images counts_now left)));
  }

-- ---- several events

module _ {D : Type 0} (state : D → DiskState)
    (counts_now : (disk : D) (t : ℕ) (image : Image) → t ≤ (state disk).moment → IsImage (state disk) image → (state disk).left_since t image) where
  module _ (s : State) where
    -- it has that tree
    abbrev HasTree : Config D → Type 0
    HasTree (Up t disk) = StaysAs s t × IsWhole (state disk) t
    HasTree (Off disk) = Unit {0}

    after_one : (c d : Config D) (e : Event) (reply : EventReply) → IsReading e → HasTree c → Goes state c e reply d → HasTree d
    after_one _ _ _ _ reads has (does before now t u e reply done) =
        let same = reading_keeps t u e reply has.1.tree has.1.pruned reads done.serves in (
          stays_then s t u has.0 same,
          next_is_whole (state before) (state now) t u e reply done same (acts_stay t has.1.tree has.1.pruned e reads) (counts_now now) has.1,
        )
    after_one _ _ _ _ reads has (is_down disk e machine) = tt
    after_one _ _ _ _ reads has (arms_up before now t k same later) = absurd reads
    after_one _ _ _ _ reads has (arms_off before now k same later) = absurd reads
    after_one _ _ _ _ reads has (restarts c mid now t bytes arm stop mounts) = absurd reads
    after_one _ _ _ _ reads has (fails c mid now fault bytes arm stop failed) = absurd reads

    after_all : (c d : Config D) (es : List Event) (replies : List EventReply) → All IsReading es → HasTree c → History state c es replies d → HasTree d
    after_all c d _ _ reads has (ends _) = has
    after_all c d _ _ reads has (goes _ mid _ e reply es replies first rest) =
        after_all mid d es replies (All-tail IsReading e es reads) (after_one c mid e reply (All-head IsReading e es reads) has first) rest
    after_all (Up t disk) d _ _ reads has (forgets _ _ now es replies same later rest) =
        after_all (Up t now) d es replies reads (
          has.0,
          record {
            tree = has.1.tree;
            pruned = has.1.pruned;
            images = λ image left. has.1.images image (unchanged same left);
          },
        ) rest
    after_all (Off disk) d _ _ reads has (forgets _ _ now es replies same later rest) = after_all (Off now) d es replies reads tt rest

  pub leaves_tree : {disk : D} {Are : List Asked → Type 0} {reply : Reply} (copies : CopiesOn state disk Are reply)
      → All (λ a. IsReading a.event) copies.asked → LeavesTree state copies
  leaves_tree {disk} {Are} {reply} copies reads =
      let begun : HasTree copies.s (Up copies.s copies.first) =
      (record { room = refl; tree = refl }, mounted_is_whole (state disk) (state copies.first) copies.s copies.mounts) in
      let has : HasTree copies.s (Up copies.t copies.last) =
      after_all copies.s _ _ _ _ (All-map IsReading (λ a. a.event) copies.asked reads) begun copies.history in
      let synced = sync_keeps copies.t copies.u reply has.1.pruned copies.unmounts.serves in
      let left = next_is_whole (state copies.last) (state copies.left) copies.t copies.u Sync reply copies.unmounts synced (sync_stays copies.t has.1.pruned) (counts_now copies.left) has.1 in
      let all = stays_then copies.s copies.t copies.u has.0 synced in
      record {
        tree = all.tree;
        images = subst (λ r. EachStandsFor r (state copies.left) copies.s.tree) all.room (subst (EachStandsFor copies.u.room (state copies.left)) all.tree left.images);
      }
