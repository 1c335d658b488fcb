use Rattle.std.proofs.Common.{◌≡◌, ℕ, false, Option, None, Some, refl, sym, subst, arith, ◌∙◌}
use Rattle.std.specs.Prelude.{is_some}
use Rattle.fs_layout.specs.Directories.{HasNames}
use Rattle.fs_layout.proofs.SlotSizes.{slot_bounds}
use Rattle.bit_alloc.proofs.Transactions.{map_unchanged, spare_unchanged}
use Rattle.block_map.proofs.Joins.{sound_after_reads}
use Rattle.storage_tests.proofs.tests.directories.renamed.Goals as goal

is_none : (o : Option ℕ) → is_some o ≡ false → o ≡ None
is_none None e = refl
is_none (Some n) e = absurd cc

pub rename-requires-clause-sound : goal.rename-requires-clause-sound
rename-requires-clause-sound g c = sound_after_reads c.requires.directory.sound c.in_ok-lookup.ensures.same

pub rename-requires-clause-directory : goal.rename-requires-clause-directory
rename-requires-clause-directory g c =
    let d = c.requires.directory.names in (
      d.0,
      subst (λ image. HasNames c.args.geometry.version image c.args.inode.now d.0) (map_unchanged c.in_ok-lookup.ensures.same) d.1,
      sym (c.in_ok-lookup.ensures.found d.0 d.1) ∙ is_none _ (sym c.is_some.ensures ∙ c.if-is_some.false),
    )

pub rename-requires-clause-short : goal.rename-requires-clause-short
rename-requires-clause-short g c = let least = (slot_bounds c.args.geometry.version).0 in omega (arith, least)

pub rename-requires-clause-spare : goal.rename-requires-clause-spare
rename-requires-clause-spare g c = spare_unchanged c.args.geometry 1 _ _ c.requires.spare c.in_ok-lookup.ensures.same
