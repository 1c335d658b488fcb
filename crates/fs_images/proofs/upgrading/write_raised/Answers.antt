use Rattle.std.proofs.Common.{arith, subst, ap, sym, ◌∙◌}
use Rattle.std.specs.Prelude.{OnOk}
use Rattle.fs_layout.specs.declared.version.Version.{Version}
use Rattle.fs_layout.specs.Superblock.{numbers_end, super_bytes, with_version}
use Rattle.fs_images.specs.Upgrading.{raised, IsUpgraded}
use Rattle.fs_images.proofs.Places.{some_sectors}
use Rattle.fs_images.proofs.Raising.{written_moments, written_upgraded_if}
use Rattle.fs_images.proofs.upgrading.write_raised.Goals as goal

pub write_synced-requires : goal.write_synced-requires
write_synced-requires g c =
    let some = some_sectors (g.D.Disk.state c.args.disk.now).seen c.requires.some.0 c.requires.some.1 c.requires.some.2 c.requires.some.3 in
    let size = (g.met.D.Disk.seen_is_image c.args.disk.now).size in
    omega (arith, some, size)

pub raised-requires : goal.raised-requires
raised-requires g c = c.requires.found.fits.no_header (ap numbers_end c.requires.version)

pub returns-clause-any_moment : goal.returns-clause-any_moment
returns-clause-any_moment g c =
    let old = g.D.Disk.state c.args.disk.now in
    let super = c.args.superblock in
    let some = some_sectors old.seen c.requires.some.0 c.requires.some.1 c.requires.some.2 c.requires.some.3 in
    let seen = g.met.D.Disk.seen_is_image c.args.disk.now in
    let size = seen.size in
    let says = c.raised.ensures ∙ ap (λ (v : Version). super_bytes (with_version v super)) (sym (ap raised c.requires.version)) in
    written_moments old (g.D.Disk.state c.write_synced.new.disk) super c.raised.result c.requires.stable seen (omega (arith, some, size))
    c.requires.found says c.write_synced.ensures.any_moment

pub returns-clause-upgraded : goal.returns-clause-upgraded
returns-clause-upgraded g c =
    let old = g.D.Disk.state c.args.disk.now in
    let new = g.D.Disk.state c.write_synced.new.disk in
    let super = c.args.superblock in
    let to = ap raised c.requires.version in
    let says = c.raised.ensures ∙ ap (λ (v : Version). super_bytes (with_version v super)) (sym to) in
    subst (λ (v : Version). OnOk c.write_synced.result (IsUpgraded v old new)) to
    (written_upgraded_if c.write_synced.result old new super c.raised.result c.requires.some c.requires.found says
    (some_sectors old.seen c.requires.some.0 c.requires.some.1 c.requires.some.2 c.requires.some.3) (g.met.D.Disk.seen_is_image c.write_synced.new.disk)
    c.write_synced.ensures.written c.write_synced.ensures.stable)
