use Rattle.std.proofs.Common.{◌≡◌, ◌<◌, ◌+◌, ◌≤◌, ℕ, List, length, take, Err, None, sym, ap, subst, ◌∙◌, arith, rules, inl, inr}
use Rattle.std.specs.Prelude.{max}
use Rattle.fs_layout.specs.declared.version.Version.{Version}
use Rattle.fs_layout.specs.declared.inode.Inode.{Inode}
use Rattle.fs_layout.specs.Bytes.{SectorMap, overwritten}
use Rattle.fs_layout.specs.Version.{slot_size, max_directory_size}
use Rattle.fs_layout.specs.Images.{Holds}
use Rattle.fs_layout.specs.Maps.{name_cmp, get}
use Rattle.fs_layout.specs.Directories.{NamedInode, HasNames, slots_bytes, slot_bytes}
use Rattle.fs_layout.proofs.Versions.{file_bounds}
use Rattle.fs_layout.proofs.OneSlots.{names_same}
use Rattle.fs_layout.proofs.SlotSizes.{slot_bounds, directory_most}
use Rattle.block_map.specs.Contents.{AllowsSize, ChangesContent}
use Rattle.block_map.specs.Steps.{taken_by, put_by}
use Rattle.block_map.proofs.Joins.{content_at_most}
use Rattle.block_map.proofs.Wrote.{put_in_block}
use Rattle.dir_core.specs.Faults.{taken_for, WhyNotAdded}
use Rattle.dir_core.specs.Slots.{HasSlots}
use Rattle.dir_core.proofs.Changing.{allows, slots_there, slots_few, said_by_slots, passed_on, added, written, length-written, names_with, names_few, names_full}
use Rattle.dir_core.proofs.SlotPlaces.{slot_in_one_block, even_with_one}
use Rattle.dir_core.proofs.Taking.{size_of_slots, taken_is}
use Rattle.dir_core.proofs.names.insert_new.Goals as goal

-- where the directory isn't full
not_full : (end limit most : ℕ) → end < limit → limit ≡ most → end < most
not_full end limit most lt is = omega (arith, lt, is)

-- how many sectors are put
puts_few : {version : Version} {image : SectorMap} {v : Inode} {slots : List NamedInode} → HasSlots version image v slots → (n : ℕ) → n ≡ slot_size version
    → v.size + slot_size version ≤ max_directory_size version → put_by v.size n ≤ 4
puts_few {version} {v = v} {slots} h n len few =
    let one = slot_in_one_block version (length slots) v.size (size_of_slots h) in
    let most = directory_most version in
    put_in_block v.size n (omega (arith, len)) (omega (arith, len, one)) (omega (arith, len, few, most))

-- how many it takes
takes_so : {version : Version} {image : SectorMap} {v : Inode} {slots : List NamedInode} → HasSlots version image v slots → (n : ℕ) → n ≡ slot_size version
    → v.size + slot_size version ≤ max_directory_size version → taken_by image v v.size n ≡ taken_for v
takes_so {version} {image} {v} h n len few = ap (taken_by image v v.size) len ∙ taken_is h (let most = directory_most version in omega (arith, few, most))

-- a slot more has place, which is written with so many bytes
record HasPlace (version : Version) (image : SectorMap) (v : Inode) (n : ℕ) : Type 0 where
  wide : n ≡ slot_size version
  few : v.size + slot_size version ≤ max_directory_size version
  puts : put_by v.size n ≤ 4
  takes : taken_by image v v.size n ≡ taken_for v

has_place : {version : Version} {image : SectorMap} {v : Inode} {slots : List NamedInode} {limit : ℕ} → HasSlots version image v slots → (n : ℕ) → n ≡ slot_size version
    → v.size < limit → limit ≡ max_directory_size version → HasPlace version image v n
has_place h n wide lt is =
    let few = (slots_few h (not_full _ _ _ lt is)).0 in
    record { wide = wide; few = few; puts = puts_few h n wide few; takes = takes_so h n wide few }

pub write_at-requires-clause-size : goal.write_at-requires-clause-size
write_at-requires-clause-size g c =
    let version = c.args.geometry.version in
    let v = c.args.inode.now in
    let h = slots_there c.requires.directory.1 in
    let place = has_place (slots_there c.requires.directory.1) (length (take c.slot_size.result c.block_with-block.result))
    (length-written c.args.geometry.version (added c.args.name.now c.args.to) _ _ c.slot_size.ensures c.block_with-block.ensures c.requires.short)
    c.if-end-max_directory_size.false c.max_directory_size.ensures in
    let most = directory_most version in
    let end : max v.size (v.size + length (take c.slot_size.result c.block_with-block.result)) ≡ v.size + slot_size version = omega (arith, place.wide) in
    subst (AllowsSize v.kind) (sym end)
    (allows v.kind (v.size + slot_size version) h.kind (omega (arith, place.few, most)) (even_with_one version (length c.requires.directory.1.slots) v.size (size_of_slots h)))

pub write_at-requires-clause-few : goal.write_at-requires-clause-few
write_at-requires-clause-few g c =
    let place = has_place (slots_there c.requires.directory.1) (length (take c.slot_size.result c.block_with-block.result))
    (length-written c.args.geometry.version (added c.args.name.now c.args.to) _ _ c.slot_size.ensures c.block_with-block.ensures c.requires.short)
    c.if-end-max_directory_size.false c.max_directory_size.ensures in
    let most = (slot_bounds c.args.geometry.version).1 in
    omega (arith, place.wide, most)

pub write_at-requires-clause-spare : goal.write_at-requires-clause-spare
write_at-requires-clause-spare g c =
    let place = has_place (slots_there c.requires.directory.1) (length (take c.slot_size.result c.block_with-block.result))
    (length-written c.args.geometry.version (added c.args.name.now c.args.to) _ _ c.slot_size.ensures c.block_with-block.ensures c.requires.short)
    c.if-end-max_directory_size.false c.max_directory_size.ensures in
    let spare = c.requires.spare in
    omega (arith, place.puts, spare)

pub returns-then-end-max_directory_size-clause-why : goal.returns-then-end-max_directory_size-clause-why
returns-then-end-max_directory_size-clause-why g c = λ names h.
    let old = g.S.Sectors.state c.args.s.now in
    let p = c.args.geometry in
    let v = c.args.inode.now in
    let name = c.args.name.now in
    let none : get name_cmp names name ≡ None =
    ap (λ (m : List (List ℕ × ℕ)). get name_cmp m name) (names_same p.version old.sectors v names c.requires.directory.0 h c.requires.directory.1) ∙ c.requires.directory.2 in
    let full : max_directory_size p.version ≤ v.size = let t = c.if-end-max_directory_size.true in let e = c.max_directory_size.ensures in omega (arith, t, e) in
    (none, inl (names_full h full))

pub returns-in_err-write_at-clause-why : goal.returns-in_err-write_at-clause-why
returns-in_err-write_at-clause-why g c =
    let old = g.S.Sectors.state c.args.s.now in
    let p = c.args.geometry in
    let v = c.args.inode.now in
    let name = c.args.name.now in
    let e = c.from_residual.ensures in
    let r = c.in_err-write_at.ensures in
    let place = has_place (slots_there c.requires.directory.1) (length (take c.slot_size.result c.block_with-block.result))
    (length-written c.args.geometry.version (added c.args.name.now c.args.to) _ _ c.slot_size.ensures c.block_with-block.ensures c.requires.short)
    c.if-end-max_directory_size.false c.max_directory_size.ensures in
    let none : (names : List (List ℕ × ℕ)) → HasNames p.version old.sectors v names → get name_cmp names name ≡ None =
    λ names h. ap (λ (m : List (List ℕ × ℕ)). get name_cmp m name) (names_same p.version old.sectors v names c.requires.directory.0 h c.requires.directory.1) ∙ c.requires.directory.2 in
    passed_on (λ f. (names : List (List ℕ × ℕ)) → HasNames p.version old.sectors v names → WhyNotAdded p old.sectors v names name f)
    c.from_residual.result c.in_err-write_at.field-0.0 e.0 e.1
    (λ full names h. let few = (r.full (ap Err full)).0 in (none names h, inr (omega (arith, few, place.takes))))
    (λ big names h.
    let past = r.too_big.0 (ap Err big) in
    let most = (file_bounds p.version).0 in
    absurd (omega (arith, past, place.wide, most, place.few)))
    (λ names h. tt)

pub returns-clause-change : goal.returns-clause-change
returns-clause-change g c =
    let old = g.S.Sectors.state c.args.s.now in
    let new = g.S.Sectors.state c.write_at.new.s in
    let p = c.args.geometry in
    let v = c.args.inode.now in
    let place = has_place (slots_there c.requires.directory.1) (length (take c.slot_size.result c.block_with-block.result))
    (length-written c.args.geometry.version (added c.args.name.now c.args.to) _ _ c.slot_size.ensures c.block_with-block.ensures c.requires.short)
    c.if-end-max_directory_size.false c.max_directory_size.ensures in
    content_at_most place.puts
    (subst (λ (k : ℕ). ChangesContent p c.args.ino k (put_by v.size (length (take c.slot_size.result c.block_with-block.result))) old new v c.write_at.new.inode) place.takes
    c.in_ok-write_at.ensures.change)

pub returns-clause-names : goal.returns-clause-names
returns-clause-names g c = λ names h.
    let old = g.S.Sectors.state c.args.s.now in
    let new = g.S.Sectors.state c.write_at.new.s in
    let version = c.args.geometry.version in
    let v = c.args.inode.now in
    let w = c.write_at.new.inode in
    let name = c.args.name.now in
    let r = c.in_ok-write_at.ensures in
    let none : get name_cmp names name ≡ None =
    ap (λ (m : List (List ℕ × ℕ)). get name_cmp m name) (names_same version old.sectors v names c.requires.directory.0 h c.requires.directory.1) ∙ c.requires.directory.2 in
    let less = not_full _ _ _ c.if-end-max_directory_size.false c.max_directory_size.ensures in
    let holds : Holds new.sectors w (overwritten (slots_bytes version h.slots) v.size (slot_bytes version (added name c.args.to))) =
    subst (λ (x : List ℕ). Holds new.sectors w (overwritten (slots_bytes version h.slots) v.size x))
    (written version (added name c.args.to) c.slot_size.result c.block_with-block.result c.slot_size.ensures c.block_with-block.ensures)
    (r.held (slots_bytes version h.slots) h.holds) in (
      names_few h less,
      names_with h name c.args.to c.requires.name c.requires.short (λ i. let f = c.type_inv.name i in search rules)
          (let f = c.ranges.to.fits in omega (arith, f)) (said_by_slots name h none)
          (slots_few (slots_there h) less).1 r.change.fields.kind holds (r.whole h.whole (omega arith)),
    )
