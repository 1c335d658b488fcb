use Rattle.std.proofs.Common.{◌≡◌, ℕ, ◌*◌, ◌+◌, ◌/◌, Some, length, rules, sym, subst}
use Rattle.block_map.specs.Blocks.{IsWithin}
use Rattle.dir_core.specs.Slots.{IsBlock, IsFoundIn, IsFoundInBlock}
use Rattle.dir_core.proofs.Found.{found_in_block}
use Rattle.dir_core.proofs.names.find_at_hint.Goals as goal

pub read_with-requires-clause-within : goal.read_with-requires-clause-within
read_with-requires-clause-within g c =
    let old = g.S.Sectors.state c.args.s.now in
    subst (λ v. IsWithin old.header old.disk.size old.sectors v) (sym c.new.ensures.inode) c.requires.within

pub read_with-requires-clause-at_hand : goal.read_with-requires-clause-at_hand
read_with-requires-clause-at_hand g c = c.new.ensures.at_hand (g.S.Sectors.state c.args.s.now).sectors

pub returns-in-Some-found-clause-found : goal.returns-in-Some-found-clause-found
returns-in-Some-found-clause-found g c = λ slots h.
    let name = c.args.name.now in
    let k = c.in-Some.hint / c.block_slots-block_slots.result in
    let seen = c.in_ok-found.ensures.made in
    let here = subst (λ v. IsBlock (g.S.Sectors.state c.args.s.now).sectors v k seen.block) c.new.ensures.inode seen.bytes in
    let said : (length seen.block ≡ 512) × IsFoundInBlock c.args.version seen.block name c.in_ok-found.found = search rules in
    let is =
    found_in_block h seen.block name k c.in-Some-found.found said.0 c.requires.len.0 here (subst (IsFoundInBlock c.args.version seen.block name) c.in-Some-found.is said.1) in
    subst (λ x. IsFoundIn slots name (Some x)) (sym c.behind.ensures)
    (subst (λ (b : ℕ). IsFoundIn slots name (Some (record { slot = b * k + c.in-Some-found.found.slot; ino = c.in-Some-found.found.ino })))
    (sym c.block_slots-block_slots.ensures) is)
