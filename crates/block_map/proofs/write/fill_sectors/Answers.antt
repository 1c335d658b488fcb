use Rattle.std.proofs.Common.{◌≡◌, ◌+◌, ◌*◌, ◌-◌, ◌≤◌, ℕ, List, [], length, take, drop, get_or, refl, ap, subst, ◌∙◌, arith}
use Rattle.std.proofs.lemmas.List.{length-take-le, length-drop}
use Rattle.fs_layout.specs.Header.{log_end}
use Rattle.fs_layout.specs.InodeChanges.{Puts}
use Rattle.sector_txn.specs.Sectors.{PutsOnly}
use Rattle.sector_txn.proofs.TransactionRuns.{changes_nothing, changes_put, changes_weaker}
use Rattle.bit_alloc.specs.Bitmaps.{IsNumberOf}
use Rattle.bit_alloc.proofs.Listed.{listed_wider}
use Rattle.block_map.specs.Steps.{FillsSectors, block_of}
use Rattle.block_map.proofs.Filling.{fills_none, fills_one}
use Rattle.block_map.proofs.write.fill_sectors.Goals as goal

pub loop-i-init : goal.loop-i-init
loop-i-init g c = record { within = omega arith; filled = fills_none; puts = changes_nothing [] }

pub put-requires-clause-part : goal.put-requires-clause-part
put-requires-clause-part g c =
    let is = (c.requires.within c.loop-i.i c.loop-i-test.true).0 in
    let same = ap log_end c.loop-i.invariant.puts.store.header in
    omega (arith, is, same)

pub put-requires-clause-on_disk : goal.put-requires-clause-on_disk
put-requires-clause-on_disk g c =
    let is = (c.requires.within c.loop-i.i c.loop-i-test.true).1 in
    omega (arith, is, c.loop-i.invariant.puts.store.reads.narrowed.size)

pub put-requires-clause-room : goal.put-requires-clause-room
put-requires-clause-room g c = λ none. let room = c.loop-i.invariant.puts.room in omega (arith, room, c.requires.room, c.loop-i-test.true)

pub unreachable-requires : goal.unreachable-requires
unreachable-requires g c =
    let bytes : List ℕ = c.args.bytes.now in
    let from : ℕ = 512 * c.loop-i.i in
    let wide : ℕ = 512 * (c.loop-i.i + 1) - from in
    let rest : length (drop from bytes) ≡ length bytes - from = length-drop from bytes in
    let few : wide ≤ length (drop from bytes) = omega (arith, rest, c.requires.long, c.loop-i-test.true) in
    c.in_default.ensures.cases (length-take-le wide (drop from bytes) few ∙ (let all : wide ≡ 512 = omega arith in all))

pub loop-i-preserved : goal.loop-i-preserved
loop-i-preserved g c =
    let x = c.loop-i.invariant in
    let i : ℕ = c.loop-i.i in
    let numbers : List ℕ = c.args.numbers.now in
    let bytes : List ℕ = c.args.bytes.now in
    let wide : 512 * (i + 1) - 512 * i ≡ 512 = omega arith in
    let content : c.in-Some.block.now ≡ block_of bytes i = c.in-Some.ensures.cases.same ∙ ap (λ (n : ℕ). take n (drop (512 * i) bytes)) wide in
    let put = c.put.ensures in
    record {
      within = omega (arith, c.loop-i-test.true);
      filled = fills_one x.filled (subst (λ (b : List ℕ). Puts (get_or numbers i 0) b (g.S.Sectors.state c.loop-i.s).sectors (g.S.Sectors.state c.put.new.self).sectors) content put.sectors)
          c.write_pointer.ensures;
      puts = changes_put (changes_weaker (λ n is. listed_wider (omega arith) is) (omega arith) x.puts) put
          (record { place = i; from = omega arith; before = omega arith; is = refl; some = λ e. let low = (c.requires.within i c.loop-i-test.true).0 in omega (arith, low, e) });
    }

pub returns-clause-filled : goal.returns-clause-filled
returns-clause-filled g c =
    let end : c.loop-i.i ≡ length c.args.numbers.now = let within = c.loop-i.invariant.within in omega (arith, c.loop-i-test.false, within) in
    subst (λ (n : ℕ). FillsSectors c.args.at n c.args.numbers.now c.args.bytes.now (g.S.Sectors.state c.args.s.now).sectors (g.S.Sectors.state c.loop-i.s).sectors c.args.pointers.now c.loop-i.pointers) end
    c.loop-i.invariant.filled

pub returns-clause-puts : goal.returns-clause-puts
returns-clause-puts g c =
    let end : c.loop-i.i ≡ length c.args.numbers.now = let within = c.loop-i.invariant.within in omega (arith, c.loop-i-test.false, within) in
    subst (λ (n : ℕ). PutsOnly (IsNumberOf c.args.numbers.now 0 n) [] n (g.S.Sectors.state c.args.s.now) (g.S.Sectors.state c.loop-i.s)) end c.loop-i.invariant.puts
