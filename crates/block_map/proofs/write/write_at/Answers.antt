use Rattle.std.proofs.Common.{◌≡◌, ◌≤◌, ◌+◌, ◌*◌, length, sym, ap, subst, ◌∙◌, arith, Err}
use Rattle.fs_layout.specs.declared.inode.Inode.{Inode}
use Rattle.fs_layout.specs.declared.inode.TheConstants.{MAX_BLOCKS, MAX_FILE_SIZE}
use Rattle.sector_txn.proofs.TransactionRuns.{store_joined, store_same}
use Rattle.bit_alloc.proofs.Transactions.{unchanged_nothing}
use Rattle.block_map.proofs.Numbers.{at_hand_sized}
use Rattle.block_map.specs.declared.fault.MapFault.TheVariants.{Full}
use Rattle.block_map.specs.Steps.{MayChange, taken_by, put_by}
use Rattle.block_map.proofs.Alterings.{may_after}
use Rattle.block_map.proofs.Sizing.{may_change, sized, size_limit}
use Rattle.block_map.proofs.Rooms.{spare_last}
use Rattle.bit_alloc.proofs.Passing.{other_fault_on, no_fault_of, cause_on}
use Rattle.block_map.proofs.Runs.{same_fault}
use Rattle.block_map.proofs.Wrote.{limit_at, taken_few, taken_most, taken_same, wrote, wrote_held, wrote_whole}
use Rattle.std.specs.Prelude.{max}
use Rattle.block_map.specs.Contents.{AllowsSize}
use Rattle.block_map.proofs.Saving.{IsEnded}
use Rattle.block_map.proofs.Failing.{end_not_past}
use Rattle.block_map.proofs.write.write_at.Goals as goal

pub write_blocks-requires-clause-may : goal.write_blocks-requires-clause-may
write_blocks-requires-clause-may g c =
    let old = g.S.Sectors.state c.args.s.now in
    let v = c.args.inode.now in
    let m = c.max-blocks.result in
    let is : m ≡ max v.size (c.args.offset + length c.args.bytes.now) = c.max-blocks.ensures in
    let allowed : AllowsSize v.kind m = subst (AllowsSize v.kind) (sym is) c.requires.size in
    let may : MayChange c.args.geometry old v = may_change m c.requires.sound c.requires.below c.requires.inode allowed in
    subst (λ (u : Inode). MayChange c.args.geometry old (record u { size = m })) (sym c.new-blocks.ensures.inode)
    (may_after may (sized m may unchanged_nothing allowed (limit_at c.max-blocks.result v.size c.args.offset (length c.args.bytes.now) c.max_file_size.result c.max-blocks.ensures c.if-offset-max_file_size.false c.requires.few (omega (arith, c.max_file_size.ensures.least)) c.max_file_size.ensures.most (size_limit c.max-blocks.result c.requires.sound c.requires.below c.requires.inode allowed))))

pub write_blocks-requires-clause-at_hand : goal.write_blocks-requires-clause-at_hand
write_blocks-requires-clause-at_hand g c = at_hand_sized (c.new-blocks.ensures.at_hand (g.S.Sectors.state c.args.s.now).sectors) c.max-blocks.result

pub write_blocks-requires-clause-inside : goal.write_blocks-requires-clause-inside
write_blocks-requires-clause-inside g c =
    let v = c.args.inode.now in
    let is : c.max-blocks.result ≡ max v.size (c.args.offset + length c.args.bytes.now) = c.max-blocks.ensures in
    let allowed : AllowsSize v.kind c.max-blocks.result = subst (AllowsSize v.kind) (sym is) c.requires.size in
    (omega (arith, c.max-blocks.ensures), limit_at c.max-blocks.result v.size c.args.offset (length c.args.bytes.now) c.max_file_size.result c.max-blocks.ensures c.if-offset-max_file_size.false c.requires.few (omega (arith, c.max_file_size.ensures.least)) c.max_file_size.ensures.most (size_limit c.max-blocks.result c.requires.sound c.requires.below c.requires.inode allowed))

pub returns-in_err-write_blocks-clause-full : goal.returns-in_err-write_blocks-clause-full
returns-in_err-write_blocks-clause-full g c = λ is.
    let old = g.S.Sectors.state c.args.s.now in
    let v = c.args.inode.now in
    let len = length c.args.bytes.now in
    let e = c.from_residual.ensures in
    let f = c.in_err-write_blocks.ensures.full (ap Err (same_fault c.from_residual.result c.in_err-write_blocks.field-0.0 Full e.0 e.1 is)) in
    let count : taken_by old.sectors (record c.new-blocks.result.inode { size = c.max-blocks.result }) c.args.offset len ≡ taken_by old.sectors v c.args.offset len =
    ap (λ (u : Inode). taken_by old.sectors (record u { size = c.max-blocks.result }) c.args.offset len) c.new-blocks.ensures.inode
    ∙ taken_same old old v c.max-blocks.result c.args.offset len unchanged_nothing in
    let limit : c.args.offset + len ≤ 512 * MAX_BLOCKS = omega (arith, c.if-offset-max_file_size.false, c.max_file_size.ensures.most, c.max_file_size.ensures.least, c.requires.few) in
    (omega (arith, f, count), taken_most old.sectors v c.args.offset len c.requires.few limit, λ few. taken_few old.sectors v c.args.offset len few limit)

pub write_inode-requires-clause-room : goal.write_inode-requires-clause-room
write_inode-requires-clause-room g c = λ none.
    spare_last c.args.geometry _ c.requires.spare c.in_ok-write_blocks.ensures.written.puts

-- the size that the inode is to have
allowed : (g : _) (c : goal.After-inode-1 g) → AllowsSize c.args.inode.now.kind c.max-blocks.result
allowed g c = subst (AllowsSize c.args.inode.now.kind) (sym c.max-blocks.ensures) c.requires.size

limited : (g : _) (c : goal.After-inode-1 g) → c.max-blocks.result ≤ MAX_FILE_SIZE
limited g c =
    limit_at c.max-blocks.result c.args.inode.now.size c.args.offset (length c.args.bytes.now) c.max_file_size.result c.max-blocks.ensures c.if-offset-max_file_size.false c.requires.few (omega (arith, c.max_file_size.ensures.least)) c.max_file_size.ensures.most (size_limit c.max-blocks.result c.requires.sound c.requires.below c.requires.inode (allowed g c))

ended : (g : _) (c : goal.After-inode-1 g) → IsEnded c.args.geometry c.args.ino (taken_by (g.S.Sectors.state c.args.s.now).sectors c.args.inode.now c.args.offset (length c.args.bytes.now)) (put_by c.args.offset (length c.args.bytes.now))
    (g.S.Sectors.state c.args.s.now) (g.S.Sectors.state c.write_blocks.new.s) (g.S.Sectors.state c.write_inode.new.s) c.args.inode.now c.write_blocks.new.blocks.inode
ended g c =
    wrote c.requires.sound c.requires.below c.requires.inode (allowed g c) (limited g c) c.requires.few c.max-blocks.ensures unchanged_nothing c.new-blocks.ensures.inode
    c.in_ok-write_blocks.ensures.written c.in_ok-write_inode.ensures.saved c.in_ok-write_inode.ensures.puts

pub returns-clause-change : goal.returns-clause-change
returns-clause-change g c = (ended g c).content

pub returns-clause-held : goal.returns-clause-held
returns-clause-held g c =
    wrote_held c.requires.sound c.requires.below c.requires.inode (allowed g c) (limited g c) c.requires.few c.max-blocks.ensures unchanged_nothing c.new-blocks.ensures.inode
    c.in_ok-write_blocks.ensures.written (ended g c)

pub returns-clause-whole : goal.returns-clause-whole
returns-clause-whole g c =
    wrote_whole c.requires.sound c.requires.below c.requires.inode (allowed g c) (limited g c) c.requires.few c.max-blocks.ensures unchanged_nothing c.new-blocks.ensures.inode
    c.in_ok-write_blocks.ensures.written (ended g c)

pub returns-clause-taken : goal.returns-clause-taken
returns-clause-taken g c =
    taken_most _ _ _ _ c.requires.few (omega (arith, c.if-offset-max_file_size.false, c.max_file_size.ensures.most, c.max_file_size.ensures.least, c.requires.few))

pub returns-clause-few_taken : goal.returns-clause-few_taken
returns-clause-few_taken g c = λ few.
    taken_few _ _ _ _ few (omega (arith, c.if-offset-max_file_size.false, c.max_file_size.ensures.most, c.max_file_size.ensures.least, c.requires.few))

pub returns-clause-store : goal.returns-clause-store
returns-clause-store g c =
    store_joined c.in_ok-write_blocks.ensures.store c.in_ok-write_inode.ensures.store

pub returns-in_err-write_inode-clause-store : goal.returns-in_err-write_inode-clause-store
returns-in_err-write_inode-clause-store g c = store_joined c.in_ok-write_blocks.ensures.store c.in_err-write_inode.ensures.store

pub returns-in_err-write_inode-clause-cause : goal.returns-in_err-write_inode-clause-cause
returns-in_err-write_inode-clause-cause g c =
    other_fault_on c.in_ok-write_blocks.ensures.store c.in_err-write_inode.ensures.cause c.from_residual-in_err-write_inode.result c.from_residual-in_err-write_inode.ensures.0

pub returns-clause-cause : goal.returns-clause-cause
returns-clause-cause g c = no_fault_of (store_joined c.in_ok-write_blocks.ensures.store c.in_ok-write_inode.ensures.store)

-- ---- where a call fails, and where none does
pub returns-in_err-write_blocks-clause-store : goal.returns-in_err-write_blocks-clause-store
returns-in_err-write_blocks-clause-store g c = c.in_err-write_blocks.ensures.store

pub returns-in_err-write_blocks-clause-cause : goal.returns-in_err-write_blocks-clause-cause
returns-in_err-write_blocks-clause-cause g c = cause_on (store_same {txn = g.S.Sectors.state c.args.s.now}) c.in_err-write_blocks.ensures.cause c.from_residual.result c.from_residual.ensures

pub returns-in_err-write_blocks-clause-untouched : goal.returns-in_err-write_blocks-clause-untouched
returns-in_err-write_blocks-clause-untouched g c = end_not_past c.max_file_size.ensures.value c.if-offset-max_file_size.false (omega (arith, c.max_file_size.ensures.least, c.requires.few))

pub returns-in_err-write_inode-clause-untouched : goal.returns-in_err-write_inode-clause-untouched
returns-in_err-write_inode-clause-untouched g c = end_not_past c.max_file_size.ensures.value c.if-offset-max_file_size.false (omega (arith, c.max_file_size.ensures.least, c.requires.few))

pub returns-clause-untouched : goal.returns-clause-untouched
returns-clause-untouched g c = end_not_past c.max_file_size.ensures.value c.if-offset-max_file_size.false (omega (arith, c.max_file_size.ensures.least, c.requires.few))
