use Rattle.std.proofs.Common.{◌∷◌, [], get_or, arith, refl, sym, ap, ◌∙◌}
use Rattle.std.proofs.lemmas.List.{get_or_append_left, get_or_push}
use Rattle.fs_layout.specs.Inode.{free_inode}
use Rattle.fs_check.proofs.Tables.{default_more}
use Rattle.fs_check.proofs.TableSectors.{one_longer}
use Rattle.fs_check.proofs.inodes.keep_inode.Goals as goal

pub loop-k-init : goal.loop-k-init
loop-k-init c = record { len = sym (let whole = c.args.inodes.now.ok.0 in let len = c.len-k.ensures in omega (arith, whole, len)); same = λ i. refl; room = refl }

pub loop-k-preserved : goal.loop-k-preserved
loop-k-preserved c =
    let so_far = c.loop-k.invariant in
    let pushed = c.push_reserved.ensures.items in
    record {
      len = one_longer c.loop-k.inodes.items c.push_reserved.new.self.items free_inode c.loop-k._k pushed so_far.len;
      same = λ i. default_more c.loop-k.inodes.items c.push_reserved.new.self.items free_inode pushed i ∙ so_far.same i;
      room = c.push_reserved.ensures.capacity ∙ so_far.room;
    }

pub returns-clause-few : goal.returns-clause-few
returns-clause-few c =
    let longer = one_longer c.loop-k.inodes.items c.push_reserved-2.new.self.items c.args.inode c.loop-k._k c.push_reserved-2.ensures.items c.loop-k.invariant.len in
    let end = c.loop-k.auto._k-end in
    omega (arith, longer, end)

pub returns-clause-earlier : goal.returns-clause-earlier
returns-clause-earlier c = λ k lt.
    let len = c.loop-k.invariant.len in
    let past = c.loop-k-test.false in
    ap (λ l. get_or l k free_inode) c.push_reserved-2.ensures.items
    ∙ get_or_append_left c.loop-k.inodes.items (c.args.inode ∷ []) free_inode k (omega (arith, len, past, lt)) ∙ c.loop-k.invariant.same k

pub returns-clause-there : goal.returns-clause-there
returns-clause-there c =
    let len = c.loop-k.invariant.len in
    let past = c.loop-k-test.false in
    let end = c.loop-k.auto._k-end in
    ap (λ l. get_or l c.args.ino free_inode) c.push_reserved-2.ensures.items
    ∙ get_or_push c.loop-k.inodes.items c.args.inode free_inode c.args.ino (omega (arith, len, past, end))

pub returns-clause-room : goal.returns-clause-room
returns-clause-room c = c.push_reserved-2.ensures.capacity ∙ c.loop-k.invariant.room
