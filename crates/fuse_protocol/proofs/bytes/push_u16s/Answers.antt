use Rattle.std.proofs.Common.{arith, sym, ap, ◌∙◌, ◌++◌, List, ℕ}
use Rattle.std.proofs.lemmas.List.{append-nil}
use Rattle.byteorder.specs.Endian.{little_bytes}
use Rattle.fuse_protocol.specs.Bytes.{bytes_of_u16s}
use Rattle.fuse_protocol.proofs.Runs.{one_more}
use Rattle.fuse_protocol.proofs.bytes.push_u16s.Goals as goal

pub loop-x-init : goal.loop-x-init
unfolding bytes_of_u16s
loop-x-init c = sym (append-nil c.args.to.now.items)

pub loop-x-preserved : goal.loop-x-preserved
unfolding bytes_of_u16s
loop-x-preserved c =
    one_more (little_bytes 2) c.args.to.now.items c.args.xs.now c.loop-x.to.items _ c.loop-x.x-index 0 (omega arith) c.loop-x.invariant
    (c.in_ok-extend_from_slice.ensures.items ∙ ap (λ (r : List ℕ). c.loop-x.to.items ++ r) c.to_le_bytes.ensures)
