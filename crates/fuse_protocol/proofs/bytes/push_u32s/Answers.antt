use Rattle.std.proofs.Common.{arith, sym, ap, ◌∙◌, ◌≡◌, ◌++◌, List, ℕ, length}
use Rattle.std.proofs.lemmas.List.{append-nil}
use Rattle.byteorder.specs.Endian.{little_bytes}
use Rattle.fuse_protocol.specs.Bytes.{bytes_of_u32s}
use Rattle.fuse_protocol.proofs.Runs.{one_more}
use Rattle.fuse_protocol.proofs.bytes.push_u32s.Goals as goal

pub loop-x-init : goal.loop-x-init
unfolding bytes_of_u32s
loop-x-init c = record { items = sym (append-nil c.args.to.now.items); len = omega arith; capacity = omega arith }

pub loop-x-preserved : goal.loop-x-preserved
unfolding bytes_of_u32s
loop-x-preserved c =
    let before = c.loop-x.invariant in
    let added = c.in_ok-extend_from_slice.ensures in
    let bytes : length c.to_le_bytes.result ≡ 4 = ap length c.to_le_bytes.ensures in
    record {
      items = one_more (little_bytes 4) c.args.to.now.items c.args.xs.now c.loop-x.to.items _ c.loop-x.x-index 0 (omega arith) before.items
          (added.items ∙ ap (λ (r : List ℕ). c.loop-x.to.items ++ r) c.to_le_bytes.ensures);
      len = omega (arith, added.len, before.len, bytes);
      capacity = omega (arith, added.capacity, before.capacity);
    }
