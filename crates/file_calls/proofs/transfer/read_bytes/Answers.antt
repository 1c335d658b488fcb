use Rattle.std.proofs.Common.{◌≡◌, ◌-◌, length, arith, ◌∙◌}
use Rattle.std.specs.Prelude.{min, vec_len}
use Rattle.file_calls.proofs.Reading.{read_part, written_back}
use Rattle.file_calls.proofs.transfer.read_bytes.Goals as goal

pub read_at-requires : goal.read_at-requires
read_at-requires g c = record { within = c.requires.within }

pub returns : goal.returns
returns g c = record {
  found = λ bytes held.
      let old = c.deref_mut.result.now in
      let len = c.deref_mut.ensures.len in
      let size : length old ≡ min c.args.len (c.args.inode.now.size - c.args.offset) =
      omega (arith, len, c.in-Ok.ensures.len, c.min-count.ensures, c.saturating_sub.ensures) in
      written_back c.new.result c.read_at.new.to _ (vec_len c.resize.new.self) c.new.ensures (c.read_at.auto.to ∙ len)
      ∙ read_part bytes old c.read_at.new.to c.args.offset c.args.len c.args.inode.now.size c.in-Ok-read_at.field-0 size held.size
      (c.in-Ok-read_at.ensures.bytes bytes held);
  interrupts = tt;
  same = c.in-Ok-read_at.ensures.same;
}
