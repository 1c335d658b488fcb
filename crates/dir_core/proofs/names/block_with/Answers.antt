use Rattle.std.proofs.Common.{List, ℕ, replicate, take, ap, ◌∙◌, arith}
use Rattle.std.proofs.lemmas.List.{length-replicate}
use Rattle.fs_layout.specs.Version.{slot_size}
use Rattle.fs_layout.specs.Bytes.{splice}
use Rattle.fs_layout.specs.Directories.{slot_bytes}
use Rattle.fs_layout.proofs.Splices.{window_same}
use Rattle.fs_layout.proofs.SlotLaw.{length-slot_bytes}
use Rattle.fs_layout.proofs.SlotSizes.{slot_bounds}
use Rattle.dir_core.proofs.names.block_with.Goals as goal

pub returns : goal.returns
returns c =
    let version = c.args.version in
    let x : List ℕ = slot_bytes version (record { ino = c.args.ino; name = c.args.name.now }) in
    let most = (slot_bounds version).1 in
    ap (take (slot_size version)) (c.write_in.ensures ∙ ap (λ v. splice (replicate 512 0) 0 (slot_bytes version v)) c.new.ensures)
    ∙ window_same (replicate 512 0) x 0 (slot_size version) (length-slot_bytes version (record { ino = c.args.ino; name = c.args.name.now }) c.requires.short)
    (omega (arith, most, length-replicate {A = ℕ} 512 0))
