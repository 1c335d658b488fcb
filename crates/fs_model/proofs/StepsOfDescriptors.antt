-- What calls on a descriptor leave fits.
use Rattle.std.specs.Prelude.{◌≡◌, ℕ, ◌+◌, ◌-◌, ◌^◌, ◌<◌, ◌≤◌, min, nat_lt, nat_le, Bool, true, false, not, cond, List, [], ◌∷◌, length, take, drop, None, Some, is_some, unwrap_or, ℤ, pos, negsuc, ◌+ℤ◌}
use Rattle.std.proofs.Common.{refl, ap, arith}
use Rattle.std.proofs.lemmas.Bool.{not-false}
use Rattle.std.proofs.lemmas.Bool.Decides.{nat_tests}
use Rattle.std.proofs.lemmas.List.{length-take, length-drop}
use Rattle.fs_cred.specs.declared.errno.Errno.TheVariants.{EBADF, EFBIG}
use Rattle.fs_layout.specs.Bytes.{IsBytes, resized, overwritten}
use Rattle.fs_layout.proofs.Sectors.{IsBytes-take}
use Rattle.fs_model.specs.declared.call.Whence.{Whence}
use Rattle.fs_model.specs.declared.reply.Reply.{Reply}
use Rattle.fs_model.specs.declared.reply.Reply.TheVariants.{Done, Data, Wrote, At}
use Rattle.fs_model.specs.Nodes.{bytes_in}
use Rattle.fs_model.specs.Trees.{node_at, IsNode}
use Rattle.fs_model.specs.Processes.{descriptor, the_descriptor, with_offset}
use Rattle.fs_model.specs.declared.touch.Touch.TheVariants.{Modified}
use Rattle.fs_model.specs.TreeChanges.{Rewrite}
use Rattle.fs_model.specs.Parts.{is_empty}
use Rattle.fs_model.specs.Demands.{refuse, only_if}
use Rattle.fs_model.specs.Scenes.{Scene, node_open, is_bad, is_bad_to_read, is_bad_to_write, answers}
use Rattle.fs_model.specs.DescriptorCalls.{read_bytes, read_effect, write_offset, write_count, no_blocks_for, write_demands, written, write_effect, seekable, seek_base, sought, lseek_effect, close_effect, ftruncate_demands, ftruncate_effect, resized_node}
use Rattle.fs_model.proofs.StepsBodies.{bytes_are_few, bytes_are_bytes, length-resized, IsBytes-resized, length-overwritten, IsBytes-overwritten, bytes_may_replace}
use Rattle.fs_model.proofs.StepsDemands.{AreMet, unrefused, is_open_here, is_read_here, is_written_here}
use Rattle.fs_model.proofs.StepsFit.{IsScene, EffectFits, node_is_there, no_change_fits, rewrite_fits}
use Rattle.fs_model.proofs.StepsProcesses.{with_offset_fits, without_descriptor_fits}

-- an offset that can be sought
sought_small : (z : ℤ) → unwrap_or (seekable z) 0 < 2 ^ 64
sought_small (negsuc n) = omega arith
sought_small (pos n) = go (nat_lt n (2 ^ 63)) refl
  where
    go : (b : Bool) → nat_lt n (2 ^ 63) ≡ b → unwrap_or (cond b (Some n) None) 0 < 2 ^ 64
    go true e = let low : n < 2 ^ 63 = grind (arith, nat_tests) in omega arith
    go false e = omega arith

module _ (c : Scene) (is : IsScene c) where
  pub answer_fits : (reply : Reply) → EffectFits c.state (answers c reply)
  answer_fits reply = no_change_fits c.state c.process reply is.state is.process

  module _ (fd : ℕ) (here : descriptor c.process fd ≡ Some (the_descriptor c.process fd)) where
    pub open_at : node_at c.state.tree (the_descriptor c.process fd).ino ≡ Some (node_open c fd)
    open_at =
        let x = is.process.each fd (the_descriptor c.process fd) here in
        node_is_there c.state.tree (the_descriptor c.process fd).ino (ap is_some x.is_there)

    open_is : IsNode c.state.room c.state.tree (the_descriptor c.process fd).ino (node_open c fd)
    open_is = is.state.tree.each (the_descriptor c.process fd).ino (node_open c fd) open_at

    open_few : length (bytes_in (node_open c fd).body) ≤ c.state.room.file_limit
    open_few = bytes_are_few c.state.room c.state.tree (node_open c fd).body open_is.body

    offset_small : (the_descriptor c.process fd).offset < 2 ^ 64
    offset_small = (is.process.each fd (the_descriptor c.process fd) here).offset

    read_fits_here : (most len : ℕ) → EffectFits c.state (read_effect most fd len c)
    read_fits_here most len =
        let offset = (the_descriptor c.process fd).offset in
        let bytes = bytes_in (node_open c fd).body in
        let limit : c.state.room.file_limit < 2 ^ 63 = is.state.room.file_limit in
        let small : offset + length (take (min len most) (drop offset bytes)) < 2 ^ 64 =
        omega (arith, length-take (min len most) (drop offset bytes), length-drop offset bytes, open_few, offset_small, limit) in
        no_change_fits c.state (with_offset c.process fd (offset + length (read_bytes most c fd len))) (Data (read_bytes most c fd len)) is.state
        (with_offset_fits c.state.tree c.process is.process fd (offset + length (read_bytes most c fd len)) here small)

    lseek_fits_here : (whence : Whence) (by : ℤ) → EffectFits c.state (lseek_effect fd whence by c)
    lseek_fits_here whence by =
        let to = unwrap_or (sought c fd whence by) 0 in
        no_change_fits c.state (with_offset c.process fd to) (At to) is.state
        (with_offset_fits c.state.tree c.process is.process fd to here (sought_small (pos (seek_base c fd whence) +ℤ by)))

    ftruncate_fits_here : (size : ℕ) → size ≤ c.state.room.file_limit → EffectFits c.state (ftruncate_effect fd size c)
    ftruncate_fits_here size low =
        let n = (the_descriptor c.process fd).ino in
        let node = node_open c fd in
        let bytes = bytes_in node.body in
        rewrite_fits c.state Modified n node (resized_node size node) c.process Done is.state open_at
        (bytes_may_replace c.state.room c.state.tree n node open_is (resized bytes size)
        (let len = length-resized bytes size in omega (arith, len, low))
        (IsBytes-resized bytes size (bytes_are_bytes c.state.room c.state.tree node.body open_is.body)))
        is.process

    -- at an offset below the limit
    write_fits_here : (most : ℕ) (bytes : List ℕ) → IsBytes bytes → write_offset c fd < c.state.room.file_limit
        → EffectFits c.state (record {
          change = Rewrite Modified (the_descriptor c.process fd).ino (written (node_open c fd) (write_offset c fd) (take (write_count most c fd bytes) bytes));
          process = with_offset c.process fd (write_offset c fd + write_count most c fd bytes);
          reply = Wrote (write_count most c fd bytes);
        })
    write_fits_here top bytes are below =
        let n = (the_descriptor c.process fd).ino in
        let node = node_open c fd in
        let old = bytes_in node.body in
        let offset = write_offset c fd in
        let limit = c.state.room.file_limit in
        let count = min (length bytes) (min top (limit - offset)) in
        let new = take count bytes in
        let most : limit < 2 ^ 63 = is.state.room.file_limit in
        let far : offset + count ≤ limit = omega (arith, below) in
        let len : offset + length new ≤ limit = omega (arith, far, length-take count bytes) in
        rewrite_fits c.state Modified n node (written node offset new) (with_offset c.process fd (offset + count)) (Wrote count) is.state open_at
        (bytes_may_replace c.state.room c.state.tree n node open_is (overwritten old offset new)
        (length-overwritten old offset new limit open_few len)
        (IsBytes-overwritten old offset new (bytes_are_bytes c.state.room c.state.tree node.body open_is.body) (IsBytes-take count bytes are)))
        (with_offset_fits c.state.tree c.process is.process fd (offset + count) here (omega (arith, far, most)))

  pub read_fits : (most fd len : ℕ) → AreMet (is_bad_to_read fd c.process ∷ []) → EffectFits c.state (read_effect most fd len c)
  read_fits most fd len asked =
      read_fits_here fd (is_read_here c.process fd (not-false _ (unrefused EBADF (not (the_descriptor c.process fd).read) asked.0))) most len

  pub here_if_open : (fd : ℕ) → AreMet (is_bad fd c.process ∷ []) → descriptor c.process fd ≡ Some (the_descriptor c.process fd)
  here_if_open fd asked = is_open_here c.process fd (not-false _ (unrefused EBADF (not (is_some (descriptor c.process fd))) asked.0))

  pub here_if_written : (fd : ℕ) → AreMet (is_bad_to_write fd c.process ∷ []) → descriptor c.process fd ≡ Some (the_descriptor c.process fd)
  here_if_written fd asked = is_written_here c.process fd (not-false _ (unrefused EBADF (not (the_descriptor c.process fd).write) asked.0))

  pub lseek_fits : (fd : ℕ) (whence : Whence) (by : ℤ) → AreMet (is_bad fd c.process ∷ []) → EffectFits c.state (lseek_effect fd whence by c)
  lseek_fits fd whence by asked = lseek_fits_here fd (here_if_open fd asked) whence by

  pub close_fits : (fd : ℕ) → EffectFits c.state (close_effect fd c)
  close_fits fd = no_change_fits c.state _ Done is.state (without_descriptor_fits c.state.tree c.process is.process fd)

  pub ftruncate_fits : (fd size : ℕ) → AreMet (is_bad_to_write fd c.process ∷ []) → AreMet (ftruncate_demands size c)
      → EffectFits c.state (ftruncate_effect fd size c)
  ftruncate_fits fd size asked met =
      let e : nat_lt c.state.room.file_limit size ≡ false = unrefused EFBIG _ met.0 in
      ftruncate_fits_here fd (here_if_written fd asked) size (grind (arith, nat_tests))

  pub write_fits : (most fd : ℕ) (bytes : List ℕ) → IsBytes bytes → AreMet (is_bad_to_write fd c.process ∷ []) → AreMet (write_demands most fd bytes c)
      → EffectFits c.state (write_effect most fd bytes c)
  write_fits most fd bytes are asked met = go (is_empty bytes) met
    where
      go : (b : Bool) → AreMet (only_if (not b) (refuse EFBIG (nat_le c.state.room.file_limit (write_offset c fd)) ∷ no_blocks_for (min (length bytes) most) c ∷ []))
          → EffectFits c.state (cond b (answers c (Wrote 0)) (record {
            change = Rewrite Modified (the_descriptor c.process fd).ino (written (node_open c fd) (write_offset c fd) (take (write_count most c fd bytes) bytes));
            process = with_offset c.process fd (write_offset c fd + write_count most c fd bytes);
            reply = Wrote (write_count most c fd bytes);
          }))
      go true met = answer_fits (Wrote 0)
      go false met =
          let e : nat_le c.state.room.file_limit (write_offset c fd) ≡ false = unrefused EFBIG _ met.0 in
          write_fits_here fd (here_if_written fd asked) most bytes are (grind (arith, nat_tests))
