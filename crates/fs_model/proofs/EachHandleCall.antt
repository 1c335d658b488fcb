-- What the laws need of each handle_call by a handle, as each_call says of calls.
--     IsLawfulHandleCall        what they need
--     each_handle_call        each handle_call's case
use Rattle.std.specs.Prelude.{◌≡◌, ℕ, nat_le, min, false, not, [], ◌∷◌, length}
use Rattle.std.proofs.Common.{refl}
use Rattle.fs_cred.specs.declared.errno.Errno.TheVariants.{EBADF, ENOTDIR, EISDIR, EFBIG, ENOSPC}
use Rattle.fs_model.specs.declared.event.HandleCall.{HandleCall}
use Rattle.fs_model.specs.declared.event.HandleCall.TheVariants.{Read, Write, Resize, Show, List as ListNames, Close}
use Rattle.fs_model.specs.Limits.{handle_read_limit, handle_write_limit}
use Rattle.fs_model.specs.Demands.{refuse}
use Rattle.fs_model.specs.Parts.{is_empty}
use Rattle.fs_model.specs.Rows.{row_of}
use Rattle.fs_model.specs.Scenes.{Scene, Row, is_bad, is_bad_to_read, is_bad_to_write, nothing_asked}
use Rattle.fs_model.specs.DescriptorCalls.{read_demands, read_effect, write_offset, no_blocks_for, write_demands, write_effect, close_effect, fstat_effect, ftruncate_demands, ftruncate_effect, readdir_demands, readdir_effect}
use Rattle.fs_model.specs.HandleCalls.{handle_call_row}
use Rattle.fs_model.specs.Ranges.{IsHandleCall}
use Rattle.fs_model.specs.Stops.{is_io_error}
use Rattle.fs_model.proofs.StepsDemands.{AreMet}
use Rattle.fs_model.proofs.StepsFit.{IsScene, EffectFits}
use Rattle.fs_model.proofs.StepsOfDescriptors.{answer_fits, read_fits, write_fits, close_fits, ftruncate_fits}
use Rattle.fs_model.proofs.NoIoDemands.{RowSpares, refused, only, by_fd}
use Rattle.fs_model.proofs.VeiledScenes.{veiled_scene}
use Rattle.fs_model.proofs.VeiledDemands.{read_asks, readdir_asks, write_asks}
use Rattle.fs_model.proofs.ConfinedLooks.{fstat_confined, readdir_confined}
use Rattle.fs_model.proofs.ConfinedReads.{close_confined, read_confined}
use Rattle.fs_model.proofs.ConfinedRewrites.{ftruncate_confined, write_confined}
use Rattle.fs_model.proofs.ConfinedSteps.{ConfinesRow}
use Rattle.fs_model.proofs.EachCall.{write_spares}

pub record IsLawfulHandleCall (row : Row) (in_range : Type 0) : Type 0 where
  -- it refuses nothing with EIO, and answers no EIO
  pub spares : RowSpares row
  pub replies : (c : Scene) (new : ℕ) → is_io_error (row.effect c new).reply ≡ false
  -- what it asks depends on no byte of a file
  pub asks : (c : Scene) → row.demands (veiled_scene c) ≡ row.demands c
  -- what it leaves fits
  pub fits : (c : Scene) → IsScene c → in_range → AreMet (row.early c.process) → AreMet (row.demands c) → (new : ℕ) → EffectFits c.state (row.effect c new)
  -- bytes that can't be seen have no part in what it does
  pub confines : ConfinesRow row

pub each_handle_call : (handle_call : HandleCall) → IsLawfulHandleCall (handle_call_row handle_call) (IsHandleCall handle_call)
unfolding handle_call_row row_of
each_handle_call (Read offset len) = record {
  spares = by_fd (is_bad_to_read 0) (read_demands 0) (read_effect handle_read_limit 0 len) (λ p. refused EBADF _ refl) (λ s. (refused EISDIR _ refl, tt));
  replies = λ c new. refl;
  asks = λ c. read_asks c 0;
  fits = λ c is range asked met new. read_fits c is handle_read_limit 0 len asked;
  confines = read_confined handle_read_limit 0 len;
}
each_handle_call (Write offset bytes) = record {
  spares = by_fd (is_bad_to_write 0) (write_demands handle_write_limit 0 bytes) (write_effect handle_write_limit 0 bytes) (λ p. refused EBADF _ refl) (λ s. only (not (is_empty bytes)) (refuse EFBIG (nat_le s.state.room.file_limit (write_offset s 0)) ∷ no_blocks_for (min (length bytes) handle_write_limit) s ∷ []) (refused EFBIG _ refl, (refused ENOSPC _ refl, tt)));
  replies = λ c new. write_spares handle_write_limit 0 bytes c;
  asks = λ c. write_asks c handle_write_limit 0 bytes;
  fits = λ c is range asked met new. write_fits c is handle_write_limit 0 bytes range.1 asked met;
  confines = write_confined handle_write_limit 0 bytes;
}
each_handle_call (Resize size) = record {
  spares = by_fd (is_bad_to_write 0) (ftruncate_demands size) (ftruncate_effect 0 size) (λ p. refused EBADF _ refl) (λ s. (refused EFBIG _ refl, tt));
  replies = λ c new. refl;
  asks = λ c. refl;
  fits = λ c is range asked met new. ftruncate_fits c is 0 size asked met;
  confines = ftruncate_confined 0 size;
}
each_handle_call Show = record {
  spares = by_fd (is_bad 0) nothing_asked (fstat_effect 0) (λ p. refused EBADF _ refl) (λ s. tt);
  replies = λ c new. refl;
  asks = λ c. refl;
  fits = λ c is range asked met new. answer_fits c is _;
  confines = fstat_confined 0;
}
each_handle_call ListNames = record {
  spares = by_fd (is_bad_to_read 0) (readdir_demands 0) (readdir_effect 0) (λ p. refused EBADF _ refl) (λ s. (refused ENOTDIR _ refl, tt));
  replies = λ c new. refl;
  asks = λ c. readdir_asks c 0;
  fits = λ c is range asked met new. answer_fits c is _;
  confines = readdir_confined 0;
}
each_handle_call Close = record {
  spares = by_fd (is_bad 0) nothing_asked (close_effect 0) (λ p. refused EBADF _ refl) (λ s. tt);
  replies = λ c new. refl;
  asks = λ c. refl;
  fits = λ c is range asked met new. close_fits c is 0;
  confines = close_confined 0;
}
