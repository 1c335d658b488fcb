use Rattle.fs_model.proofs.NoIoErrors.{walks_are_no_eio, firm_is_no_eio, other_is_no_eio}
use Rattle.fs_model.proofs.NoIoReplies.{effects_are_no_eio}
use Rattle.fs_model.proofs.laws.no_demand_is_an_io_error.Goals as goal

pub returns : goal.returns
returns c = record { walks = walks_are_no_eio; firm = firm_is_no_eio; other = other_is_no_eio; effects = effects_are_no_eio }
