use Rattle.fuse_state.proofs.StateLaws.{lead_back, lead_nowhere, born_led_nowhere, others_stay}
use Rattle.fuse_state.proofs.laws.nodes_lead_to_objects.Goals as goal

pub returns : goal.returns
returns c = record { back = lead_back; stale = lead_nowhere; fresh = born_led_nowhere; others = others_stay }
