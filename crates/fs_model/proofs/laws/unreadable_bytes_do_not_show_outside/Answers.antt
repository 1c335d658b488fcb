use Rattle.fs_model.proofs.ConfinedOutsiders.{outsiders_confined, actors_keep_alike, alike_to_credentials}
use Rattle.fs_model.proofs.BetweenEvents.{others_keep_alike, outsider_runs_confined}
use Rattle.fs_model.proofs.ConfinedListings.{listings_keep_alike}
use Rattle.fs_model.proofs.ListingRuns.{listing_runs_confined}
use Rattle.fs_model.proofs.StayOpen.{handles_stay_open, opens_are_others}
use Rattle.fs_model.proofs.laws.unreadable_bytes_do_not_show_outside.Goals as goal

pub returns : goal.returns
returns c = record { one = outsiders_confined; runs = outsider_runs_confined; others = others_keep_alike; listings = listings_keep_alike; several = listing_runs_confined; stay = handles_stay_open; apart = opens_are_others; keeps = actors_keep_alike; alike = alike_to_credentials }
