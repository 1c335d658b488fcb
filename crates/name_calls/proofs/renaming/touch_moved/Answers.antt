use Rattle.name_calls.proofs.renaming.touch_moved.Goals as goal

pub returns-in-Some : goal.returns-in-Some
returns-in-Some g c = rw c.in-Some.is c.touch.ensures

pub returns-in-None : goal.returns-in-None
returns-in-None g c = rw c.in-None.is c.touch-in-None.ensures

pub touch-requires : goal.touch-requires
touch-requires g c = rw c.in-Some.is at c.requires

pub touch-requires-in-None : goal.touch-requires-in-None
touch-requires-in-None g c = rw c.in-None.is at c.requires
