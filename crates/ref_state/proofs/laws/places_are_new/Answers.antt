use Rattle.ref_state.proofs.OneStepTells.{places_are_new, join_keeps_the_larger}
use Rattle.ref_state.proofs.laws.places_are_new.Goals as goal

pub returns : goal.returns
returns c = record { places = places_are_new; joins = join_keeps_the_larger }
