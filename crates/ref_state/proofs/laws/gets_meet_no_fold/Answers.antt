use Rattle.ref_state.proofs.Consequences.{shown_counts, gets_meet_no_fold}
use Rattle.ref_state.proofs.laws.gets_meet_no_fold.Goals as goal

pub returns : goal.returns
returns c = record { shown = shown_counts; gets = gets_meet_no_fold }
