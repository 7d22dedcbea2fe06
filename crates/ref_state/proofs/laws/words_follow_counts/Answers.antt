use Rattle.ref_state.proofs.OneStepTells.{words_follow_counts}
use Rattle.ref_state.proofs.laws.words_follow_counts.Goals as goal

pub returns : goal.returns
returns c = words_follow_counts
