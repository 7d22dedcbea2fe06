use Rattle.ref_state.proofs.OneStepTells.{put_that_finds_one}
use Rattle.ref_state.proofs.laws.put_tells_the_end.Goals as goal

pub returns : goal.returns
returns c = put_that_finds_one
