use Rattle.ref_state.proofs.Lists.{total_is_sum_by}
use Rattle.ref_state.proofs.laws.totals_are_sums.Goals as goal

pub returns : goal.returns
returns c s = total_is_sum_by
