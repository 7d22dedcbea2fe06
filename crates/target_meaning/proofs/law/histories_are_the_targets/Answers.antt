use Rattle.target_meaning.proofs.Replaying.{histories_legal, replies_are, states_are}
use Rattle.target_meaning.proofs.law.histories_are_the_targets.Goals as goal

pub returns-clause-states : goal.returns-clause-states
returns-clause-states c = states_are

pub returns-clause-replies : goal.returns-clause-replies
returns-clause-replies c = replies_are

pub returns-clause-legal : goal.returns-clause-legal
returns-clause-legal c = histories_legal
