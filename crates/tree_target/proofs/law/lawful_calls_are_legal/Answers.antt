use Rattle.tree_target.proofs.Replays.{legal}
use Rattle.tree_target.proofs.law.lawful_calls_are_legal.Goals as goal

pub returns : goal.returns
returns c = legal
