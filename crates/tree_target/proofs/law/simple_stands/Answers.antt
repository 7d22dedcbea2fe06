use Rattle.tree_target.proofs.Simples.{simple_stands}
use Rattle.tree_target.proofs.law.simple_stands.Goals as goal

pub returns : goal.returns
returns c = simple_stands
