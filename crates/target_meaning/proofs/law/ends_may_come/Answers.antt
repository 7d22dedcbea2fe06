use Rattle.target_meaning.proofs.Calling.{ends_come}
use Rattle.target_meaning.proofs.law.ends_may_come.Goals as goal

pub returns : goal.returns
returns c = ends_come
