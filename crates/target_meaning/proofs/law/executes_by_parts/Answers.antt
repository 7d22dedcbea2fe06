use Rattle.target_meaning.proofs.Working.{by_parts}
use Rattle.target_meaning.proofs.law.executes_by_parts.Goals as goal

pub returns : goal.returns
returns c = by_parts
