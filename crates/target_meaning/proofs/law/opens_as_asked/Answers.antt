use Rattle.target_meaning.proofs.Opened.{opens_as}
use Rattle.target_meaning.proofs.law.opens_as_asked.Goals as goal

pub returns : goal.returns
returns c = opens_as
