use Rattle.target_meaning.proofs.Calling.{published_as}
use Rattle.target_meaning.proofs.law.published_as_computed.Goals as goal

pub returns : goal.returns
returns c = published_as
