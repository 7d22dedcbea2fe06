use Rattle.fabrics_connect.proofs.KeptNames.{kept_names_the_same}
use Rattle.fabrics_connect.proofs.law.kept_names_the_same.Goals as goal

pub returns : goal.returns
returns c = kept_names_the_same
