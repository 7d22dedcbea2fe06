use Rattle.configfs_rows.proofs.Placing.{lowest_is_free}
use Rattle.configfs_rows.proofs.law.lowest_is_free.Goals as goal

pub returns : goal.returns
returns c = lowest_is_free
