use Rattle.configfs_rows.proofs.Decimals.{group_names_again}
use Rattle.configfs_rows.proofs.law.group_names_again.Goals as goal

pub returns : goal.returns
returns c = group_names_again c.args._value.now c.args._group
