use Rattle.table_rule.proofs.Addresses.{lines_apart}
use Rattle.table_rule.proofs.laws.lines_are_apart.Goals as goal

pub returns : goal.returns
returns c = lines_apart
