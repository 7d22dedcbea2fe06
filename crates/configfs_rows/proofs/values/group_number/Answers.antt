use Rattle.configfs_rows.proofs.Texts.{long_names_none}
use Rattle.configfs_rows.proofs.values.group_number.Goals as goal

pub returns-then-value-gt3 : goal.returns-then-value-gt3
returns-then-value-gt3 c = long_names_none c.args.value.now c.if-value-gt3.true
