use Rattle.std.proofs.Common.{refl, arith}
use Rattle.edit_words.proofs.law.table_is_small.Goals as goal

pub returns : goal.returns
returns c = (refl, omega arith)
