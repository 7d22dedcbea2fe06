use Rattle.std.proofs.Common.{arith}
use Rattle.std.proofs.lemmas.Map.Text.{text_keys}
use Rattle.run_outside.proofs.memory.store.Goals as goal

pub returns-in-Ok-insert-clause-stored : goal.returns-in-Ok-insert-clause-stored
returns-in-Ok-insert-clause-stored c = record {
  others = λ other differs. grind (arith, text_keys);
  this = grind (arith, text_keys);
}
