use Rattle.async_events.proofs.Folds.{read_empties, lists_what_changed}
use Rattle.async_events.proofs.law.changed_since_read.Goals as goal

pub returns : goal.returns
returns c = record { empties = read_empties; lists = lists_what_changed }
