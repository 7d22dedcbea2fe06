use Rattle.std.proofs.Common.{◌≡◌, ◌++◌}
use Rattle.gen_files.specs.Entries.{event_entry}
use Rattle.gen_files.specs.Commands.{entries_from}
use Rattle.gen_files.proofs.commands.push_events.Given as goal

abbrev pub invariant-loop-n : goal.invariant-loop-n
invariant-loop-n l = l.to.items ≡ l.fn.to.items ++ entries_from event_entry l.first l.n
