use Rattle.std.proofs.Common.{◌≡◌, map, Some}
use Rattle.target_table.proofs.opening.filled.Given as goal

abbrev pub invariant-loop-extent : goal.invariant-loop-extent
invariant-loop-extent g l = l.slots.items ≡ map Some l.yielded
