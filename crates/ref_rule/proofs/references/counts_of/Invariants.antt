use Rattle.std.proofs.Common.{◌≡◌, map, take}
use Rattle.ref_state.specs.Steps.{count_or}
use Rattle.ref_rule.proofs.references.counts_of.Given as goal

abbrev pub invariant-loop-found : goal.invariant-loop-found
invariant-loop-found l = l.counts ≡ map count_or (take l.found-index l.looked)
