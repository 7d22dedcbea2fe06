use Rattle.std.proofs.Common.{◌≡◌, ◌++◌, take}
use Rattle.run_check.specs.Pieces.{record_places}
use Rattle.run_check.proofs.places.push_places.Given as goal

abbrev pub invariant-loop-record : goal.invariant-loop-record
invariant-loop-record l =
    l.places.items ≡ l.initial.places.items ++ record_places (take l.record-index l.records)
