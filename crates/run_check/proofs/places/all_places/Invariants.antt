use Rattle.std.proofs.Common.{◌≡◌, ◌++◌, take}
use Rattle.run_check.specs.Pieces.{line_places, response_places}
use Rattle.run_check.proofs.places.all_places.Given as goal

abbrev pub invariant-loop-r : goal.invariant-loop-r
invariant-loop-r l =
    l.places.items ≡ line_places l.lines ++ response_places (take l.r-index l.responses)
