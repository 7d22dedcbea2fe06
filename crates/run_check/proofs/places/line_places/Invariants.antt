use Rattle.std.proofs.Common.{◌≡◌, take}
use Rattle.run_check.specs.Pieces.{line_places}
use Rattle.run_check.proofs.places.line_places.Given as goal

abbrev pub invariant-loop-line : goal.invariant-loop-line
invariant-loop-line l = l.places.items ≡ line_places (take l.line-index l.lines)
