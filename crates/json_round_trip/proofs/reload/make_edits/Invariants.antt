use Rattle.std.proofs.Common.{◌≡◌, ◌+◌, drop}
use Rattle.tree_target.specs.Loads.{load_from}
use Rattle.json_round_trip.proofs.reload.make_edits.Given as goal

abbrev pub invariant-loop-i : goal.invariant-loop-i
invariant-loop-i l = load_from 1 l.fn.tree l.edits ≡ load_from (l.i + 1) l.made (drop l.i l.edits)
