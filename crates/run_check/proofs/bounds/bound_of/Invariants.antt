use Rattle.std.proofs.Common.{drop}
use Rattle.check_records.specs.Seats.{all_responses, files_of}
use Rattle.run_check.proofs.Bounding.{BodiesSoFar}
use Rattle.run_check.proofs.bounds.bound_of.Given as goal

abbrev pub invariant-loop-i : goal.invariant-loop-i
invariant-loop-i l = BodiesSoFar l.lines (files_of l.files) (all_responses l.responses) l.i l.bound
    (files_of (drop l.i l.files)) (all_responses (drop l.i l.responses))
