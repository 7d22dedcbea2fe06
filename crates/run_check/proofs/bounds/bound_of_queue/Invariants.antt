use Rattle.std.proofs.Common.{◌≤◌, drop, length, map}
use Rattle.response_files.specs.Responses.{response_in}
use Rattle.check_records.specs.Cursors.{capsules_of, progress_at}
use Rattle.check_records.specs.Seats.{responses_of}
use Rattle.run_check.proofs.Bounding.{BodySoFar}
use Rattle.run_check.proofs.bounds.bound_of_queue.Given as goal

abbrev pub invariant-loop-i : goal.invariant-loop-i
invariant-loop-i l = record {
  small : l.cursor.taken ≤ l.i;
  so_far : BodySoFar (length l.file.capsules.items) (capsules_of l.file) (responses_of l.responses)
      l.bound (progress_at l.cursor) l.to
      (map (response_in l.responses.bytes.items) (drop l.i l.responses.records.items));
}
