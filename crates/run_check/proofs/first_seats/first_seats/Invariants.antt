use Rattle.std.proofs.Common.{◌≡◌, ◌≤◌, ◌*◌, length}
use Rattle.check_records.specs.Seats.{AreFresh, files_of}
use Rattle.run_verdicts.specs.Nexts.{fronts_before}
use Rattle.run_check.proofs.Seating.{SeatsSoFar}
use Rattle.run_check.proofs.first_seats.first_seats.Given as goal

abbrev pub invariant-loop-file : goal.invariant-loop-file
invariant-loop-file l = record {
  all : length l.seats.items ≡ l.file-index;
  before : l.earlier ≡ fronts_before l.file-index (files_of l.files);
  small : l.earlier ≤ l.file-index * 65536;
  fresh : AreFresh l.seats.items;
  first : SeatsSoFar l.files l.file-index l.seats.items;
}
