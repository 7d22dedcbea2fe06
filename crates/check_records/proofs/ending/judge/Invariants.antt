use Rattle.std.proofs.Common.{◌≡◌, ◌≤◌, length}
use Rattle.mem_bdev.specs.declared.limits.TheConstants.{MAX_TRANSFER}
use Rattle.tree_target.specs.Stands.{StandsFor}
use Rattle.run_transcript.specs.Runs.{Run, target_at}
use Rattle.run_verdicts.specs.Places.{ArePlaces}
use Rattle.run_verdicts.specs.Nexts.{told, places_of}
use Rattle.check_records.specs.Told.{IsTold}
use Rattle.check_records.specs.Seats.{Laid, IsBound, AreSeated, IsAtDesk, files_of, all_responses, index_of}
use Rattle.check_records.proofs.ending.judge.Given as goal

abbrev pub invariant-loop-place : goal.invariant-loop-place
invariant-loop-place l = record {
  seats : length l.seats ≡ length l.files;
  queues : length l.target.bindings ≡ length l.files;
  seated : AreSeated l.target (files_of l.files) (all_responses l.responses) l.seats;
  desk : IsAtDesk l.script l.journal l.desk;
  room : MAX_TRANSFER ≤ l.buffer.room;
  laid : (run : Run) → IsTold l.n run l.script (files_of l.files) (all_responses l.responses) l.journal → IsBound run l.bound → ArePlaces l.n (places_of (told run))
      → StandsFor l.initial.target run.start → Laid l.n l.place run (index_of l.desk.next l.seats) × StandsFor l.target (target_at run l.place);
}
