use Rattle.std.proofs.Common.{◌≡◌, ◌<◌, ℕ, Some, slice_get}
use Rattle.run_transcript.specs.declared.capsule_files.CapsuleFile.{CapsuleFile}
use Rattle.check_records.specs.declared.seats.Seat.{Seat}
use Rattle.check_records.specs.Seats.{EndedAt}
use Rattle.check_records.proofs.ending.are_queues_done.Given as goal

abbrev pub invariant-loop-q : goal.invariant-loop-q
invariant-loop-q l = (k : ℕ) (f : CapsuleFile) (s : Seat) → k < l.q → slice_get l.files k ≡ Some f → slice_get l.seats k ≡ Some s → EndedAt l.target k f s
