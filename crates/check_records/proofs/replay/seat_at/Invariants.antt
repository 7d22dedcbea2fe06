use Rattle.std.proofs.Common.{◌≡◌, ◌<◌, ℕ, Some}
use Rattle.check_records.specs.Seats.{seat_place}
use Rattle.check_records.proofs.replay.seat_at.Given as goal

abbrev pub invariant-loop-q : goal.invariant-loop-q
invariant-loop-q l = (k : ℕ) → k < l.q → seat_place l.seats l.responses k ≡ Some l.place → ⊥
