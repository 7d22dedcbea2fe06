use Rattle.std.proofs.Common.{◌≡◌, ℕ, ◌<◌}
use Rattle.ref_state.specs.declared.state.Mark.TheVariants.{Passed}
use Rattle.ref_state.specs.State.{mark}
use Rattle.ref_allowed.proofs.side_conditions.have_passed.Given as goal

abbrev pub invariant-loop-seat : goal.invariant-loop-seat
invariant-loop-seat l = (j : ℕ) → j < l.seat → mark l.marks j ≡ Passed
