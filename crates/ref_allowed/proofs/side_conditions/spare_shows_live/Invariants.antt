use Rattle.std.proofs.Common.{◌≡◌, ◌≢◌, ℕ, ◌+◌, ◌<◌, slice_index}
use Rattle.ref_state.specs.declared.state.Phase.TheVariants as phase
use Rattle.ref_state.specs.State.{side, drain}
use Rattle.ref_allowed.proofs.side_conditions.spare_shows_live.Given as goal

abbrev pub invariant-loop-d : goal.invariant-loop-d
invariant-loop-d l = (e : ℕ) → e < l.d → slice_index (side l.s (l.s.serial + 1)) e ≢ 0
    → (drain l.s.editor e).phase ≡ phase.Live
