use Rattle.std.proofs.Common.{◌≡◌, ℕ, ◌<◌, slice_index_or, Some, None}
use Rattle.ref_state.specs.declared.state.Count.{Count}
use Rattle.ref_allowed.proofs.drain_conditions.have_looked.Given as goal

abbrev pub invariant-loop-other : goal.invariant-loop-other
invariant-loop-other l = (o : ℕ) → o < l.other → (x : Count)
    × (slice_index_or l.looked o None ≡ Some x)
