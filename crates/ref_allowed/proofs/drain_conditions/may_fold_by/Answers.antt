use Rattle.std.proofs.Common.{◌≡◌, ◌↔◌, ℕ, ◌+◌, ◌%◌, ◌<◌, IsTrue, map, slice_index_or, Some, None, subst}
use Rattle.ref_state.specs.declared.state.Count.{Count}
use Rattle.ref_state.specs.declared.state.Drain.{Drain}
use Rattle.ref_state.specs.State.{no_drain, total, word_of, bias}
use Rattle.ref_state.specs.Steps.{count_or}
use Rattle.ref_allowed.proofs.drain_conditions.may_fold_by.Goals as goal

pub returns : goal.returns
returns c = subst (λ (b : Drain). IsTrue c.drain_folds_by.result ↔
    (((o : ℕ) → o < c.args.s.now.seats → (x : Count) × (slice_index_or b.looked o None ≡ Some x))
    × ((c.args.delta + (total word_of b.bases + bias)) % 18446744073709551616
    ≡ total word_of (map count_or b.looked) % 18446744073709551616)))
    (c.at.ensures no_drain) c.drain_folds_by.ensures
