-- The own counters of a killed disk, added up one after the other.
use Rattle.std.specs.Prelude.{◌≡◌, ℕ, ◌%◌, ◌<◌, List, map, length, take, slice_index_or, Option, Some, None}
use Rattle.atomic_table.specs.Table.{Me}
use Rattle.ref_state.specs.declared.state.Count.{Count}
use Rattle.ref_state.specs.State.{total, drain, word_of, word_end}
use Rattle.ref_state.specs.Steps.{count_or}
use Rattle.table_rule.specs.declared.rule.Told.{Told}
use Rattle.table_rule.specs.Plays.{with_life}

-- the counters of the first k seats were looked at, each a whole number, and their words add up to
-- this modulo 2^64
pub record Counting {S : Type 0} (disk k sum : ℕ) (a b : Me S Told) : Type 0 where
  pub looked : List (Option Count)
  pub found : List (ℕ × ℕ)
  pub told : b ≡ (
    record a.0 {
      notes = with_life disk (record (drain a.0.notes disk) { looked = looked }) a.0.notes;
      found = found;
    },
    a.1,
  )
  pub long : length looked ≡ length (drain a.0.notes disk).looked
  pub each : (o : ℕ) → o < k → (x : Count) × (slice_index_or looked o None ≡ Some x)
  pub sum_is : total word_of (map count_or (take k looked)) % word_end ≡ sum
