-- What the adapters over memory keep beside what `Files` and `Sink` speak of.
use Rattle.std.specs.Prelude.{◌≡◌, ℕ, ◌-◌, ◌==◌, min, Bool, if◌then◌else◌, List, length, Option, Result}
use Rattle.std.specs.List.{list_any}
use Rattle.std.specs.Option.{option_map}
use Rattle.std.specs.BTreeMap.{btree_map_len}
use Rattle.run_outside.specs.Outside.{LastCall, next_count}
use Rattle.run_outside.specs.Kept.{kept_call}
use Rattle.run_outside.specs.Stored.{holds, names_after}
use Rattle.run_outside.specs.declared.outside.WriteError.{WriteError}
use Rattle.run_outside.specs.declared.memory.MemFiles.{MemFiles}
use Rattle.run_outside.specs.declared.memory.MemSink.{MemSink}

-- whether the call of this number is one that a list names
abbrev pub is_named : List ℕ → ℕ → Bool
is_named numbers call = list_any (λ n. n == call) numbers

-- ---- files

-- what a name holds
abbrev pub told_of : MemFiles → List ℕ → Option (List ℕ)
told_of files name = holds files.files name

-- how many calls have failed
abbrev pub faults_of : MemFiles → ℕ
faults_of files = files.faults

-- the last call
abbrev pub last_of : MemFiles → Option LastCall
last_of files = option_map kept_call files.last

-- how many calls of `read` and `write` there were
abbrev pub calls_of : MemFiles → ℕ
calls_of files = files.calls

-- the numbers of the calls that fail
abbrev pub failing : MemFiles → List ℕ
failing files = files.fails.items

-- whether the next call is one that fails
abbrev pub fails_next : MemFiles → Bool
fails_next files = is_named files.fails.items files.calls

-- how many names hold something
abbrev pub count_of : MemFiles → ℕ
count_of files = btree_map_len files.files

-- how many names hold something after a write of this answer
abbrev pub count_after : MemFiles → List ℕ → Result (Unit {0}) WriteError → ℕ
count_after files name result = names_after files.files name result

-- one call of `read` or `write` was counted
pub record CountsCall (before after : MemFiles) : Type 0 where
  pub calls : after.calls ≡ next_count before.calls
  pub failing : after.fails.items ≡ before.fails.items

-- ---- the sink

-- the bytes taken so far
abbrev pub taken_of : MemSink → List ℕ
taken_of sink = sink.bytes.items

-- how many calls of `put` have failed
abbrev pub sink_faults : MemSink → ℕ
sink_faults sink = sink.faults

-- how many bytes a sink takes at most
abbrev pub sink_room : MemSink → ℕ
sink_room sink = sink.room

-- how many calls of `put` there were
abbrev pub sink_calls : MemSink → ℕ
sink_calls sink = sink.calls

-- the numbers of the calls of `put` that fail
abbrev pub sink_failing : MemSink → List ℕ
sink_failing sink = sink.fails.items

-- whether the next call of `put` is one that fails
abbrev pub sink_fails_next : MemSink → Bool
sink_fails_next sink = is_named sink.fails.items sink.calls

-- how many bytes of so many the next call of `put` takes: none where it fails, else what fits
abbrev pub takes_next : MemSink → ℕ → ℕ
takes_next sink len = if sink_fails_next sink then 0 else min len
    (sink.room - length sink.bytes.items)

-- one call of `put` was counted
pub record CountsPut (before after : MemSink) : Type 0 where
  pub calls : after.calls ≡ next_count before.calls
  pub failing : after.fails.items ≡ before.fails.items
  pub room : after.room ≡ before.room
