use Rattle.std.proofs.Common.{length, ◌-◌, ◌≡◌, ◌≤◌, drop, All}
use Rattle.response_files.specs.Responses.{IsWholeIn, StandBetween, responses_in}
use Rattle.response_files.specs.ResponseReading.{responses_from, responses_of}
use Rattle.response_files.proofs.Fronting.{after_those}
use Rattle.response_files.proofs.responses.all_records.Given as goal

abbrev pub invariant-loop-at : goal.invariant-loop-at
invariant-loop-at l = record {
  inside : l.at ≤ length l.bytes;
  few : length l.records.items ≤ l.at;
  so_far : after_those (responses_in l.bytes l.records.items)
      (responses_from (length l.bytes - length l.records.items) l.at (drop l.at l.bytes))
      ≡ responses_of l.bytes;
  whole : All (IsWholeIn l.bytes) l.records.items;
  places : StandBetween 0 l.at l.records.items;
}

abbrev pub decreases-loop-at : goal.decreases-loop-at
decreases-loop-at l = length l.initial.bytes - l.at
