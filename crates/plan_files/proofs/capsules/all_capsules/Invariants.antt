use Rattle.std.proofs.Common.{◌≡◌, length, ◌-◌, ◌≤◌, drop, All}
use Rattle.plan_files.specs.Capsules.{IsWholeIn, StandBetween, capsules_in}
use Rattle.plan_files.specs.Rooms.{room_of}
use Rattle.plan_files.specs.CapsuleReading.{capsules_from, capsules_of}
use Rattle.plan_files.proofs.CapsuleLoop.{after_those}
use Rattle.plan_files.proofs.capsules.all_capsules.Given as goal

abbrev pub invariant-loop-at : goal.invariant-loop-at
invariant-loop-at l = record {
  inside : l.at ≤ length l.bytes;
  few : length l.capsules.items ≤ 65536;
  small : l.room ≤ 67108864;
  sized : l.room ≡ room_of (λ c. c.sqe) l.capsules.items;
  so_far : after_those (capsules_in l.bytes l.capsules.items)
      (capsules_from (65536 - length l.capsules.items) l.at l.room (drop l.at l.bytes))
      ≡ capsules_of l.bytes;
  whole : All (IsWholeIn l.bytes) l.capsules.items;
  places : StandBetween 0 l.at l.capsules.items;
}

abbrev pub decreases-loop-at : goal.decreases-loop-at
decreases-loop-at l = length l.initial.bytes - l.at
