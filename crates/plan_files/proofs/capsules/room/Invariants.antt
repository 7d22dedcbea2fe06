use Rattle.std.proofs.Common.{◌≡◌, ◌≤◌, ◌+◌, ◌*◌, take}
use Rattle.plan_files.specs.Rooms.{room_of}
use Rattle.plan_files.proofs.capsules.room.Given as goal

abbrev pub invariant-loop-capsule : goal.invariant-loop-capsule
invariant-loop-capsule l = (l.total ≡ room_of (λ c. c.sqe) (take l.capsule-index l.capsules))
    × (l.total ≤ 160 + 131168 * l.capsule-index)
