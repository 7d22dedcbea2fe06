use Rattle.std.proofs.Common.{◌≡◌, ◌≤◌, ◌*◌, take}
use Rattle.std.specs.List.{sum_by}
use Rattle.journal_text.specs.Rooms.{line_room}
use Rattle.run_prints.proofs.journal.room_of_journal.Given as goal

abbrev pub invariant-loop-line : goal.invariant-loop-line
invariant-loop-line l = (l.room ≡ sum_by line_room (take l.line-index l.lines))
    × (l.room ≤ l.line-index * 37)
