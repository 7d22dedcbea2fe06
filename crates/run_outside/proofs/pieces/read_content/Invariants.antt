use Rattle.std.proofs.Common.{◌≡◌, ◌≤◌, ◌+◌, ◌-◌, length, take, drop}
use Rattle.std.specs.Io.KnownBytes.{Consumes}
use Rattle.run_outside.proofs.pieces.read_content.Given as goal

abbrev pub invariant-loop-filled : goal.invariant-loop-filled
invariant-loop-filled g l =
    record {
      front : take (length l.initial.into.items) l.into.items ≡ l.initial.into.items;
      start : length l.initial.into.items ≤ l.filled;
      filled : l.filled ≤ length l.into.items;
      room : length l.into.items ≤ l.filled + 65536;
      few : length l.into.items ≤ length l.initial.into.items + l.limit + 1;
      consumed : Consumes (g.S.Read.remaining l.initial.source) (g.S.Read.remaining l.source)
          (drop (length l.initial.into.items) (take l.filled l.into.items));
    }

abbrev pub decreases-loop-filled : goal.decreases-loop-filled
decreases-loop-filled g l = length l.initial.into.items + l.limit + 1 - l.filled
