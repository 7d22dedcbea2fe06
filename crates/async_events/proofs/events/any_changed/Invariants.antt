use Rattle.std.proofs.Common.{◌≡◌, false}
use Rattle.sqe_cqe.specs.Answers.{view_of}
use Rattle.async_events.specs.Stamps.{any_after, stamps_of}
use Rattle.async_events.proofs.events.any_changed.Given as goal

abbrev pub invariant-loop-at : goal.invariant-loop-at
invariant-loop-at g l = record {
  behind : g.L.Look.behind l.look ≡ g.L.Look.behind l.fn.look;
  none : any_after l.at l.seen (stamps_of (view_of (g.L.Look.told (g.L.Look.behind l.fn.look)) l.b)) ≡ false;
}
