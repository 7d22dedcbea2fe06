use Rattle.std.proofs.Common.{◌≡◌}
use Rattle.same_looks.proofs.answers.same_stamps.Given as goal

abbrev pub invariant-loop-port : goal.invariant-loop-port
invariant-loop-port g l = record {
  a : g.A.Look.behind l.a ≡ g.A.Look.behind l.fn.a;
  b : g.B.Look.behind l.b ≡ g.B.Look.behind l.fn.b;
}
