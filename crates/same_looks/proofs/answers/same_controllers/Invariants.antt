use Rattle.std.proofs.Common.{◌≡◌}
use Rattle.same_looks.proofs.answers.same_controllers.Given as goal

abbrev pub invariant-loop-ctrl : goal.invariant-loop-ctrl
invariant-loop-ctrl g l = record {
  a : g.A.Look.behind l.a ≡ g.A.Look.behind l.fn.a;
  b : g.B.Look.behind l.b ≡ g.B.Look.behind l.fn.b;
}
