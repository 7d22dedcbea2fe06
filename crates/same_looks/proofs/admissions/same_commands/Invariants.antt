use Rattle.std.proofs.Common.{◌≡◌}
use Rattle.same_looks.proofs.admissions.same_commands.Given as goal

abbrev pub invariant-loop-opcode : goal.invariant-loop-opcode
invariant-loop-opcode g l = record {
  a : g.A.Look.behind l.a ≡ g.A.Look.behind l.fn.a;
  b : g.B.Look.behind l.b ≡ g.B.Look.behind l.fn.b;
}
