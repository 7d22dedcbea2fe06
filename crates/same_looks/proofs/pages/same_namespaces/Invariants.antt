use Rattle.std.proofs.Common.{◌≡◌}
use Rattle.same_looks.proofs.pages.same_namespaces.Given as goal

abbrev pub invariant-loop-nsid : goal.invariant-loop-nsid
invariant-loop-nsid g l = record {
  a : g.A.Look.behind l.a ≡ g.A.Look.behind l.fn.a;
  b : g.B.Look.behind l.b ≡ g.B.Look.behind l.fn.b;
}
