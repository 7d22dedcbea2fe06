use Rattle.std.proofs.Common.{◌≡◌, ◌-◌}
use Rattle.sqe_cqe.specs.Answers.{view_of}
use Rattle.ana_groups.specs.Chains.{AreAbove}
use Rattle.ana_groups.proofs.members.find_members.Given as goal

abbrev pub invariant-loop-i : goal.invariant-loop-i
invariant-loop-i g l =
    let v = view_of (g.L.Look.told (g.L.Look.behind l.fn.look)) l.b in
    record {
      behind : g.L.Look.behind l.look ≡ g.L.Look.behind l.fn.look;
      above : AreAbove v (l.offers.nsids - l.i) l.i l.members;
    }
