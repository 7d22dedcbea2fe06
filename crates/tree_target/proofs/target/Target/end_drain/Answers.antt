use Rattle.std.proofs.Common.{ap, ◌∙◌, IsTrue}
use Rattle.tree_target.specs.Steps.{may_end}
use Rattle.tree_target.specs.Kept.{Kept}
use Rattle.tree_target.specs.contracts.target.Target.{the_view}
use Rattle.tree_target.proofs.Simulating.{drained_does, drained_kept}
use Rattle.tree_target.proofs.target.Target.end_drain.Goals as goal

pub returns-clause-does : goal.returns-clause-does
returns-clause-does c =
    let may : IsTrue (may_end c.self.inside.tree c.self.inside.held.items c.args.sub.now
    c.args.nsid) =
    ap (λ (x : Kept). may_end x.tree x.held c.args.sub.now c.args.nsid) c.self.view_is
    ∙ c.requires in
    rw (← c.self.view_is, c.end_drain.ensures)
    (drained_does (the_view c.self.inside) c.args.line c.args.sub.now c.args.nsid may)

pub invariant_of-self : goal.invariant_of-self
invariant_of-self c = rw c.end_drain.ensures
    (drained_kept (the_view c.self.inside) _ c.args.sub.now c.args.nsid c.self.invariant)
