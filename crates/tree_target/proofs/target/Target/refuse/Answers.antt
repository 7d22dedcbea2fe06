use Rattle.std.proofs.Common.{subst}
use Rattle.configfs_tree.specs.Links.{SubsystemPositions, PortPositions}
use Rattle.tree_target.specs.Kept.{Kept}
use Rattle.tree_target.proofs.Admitting.{refused_does}
use Rattle.tree_target.proofs.target.Target.refuse.Goals as goal

pub returns-clause-does : goal.returns-clause-does
returns-clause-does c = rw (c.complete.ensures, c.qid.ensures)
    (refused_does c.args.self.now c.args.queue c.args.number c.args.e.now c.args.status
    (subst (λ (x : Kept). SubsystemPositions x.tree) c.self.view_is c.subsystem_positions.ensures)
    (subst (λ (x : Kept). PortPositions x.tree) c.self.view_is c.port_positions.ensures)
    c.requires.not_admin c.requires.refused)
