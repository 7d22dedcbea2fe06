use Rattle.std.proofs.Common.{ap, subst, sym, ◌∙◌}
use Rattle.configfs_tree.specs.Phases.{phase_at}
use Rattle.configfs_tree.specs.Standing.{IsStanding}
use Rattle.configfs_tree.specs.declared.configuration.Configuration.{Configuration}
use Rattle.configfs_tree.proofs.Stands.{drain_stands}
use Rattle.configfs_tree.proofs.tree.Tree.end_drain.Goals as goal

pub invariant_of-self : goal.invariant_of-self
invariant_of-self c =
    let t = c.self.inside.configuration in
    subst (λ (u : Configuration). IsStanding u) (sym c.free_disk.ensures)
    (drain_stands t c.args.sub.now c.args.nsid (ap (λ (u : Configuration). phase_at u c.args.sub.now
    c.args.nsid) c.self.view_is ∙ c.requires) c.self.invariant)
