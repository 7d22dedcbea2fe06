use Rattle.std.proofs.Common.{subst, sym}
use Rattle.configfs_tree.specs.Standing.{IsStanding}
use Rattle.configfs_tree.specs.declared.configuration.Configuration.{Configuration}
use Rattle.configfs_tree.proofs.Stands.{start_stands}
use Rattle.configfs_tree.proofs.tree.Tree.new.Goals as goal

pub invariant_of-result : goal.invariant_of-result
invariant_of-result c = subst (λ (t : Configuration). IsStanding t)
    (sym c.in_ok-configuration.ensures) (start_stands c.args.disks.now c.requires)
