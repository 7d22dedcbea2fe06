use Rattle.std.proofs.Common.{◌==◌, ap, sym, ◌∙◌}
use Rattle.std.specs.FinMap as maps
use Rattle.configfs_rows.specs.declared.subsystems.SubsystemRow.{SubsystemRow}
use Rattle.configfs_rows.proofs.Scans.{clash, none_passes}
use Rattle.configfs_tree.specs.Asked.{subsystem_place_taken}
use Rattle.configfs_tree.specs.declared.configuration.Configuration.{Configuration}
use Rattle.configfs_tree.proofs.tree.Tree.subsystem.Goals as goal

pub unreachable-requires : goal.unreachable-requires
unreachable-requires c =
    clash _ (ap (λ (t : Configuration). subsystem_place_taken t c.args.at) c.self.view_is
    ∙ c.requires)
    (none_passes (λ (r : SubsystemRow). r.at == c.args.at) (maps.values
    c.self.inside.configuration.settings.subsystems) (sym c.in-None.ensures))
