use Rattle.std.proofs.Common.{ap, sym, ◌∙◌}
use Rattle.configfs_tree.specs.declared.configuration.Configuration.{Configuration}
use Rattle.tree_target.specs.Loads.{load_from, loaded}
use Rattle.tree_target.proofs.Starts.{loads_target, loaded_fresh}
use Rattle.tree_target.proofs.target.Target.load.Goals as goal

pub returns-clause-loads : goal.returns-clause-loads
returns-clause-loads c =
    loads_target (loaded c.args.lines.now c.args.edits.now) c.in_ok-tree.tree c.end_load.new.self
    c.in-Ok-over.target c.args.lines.now c.args.ports.now
    (ap (λ (t : Configuration). load_from 1 t c.args.edits.now) (sym c.in-Ok.ensures)
    ∙ c.in_ok-tree.ensures) c.end_load.ensures c.in-Ok-over.ensures.stands

pub over-requires-clause-fresh : goal.over-requires-clause-fresh
over-requires-clause-fresh c =
    loaded_fresh c.args.lines.now c.args.edits.now c.in_ok-tree.tree c.end_load.new.self
    (ap (λ (t : Configuration). load_from 1 t c.args.edits.now) (sym c.in-Ok.ensures)
    ∙ c.in_ok-tree.ensures) c.end_load.ensures
