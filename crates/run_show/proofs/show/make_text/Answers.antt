use Rattle.run_show.proofs.Ending.{shows_text}
use Rattle.run_show.proofs.show.make_text.Goals as goal

pub returns-in-Ok-tree_line-clause-made : goal.returns-in-Ok-tree_line-clause-made
returns-in-Ok-tree_line-clause-made g c = λ name plan_read.
    shows_text _ c.args.plan.now _ _ _ name c.in-Ok.ensures.read
    (rw c.tree.ensures at c.in-Ok-tree_line.ensures) plan_read
