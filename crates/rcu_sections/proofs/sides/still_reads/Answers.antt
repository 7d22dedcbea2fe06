use Rattle.std.proofs.Common.{◌∷◌, []}
use Rattle.rcu_sections.proofs.sides.still_reads.Goals as goal

pub returns-then-found-noted-clause-told : goal.returns-then-found-noted-clause-told
returns-then-found-noted-clause-told g c = ((c.args.other, c.look_section-found.result) ∷ [], c.look_section-found.ensures.view)

pub returns-else-found-noted-clause-told : goal.returns-else-found-noted-clause-told
returns-else-found-noted-clause-told g c = ((c.args.other, c.look_section-found.result) ∷ [], c.look_section-found.ensures.view)
