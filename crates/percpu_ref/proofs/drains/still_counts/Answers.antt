use Rattle.std.proofs.Common.{Option, ◌∷◌, [], ◌∙◌, ap, arith}
use Rattle.atomic_table.specs.Table.{Me}
use Rattle.ref_state.specs.State.{mark, drain}
use Rattle.table_rule.specs.declared.rule.Told.{Told}
use Rattle.percpu_ref.proofs.Killing.{look_passes}
use Rattle.percpu_ref.proofs.drains.still_counts.Goals as goal

pub returns-then-found-noted-clause-told : goal.returns-then-found-noted-clause-told
returns-then-found-noted-clause-told g c = ((c.args.other, c.look_section-found.result) ∷ [], c.look_section-found.ensures.view)

pub returns-else-found-noted-clause-told : goal.returns-else-found-noted-clause-told
returns-else-found-noted-clause-told g c = ((c.args.other, c.look_section-found.result) ∷ [], c.look_section-found.ensures.view)

pub returns-else-found-noted-clause-passed : goal.returns-else-found-noted-clause-passed
returns-else-found-noted-clause-passed g c = let k = c.args.killed.now in let e = c.args.editor.now in
    ap (λ (z : Me (Option g.row.S.Denot) Told). mark (drain z.0.notes k.disk).marks c.args.other) c.look_section-found.ensures.view
    ∙ look_passes k.disk c.args.other c.look_section-found.result k.words e.seat.base.me.0 c.requires.killed (let n = e.seats_are in let near = c.requires.there in omega arith) c.if-found-noted.false
