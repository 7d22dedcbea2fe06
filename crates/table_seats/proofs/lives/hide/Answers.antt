use Rattle.std.proofs.Common.{◌∷◌, [], refl, ap, sym, ◌∙◌}
use Rattle.table_rule.specs.Plays.{spare_of}
use Rattle.table_seats.specs.Lives.{started}
use Rattle.table_seats.proofs.Living as living
use Rattle.table_seats.proofs.Submitting.{Mine}
use Rattle.table_seats.proofs.lives.hide.Goals as goal

pub store_row-requires-clause-passed : goal.store_row-requires-clause-passed
store_row-requires-clause-passed g c = living.all_passed started 1 0 c.args.editor.now.base.me.0 c.requires.edits refl

pub publish-requires-clause-passed : goal.publish-requires-clause-passed
publish-requires-clause-passed g c = let e = c.requires.edits in let v = c.store_row.ensures.view in
    let moved = living.edits_move started (record started { pending = (0, 0) ∷ [] }) 1 0 c.args.editor.now.base.me.0 c.store_row.new.seat.base.me.0 e (ap (λ (z : Mine). z.0.notes) v ∙ λ i. record (e.notes_are i) { pending = (0, 0) ∷ (e.notes_are i).pending }) (ap (λ (z : Mine). z.0.seats) v) (ap (λ (z : Mine). z.0.view.number) v) (ap (λ (z : Mine). z.0.claims) v) (ap (λ (z : Mine). z.0.known) v) in
    living.all_passed (record started { pending = (0, 0) ∷ [] }) 1 0 c.store_row.new.seat.base.me.0 moved refl

pub publish-requires-clause-live : goal.publish-requires-clause-live
publish-requires-clause-live g c = let e = c.requires.edits in let v = c.store_row.ensures.view in
    let moved = living.edits_move started (record started { pending = (0, 0) ∷ [] }) 1 0 c.args.editor.now.base.me.0 c.store_row.new.seat.base.me.0 e (ap (λ (z : Mine). z.0.notes) v ∙ λ i. record (e.notes_are i) { pending = (0, 0) ∷ (e.notes_are i).pending }) (ap (λ (z : Mine). z.0.seats) v) (ap (λ (z : Mine). z.0.view.number) v) (ap (λ (z : Mine). z.0.claims) v) (ap (λ (z : Mine). z.0.known) v) in
    λ d near shown. living.live_disk c.store_row.new.seat.base.me.0 (record started { pending = (0, 0) ∷ [] }) 1 0 moved refl _ c.requires.plan.1 d near

pub publish-requires-clause-words : goal.publish-requires-clause-words
publish-requires-clause-words g c = let e = c.requires.edits in let v = c.store_row.ensures.view in
    λ t steady long. sym (ap spare_of (ap (λ (z : Mine). z.0.notes) v ∙ λ i. record (e.notes_are i) { pending = (0, 0) ∷ (e.notes_are i).pending }))

pub returns-clause-edits : goal.returns-clause-edits
returns-clause-edits g c = let e = c.requires.edits in let v = c.store_row.ensures.view in
    let moved = living.edits_move started (record started { pending = (0, 0) ∷ [] }) 1 0 c.args.editor.now.base.me.0 c.store_row.new.seat.base.me.0 e (ap (λ (z : Mine). z.0.notes) v ∙ λ i. record (e.notes_are i) { pending = (0, 0) ∷ (e.notes_are i).pending }) (ap (λ (z : Mine). z.0.seats) v) (ap (λ (z : Mine). z.0.view.number) v) (ap (λ (z : Mine). z.0.claims) v) (ap (λ (z : Mine). z.0.known) v) in
    living.hides c.store_row.new.seat.base.me.0 c.publish.new.seat.base.me.0 c.publish.result.0 c.publish.result.1 moved c.publish.ensures.published (ap (λ (z : Rattle.table_rule.specs.declared.rule.Told.Told). z.view.number) c.publish.ensures.published.told)
