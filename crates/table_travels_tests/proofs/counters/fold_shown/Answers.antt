use Rattle.std.proofs.Common.{◌≡◌, ◌+◌, ◌%◌, [], ◌∷◌, Some, refl, ap, ◌∙◌}
use Rattle.ref_state.specs.declared.state.Editor.{Editor}
use Rattle.ref_state.specs.State.{word_of, word_end}
use Rattle.table_rule.specs.Plays.{with_life, counted}
use Rattle.table_seats.specs.Lives.{passed, killed_life}
use Rattle.table_seats.proofs.Living as living
use Rattle.table_seats.proofs.Submitting.{Mine}
use Rattle.table_travels_tests.proofs.counters.fold_shown.Goals as goal

pub fold-requires-clause-folds : goal.fold-requires-clause-folds
fold-requires-clause-folds g c = let p = c.requires.edits.0 in let e = c.requires.edits.1 in
    let l = c.look_counter-zeroth.ensures.view in let m = c.look_counter-first.ensures.view in let n = c.look_counter-second.ensures.view in
    let last : Editor = living.looked_life (Some l.0 ∷ (Some m.0 ∷ (Some n.0 ∷ []))) (passed p killed_life) in
    let moved = living.edits_move (passed p killed_life) last 0 1 c.args.editor.now.base.me.0 c.look_counter-second.new.seat.base.me.0 e
    (ap (λ (w : Mine). w.0.notes) n.2 ∙ (ap (λ (w : Mine). with_life 0 (counted 0 2 n.0 w.0.notes) w.0.notes) m.2
    ∙ (ap (λ (w : Mine). let k = with_life 0 (counted 0 1 m.0 w.0.notes) w.0.notes in with_life 0 (counted 0 2 n.0 k) k) l.2
    ∙ λ i. let j = with_life 0 (counted 0 0 l.0 (e.notes_are i)) (e.notes_are i) in let k = with_life 0 (counted 0 1 m.0 j) j in with_life 0 (counted 0 2 n.0 k) k)))
    (ap (λ (w : Mine). w.0.seats) n.2 ∙ (ap (λ (w : Mine). w.0.seats) m.2 ∙ ap (λ (w : Mine). w.0.seats) l.2))
    (ap (λ (w : Mine). w.0.view.number) n.2 ∙ (ap (λ (w : Mine). w.0.view.number) m.2 ∙ ap (λ (w : Mine). w.0.view.number) l.2))
    (ap (λ (w : Mine). w.0.claims) n.2 ∙ (ap (λ (w : Mine). w.0.claims) m.2 ∙ ap (λ (w : Mine). w.0.claims) l.2))
    (ap (λ (w : Mine). w.0.known) n.2 ∙ (ap (λ (w : Mine). w.0.known) m.2 ∙ ap (λ (w : Mine). w.0.known) l.2)) in
    let sum : (c.look_counter-zeroth.result + (c.look_counter-first.result + c.look_counter-second.result)) % word_end ≡ (word_of l.0 + (word_of m.0 + word_of n.0)) % word_end = λ i. (l.1 i + (m.1 i + n.1 i)) % word_end in
    living.folds_three last 0 1 p c.look_counter-second.new.seat.base.me.0 l.0 m.0 n.0 _ moved refl (living.delta_is c.look_counter-zeroth.result c.look_counter-first.result c.look_counter-second.result ∙ sum)
