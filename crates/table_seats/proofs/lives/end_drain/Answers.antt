use Rattle.std.proofs.Common.{true, refl, ap, ◌∙◌}
use Rattle.ref_state.specs.declared.state.Editor.{Editor}
use Rattle.ref_state.specs.declared.state.Phase.TheVariants as phase
use Rattle.table_rule.specs.declared.rule.Told.{Told}
use Rattle.table_rule.specs.Plays.{zero_notes, armed, revived, with_life}
use Rattle.table_seats.specs.Lives.{Edits, passed, counted_life, next_life}
use Rattle.table_seats.proofs.Living as living
use Rattle.table_seats.proofs.Submitting.{Mine}
use Rattle.table_seats.proofs.lives.end_drain.Goals as goal

pub returns-clause-ended : goal.returns-clause-ended
returns-clause-ended g c = λ place is. let r = c.requires.edits in
    let was : Editor = passed r.0 (counted_life phase.Folded r.1 r.2 r.3) in let empty : Editor = passed r.0 (counted_life phase.Drained r.1 r.2 r.3) in
    let over : Editor = passed r.0 (record (counted_life phase.Drained r.1 r.2 r.3) { done_placed = true }) in let next : Editor = passed r.0 (next_life r.1 r.2 r.3) in
    let l = c.look_zero-holds.ensures.view in let x = c.place_done-place.ensures.ended in let s = c.live_shared.ensures.view in let m = c.live_mode.ensures.view in
    let found : Edits empty 0 1 c.look_zero-holds.new.seat.base.me.0 = living.edits_move was empty 0 1 c.args.editor.now.base.me.0 c.look_zero-holds.new.seat.base.me.0 r.4
    (ap (λ (z : Mine). z.0.notes) l ∙ λ i. zero_notes 0 (c.if-holds-ne0.false i) (r.4.notes_are i)) (ap (λ (z : Mine). z.0.seats) l) (ap (λ (z : Mine). z.0.view.number) l) (ap (λ (z : Mine). z.0.claims) l) (ap (λ (z : Mine). z.0.known) l) in
    let ended : Edits over 0 0 c.place_done-place.new.seat.base.me.0 = living.ends empty over c.look_zero-holds.new.seat.base.me.0 c.place_done-place.new.seat.base.me.0 c.place_done-place.result x.0 found x.1 refl
    (ap (λ (z : Told). z.view.number) x.1.told) (ap (λ (z : Told). z.seats) x.1.told) in (
      r.0,
      r.1,
      r.2,
      r.3,
      living.edits_move over next 0 0 c.place_done-place.new.seat.base.me.0 c.live_mode.new.seat.base.me.0 ended
          (ap (λ (z : Mine). z.0.notes) m ∙ (ap (λ (z : Mine). with_life 0 (revived 0 z.0.notes) z.0.notes) s
          ∙ λ i. let k = with_life 0 (armed 0 (ended.notes_are i)) (ended.notes_are i) in with_life 0 (revived 0 k) k))
          (ap (λ (z : Mine). z.0.seats) m ∙ ap (λ (z : Mine). z.0.seats) s)
          (ap (λ (z : Mine). z.0.view.number) m ∙ ap (λ (z : Mine). z.0.view.number) s)
          (ap (λ (z : Mine). z.0.claims) m ∙ ap (λ (z : Mine). z.0.claims) s)
          (ap (λ (z : Mine). z.0.known) m ∙ ap (λ (z : Mine). z.0.known) s),
    )
